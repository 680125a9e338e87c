-- Where the parts lie of a case that is not malformed, and that the arrays for them are long enough.
use Rattle.std.proofs.Common.{◌≡◌, ◌≤◌, ◌+◌, ◌-◌, ◌*◌, ◌/◌, List, ℕ, Bool, true, false, cond, Option, Some, None, length, refl, sym, ap, ◌∙◌, arith}
use Rattle.casefile.specs.declared.pairs.Part.{Part}
use Rattle.casefile.specs.Cases.{has_five}
use Rattle.casefile.specs.declared.cases.Case.{Case}
use Rattle.casefile.specs.Private.{part_at, part_end, Holds}
use Rattle.casefile.proofs.Laying.{laid, laid_behind}

pub record Placed (b : List ℕ) (c : Case) : Type 0 where
  pub policy : c.policy.offset + c.policy.length / 4 * 4 ≤ length b
  pub policy_fits : c.policy.length / 4 ≤ 1024
  pub grants_some : 2 ≤ c.grants.length
  pub grants : part_end c.grants ≤ length b
  pub rows : c.grants.offset + 2 + (c.grants.length - 2) / 2 * 2 ≤ length b
  pub rows_fit : (c.grants.length - 2) / 2 ≤ 2048

pub placed : (b : List ℕ) (c : Case) → Holds b c → Placed b c
placed b c h =
    let l = laid b h.case in
    let from = ap (λ (x : Case). x.policy.offset) h.parts in
    let long = ap (λ (x : Case). x.policy.length) h.parts in
    let begin = ap (λ (x : Case). x.grants.offset) h.parts in
    let count = ap (λ (x : Case). x.grants.length) h.parts in
    record {
      policy = omega arith;
      policy_fits = omega arith;
      grants_some = omega arith;
      grants = omega arith;
      rows = omega arith;
      rows_fit = omega arith;
    }

-- the parts behind the events, of five pairs
pub behind_placed : (b : List ℕ) (c : Case) → Holds b c → (p w : Part) → c.behind ≡ Some (p, w) → (part_end p ≤ length b) × (part_end w ≤ length b)
behind_placed b c h p w is = go (has_five b) refl (sym (ap (λ (x : Case). x.behind) h.parts) ∙ is)
  where
    go : (five : Bool) → has_five b ≡ five → cond {A = Option (Part × Part)} five (Some (part_at b 3, part_at b 4)) None ≡ Some (p, w) → (part_end p ≤ length b) × (part_end w ≤ length b)
    go true f e =
        let l = (laid_behind b h.case f).1 in
        let pair : ◌≡◌ {A = Part × Part} (part_at b 3, part_at b 4) (p, w) = cc in
        let one = ap (λ (x : Part × Part). part_end x.0) pair in
        let two = ap (λ (x : Part × Part). part_end x.1) pair in
        let begin = ap (λ (x : Part × Part). x.1.offset) pair in
        (omega arith, omega arith)
    go false f e = cc
