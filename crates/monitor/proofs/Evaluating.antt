-- What an evaluation says: where the workspace is not filled it is as it was, and where it is, the verdicts are read off it.
use Rattle.std.specs.Prelude.{◌≡◌, ℕ, ◌+◌, ◌-◌, ◌^◌, ◌≤◌, ◌<◌, ◌&&◌, List, length, get_or, leb, Result, Ok, IfOk, take}
use Rattle.std.proofs.Common.{ap, subst, ◌∙◌, le-ltb}
use Rattle.std.proofs.Math.Bool.{So}
use Rattle.std.proofs.Math.Option.{Option, some, none}
use borrow.Author.Tests.{leb-true}
use lib.Seq.{take-length}
use Rattle.soda.specs.Bits.{bit}
use Rattle.soda.specs.Lists.{all}
use Rattle.soda.specs.Terms.{Term, well_formed}
use Rattle.soda.specs.Tables.{satisfied, possible}
use Rattle.soda.specs.declared.Action.{Action}
use Rattle.soda.proofs.Bools.{never, and_split}
use Rattle.policy.specs.Answers.{answer_number}
use Rattle.policy.specs.Refusals.{code}
use Rattle.policy.specs.Reading.{length_ok}
use Rattle.policy.specs.Words.{decode, term_of}
use Rattle.policy.specs.declared.refusal.Refusal.{Refusal}
use Rattle.workspace.specs.Workspace.{is_fillable, is_filled, filled, fill_of}
use Rattle.workspace.proofs.Fillable.{too_many, too_short}
use Rattle.workspace.proofs.Verdicts.{whole_is_read}
use Rattle.monitor.specs.Evaluations.{evaluation_refusals, Evaluates}
use Rattle.monitor.specs.declared.evaluation.Evaluation.{Evaluation}
use Rattle.monitor.proofs.Fillable.{known}

-- ── where it is not filled ──
module _ (words : List ℕ) (l : List Action) (n : ℕ) (before : List ℕ) where
  pub kept_short : length before < 8192 → fill_of words l n before ≡ before
  unfolding fill_of
  kept_short h = rw (too_short words l n before h)

  pub kept_full : 12 < n → fill_of words l n before ≡ before
  unfolding fill_of
  kept_full h = rw (too_many words l n before h)

-- ── where it is ──
module _ (words : List ℕ) (l : List Action) (before : List ℕ) (h : So (is_filled words l (length l) before)) where
  abbrev policy : Term
  policy = term_of (decode words)

  rest : So (leb (length l) 12) × So (is_fillable (decode words) (take (length l) l) before)
  unfolding is_filled
  rest =
      let r = is_fillable (decode words) (take (length l) l) before in
      and_split (leb (length l) 12) r (and_split (length_ok (length words)) (leb (length l) 12 && r) h).1

  few : length l ≤ 12
  few = leb-true (length l) 12 rest.0

  long : 8192 ≤ length before
  long = go (decode words) rest.1
    where
      go : (t : Option Term) → So (is_fillable t (take (length l) l) before) → 8192 ≤ length before
      go none k = never k
      go (some φ) k =
          let r = (and_split (well_formed φ) (all known (take (length l) l) && leb 8192 (length before)) k).1 in
          leb-true 8192 (length before) (and_split (all known (take (length l) l)) (leb 8192 (length before)) r).1

  is_filled-for : fill_of words l (length l) before ≡ filled policy l before
  unfolding fill_of
  is_filled-for = rw (h, take-length l)

  module _ (r : Result Evaluation Refusal) (after : List ℕ) (k : Evaluates words l before r after) where
    -- no refusal
    pub evaluated : answer_number r ≡ 0
    evaluated = k.number ∙ none_applies
      where
        none_applies : code (evaluation_refusals l before) ≡ 0
        none_applies = rw (le-ltb (length before) 8192 long, le-ltb 12 (length l) few)

    pub workspace-is : after ≡ filled policy l before
    workspace-is = k.workspace ∙ is_filled-for

    module _ (e : Evaluation) (is : r ≡ Ok e) where
      pub satisfied-is : e.satisfied ≡ satisfied policy 0 l
      satisfied-is =
          subst (λ x. IfOk x (λ v. v.satisfied ≡ bit 0 (get_or after (2 ^ length l - 1) 0))) is k.satisfied
          ∙ ap (λ w. bit 0 (get_or w (2 ^ length l - 1) 0)) workspace-is ∙ (whole_is_read policy l before few).0

      pub possible-is : e.possible ≡ possible policy 0 l
      possible-is =
          subst (λ x. IfOk x (λ v. v.possible ≡ bit 0 (get_or after (4096 + (2 ^ length l - 1)) 0))) is k.possible
          ∙ ap (λ w. bit 0 (get_or w (4096 + (2 ^ length l - 1)) 0)) workspace-is ∙ (whole_is_read policy l before few).1
