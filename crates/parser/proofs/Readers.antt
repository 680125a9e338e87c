-- Readers, as code has them: whether a text begins with some bytes, how many bytes are taken, and what is left behind them.
use mathlib.Core.Path.{◌≡◌, refl, sym, ap, ◌∙◌}
use mathlib.Core.Bool.{Bool, true, false, false≢true}
use mathlib.Core.List.{List, ◌++◌}
use mathlib.Core.Option.{Option, some, none}
use Prim.Native.Nat.{ℕ, ◌+◌, ◌≤◌, ◌<◌}
use native.Mathlib.Omega.{arith}
use lib.Dec.{eqb}
use lib.ListN.{length, take, drop}
use lib.Seq.{drop-drop}
use Rattle.std.specs.Prelude.{Some, None}
use Rattle.std.specs.Cmp.Lexicographic.{pointwise}
use Rattle.std.proofs.lemmas.Slice.Eq.{starts_is}
use Rattle.std.proofs.lemmas.Bool.Decides.{Decides-eqb}
use Rattle.soda.specs.Lists.{from}
use Rattle.soda.proofs.Lists.{from-drop, from-length}
use Rattle.text.specs.Grammar.{Read, behind}
use Rattle.text.proofs.Beginnings.{behind_append, behind-some}
use Rattle.parser.specs.Private.{Reads}

-- ── a text that begins with some bytes ──
-- what stands behind them is left
pub found-behind : (bs t rest : List ℕ) → t ≡ bs ++ rest → behind bs t ≡ some rest
found-behind bs t rest e = ap (behind bs) e ∙ behind_append bs rest

pub none-behind : (bs t : List ℕ) → ((rest : List ℕ) → t ≡ bs ++ rest → ⊥) → behind bs t ≡ none
none-behind bs t n = go (behind bs t) refl
  where
    go : (o : Option (List ℕ)) → behind bs t ≡ o → o ≡ none
    go none p = refl
    go (some rest) p = absurd (n rest (behind-some bs t rest p))

-- by what a slice's `starts_with` answers
module _ (bs t : List ℕ) {r : Bool} (test : r ≡ pointwise eqb bs (take (length bs) t)) where
  pub begun : r ≡ true → behind bs t ≡ some (drop (length bs) t)
  begun e = found-behind bs t (drop (length bs) t) ((starts_is Decides-eqb t bs r test).0 e)

  pub not-begun : r ≡ false → behind bs t ≡ none
  not-begun e = none-behind bs t (λ rest p. false≢true (sym e ∙ (starts_is Decides-eqb t bs r test).1 rest p))

-- ── what was read ──
-- the thing itself, which stands between two places of a text, with what stands behind it
pub record Got {A : Type 0} (P : A → Type 0) (o : Read A) (t : List ℕ) (start end : ℕ) : Type 0 where
  pub thing : A
  pub same : o ≡ some (thing, drop end t)
  pub holds : P thing
  pub some_bytes : start < end
  pub within : end ≤ length t

module _ {A R : Type 0} (bytes : R → ℕ) (P : R → A → Type 0) where
  pub missing : (o : Read A) (t : List ℕ) → Reads bytes P o t None → o ≡ none
  missing none t l = refl
  missing (some a) t l = absurd l

  -- at a text's beginning, and at place m
  pub there : (o : Read A) (t : List ℕ) (x : R) → Reads bytes P o t (Some x) → Got (P x) o t 0 (bytes x)
  there none t x l = absurd l
  there (some a) t x l = record {
    thing = a.0;
    same = ap (λ (rest : List ℕ). some (a.0, rest)) (sym l.0.left);
    holds = l.1;
    some_bytes = omega (arith, l.0.some_bytes);
    within = l.0.within;
  }

  pub got : (o : Read A) (t : List ℕ) (m : ℕ) (x : R) → m ≤ length t → Reads bytes P o (from m t) (Some x) → Got (P x) o t m (m + bytes x)
  got o t m x h l =
      let g = there o (from m t) x l in
      record {
        thing = g.thing;
        same = g.same ∙ ap (λ (rest : List ℕ). some (g.thing, rest)) (ap (drop (bytes x)) (from-drop m t) ∙ drop-drop (bytes x) m t);
        holds = g.holds;
        some_bytes = omega (arith, g.some_bytes);
        within = omega (arith, g.within, from-length m t);
      }
