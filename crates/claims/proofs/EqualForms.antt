-- Demand 3: accepted words are a term's, and the call writes that term's normal form. Exchanges and regroupings are among the steps with
-- spreading, which are answered alike.
use mathlib.Core.Path.{◌≡◌, refl, sym, ◌∙◌, ap, subst₂}
use mathlib.Core.Logic.{◌↔◌}
use mathlib.Core.List.{List, [], ◌∷◌}
use Prim.Native.Nat.{ℕ, ◌≤◌}
use lib.Dec.{ltb}
use lib.ListN.{length, drop}
use lib.Seq.{take_at}
use borrow.Author.Tests.{le-ltb}
use Rattle.soda.specs.Words.{encode}
use Rattle.soda.specs.Steps.{Turn, WordSteps}
use Rattle.soda.specs.Rewriting.{Rewrite, turned}
use Rattle.soda.specs.Normal.{normal_form}
use Rattle.soda.proofs.Words.{encode-length}
use Rattle.soda.proofs.WordRewriting.{wider_rule, word_steps_by_turn}
use Rattle.soda.proofs.EqualForms.{same-words-is-word-steps, normal_keeps}
use Rattle.policy.specs.Codes.{ACCEPTED, OUTPUT}
use Rattle.policy.specs.Refusals.{◌gives◌}
use Rattle.policy.specs.Reading.{refusals}
use Rattle.policy.proofs.Refusals.{clear, code-behind}
use Rattle.normal.specs.NormalForms.{normal_words, normal_refusals, normal_code, normal_out}
use Rattle.claims.specs.EqualForms.{IsAccepted, normal, EqualForms}
use Rattle.claims.proofs.Spreading.{Means, means, spreading}

-- what the call writes
written : (users roles : ℕ) (v out : List ℕ) → IsAccepted users roles v → (m : Means users roles v) → length v ≤ length out → normal users roles v out ≡ encode (normal_form m.φ)
unfolding normal_out normal_refusals normal_words
written users roles v out e m l =
    rw (accepted, m.decoded) (take_at (encode (normal_form m.φ)) (drop (length v) out) (length v) size_same)
  where
    size_same : length (encode (normal_form m.φ)) ≡ length v
    size_same = encode-length (normal_form m.φ) ∙ (normal_keeps m.φ).same_size ∙ sym (encode-length m.φ) ∙ ap (λ (x : List ℕ). length x) (sym m.is.written)

    accepted : normal_code users roles v (length out) ≡ ACCEPTED
    accepted = code-behind (refusals users roles v) ((ltb (length out) (length v) gives OUTPUT) ∷ []) (clear (refusals users roles v) refl e) ∙ rw (le-ltb (length out) (length v) l)

module _ (users roles : ℕ) (v w : List ℕ) (m : Means users roles v) (n : Means users roles w) where
  forms : (encode (normal_form m.φ) ≡ encode (normal_form n.φ)) ↔ WordSteps v w
  forms = subst₂ (λ x y. (encode (normal_form m.φ) ≡ encode (normal_form n.φ)) ↔ WordSteps x y) (sym m.is.written) (sym n.is.written)
      (same-words-is-word-steps m.φ n.φ m.layout n.layout)

pub equal_forms : EqualForms
equal_forms users roles v w e f out out' l l' =
    let m = means users roles v e in
    let n = means users roles w f in
    let same : (normal users roles v out ≡ normal users roles w out') ↔ WordSteps v w =
    subst₂ (λ x y. (x ≡ y) ↔ WordSteps v w) (sym (written users roles v out e m l)) (sym (written users roles w out' f n l')) (forms users roles v w m n) in
    record { form = same; answers = λ s rows permissions workflow p q. (spreading users roles v w e f (wider_rule Turn Rewrite (λ φ ψ. turned) v w ((word_steps_by_turn v w).0 (same.0 s))) rows permissions workflow).alike }
