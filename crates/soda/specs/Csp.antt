-- Processes of CSP and their traces (document 004, section 2), over any events Σ and any process identifiers N.
use Rattle.std.specs.Prelude.{Bool, not, List, [], ◌∷◌}
use Rattle.std.proofs.Math.Bool.{So}

-- `prefix E P` is ?e : E → P(e); `some I P` the external choice of P(i) over all i in I; `parallel E P Q` is P and Q in
-- parallel, synchronised on E; `call n` behaves like the process that the identifier n is assigned.
pub data Process (Σ N : Type 0) : Type 1 where
  stop : Process Σ N
  prefix : (Σ → Bool) → (Σ → Process Σ N) → Process Σ N
  choice : Process Σ N → Process Σ N → Process Σ N
  some : (I : Type 0) → (I → Process Σ N) → Process Σ N
  parallel : (Σ → Bool) → Process Σ N → Process Σ N → Process Σ N
  call : N → Process Σ N

-- t is t₁ and t₂ merged: an event of E is in both, any other event in one of them
pub data Merge {Σ : Type 0} (E : Σ → Bool) : List Σ → List Σ → List Σ → Type 0 where
  m_nil : Merge E [] [] []
  m_both : {e : Σ} {t t₁ t₂ : List Σ} → So (E e) → Merge E t t₁ t₂ → Merge E (e ∷ t) (e ∷ t₁) (e ∷ t₂)
  m_left : {e : Σ} {t t₁ t₂ : List Σ} → So (not (E e)) → Merge E t t₁ t₂ → Merge E (e ∷ t) (e ∷ t₁) t₂
  m_right : {e : Σ} {t t₁ t₂ : List Σ} → So (not (E e)) → Merge E t t₁ t₂ → Merge E (e ∷ t) t₁ (e ∷ t₂)

-- t ∈ T(P), where the identifier n is assigned the process `body n`
pub data Accepts {Σ N : Type 0} (body : N → Process Σ N) : Process Σ N → List Σ → Type 1 where
  at_stop : Accepts body stop []
  at_prefix : {E : Σ → Bool} {P : Σ → Process Σ N} → Accepts body (prefix E P) []
  by_prefix : {E : Σ → Bool} {P : Σ → Process Σ N} {e : Σ} {t : List Σ} → So (E e) → Accepts body (P e) t → Accepts body (prefix E P) (e ∷ t)
  by_left : {P Q : Process Σ N} {t : List Σ} → Accepts body P t → Accepts body (choice P Q) t
  by_right : {P Q : Process Σ N} {t : List Σ} → Accepts body Q t → Accepts body (choice P Q) t
  by_some : {I : Type 0} {P : I → Process Σ N} {t : List Σ} (i : I) → Accepts body (P i) t → Accepts body (some I P) t
  by_parallel : {E : Σ → Bool} {P Q : Process Σ N} {t t₁ t₂ : List Σ} → Accepts body P t₁ → Accepts body Q t₂ → Merge E t t₁ t₂ → Accepts body (parallel E P Q) t
  by_call : {n : N} {t : List Σ} → Accepts body (body n) t → Accepts body (call n) t
