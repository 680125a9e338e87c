-- What is proved of rewriting by a rule, and of spreading (document 02, E9). Statements only.
use Rattle.std.specs.Prelude.{◌≡◌, ◌↔◌, Bool, List, ℕ}
use Rattle.std.proofs.Math.Bool.{So}
use Rattle.soda.specs.Terms.{Term, unit, well_formed}
use Rattle.soda.specs.Words.{fits, declared, encode}
use Rattle.soda.specs.Tables.{judge}
use Rattle.soda.specs.Steps.{Turn, Steps, WordSteps}
use Rattle.soda.specs.Rewriting.{Rule, Rewrite, RuleSteps, WordRuleSteps}
use Rattle.soda.specs.Normal.{normal_form}

-- Exchanging and regrouping are one of the rules, on terms ..
abbrev pub StepsByTurn : Type 0
StepsByTurn = (φ ψ : Term) → Steps φ ψ ↔ RuleSteps Turn φ ψ

-- .. and on words.
abbrev pub WordStepsByTurn : Type 0
WordStepsByTurn = (v w : List ℕ) → WordSteps v w ↔ WordRuleSteps Turn v w

-- By that rule two terms have the same normal form exactly when steps lead from one to the other, and their words likewise. Spreading does
-- not keep the normal form.
abbrev pub SameFormIsTurns : Type 0
SameFormIsTurns = (φ ψ : Term) → So (fits φ) → (normal_form φ ≡ normal_form ψ) ↔ RuleSteps Turn φ ψ

abbrev pub SameWordsIsWordTurns : Type 0
SameWordsIsWordTurns =
    (φ ψ : Term) → So (fits φ) → So (fits ψ)
    → (encode (normal_form φ) ≡ encode (normal_form ψ)) ↔ WordRuleSteps Turn (encode φ) (encode ψ)

-- From the words of a term a rule leads to the words of a term that it leads to ..
abbrev pub LeadsToWords : Rule → Type 0
LeadsToWords R = (φ : Term) (w : List ℕ) → So (fits φ) → WordRuleSteps R (encode φ) w → (ψ : Term) × RuleSteps R φ ψ × (w ≡ encode ψ)

-- .. and to those of a given term exactly when it leads to that one.
abbrev pub WordsRelatedBy : Rule → Type 0
WordsRelatedBy R = (φ ψ : Term) → So (fits φ) → So (fits ψ) → WordRuleSteps R (encode φ) (encode ψ) ↔ RuleSteps R φ ψ

-- What exchanging, regrouping and spreading keep: unit, well formed, declared and in the layout.
pub record Kept (φ ψ : Term) : Type 0 where
  pub same_unit : unit φ ≡ unit ψ
  pub same_formed : well_formed φ ≡ well_formed ψ
  pub same_declared : (users roles : ℕ) → declared users roles φ ≡ declared users roles ψ
  pub same_fits : fits φ ≡ fits ψ

abbrev pub RewriteKeeps : Type 0
RewriteKeeps = (φ ψ : Term) → RuleSteps Rewrite φ ψ → Kept φ ψ

-- Terms that the three lead to are satisfied by the same lists of actions, and the same lists are possible.
abbrev pub RewriteKeepsJudgement : Type 0
RewriteKeepsJudgement = (φ ψ : Term) → RuleSteps Rewrite φ ψ → (e : Bool) → judge e φ ≡ judge e ψ

-- Steps by one rule are steps by a wider one; so exchanges and regroupings alone are among the steps of all three, and spreadings alone.
abbrev pub WiderRule : Type 1
WiderRule = (R S : Rule) → ((φ ψ : Term) → R φ ψ → S φ ψ) → (v w : List ℕ) → WordRuleSteps R v w → WordRuleSteps S v w
