-- Actions evaluated: the workspace is filled for them, and bit 0 of its words at the mask of all of them says whether they satisfy the policy
-- and whether they are possible (`WholeIsRead` of workspace).
use Rattle.std.specs.Prelude.{◌≡◌, Bool, List, [], ◌∷◌, ℕ, ◌+◌, ◌-◌, ◌^◌, ltb, length, get_or, Result, IfOk}
use Rattle.soda.specs.Bits.{bit}
use Rattle.soda.specs.declared.Action.{Action}
use Rattle.policy.specs.Codes.{FULL, WORKSPACE}
use Rattle.policy.specs.Refusals.{◌gives◌, code}
use Rattle.policy.specs.Answers.{answer_number}
use Rattle.policy.specs.declared.refusal.Refusal.{Refusal}
use Rattle.workspace.specs.Workspace.{fill_of}
use Rattle.monitor.specs.declared.evaluation.Evaluation.{Evaluation}

-- 12, 8
abbrev pub evaluation_refusals : List Action → List ℕ → List (Bool × ℕ)
evaluation_refusals l before = (ltb (length before) 8192 gives WORKSPACE) ∷ (ltb 12 (length l) gives FULL) ∷ []

-- what `evaluate` of src answers, and the workspace that it leaves, which a refusal does not touch
pub record Evaluates (words : List ℕ) (l : List Action) (before : List ℕ) (r : Result Evaluation Refusal) (after : List ℕ) : Type 0 where
  pub number : answer_number r ≡ code (evaluation_refusals l before)
  pub workspace : after ≡ fill_of words l (length l) before
  pub satisfied : IfOk r (λ e. e.satisfied ≡ bit 0 (get_or after (2 ^ length l - 1) 0))
  pub possible : IfOk r (λ e. e.possible ≡ bit 0 (get_or after (4096 + (2 ^ length l - 1)) 0))
