-- By the tests that led to a return, and what the step and the evaluation say.
use Rattle.std.specs.Prelude.{◌≡◌, ℕ, ◌<◌, Bool, cond, List, length, ltb, Result}
use Rattle.std.proofs.Common.{sym, ap, ap₂, subst, ◌∙◌, lt-ltb, arith, rules}
use Rattle.std.proofs.lemmas.Result.{err_from_is_err_and}
use Rattle.soda.specs.Tables.{satisfied}
use Rattle.soda.specs.declared.Action.{Action}
use Rattle.soda.proofs.Lists.{length_mapped}
use Rattle.soda.proofs.Results.{failed, passed}
use Rattle.policy.specs.declared.refusal.Refusal.{Refusal}
use Rattle.configuration.specs.declared.Configuration.{Configuration}
use Rattle.configuration.proofs.Formed.{configuration_formed}
use Rattle.instance.specs.declared.Instance.{Instance}
use Rattle.instance.specs.Instances.{policy_of, taken_of, term, noted_for, with_action, with_status}
use Rattle.instance.specs.Letters.{open_letter}
use Rattle.instance.proofs.Formed.{instance-formed, taken_more}
use Rattle.instance.proofs.Stepping.{step_goes, step_refused}
use Rattle.monitor.specs.Evaluations.{Evaluates}
use Rattle.monitor.specs.declared.evaluation.Evaluation.{Evaluation}
use Rattle.monitor.specs.Events.{tried, taking}
use Rattle.monitor.specs.Private.{Meets}
use Rattle.monitor.proofs.Fillable.{fillable_more}
use Rattle.monitor.proofs.Evaluating.{workspace-is, satisfied-is, possible-is}
use Rattle.monitor.proofs.Order.{acts_refused, acts_on_full, acts-not-possible, acts}
use Rattle.monitor.proofs.Monitor.act.Goals as goal

pub returns-in_err-state : goal.returns-in_err-state
returns-in_err-state c =
    let s = c.args in
    let p = err_from_is_err_and c.from_residual.result c.from_residual.ensures.1 in
    let r = step_refused s.self.configuration s.self.instance s.user s.action _ (sym c.in_err-state.ensures) in
    rw (p.1, p.2) (acts_refused s.self.configuration s.self.instance s.workspace.now s.user s.action _ r.0 r.1)

pub returns-then-self-ge12 : goal.returns-then-self-ge12
returns-then-self-ge12 c =
    let s = c.args in
    let g = step_goes s.self.configuration s.self.instance s.user s.action c.in_ok-state.state (sym c.in_ok-state.ensures) in
    acts_on_full s.self.configuration s.self.instance s.workspace.now s.user s.action c.in_ok-state.state g.0 g.1 c.if-self-ge12.true

-- the instance with one more action by a user, who meets this, which leads to state s
module _ (c : Configuration) (i : Instance) (u s met : ℕ) (free : i.taken < 12) (meets : Meets c i u met) (a : Action) (new : a ≡ record { user = u; met = met })
    (t : Instance) (with : t ≡ cond (ltb i.taken 12) (with_action i a s) i) where
  is-noted : a ≡ noted_for c i u
  is-noted = new ∙ ap (λ (n : ℕ). record { user = u; met = n }) meets

  is-with : t ≡ with_action i (noted_for c i u) s
  is-with = with ∙ rw (lt-ltb i.taken 12 free) (ap (λ (x : Action). with_action i x s) is-noted)

  -- what is evaluated are the actions with it
  evaluates : i.taken < length i.actions → (before : List ℕ) (r : Result Evaluation Refusal) (after : List ℕ) → Evaluates (policy_of t) (taken_of t) before r after
      → Evaluates (policy_of i) (tried c i u) before r after
  evaluates within before r after k =
      let l : taken_of t ≡ tried c i u = ap taken_of is-with ∙ taken_more i (noted_for c i u) s within in
      subst (λ x. Evaluates (policy_of i) x before r after) l (subst (λ w. Evaluates w (taken_of t) before r after) (ap policy_of is-with) k)

  taking-is : (b : Bool) → b ≡ satisfied (term i) 0 (tried c i u) → (j : Instance) → j ≡ with_status t (open_letter b) → j ≡ taking c i u s
  taking-is b e j k = k ∙ ap₂ (λ (x : Instance) (y : Bool). with_status x (open_letter y)) is-with e

pub shared_ref_as_front-words : goal.shared_ref_as_front-words
shared_ref_as_front-words c =
    let s = c.args in
    let o = s.self.configuration in
    let i = s.self.instance in
    rw (is-with o i s.user c.in_ok-state.state s.met c.if-self-ge12.false c.requires.2 c.new.result c.new.ensures c.with_action-tried.result c.with_action-tried.ensures)
    (instance-formed o i c.requires.0.instance_is_ok).words_most

pub returns-then-not-evaluation : goal.returns-then-not-evaluation
returns-then-not-evaluation c =
    let s = c.args in
    let o = s.self.configuration in
    let i = s.self.instance in
    let h = c.requires.0 in
    let n : length i.actions ≡ 12 = search (rules, length_mapped) in
    let within : i.taken < length i.actions = omega (arith, c.if-self-ge12.false, n) in
    let g = step_goes o i s.user s.action c.in_ok-state.state (sym c.in_ok-state.ensures) in
    let k = evaluates o i s.user c.in_ok-state.state s.met c.if-self-ge12.false c.requires.2 c.new.result c.new.ensures c.with_action-tried.result c.with_action-tried.ensures
    within s.workspace.now c.evaluate.result c.evaluate.new.workspace c.evaluate.ensures in
    let fills = fillable_more o i s.workspace.now (configuration_formed o h.configuration_is_ok) (instance-formed o i h.instance_is_ok) h.long (noted_for o i s.user)
    c.if-self-ge12.false within c.requires.1 in
    acts-not-possible o i s.workspace.now s.user s.action c.in_ok-state.state g.0 g.1 c.if-self-ge12.false c.evaluate.new.workspace
    (workspace-is (policy_of i) (tried o i s.user) s.workspace.now fills c.evaluate.result c.evaluate.new.workspace k)
    (failed (possible-is (policy_of i) (tried o i s.user) s.workspace.now fills c.evaluate.result c.evaluate.new.workspace k c.in_ok-evaluation.evaluation c.in_ok-evaluation.was) c.if-not-evaluation.true)

pub returns : goal.returns
returns c =
    let s = c.args in
    let o = s.self.configuration in
    let i = s.self.instance in
    let h = c.requires.0 in
    let n : length i.actions ≡ 12 = search (rules, length_mapped) in
    let within : i.taken < length i.actions = omega (arith, c.if-self-ge12.false, n) in
    let g = step_goes o i s.user s.action c.in_ok-state.state (sym c.in_ok-state.ensures) in
    let k = evaluates o i s.user c.in_ok-state.state s.met c.if-self-ge12.false c.requires.2 c.new.result c.new.ensures c.with_action-tried.result c.with_action-tried.ensures
    within s.workspace.now c.evaluate.result c.evaluate.new.workspace c.evaluate.ensures in
    let fills = fillable_more o i s.workspace.now (configuration_formed o h.configuration_is_ok) (instance-formed o i h.instance_is_ok) h.long (noted_for o i s.user)
    c.if-self-ge12.false within c.requires.1 in
    let e = c.in_ok-evaluation.evaluation in
    let w = c.evaluate.new.workspace in
    let satisfies = satisfied-is (policy_of i) (tried o i s.user) s.workspace.now fills c.evaluate.result w k e c.in_ok-evaluation.was in
    let is_possible = possible-is (policy_of i) (tried o i s.user) s.workspace.now fills c.evaluate.result w k e c.in_ok-evaluation.was in
    acts o i s.workspace.now s.user s.action c.in_ok-state.state g.0 g.1 c.if-self-ge12.false w
    (workspace-is (policy_of i) (tried o i s.user) s.workspace.now fills c.evaluate.result w k) c.with_status.result
    (taking-is o i s.user c.in_ok-state.state s.met c.if-self-ge12.false c.requires.2 c.new.result c.new.ensures c.with_action-tried.result c.with_action-tried.ensures
    e.satisfied satisfies c.with_status.result c.with_status.ensures)
    (passed is_possible c.if-not-evaluation.false)
