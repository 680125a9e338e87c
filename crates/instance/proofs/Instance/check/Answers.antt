-- The survey says whether the policy is accepted; the chain of tests is that of the definition.
use Rattle.std.specs.Bool.{then_some}
use Rattle.std.specs.List.{slice_range}
use Rattle.std.proofs.Common.{◌≡◌, ◌-◌, take, ◌<◌, ◌≤◌, ℕ, Bool, true, false, ◌&&◌, leb, refl, sym, ap, ap₂, ◌∙◌, arith}
use mathlib.Core.Bool.{and_assoc}
use borrow.Author.Tests.{le-leb, lt-leb}
use Rattle.soda.specs.Lists.{all}
use Rattle.policy.specs.Words.{decode}
use Rattle.policy.specs.Reading.{units_of}
use Rattle.configuration.specs.declared.Configuration.{Configuration}
use Rattle.instance.specs.declared.Instance.{Instance}
use Rattle.configuration.specs.Configurations.{held}
use Rattle.configuration.proofs.Chains.{and_then, and_else}
use Rattle.instance.specs.Instances.{policy_of, taken_of, action_ok, is_taken_ok, is_tidy, is_placed, is_lettered, instance_ok, check_in, as_check}
use Rattle.instance.proofs.Checks.{accepted, survey_none, survey_accepted, survey_units, survey_met}
use Rattle.instance.proofs.Instance.check.Goals as goal
use Rattle.instance.proofs.Instance.check.Goals.{then-is_placed, else-is_placed, then-is_tidy, else-is_tidy, then-is_taken_ok, else-is_taken_ok}

-- the test of the taken actions, with the survey's unit words
told : (c : Configuration) (i : Instance) (units : ℕ) (r : Bool) → r ≡ (leb i.taken 12 && all (action_ok c.users units) (taken_of i))
    → units ≡ units_of (decode (policy_of i)) → r ≡ is_taken_ok c i
told c i units r is e = is ∙ ap (λ (n : ℕ). leb i.taken 12 && all (action_ok c.users n) (taken_of i)) e

-- the words of a policy, as a part from 0 on
all_words : (i : Instance) → slice_range i.policy 0 i.words ≡ policy_of i
all_words i = let e : i.words - 0 ≡ i.words = omega arith in ap (λ (n : ℕ). take n i.policy) e

answered : (b : Bool) (met : ℕ) → as_check (then_some b met) ≡ check_in b met
answered true met = refl
answered false met = refl

pub returns-in_err-words : goal.returns-in_err-words
unfolding instance_ok
returns-in_err-words c =
    let long : 31 < c.args.self.words = omega (arith, c.in_err-words.ensures.lookup.0) in
    rw (c.from_residual.ensures, lt-leb c.args.self.words 31 long)

pub returns-in_err-survey : goal.returns-in_err-survey
unfolding instance_ok
returns-in_err-survey c =
    let o = c.args.configuration in
    let i = c.args.self in
    let within = c.in_ok-words.ensures.lookup.0 in
    let few : i.words ≤ 31 = omega (arith, within.1) in
    let refused = survey_none o.users o.roles c.in_ok-words.words.now c.args.user (held o c.args.user) c.in_err-survey.ensures in
    rw
    (c.from_residual-in_err-survey.ensures, le-leb i.words 31 few, ap (accepted o.users o.roles) (sym (within.2 ∙ all_words i)) ∙ refused)

pub returns : goal.returns
unfolding instance_ok
returns c =
    let o = c.args.configuration in
    let i = c.args.self in
    let u = c.args.user in
    let within = c.in_ok-words.ensures.lookup.0 in
    let few : i.words ≤ 31 = omega (arith, within.1) in
    let words : c.in_ok-words.words.now ≡ policy_of i = within.2 ∙ all_words i in
    let s = c.in_ok-survey.survey in
    let is = rw words at c.in_ok-survey.ensures in
    let taken = told o i s.units c.is_taken_ok.result c.is_taken_ok.ensures (survey_units o.users o.roles (policy_of i) u (held o u) s is) in
    let first : c.if-is_taken_ok.value ≡ (is_taken_ok o i && is_tidy i) = elim c.if-is_taken_ok.branch [
      | then-is_taken_ok w ↦ and_then taken w.if-is_taken_ok.true w.is_tidy.ensures w.value-is
      | else-is_taken_ok w ↦ and_else (is_tidy i) taken w.if-is_taken_ok.false w.value-is
    ] in
    let second : c.if-is_tidy.value ≡ ((is_taken_ok o i && is_tidy i) && is_placed o i) = elim c.if-is_tidy.branch [
      | then-is_tidy w ↦ and_then first w.if-is_tidy.true w.is_placed.ensures w.value-is
      | else-is_tidy w ↦ and_else (is_placed o i) first w.if-is_tidy.false w.value-is
    ] in
    let third : c.if-is_placed.formed ≡ (((is_taken_ok o i && is_tidy i) && is_placed o i) && is_lettered i) = elim c.if-is_placed.branch [
      | then-is_placed w ↦ and_then second w.if-is_placed.true w.is_lettered-formed.ensures w.formed-is
      | else-is_placed w ↦ and_else (is_lettered i) second w.if-is_placed.false w.formed-is
    ] in
    let formed = third ∙ and_assoc (is_taken_ok o i && is_tidy i) (is_placed o i) (is_lettered i) ∙ and_assoc (is_taken_ok o i) (is_tidy i) (is_placed o i && is_lettered i) in
    rw
    (c.then_some.ensures, le-leb i.words 31 few, survey_accepted o.users o.roles (policy_of i) u (held o u) s is)
    (answered c.if-is_placed.formed s.met ∙ ap₂ check_in formed (survey_met o.users o.roles (policy_of i) u (held o u) s is))
