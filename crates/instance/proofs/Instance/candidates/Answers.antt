-- Nobody where the action leads nowhere; else the users who are permitted.
use Rattle.std.specs.Prelude.{Option, Some, None}
use Rattle.std.proofs.Common.{◌≡◌, ℕ, Bool, not, ◌&&◌, map, ltb, sym, ap, ◌∙◌}
use Rattle.soda.specs.Lists.{range}
use Rattle.soda.specs.Workflows.{is_somewhere}
use Rattle.configuration.specs.declared.Configuration.{Configuration}
use Rattle.instance.specs.declared.Instance.{Instance}
use Rattle.configuration.specs.declared.Candidates.{Candidates}
use Rattle.instance.specs.Instances.{has_workflow}
use Rattle.instance.specs.Steps.{is_authorized, leads_to}
use Rattle.configuration.specs.Permitted.{gathered, no_candidates, permitted_users}
use Rattle.instance.specs.Candidates.{candidates_of}
use Rattle.instance.proofs.Instance.candidates.Goals as goal

-- by where the action leads
module _ (c : Configuration) (i : Instance) (a : ℕ) where
  by_successor : Option ℕ → Candidates
  by_successor s = gathered (map (λ u. is_somewhere s && (ltb u c.users && is_authorized c i u a)) (range 0 16))

  candidates_by : (s : Option ℕ) → leads_to i a ≡ s → candidates_of c i a ≡ by_successor s
  unfolding candidates_of by_successor
  candidates_by s e = ap by_successor e

  somewhere : (s : ℕ) → leads_to i a ≡ Some s → permitted_users c a (not (has_workflow i)) ≡ candidates_of c i a
  unfolding by_successor permitted_users is_authorized
  somewhere s e = sym (candidates_by (Some s) e)

  nowhere : leads_to i a ≡ None → no_candidates ≡ candidates_of c i a
  unfolding by_successor
  nowhere e = sym (candidates_by None e)

pub returns-in-Some : goal.returns-in-Some
returns-in-Some c =
    let a = c.args in
    c.permitted.ensures
    ∙ ap (λ (b : Bool). permitted_users a.configuration a.action (not b)) c.is_given.ensures
    ∙ somewhere a.configuration a.self a.action c.in-Some.field-0 (sym c.in-Some.ensures)

pub returns-in-None : goal.returns-in-None
returns-in-None c = let a = c.args in nowhere a.configuration a.self a.action (sym c.in-None.ensures)
