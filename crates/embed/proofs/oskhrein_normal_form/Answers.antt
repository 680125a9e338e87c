-- The number and the place of the normal form's answer.
use Rattle.std.proofs.Common.{length, ap, ◌∙◌}
use Rattle.policy.specs.Codes.{Code}
use Rattle.policy.specs.Faults.{code_number}
use Rattle.policy.proofs.Places.{code_has_number}
use Rattle.normal.specs.NormalForms.{normal_code}
use Rattle.embed.specs.Lent.{place_left}
use Rattle.embed.proofs.oskhrein_normal_form.Goals as goal

pub returns : goal.returns
returns c =
    let a = c.args in
    let l = c.lend.ensures in
    let e = c.normal_form-answer.ensures in (
      l.number ∙ ap code_number e.value ∙ code_has_number a.users a.roles a.words.now (normal_code a.users a.roles a.words.now (length a.out.now)),
      l.place_after ∙ ap (λ (x : Code). place_left x a.place.now) e.value,
      e.out_after,
    )
