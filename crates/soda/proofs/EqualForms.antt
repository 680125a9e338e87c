-- What the normal form keeps, and equal forms on words.
use mathlib.Core.Path.{sym, ◌∙◌, ap}
use Rattle.soda.specs.Words.{encode}
use Rattle.soda.specs.Normal.{normal_form}
use Rattle.soda.specs.EqualForms.{SameWordsIsWordSteps, NormalKeeps, NormalIsNormal}
pub use Rattle.soda.proofs.Words.{words-are-one-term, declared-fits}
use Rattle.soda.proofs.Words.{encode_inj}
use Rattle.soda.proofs.Steps.{steps-formed, steps-declared, steps-fits, steps-size, steps-count}
pub use Rattle.soda.proofs.Normal.{same-form-is-steps, normal-is-chain, operands_ascend}
use Rattle.soda.proofs.Normal.{steps_nf, nf_steps}
use Rattle.soda.proofs.WordSteps.{words_related}

pub same-words-is-word-steps : SameWordsIsWordSteps
same-words-is-word-steps φ ψ f g = (
  λ e. (words_related φ ψ f g).1 ((same-form-is-steps φ ψ f).0
      (encode_inj (normal_form φ) (normal_form ψ) (sym (steps-fits (steps_nf φ)) ∙ f) (sym (steps-fits (steps_nf ψ)) ∙ g) e)),
  λ p. ap encode (nf_steps f ((words_related φ ψ f g).0 p)),
)

pub normal_keeps : NormalKeeps
normal_keeps φ =
    let p = steps_nf φ in
    record {
      same_unit = λ i. (sym (steps-formed p) i).0;
      same_formed = λ i. (sym (steps-formed p) i).1;
      same_declared = λ users roles. sym (steps-declared users roles p);
      same_fits = sym (steps-fits p);
      same_size = sym (steps-size p);
      same_words = λ w. sym (steps-count w p);
    }

pub normal-is-normal : NormalIsNormal
normal-is-normal φ f = sym (nf_steps f (steps_nf φ))
