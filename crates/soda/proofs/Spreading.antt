-- Rewriting by a rule, and spreading: equal forms by the rule that exchanges and regroups, and what is proved of all three.
use Rattle.soda.specs.Words.{encode}
use Rattle.soda.specs.Spreading.{SameFormIsTurns, SameWordsIsWordTurns}
pub use Rattle.soda.proofs.Rewriting.{steps_by_turn, rewrites_keep_form}
pub use Rattle.soda.proofs.WordRewriting.{word_steps_by_turn, turn_words_related, rewrite_leads_to_words, rewrite_words_related, wider_rule}
pub use Rattle.soda.proofs.Joins.{rewrites_keep_judgement}
use Rattle.soda.proofs.EqualForms.{same-form-is-steps, same-words-is-word-steps}

pub same-form-is-turns : SameFormIsTurns
same-form-is-turns φ ψ f =
    let same = same-form-is-steps φ ψ f in
    let rule = steps_by_turn φ ψ in
    (λ e. rule.0 (same.0 e), λ p. same.1 (rule.1 p))

pub same-words-is-word-turns : SameWordsIsWordTurns
same-words-is-word-turns φ ψ f g =
    let same = same-words-is-word-steps φ ψ f g in
    let rule = word_steps_by_turn (encode φ) (encode ψ) in
    (λ e. rule.0 (same.0 e), λ p. same.1 (rule.1 p))
