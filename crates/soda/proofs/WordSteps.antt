-- Steps on words are steps on terms: exchanging and regrouping are one of the rules.
use Rattle.soda.specs.Words.{encode}
use Rattle.soda.specs.EqualForms.{WordsRelated}
use Rattle.soda.proofs.Rewriting.{steps_by_turn}
use Rattle.soda.proofs.WordRewriting.{turn_words_related, word_steps_by_turn}

-- related words of two terms are related terms
pub words_related : WordsRelated
words_related φ ψ f g =
    let terms = steps_by_turn φ ψ in
    let words = word_steps_by_turn (encode φ) (encode ψ) in
    let related = turn_words_related φ ψ f g in
    (λ p. terms.1 (related.0 (words.0 p)), λ p. words.1 (related.1 (terms.0 p)))
