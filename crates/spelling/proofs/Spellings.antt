-- Each word of the format is spelled by its table. Assumes nothing.
use mathlib.Core.Path.{◌≡◌, refl}
use Rattle.model.specs.Attributes.{Source, AtomType, source_word, type_word}
use Rattle.model.specs.Atoms.{bool_word}
use Rattle.model.specs.Truth.{Truth, truth_word}
use Rattle.model.specs.Tokens.{Operator, operator_word, Mark, mark_word}
use mathlib.Core.Bool.{Bool, true, false}
use Rattle.codes.specs.Codes.{source_code, type_code, operator_code, mark_code, truth_code}
use Rattle.text.specs.Values.{truth_bit}
use Rattle.output.specs.Laid.{word_text}
use Rattle.spelling.specs.LineTexts.{listed_text, source_words, type_words, bool_words, token_words}

pub source-text : (s : Source) → listed_text source_words (source_code s) ≡ source_word s
unfolding listed_text word_text
source-text Source.user = refl
source-text Source.object = refl
source-text Source.admin = refl
source-text Source.env = refl
source-text Source.connect = refl

pub type-text : (t : AtomType) → listed_text type_words (type_code t) ≡ type_word t
unfolding listed_text word_text
type-text AtomType.int = refl
type-text AtomType.str = refl
type-text AtomType.bool = refl

pub bool-text : (b : Bool) → listed_text bool_words (truth_bit b) ≡ bool_word b
unfolding listed_text word_text
bool-text true = refl
bool-text false = refl

pub operator-text : (o : Operator) → listed_text token_words (operator_code o) ≡ operator_word o
unfolding listed_text word_text
operator-text Operator.equal = refl
operator-text Operator.unequal = refl
operator-text Operator.less = refl
operator-text Operator.at_most = refl
operator-text Operator.greater = refl
operator-text Operator.at_least = refl
operator-text Operator.IN = refl
operator-text Operator.SUBSET = refl

pub mark-text : (m : Mark) → listed_text token_words (mark_code m) ≡ mark_word m
unfolding listed_text word_text
mark-text Mark.AND = refl
mark-text Mark.OR = refl
mark-text Mark.NOT = refl
mark-text Mark.lparen = refl
mark-text Mark.rparen = refl
mark-text Mark.lbrace = refl
mark-text Mark.rbrace = refl
mark-text Mark.comma = refl

pub truth-text : (t : Truth) → listed_text token_words (truth_code t) ≡ truth_word t
unfolding listed_text word_text
truth-text Truth.FALSE = refl
truth-text Truth.UNDEF = refl
truth-text Truth.TRUE = refl
