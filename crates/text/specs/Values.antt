-- An atom as numbers: its type's, and three words for its value.
use Rattle.std.specs.Prelude.{ℕ, Bool, true, false, ◌&&◌, eqb}
use Rattle.model.specs.Atoms.{Atom, int, str, bool, type_of}
use Rattle.codes.specs.Codes.{type_code}
use Rattle.text.specs.declared.Words.{Words}
use Rattle.text.specs.declared.Value.{Value}
use Rattle.text.specs.Packing.{three_words}

abbrev pub words : ℕ → ℕ → ℕ → Words
words first second third = record { first = first; second = second; third = third }

abbrev pub value : ℕ → Words → Value
value ty ws = record { ty = ty; words = ws }

abbrev pub truth_bit : Bool → ℕ
truth_bit false = 0
truth_bit true = 1

abbrev pub atom_words : Atom → Words
atom_words (int n) = words n 0 0
atom_words (str s) = three_words s
atom_words (bool b) = words (truth_bit b) 0 0

abbrev pub atom_value : Atom → Value
atom_value a = value (type_code (type_of a)) (atom_words a)

abbrev pub same_words : Words → Words → Bool
same_words a b = eqb a.first b.first && eqb a.second b.second && eqb a.third b.third
