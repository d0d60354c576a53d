-- ATOM: numbers, strings and truth values.
use Rattle.std.specs.Prelude.{ℕ, zero, suc, ◌+◌, ◌-◌, ◌*◌, ◌/◌, ◌%◌, Bool, true, false, ◌&&◌, not, [], ◌∷◌, ◌++◌, length, eqb, leb, ltb}
use Prim.Native.Char.{code}
use Rattle.std.proofs.Math.Option.{Option, some}
use Rattle.model.specs.Notation.{if◌then◌otherwise◌, ◌>>=◌, ◌or_else◌, only_if, is_empty, all_of}
use Rattle.model.specs.Limits.{largest_int, text_bytes}
use Rattle.model.specs.Bytes.{Bytes, bytes, same, is_byte, in_range, cut_at, behind, one_of}
use Rattle.model.specs.Attributes.{AtomType}

-- the value of an int, a str or a bool
pub data Atom : Type 0 where
  int : ℕ → Atom
  str : Bytes → Atom
  bool : Bool → Atom

-- the type of an atom
abbrev pub type_of : Atom → AtomType
type_of (int n) = AtomType.int
type_of (str s) = AtomType.str
type_of (bool b) = AtomType.bool

-- the number that decimal digits write, read on from a
abbrev pub number_from : ℕ → Bytes → ℕ
number_from a [] = a
number_from a (x ∷ xs) = number_from (a * 10 + (x - code "0")) xs

-- "without leading zeros": no zero at the front, unless it stands alone
abbrev pub no_leading_zero : Bytes → Bool
no_leading_zero [] = true
no_leading_zero (x ∷ []) = true
no_leading_zero (x ∷ y ∷ s) = not (is_byte "0" x)

-- "int 0 to 4294967295 without leading zeros"
unfoldable pub read_int : Bytes → Option ℕ
read_int s =
    only_if (leb 1 (length s) && all_of (in_range "0" "9") s && no_leading_zero s && leb (number_from 0 s) largest_int) (number_from 0 s)

-- the decimal digits of a number below 10 to the power of the first argument
abbrev pub digits_within : ℕ → ℕ → Bytes
digits_within zero n = []
digits_within (suc f) n = if ltb n 10 then (code "0" + n) ∷ [] otherwise digits_within f (n / 10) ++ (code "0" + n % 10) ∷ []

-- "Integers below are decimal"
unfoldable pub decimal : ℕ → Bytes
decimal n = digits_within (suc n) n

-- "bytes of 32 to 126 without 34"
abbrev pub text_byte : ℕ → Bool
text_byte b = leb 32 b && leb b 126 && not (is_byte "\"" b)

-- "str in double quotes, 0 to 12 bytes of 32 to 126 without 34"
unfoldable pub is_text : Bytes → Bool
is_text s = leb (length s) text_bytes && all_of text_byte s

abbrev pub quoted : Bytes → Bytes
quoted s = bytes "\"" ++ s ++ bytes "\""

-- the text of a str between its quotes
unfoldable pub read_str : Bytes → Option Bytes
read_str s = do
  r ← behind (bytes "\"") s
  (t, rest) ← cut_at "\"" r
  only_if (is_empty rest && is_text t) t

-- "bool TRUE or FALSE"
abbrev pub bool_word : Bool → Bytes
bool_word true = bytes "TRUE"
bool_word false = bytes "FALSE"

-- the bool that a word is
unfoldable pub read_bool : Bytes → Option Bool
read_bool s = one_of bool_word (true ∷ false ∷ []) s

-- "ATOM: int …; str …; bool …"
unfoldable pub read_atom : Bytes → Option Atom
read_atom s = (read_int s >>= λ n. some (int n)) or_else (read_str s >>= λ t. some (str t)) or_else (read_bool s >>= λ b. some (bool b))

abbrev pub write_atom : Atom → Bytes
write_atom (int n) = decimal n
write_atom (str s) = quoted s
write_atom (bool b) = bool_word b

-- the atoms that ATOM can write
abbrev pub is_atom : Atom → Bool
is_atom (int n) = leb n largest_int
is_atom (str s) = is_text s
is_atom (bool b) = true

-- whether two atoms are the same
abbrev pub same_atom : Atom → Atom → Bool
same_atom (int m) (int n) = eqb m n
same_atom (int m) (str t) = false
same_atom (int m) (bool b) = false
same_atom (str s) (int n) = false
same_atom (str s) (str t) = same s t
same_atom (str s) (bool b) = false
same_atom (bool a) (int n) = false
same_atom (bool a) (str t) = false
same_atom (bool a) (bool b) = same (bool_word a) (bool_word b)
