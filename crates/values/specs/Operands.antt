-- Operands: where the values are that stand beside an operator, and which they are.
use Rattle.std.specs.Prelude.{ℕ, zero, suc, ◌+◌, ◌-◌, ◌*◌, ◌/◌, ◌≤◌, ◌<◌, ◌≡◌, Bool, true, false, ◌&&◌, Option, Some, None, IfSome, List, [], ◌∷◌, eqb, leb, ltb, length, get_or, take, drop}
use Rattle.model.specs.Notation.{map, filter, all_of, if◌then◌otherwise◌}
use Rattle.model.specs.Limits.{attribute_limit, pair_limit, entry_bytes}
use Rattle.model.specs.Bytes.{Bytes}
use Rattle.model.specs.Block.{byte_at, value_at}
use Rattle.model.specs.Atoms.{Atom, type_of, is_atom}
use Rattle.codes.specs.Codes.{type_code}
use Rattle.codes.specs.Enums.{number_or}
use Rattle.bits.specs.Bits.{holds}
use Rattle.text.specs.declared.Words.{Words}
use Rattle.text.specs.Packing.{three_words}
use Rattle.text.specs.Values.{words, truth_bit, atom_words}
use Rattle.values.specs.declared.Operand.{Operand}
use Rattle.values.specs.declared.Found.{Found}
use Rattle.values.specs.declared.lent.Lent as code

-- what is lent to everything that reads values: rule code, the rows of pairs, the session's words and the entries of the block
pub record Lent : Type 0 where
  pub code : Bytes
  pub pairs : List ℕ
  pub session : List ℕ
  pub entries : Bytes

abbrev pub lent : Bytes → List ℕ → List ℕ → Bytes → Lent
lent code pairs session entries = record { code = code; pairs = pairs; session = session; entries = entries }

-- the same as the code passes it on
abbrev pub lent_by : code.Lent → Lent
lent_by l = lent l.code.now l.pairs.now l.session.now l.entries.now

-- n numbers from k up
abbrev pub up_from : ℕ → ℕ → List ℕ
up_from k zero = []
up_from k (suc n) = k ∷ up_from (suc k) n

-- the values of the numbers from i up to top that are there
unfoldable pub chosen : (ℕ → Bool) → (ℕ → Words) → ℕ → ℕ → List Words
chosen here value top i = map value (filter here (up_from i (top - i)))

-- r is the first number from i up to top that is there
pub record First (here : ℕ → Bool) (top i : ℕ) (r : Option ℕ) : Type 0 where
  pub lower : (j : ℕ) → i ≤ j → j < number_or top r → here j ≡ false
  pub held : IfSome r (λ n. (i ≤ n) × (n < top) × (here n ≡ true))

-- ---- a value that was found

abbrev pub found : Words → ℕ → Option Found
found w next = Some (record { words = w; next = next })

-- that of a number
abbrev pub found_by : (ℕ → Words) → Option ℕ → Option Found
found_by value None = None
found_by value (Some n) = found (value n) (n + 1)

-- it, and the values from the position behind it on
abbrev pub onward : Option Found → (ℕ → List Words) → List Words
onward None from = []
onward (Some f) from = f.words ∷ from f.next

-- ---- an attribute's words in the session: the pairs whose bits are set, from number i on

-- the words of a pair's atom: those behind the first of its row
abbrev pub pair_words : List ℕ → ℕ → Words
pair_words pairs p = words (get_or pairs (4 * p + 1) 0) (get_or pairs (4 * p + 2) 0) (get_or pairs (4 * p + 3) 0)

unfoldable pub words_from : List ℕ → List ℕ → ℕ → ℕ → List Words
words_from pairs session k i = if ltb k attribute_limit then chosen (holds session k) (pair_words pairs) pair_limit i otherwise []

-- ---- the entries of an attribute, from number i on

-- "a 32-bit value … (bool 0 or 1)", by the number of the type
abbrev pub entry_words : ℕ → ℕ → Words
entry_words ty v = if eqb ty 3 then words (truth_bit (eqb v 1)) 0 0 otherwise words v 0 0

unfoldable pub entries_from : Bytes → ℕ → ℕ → ℕ → List Words
entries_from entries ty k i =
    chosen (λ j. eqb (byte_at entries (entry_bytes * j)) k) (λ j. entry_words ty (value_at entries (entry_bytes * j + 1))) (length entries / entry_bytes) i

-- ---- constants in rule code, from byte i up to the byte `end`, parted by a byte

-- an int: the four bytes behind its kind; the next constant begins behind the byte that parts them
unfoldable pub int_at : Bytes → ℕ → ℕ → Option Found
int_at code end i = if (leb end (length code) && leb (i + 5) end) then found (words (value_at code (i + 1)) 0 0) (i + 6) otherwise None

-- a str: the bytes behind its kind and its length, if they fit three words
unfoldable pub str_at : Bytes → ℕ → ℕ → Option Found
str_at code end i =
    if (leb end (length code) && (leb (i + 2) end && (leb (byte_at code (i + 1)) 24 && leb (i + 2 + byte_at code (i + 1)) end)))
    then found (three_words (take (byte_at code (i + 1)) (drop (i + 2) code))) (i + 3 + byte_at code (i + 1)) otherwise None

unfoldable pub constant_at : ℕ → Bytes → ℕ → ℕ → Option Found
constant_at ty code end i = if eqb ty 2 then str_at code end i otherwise int_at code end i

-- at most n constants: each begins behind the one before it, so that a code's length is enough
unfoldable pub constants_within : ℕ → ℕ → Bytes → ℕ → ℕ → List Words
constants_within zero ty code end i = []
constants_within (suc n) ty code end i = onward (constant_at ty code end i) (constants_within n ty code end)

abbrev pub constants_from : ℕ → Bytes → ℕ → ℕ → List Words
constants_from ty code end i = constants_within (length code - i) ty code end i

-- ---- an operand's values

-- those from position i on: a pair's number, an entry's, or a byte of the code, by the operand's place
unfoldable pub values_from : Lent → Operand → ℕ → List Words
values_from L o i =
    if eqb o.place 0 then words_from L.pairs L.session o.start i
    otherwise (if eqb o.place 1 then entries_from L.entries o.ty o.start i
    otherwise constants_from o.ty L.code o.end i)

-- where they begin
unfoldable pub first_of : Operand → ℕ
first_of o = if leb o.place 1 then 0 otherwise o.start

abbrev pub operand_values : Lent → Operand → List Words
operand_values L o = values_from L o (first_of o)

-- r is the first of the values from i on, with the position behind it
pub record Finds (from : ℕ → List Words) (i : ℕ) (r : Option Found) : Type 0 where
  pub so : from i ≡ onward r from

-- r is the number of the first pair from i on that the session has of attribute k
pub record FirstPair (session : List ℕ) (k i : ℕ) (r : Option ℕ) : Type 0 where
  pub within : IfSome r (λ p. p < pair_limit)
  pub finds : (pairs : List ℕ) → Finds (words_from pairs session k) i (found_by (pair_words pairs) r)

-- an operand stands for these atoms
pub record Stands (L : Lent) (o : Operand) (atoms : List Atom) : Type 0 where
  pub coded : operand_values L o ≡ map atom_words atoms
  pub typed : all_of (λ a. eqb (type_code (type_of a)) o.ty) atoms ≡ true
  pub written : all_of is_atom atoms ≡ true

-- ---- the operands that rules have

abbrev pub operand : ℕ → ℕ → ℕ → ℕ → Operand
operand ty place start end = record { ty = ty; place = place; start = start; end = end }

abbrev pub no_values : Operand
no_values = operand 0 2 0 0

-- the type of row k of attributes, 0 where it is none; and where its values are: in the session for user, object and admin, else in the block
unfoldable pub row_type : List ℕ → ℕ → ℕ
row_type rows k = if leb (get_or rows (8 * k + 1) 0) 3 then get_or rows (8 * k + 1) 0 otherwise 0

unfoldable pub attribute_operand : List ℕ → ℕ → Operand
attribute_operand rows k =
    if ltb k attribute_limit
    then (if eqb (get_or rows (8 * k) 0) 0 then no_values
    otherwise (if leb (get_or rows (8 * k) 0) 3 then operand (row_type rows k) 0 k 0
    otherwise operand (row_type rows k) 1 k 0))
    otherwise no_values
