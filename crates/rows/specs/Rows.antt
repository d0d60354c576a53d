-- The rows of attributes and of pairs, and what they stand for.
use Rattle.std.specs.Prelude.{ℕ, Option, IfSome, ◌+◌, ◌*◌, ◌/◌, ◌%◌, ◌≤◌, ◌<◌, ◌≡◌, Bool, true, ◌&&◌, List, eqb, length, get_or}
use Rattle.std.proofs.Math.Option as math
use Rattle.std.proofs.Math.Option.{none, some}
use Rattle.model.specs.Notation.{nth, ◌is◌}
use Rattle.model.specs.Limits.{attribute_limit, pair_limit, word_bits}
use Rattle.model.specs.Bytes.{Bytes}
use Rattle.model.specs.Names.{is_name}
use Rattle.model.specs.Attributes.{Source}
use Rattle.model.specs.Declarations.{Declarations, Attribute, Pair, attribute_number}
use Rattle.bits.specs.Bits.{bit}
use Rattle.codes.specs.Codes.{source_code, type_code}
use Rattle.codes.specs.Enums.{told}
use Rattle.text.specs.declared.Packed.{Packed}
use Rattle.text.specs.Packing.{packed_of, packed_at}
use Rattle.text.specs.Values.{atom_words}
use Rattle.model.specs.Standing.{WellDeclared}

-- A row of attributes has eight words: source (0: no attribute), type, the name's two words, the mask of its pairs (four words).
-- A row of pairs has four words: one more than the attribute's number (0: no pair), the atom's three words.

-- row i is that of an attribute
pub record AttributeRow (rows : List ℕ) (i : ℕ) (a : Attribute) : Type 0 where
  pub source : get_or rows (8 * i) 0 ≡ source_code a.source
  pub type : get_or rows (8 * i + 1) 0 ≡ type_code a.type
  pub low : get_or rows (8 * i + 2) 0 ≡ (packed_of a.name).low
  pub high : get_or rows (8 * i + 3) 0 ≡ (packed_of a.name).high

-- pair p is declared, and is one of attribute i
unfoldable pub is_pair_of : Declarations → ℕ → ℕ → Bool
is_pair_of D i p = nth D.pairs p is λ q. attribute_number D q.source q.name is eqb i

-- pair p is in the mask of row i
unfoldable pub masked : List ℕ → ℕ → ℕ → Bool
masked rows i p = bit (get_or rows (8 * i + 4 + p / word_bits) 0) (p % word_bits)

-- the rows are those of the attributes of D, and no others
pub record AttributeRows (rows : List ℕ) (D : Declarations) : Type 0 where
  pub within : length D.attributes ≤ attribute_limit
  pub row : (i : ℕ) (a : Attribute) → nth D.attributes i ≡ some a → AttributeRow rows i a
  pub other : (i : ℕ) → length D.attributes ≤ i → i < attribute_limit → get_or rows (8 * i) 0 ≡ 0
  pub mask : (i p : ℕ) → i < attribute_limit → p < pair_limit → masked rows i p ≡ is_pair_of D i p

-- row i is that of a pair of the attribute k
pub record PairRow (rows : List ℕ) (i k : ℕ) (p : Pair) : Type 0 where
  pub attribute : get_or rows (4 * i) 0 ≡ k + 1
  pub first : get_or rows (4 * i + 1) 0 ≡ (atom_words p.atom).first
  pub second : get_or rows (4 * i + 2) 0 ≡ (atom_words p.atom).second
  pub third : get_or rows (4 * i + 3) 0 ≡ (atom_words p.atom).third

-- the rows are those of the pairs of D, and no others
pub record PairRows (rows : List ℕ) (D : Declarations) : Type 0 where
  pub within : length D.pairs ≤ pair_limit
  pub row : (i k : ℕ) (p : Pair) → nth D.pairs i ≡ some p → attribute_number D p.source p.name ≡ some k → PairRow rows i k p
  pub other : (i : ℕ) → length D.pairs ≤ i → i < pair_limit → get_or rows (4 * i) 0 ≡ 0

-- row i of attributes has that source and name
unfoldable pub row_named : List ℕ → ℕ → ℕ → ℕ → ℕ → Bool
row_named rows source low high i = eqb (get_or rows (8 * i) 0) source && packed_at rows (8 * i + 2) low high

-- a number, or k where there is none
abbrev pub number_or : ℕ → math.Option ℕ → ℕ
number_or k none = k
number_or k (some n) = n

-- r is the number of the attribute of that source and name, whatever declarations the rows are those of
pub record Numbered (rows : List ℕ) (source : ℕ) (name : Packed) (r : Option ℕ) : Type 0 where
  pub within : IfSome r (λ k. k < attribute_limit)
  pub number : (D : Declarations) → WellDeclared D → AttributeRows rows D → (s : Source) (n : Bytes) → is_name n ≡ true
      → source ≡ source_code s → packed_of n ≡ name → r ≡ told (attribute_number D s n)
