-- What is found in a section of a book: numbers of holders, operations and pairs, for every declarations that the section is that of.
-- Assumes nothing: these are definitions.
use Rattle.std.specs.Prelude.{ℕ, Option, ◌≡◌, true, List}
use Rattle.std.proofs.Math.Option.{some}
use Rattle.model.specs.Notation.{nth}
use Rattle.model.specs.Limits.{pair_limit}
use Rattle.model.specs.Bytes.{Bytes}
use Rattle.model.specs.Names.{is_name}
use Rattle.model.specs.Attributes.{Source}
use Rattle.model.specs.Atoms.{Atom, type_of, is_atom}
use Rattle.model.specs.Declarations.{Declarations, Attribute, attribute_number, operation_number, pair_number, holder_number}
use Rattle.model.specs.Standing.{WellDeclared}
use Rattle.codes.specs.Enums.{told}
use Rattle.text.specs.declared.Packed.{Packed}
use Rattle.text.specs.declared.Words.{Words}
use Rattle.text.specs.Packing.{packed_of}
use Rattle.text.specs.Values.{atom_words}
use Rattle.index.specs.Index.{Indexed}
use Rattle.book.specs.Sections.{book_holders}
use Rattle.book.specs.Held.{OperationRows, pair_row, holder_row}

-- r is the number of the holder of a name
abbrev pub HolderFound : List ℕ → Packed → Option ℕ → Type 0
HolderFound section name r =
    (D : Declarations) → WellDeclared D → Indexed section book_holders (holder_row D) → (n : Bytes) → is_name n ≡ true
    → packed_of n ≡ name → r ≡ told (holder_number D n)

-- the number of the operation of a name
abbrev pub OperationFound : List ℕ → Packed → Option ℕ → Type 0
OperationFound section name r =
    (D : Declarations) → WellDeclared D → OperationRows section D.operations → (n : Bytes) → is_name n ≡ true
    → packed_of n ≡ name → r ≡ told (operation_number D n)

-- the number of the pair of attribute k and an atom of its type
abbrev pub PairFound : List ℕ → ℕ → Words → Option ℕ → Type 0
PairFound section k words r =
    (D : Declarations) → WellDeclared D → Indexed section pair_limit (pair_row D) → (s : Source) (n : Bytes) (b : Attribute) (a : Atom)
    → attribute_number D s n ≡ some k → nth D.attributes k ≡ some b → b.type ≡ type_of a → is_atom a ≡ true → atom_words a ≡ words
    → r ≡ told (pair_number D s n a)
