-- What the functions that declare write, and what their steps are. Assumes nothing: these are definitions.
use Rattle.std.specs.Prelude.{ℕ, ◌+◌, ◌*◌, ◌/◌, ◌%◌, ◌≡◌, Bool, true, false, ◌&&◌, ◌||◌, List, ◌++◌, eqb, leb, length, get_or, take, drop, set}
use Rattle.model.specs.Limits.{Edition, word_bits}
use Rattle.model.specs.Bytes.{Bytes}
use Rattle.model.specs.Names.{is_name}
use Rattle.model.specs.Attributes.{Source, AtomType}
use Rattle.model.specs.Atoms.{Atom, is_atom}
use Rattle.model.specs.Declarations.{Sort, is_sort}
use Rattle.model.specs.Lines.{attr, op, atom, holder}
use Rattle.model.specs.State.{empty}
use Rattle.bits.specs.Bits.{bit, Bits}
use Rattle.codes.specs.Codes.{source_code, type_code}
use Rattle.text.specs.declared.Packed.{Packed}
use Rattle.text.specs.declared.Words.{Words}
use Rattle.text.specs.declared.Value.{Value}
use Rattle.text.specs.Packing.{packed_of}
use Rattle.text.specs.Values.{atom_value}
use Rattle.index.specs.Index.{put_row, Added}
use Rattle.book.specs.Sections.{Section, section_words, rule_bytes}
use Rattle.book.specs.Sections as section
use Rattle.book.specs.Held.{Holds, sort_code}
use Rattle.book.specs.Steps.{Steps}

-- where the words of attribute n, operation n begin
abbrev pub attribute_place : ℕ → ℕ
attribute_place n = (section.attributes).start + 8 * n

abbrev pub operation_place : ℕ → ℕ
operation_place n = (section.operations).start + 2 * n

-- the words of an attribute and of an operation, with its number, and the count with it
unfoldable pub attribute_put : List ℕ → ℕ → ℕ → ℕ → Packed → List ℕ
attribute_put book n source ty name = set (put_row book (attribute_place n) (source, ty, name.low, name.high)) 0 (n + 1)

unfoldable pub operation_put : List ℕ → ℕ → Packed → List ℕ
operation_put book n name = set (set (set book (operation_place n) name.low) (operation_place n + 1) name.high) 1 (n + 1)

-- a section that is written as a whole
abbrev pub with_section : Section → List ℕ → List ℕ → List ℕ
with_section s book words = take s.start book ++ (words ++ drop s.size (drop s.start book))

-- pair n of attribute k: its bit in the attribute's mask, its row, and the count with it
abbrev pub mask_place : ℕ → ℕ → ℕ
mask_place k n = (section.attributes).start + (8 * k + 4 + n / word_bits)

unfoldable pub pair_put : List ℕ → ℕ → ℕ → ℕ → List ℕ → List ℕ
pair_put book n k mask rows = set (with_section section.pairs (set book (mask_place k n) mask) rows) 2 (n + 1)

pub record PairPut (book : List ℕ) (n k : ℕ) (words : Words) (next : List ℕ) : Type 0 where
  pub mask : ℕ
  pub rows : List ℕ
  pub marked : Bits mask (λ j. bit (get_or book (mask_place k n) 0) j || eqb j (n % word_bits))
  pub row : Added (section_words section.pairs book) rows n (k + 1, words.first, words.second, words.third)
  pub written : next ≡ pair_put book n k mask rows

-- a holder with its number: its row, its sort, and the count with it
unfoldable pub holder_put : List ℕ → ℕ → ℕ → List ℕ → List ℕ
holder_put book n sort rows = set (set (with_section section.holders book rows) ((section.sorts).start + n) sort) 3 (n + 1)

pub record HolderPut (book : List ℕ) (n sort : ℕ) (name : Packed) (next : List ℕ) : Type 0 where
  pub rows : List ℕ
  pub row : Added (section_words section.holders book) rows n (1, name.low, name.high, 0)
  pub written : next ≡ holder_put book n sort rows

-- the slot of a group, the group's word for it, and the count with it
unfoldable pub group_put : List ℕ → ℕ → ℕ → List ℕ
group_put book n g = set (set (with_section section.slots book (set (section_words section.slots book) g n)) ((section.slot_of).start + n) (g + 1)) 4 (g + 1)

-- an attribute would be a str of env or connect
abbrev pub block_text : ℕ → ℕ → Bool
block_text source ty = leb (source_code Source.env) source && eqb ty (type_code AtomType.str)

-- the book keeps its length, and a line that is refused leaves it as it was
pub record Keeps (r : ℕ) (book book' : List ℕ) : Type 0 where
  pub long : length book' ≡ length book
  pub refused : (r ≡ 0 → ⊥) → book' ≡ book

-- the steps of lines that declare: for whatever source, name, type, atom and sort these are the numbers of
abbrev pub AttributeStep : List ℕ → ℕ → ℕ → Packed → List ℕ → ℕ → Type 0
AttributeStep book source ty name book' r =
    (code : Bytes) (s : Source) (n : Bytes) (t : AtomType) → is_name n ≡ true → source ≡ source_code s → ty ≡ type_code t
    → packed_of n ≡ name → Steps book code (attr s n t) book' code r

abbrev pub OperationStep : List ℕ → Packed → List ℕ → ℕ → Type 0
OperationStep book name book' r =
    (code : Bytes) (n : Bytes) → is_name n ≡ true → packed_of n ≡ name → Steps book code (op n) book' code r

abbrev pub PairStep : List ℕ → ℕ → Packed → Value → List ℕ → ℕ → Type 0
PairStep book source name value book' r =
    (code : Bytes) (s : Source) (n : Bytes) (a : Atom) → is_name n ≡ true → is_atom a ≡ true → source ≡ source_code s
    → packed_of n ≡ name → atom_value a ≡ value → Steps book code (atom s n a) book' code r

abbrev pub HolderStep : List ℕ → ℕ → Packed → List ℕ → ℕ → Type 0
HolderStep book key name book' r =
    (code : Bytes) (s : Sort) (n : Bytes) → is_sort s Sort.admin ≡ false → is_name n ≡ true → key ≡ sort_code s
    → packed_of n ≡ name → Steps book code (holder s n) book' code r

-- the book of the empty state, whatever the rules' bytes are
abbrev pub Emptied : List ℕ → Type 0
Emptied book = (code : Bytes) → length code ≡ rule_bytes → Holds book code (empty Edition.first)
