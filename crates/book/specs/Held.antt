-- What the words of a book and the bytes of its rules stand for: the declarations and ties of a state. Assumes nothing: these are definitions.
use Rattle.std.specs.Prelude.{ℕ, suc, ◌+◌, ◌*◌, ◌≤◌, ◌<◌, ◌≡◌, true, false, List, length, get_or, take, drop}
use Rattle.std.proofs.Math.Option.{Option, some}
use Rattle.model.specs.Notation.{◌>>=◌, nth}
use Rattle.model.specs.Limits.{Edition, operation_limit, pair_limit, group_limit}
use Rattle.model.specs.Bytes.{Bytes}
use Rattle.model.specs.Declarations.{Declarations, Rule, Sort, attribute_number, operation_number, holder_of, sort_of, holder_numbers_of, is_group, groups}
use Rattle.model.specs.State.{State}
use Rattle.codes.specs.Codes.{coded}
use Rattle.text.specs.Packing.{packed_of}
use Rattle.text.specs.Values.{atom_words}
use Rattle.rows.specs.Rows.{AttributeRows}
use Rattle.tokens.specs.RuleCode.{Coded}
use Rattle.program.specs.Runs.{Programmed}
use Rattle.index.specs.Index.{Row, Indexed}
use Rattle.ties.specs.TieArrays.{KeepsTies}
use Rattle.book.specs.Sections as section
use Rattle.book.specs.Sections.{section_words, book_words, book_holders, code_bytes, rows_start, rows_bytes, rule_bytes}

-- how many there are of each
pub record CountsOf (words : List ℕ) (D : Declarations) : Type 0 where
  pub attributes : get_or words 0 0 ≡ length D.attributes
  pub operations : get_or words 1 0 ≡ length D.operations
  pub pairs : get_or words 2 0 ≡ length D.pairs
  pub holders : get_or words 3 0 ≡ length (holder_numbers_of D)
  pub groups-are : get_or words 4 0 ≡ groups D
  pub rules : get_or words 5 0 ≡ length D.rules

-- the name of each operation in two words; the first is 0 where there is none
pub record OperationRows (words : List ℕ) (operations : List Bytes) : Type 0 where
  pub low : (i : ℕ) (n : Bytes) → nth operations i ≡ some n → get_or words (2 * i) 0 ≡ (packed_of n).low
  pub high : (i : ℕ) (n : Bytes) → nth operations i ≡ some n → get_or words (2 * i + 1) 0 ≡ (packed_of n).high
  pub other : (i : ℕ) → length operations ≤ i → i < operation_limit → get_or words (2 * i) 0 ≡ 0

-- the row of pair p: one more than its attribute's number, and its atom's words
abbrev pub pair_row : Declarations → ℕ → Option Row
pair_row D p = do
  q ← nth D.pairs p
  k ← attribute_number D q.source q.name
  some (k + 1, (atom_words q.atom).first, (atom_words q.atom).second, (atom_words q.atom).third)

-- the row of holder k: its name
abbrev pub holder_row : Declarations → ℕ → Option Row
holder_row D k = holder_of D k >>= λ h. some (1, (packed_of h.name).low, (packed_of h.name).high, 0)

-- the numbers of sorts: admin's is 1, the others have that of the key that declares them
abbrev pub sort_code : Sort → ℕ
sort_code Sort.admin = 1
sort_code Sort.ugroup = 4
sort_code Sort.ogroup = 5
sort_code Sort.user = 6
sort_code Sort.object = 7

abbrev pub SortRows : List ℕ → Declarations → Type 0
SortRows words D = (k : ℕ) → k < book_holders → get_or words k 0 ≡ coded sort_code (sort_of D k)

-- each group has a slot: slots are taken in the order of the groups, and a group's own word is 1 + its slot
pub record GroupSlots (slots slot_of : List ℕ) (D : Declarations) : Type 0 where
  pub in-slot : (k : ℕ) (s : Sort) → sort_of D k ≡ some s → is_group s ≡ true
      → (q : ℕ) × (get_or slot_of k 0 ≡ suc q) × (q < groups D) × (get_or slots q 0 ≡ k)
  pub no_slot : (k : ℕ) → k < book_holders → ((s : Sort) → sort_of D k ≡ some s → is_group s ≡ false) → get_or slot_of k 0 ≡ 0
  pub taken : (q : ℕ) → q < groups D → (s : Sort) × (sort_of D (get_or slots q 0) ≡ some s) × (is_group s ≡ true)
  pub free : (q : ℕ) → groups D ≤ q → q < group_limit → get_or slots q 0 ≡ 0

-- the code of rule i, and the rows of its terms
abbrev pub code_of_rule : Bytes → ℕ → Bytes
code_of_rule code i = take code_bytes (drop (code_bytes * i) code)

abbrev pub rows_of_rule : Bytes → ℕ → Bytes
rows_of_rule code i = take rows_bytes (drop (rows_start + rows_bytes * i) code)

-- rule i: the number of its operation, the code of its tokens, and its program
pub record RuleHeld (words : List ℕ) (code : Bytes) (D : Declarations) (i : ℕ) (r : Rule) : Type 0 where
  pub operation : ℕ
  pub operation-is : operation_number D r.operation ≡ some operation
  pub word : get_or words i 0 ≡ operation
  pub tokens : Coded D (code_of_rule code i) 0 r.tokens
  pub program : Programmed D (code_of_rule code i) (rows_of_rule code i) r.tokens

abbrev pub RuleRows : List ℕ → Bytes → Declarations → Type 0
RuleRows words code D = (i : ℕ) (r : Rule) → nth D.rules i ≡ some r → RuleHeld words code D i r

-- "The book, a value, holds the declarations and the ties": those of a state of the first edition
pub record Holds (book : List ℕ) (code : Bytes) (S : State) : Type 0 where
  pub edition : S.declared.edition ≡ Edition.first
  pub long : length book ≡ book_words
  pub code-long : length code ≡ rule_bytes
  pub counts : CountsOf (section_words section.counts book) S.declared
  pub attributes : AttributeRows (section_words section.attributes book) S.declared
  pub operations : OperationRows (section_words section.operations book) S.declared.operations
  pub pairs : Indexed (section_words section.pairs book) pair_limit (pair_row S.declared)
  pub holders : Indexed (section_words section.holders book) book_holders (holder_row S.declared)
  pub sorts : SortRows (section_words section.sorts book) S.declared
  pub groups : GroupSlots (section_words section.slots book) (section_words section.slot_of book) S.declared
  pub ties : KeepsTies (section_words section.ups book) (section_words section.own book) (section_words section.slots book) S.ties
  pub rules : RuleRows (section_words section.rules book) code S.declared
