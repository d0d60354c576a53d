-- The steps of an edit: the tie of its line, and what the tie more or less makes of book and table.
-- Assumes nothing: these are definitions.
use Rattle.std.specs.Prelude.{ℕ, Result, Ok, Err, ◌*◌, ◌≤◌, ◌<◌, min, ◌≡◌, Bool, List, [], ◌∷◌, length, get_or, take}
use Rattle.std.proofs.Math.Option.{some}
use Rattle.model.specs.Notation.{◌is◌}
use Rattle.model.specs.Limits.{Edition, table_words, holder_numbers, group_limit, join_limit}
use Rattle.model.specs.Numbers as refusal
use Rattle.model.specs.Bytes.{Bytes}
use Rattle.model.specs.Lines.{read_line}
use Rattle.model.specs.Ties.{Tie, edited_holder, Below}
use Rattle.model.specs.Table.{table, set_in}
use Rattle.model.specs.State.{State}
use Rattle.model.specs.Refusals.{Test, ◌if◌, first, unframed, other_key, malformed, undeclared, wrong_sort}
use Rattle.model.specs.Edits.{edited_tie, edited_ties, changes, set_joins}
use Rattle.model.specs.Ledger.{Answer, loaded, edited, decided}
use Rattle.model.specs.Standing.{Standing, TieFits}
use Rattle.sets.specs.Refreshed.{Refreshed}
use Rattle.book.specs.Sections as section
use Rattle.book.specs.Sections.{section_words, book_holders}
use Rattle.book.specs.Held.{Holds}
use Rattle.tielines.specs.TieReading.{BookTie}
use Rattle.tielines.specs.TieSteps.{sign_tests}
use Rattle.book.specs.Calls.{answer_number, refused_edit, Together, Edits}
use Rattle.codes.specs.declared.Refusal.{Refusal}
use Rattle.codes.specs.Enums.{refusal_number}
use Rattle.tielines.specs.declared.Tie as tielines
use Rattle.edit.specs.declared.Edited.{Edited}

-- the line behind the sign: 4, 13, 6, 8 and 9
abbrev pub behind_sign_tests : Bytes → State → List Test
behind_sign_tests line S =
    refusal.unframed if unframed line
    ∷ refusal.other_key if other_key line
    ∷ refusal.malformed if malformed line
    ∷ refusal.undeclared if (read_line line is undeclared S.declared)
    ∷ refusal.wrong_sort if (read_line line is wrong_sort S.declared)
    ∷ []

abbrev pub LineTie : List ℕ → Bytes → Result tielines.Tie Refusal → Type 0
LineTie book line r = BookTie book (behind_sign_tests line) (read_line line) r

-- how many holders and groups an edit goes through: as many as the book counts, and no more than there is room for, whatever its words are
abbrev pub holders_in : List ℕ → ℕ
holders_in book = min book_holders (get_or book 3 0)

abbrev pub groups_in : List ℕ → ℕ
groups_in book = min group_limit (get_or book 4 0)

-- the table after an edit of holder e, by the sections of the book: the sets of so many holders are refreshed, and the words behind them stay
pub record TableKept (book : List ℕ) (e : ℕ) (words words' : List ℕ) (r j : ℕ) : Type 0 where
  pub refreshed :
      Refreshed (take (holders_in book) (section_words section.ups book)) (take (4 * holders_in book) (section_words section.own book))
      (take (groups_in book) (section_words section.slots book)) (section_words section.slot_of book)
      e (take (4 * holders_in book) words) (take (4 * holders_in book) words') r j
  pub behind : (j : ℕ) → 4 * holders_in book ≤ j → get_or words' j 0 ≡ get_or words j 0

-- a tie of which nothing is refused, on the table of the state: the book then holds the state with the change, and the table is that state's
pub record Changed (S : State) (code : Bytes) (plus : Bool) (t : Tie) (book' words' : List ℕ) (count joins : ℕ) : Type 0 where
  pub holds : Holds book' code (record { declared = S.declared; ties = edited_ties plus (some t) S.ties })
  pub table_is : words' ≡ table S.declared (edited_ties plus (some t) S.ties)
  pub counted : count ≡ changes S.declared S.ties (edited_ties plus (some t) S.ties)
  pub joined : joins ≡ set_joins S.declared (edited_ties plus (some t) S.ties) (edited_holder t)

abbrev pub Applied : Bool → Tie → List ℕ → List ℕ → List ℕ → List ℕ → ℕ → ℕ → Type 0
Applied plus t book book' words words' count joins =
    (S : State) (code : Bytes) → Standing S → Holds book code S → words ≡ table S.declared S.ties → TieFits S.declared t
    → 0 ≡ first (sign_tests S t plus) → Changed S code plus t book' words' count joins

-- no more sets than a book has room for holders, and no more joins than document 02, E3, has for these: "at most 16,640"
pub record Bounded (count joins : ℕ) : Type 0 where
  pub few : count ≤ book_holders
  pub few-joins : joins ≤ join_limit Edition.first

-- so it is with what an edit answers; the other answers are no edit's
abbrev pub AnswerBounded : Answer → Type 0
AnswerBounded (loaded number line) = Unit {0}
AnswerBounded (edited number count joins) = Bounded count joins
AnswerBounded (decided d) = Unit {0}

-- what is left as it was
pub record Untouched (book words words' book' : List ℕ) : Type 0 where
  pub same-table : words' ≡ words
  pub same-book : book' ≡ book

-- the words of holders that are neither the edited one nor below it stay as they were
abbrev pub SetsElsewhere : State → Bytes → List ℕ → List ℕ → Type 0
SetsElsewhere S line words words' =
    (k : ℕ) → k < holder_numbers S.declared.edition → ((t : Tie) → edited_tie S line ≡ some t → (k ≡ edited_holder t → ⊥) × (Below S.ties k (edited_holder t) → ⊥))
    → set_in words' k ≡ set_in words k

-- what the code answers, as the ledger has it
abbrev pub edited_of : Result Edited Refusal → Answer
edited_of (Ok e) = edited 0 e.count e.joins
edited_of (Err r) = refused_edit (refusal_number r)

-- the call. The last five hold of every book and table
pub record EditCall (line : Bytes) (book words : List ℕ) (a : Answer) (words' book' : List ℕ) : Type 0 where
  pub edits : Edits line book words a words' book'
  pub elsewhere : (S : State) (code : Bytes) → Together S book code words → SetsElsewhere S line words words'
  pub wrong-table : (length words ≡ table_words Edition.first → ⊥) → (a ≡ refused_edit refusal.wrong_table) × Untouched book words words' book'
  pub refused : (answer_number a ≡ 0 → ⊥) → (a ≡ refused_edit (answer_number a)) × Untouched book words words' book'
  pub bounded : AnswerBounded a
  pub table-long : length words' ≡ length words
  pub book-long : length book' ≡ length book
