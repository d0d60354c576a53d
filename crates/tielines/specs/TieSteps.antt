-- Whether a tie stands or closes a circle in a book, what it is refused for, and what it makes of the book, more or less. Assumes nothing: these are definitions.
use Rattle.std.specs.Prelude.{ℕ, Option, Some, ◌≡◌, Bool, true, ◌&&◌, not, List, [], ◌∷◌, length, get_or, take, drop}
use Rattle.std.proofs.Math.Option.{some}
use Rattle.model.specs.Numbers as refusal
use Rattle.model.specs.Bytes.{Bytes}
use Rattle.model.specs.Declarations.{Sort, sort_of, is_group, holder_numbers_of}
use Rattle.model.specs.Ties.{Tie}
use Rattle.model.specs.State.{State}
use Rattle.model.specs.Refusals.{Test, ◌if◌, first, tie_closes}
use Rattle.model.specs.Edits.{edited_ties}
use Rattle.model.specs.Standing.{Standing, TieFits}
use Rattle.ties.specs.TieArrays.{in_use}
use Rattle.ties.specs.TieEdits.{LeadsUp}
use Rattle.book.specs.Sections as section
use Rattle.book.specs.Sections.{section_words, book_words, book_holders}
use Rattle.book.specs.Held.{Holds}

-- r tells whether a tie that fits the declarations stands, and whether a tie closes a circle
abbrev pub TieStands : List ℕ → Tie → Bool → Type 0
TieStands book t r = (S : State) (code : Bytes) → Standing S → Holds book code S → TieFits S.declared t → r ≡ S.ties t

abbrev pub TieCloses : List ℕ → Tie → Bool → Type 0
TieCloses book t r = (S : State) (code : Bytes) → Standing S → Holds book code S → r ≡ tie_closes (holder_numbers_of S.declared) S.ties t

-- the same for a parent or member tie from holder h up to the group g, and for the tie of holder h and the pair p
abbrev pub UpStands : ℕ → ℕ → List ℕ → Bool → Type 0
UpStands h g book r = (t : Tie) → LeadsUp t h g → TieStands book t r

abbrev pub ValueStands : ℕ → ℕ → List ℕ → Bool → Type 0
ValueStands h p book r = TieStands book (Tie.value h p) r

-- r is the slot of the group of number g
abbrev pub SlotFound : List ℕ → ℕ → Option ℕ → Type 0
SlotFound book g r =
    (S : State) (code : Bytes) → Standing S → Holds book code S → (s : Sort) → sort_of S.declared g ≡ some s → is_group s ≡ true
    → (q : ℕ) × (r ≡ Some q) × (in_use book_holders (section_words section.slots book) q ≡ true) × (get_or (section_words section.slots book) q 0 ≡ g)

-- what a tie is refused for: 10 and 12 behind `+`, 14 behind `-`
abbrev pub sign_tests : State → Tie → Bool → List Test
sign_tests S t plus =
    refusal.repeated if (plus && S.ties t)
    ∷ refusal.circular if (plus && tie_closes (holder_numbers_of S.declared) S.ties t)
    ∷ refusal.not_standing if (not plus && not (S.ties t))
    ∷ []

-- r is that number for a tie that fits the declarations
abbrev pub TieJudged : List ℕ → Tie → Bool → ℕ → Type 0
TieJudged book t plus r = (S : State) (code : Bytes) → Standing S → Holds book code S → TieFits S.declared t → r ≡ first (sign_tests S t plus)

-- a tie more or less: the book keeps its words but those of ties; for the standing states whose declarations the tie fits, and in which it does not stand
-- or stands, it then holds the state with the change
pub record TieChanged (t : Tie) (plus : Bool) (book book' : List ℕ) : Type 0 where
  pub long : length book' ≡ book_words
  pub before : take (section.ups).start book' ≡ take (section.ups).start book
  pub behind : drop (section.rules).start book' ≡ drop (section.rules).start book
  pub holds : (S : State) (code : Bytes) → Standing S → Holds book code S → TieFits S.declared t → S.ties t ≡ not plus
      → Holds book' code (record { declared = S.declared; ties = edited_ties plus (some t) S.ties })

-- the same for a parent or member tie from holder h up to the group g, and for the tie of holder h and the pair p
abbrev pub UpChanged : ℕ → ℕ → Bool → List ℕ → List ℕ → Type 0
UpChanged h g plus book book' = (t : Tie) → LeadsUp t h g → TieChanged t plus book book'

abbrev pub ValueChanged : ℕ → ℕ → Bool → List ℕ → List ℕ → Type 0
ValueChanged h p plus book book' = TieChanged (Tie.value h p) plus book book'
