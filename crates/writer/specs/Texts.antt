-- The lines of ties as the words of a book spell them, and the text of a whole book: on any words, so that code is compared with words alone. That it is the
-- file of the state that a book holds is `BookTexts.book-text`.
use Rattle.std.specs.Prelude.{ℕ, ◌+◌, ◌*◌, Bool, ◌&&◌, List, [], ◌++◌, get_or, take, drop, eqb}
use Rattle.model.specs.Notation.{if◌then◌otherwise◌, each, below}
use Rattle.model.specs.Limits.{Edition, pair_limit, group_limit}
use Rattle.model.specs.Bytes.{Bytes, bytes}
use Rattle.model.specs.Lines.{first_line}
use Rattle.bits.specs.Bits.{bit, member, any_below}
use Rattle.book.specs.Sections as section
use Rattle.book.specs.Sections.{section_words}
use Rattle.spelling.specs.LineTexts.{key_words, listed_text, name_text, name_of_holder, row_of_pair, pair_atom_text, line_end, declared_text, holder_count, holders_text, rules_text}

-- ---- lines of ties

-- the line of number k, if a set has it
unfoldable pub member_text : List ℕ → (ℕ → Bytes) → ℕ → Bytes
member_text s line k = if member s k then line k otherwise []

-- holder g is the group of some slot of a mask
unfoldable pub in_mask : List ℕ → ℕ → ℕ → Bool
in_mask slots mask g = any_below group_limit (λ q. bit mask q && eqb (get_or slots q 0) g)

-- holder h has a tie up to holder g: a slot of g is in the mask of h
abbrev pub has_up : List ℕ → ℕ → ℕ → Bool
has_up book h g = in_mask (section_words section.slots book) (get_or book ((section.ups).start + h) 0) g

abbrev pub up_line_text : List ℕ → ℕ → ℕ → ℕ → Bytes
up_line_text book key h g = listed_text key_words key ++ (name_of_holder book h ++ (bytes "," ++ (name_of_holder book g ++ line_end)))

unfoldable pub up_text : List ℕ → ℕ → ℕ → ℕ → Bytes
up_text book key h g = if has_up book h g then up_line_text book key h g otherwise []

-- the ties of holder h up to holders with numbers below n
abbrev pub ups_text : List ℕ → ℕ → ℕ → ℕ → Bytes
ups_text book n key h = each (up_text book key h) (below n)

-- a group's ties up are to parents, another holder's are those of a member
unfoldable pub key_of_ups : List ℕ → ℕ → ℕ
key_of_ups book h = if eqb (get_or book ((section.slot_of).start + h) 0) 0 then 9 otherwise 8

-- the ties of holder h up, if they are of that key
unfoldable pub holder_ups_text : List ℕ → ℕ → ℕ → ℕ → Bytes
holder_ups_text book n key h = if eqb (key_of_ups book h) key then ups_text book n key h otherwise []

-- the own pairs of holder h
abbrev pub own_of : List ℕ → ℕ → List ℕ
own_of book h = take 4 (drop ((section.own).start + 4 * h) book)

unfoldable pub value_line_text : List ℕ → ℕ → ℕ → Bytes
value_line_text book h p =
    listed_text key_words 10 ++ (name_of_holder book h ++ (bytes "," ++ (name_text book (row_of_pair book p + 2) ++ (bytes "," ++ (pair_atom_text book p ++ line_end)))))

-- the lines of its own pairs
abbrev pub values_text : List ℕ → ℕ → Bytes
values_text book h = each (member_text (own_of book h) (value_line_text book h)) (below pair_limit)

-- the ties of all holders up that are of a key
abbrev pub key_ups_text : List ℕ → ℕ → Bytes
key_ups_text book key = each (holder_ups_text book (holder_count book) key) (below (holder_count book))

-- the lines of all ties, key by key
abbrev pub ties_text : List ℕ → Bytes
ties_text book = key_ups_text book 8 ++ (key_ups_text book 9 ++ each (values_text book) (below (holder_count book)))

-- ---- the whole

-- the first line, then key by key
unfoldable pub book_text : List ℕ → Bytes → Bytes
book_text book rules = first_line Edition.first ++ (declared_text book ++ (holders_text book ++ (ties_text book ++ rules_text book rules)))
