-- Groups gathered into a set of holder numbers, four words, from the slots of a mask.
use Rattle.std.specs.Prelude.{ℕ, ◌<◌, ◌≡◌, ◌||◌, List, length, eqb}
use Rattle.bits.specs.Bits.{member}
use Rattle.book.specs.Sections.{book_holders}
use Rattle.writer.specs.Texts.{in_mask}

-- a set with one holder more
pub record AddsGroup (number : ℕ) (before after : List ℕ) : Type 0 where
  pub long : length after ≡ 4
  pub members : (g : ℕ) → g < book_holders → member after g ≡ (member before g || eqb number g)

-- a set with all groups of a mask
pub record AddsGroups (slots : List ℕ) (mask : ℕ) (before after : List ℕ) : Type 0 where
  pub long : length after ≡ 4
  pub members : (g : ℕ) → g < book_holders → member after g ≡ (member before g || in_mask slots mask g)
