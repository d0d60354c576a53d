-- The table after a load. Assumes nothing: these are definitions.
use Rattle.std.specs.Prelude.{ℕ, List}
use Rattle.sets.specs.Filled.{Filled}
use Rattle.book.specs.Sections as section
use Rattle.book.specs.Sections.{section_words}

-- the table is that of the ties that the book's sections keep
abbrev pub TableFilled : List ℕ → List ℕ → Type 0
TableFilled book words = Filled (section_words section.ups book) (section_words section.own book) (section_words section.slots book) words
