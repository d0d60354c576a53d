-- Texts laid one behind another, and the arms of texts that are chosen by a number.
pub mod LaidTexts
pub mod RuleTexts
-- Lists, packed words, tables of words, sections.
pub mod Listing
pub mod Unpacked
pub mod Spellings
pub mod SectionWords
-- The lines that a book spells are those of the state that it holds.
pub mod BookDeclared
pub mod BookHolders
pub mod BookRules
