-- The sections of a book: its words lie one section after another.
use Rattle.std.specs.Prelude.{ℕ, ◌+◌, ◌*◌, List, take, drop}
use Rattle.model.specs.Limits.{Edition, holder_numbers, rule_limit}

pub record Section : Type 0 where
  pub start : ℕ
  pub size : ℕ

-- the words of a section
abbrev pub section_words : Section → List ℕ → List ℕ
section_words s book = take s.size (drop s.start book)

-- a book has room for the holders of the first edition
abbrev pub book_holders : ℕ
book_holders = holder_numbers Edition.first

-- how many attributes, operations, pairs, holders, groups and rules there are
abbrev pub counts : Section
counts = record { start = 0; size = 8 }

-- a row of eight words for each attribute: source, type, name, the mask of its pairs
abbrev pub attributes : Section
attributes = record { start = 8; size = 256 }

-- a name for each operation
abbrev pub operations : Section
operations = record { start = 264; size = 16 }

-- an index of pairs and one of holders: 256 words of firsts, a next and a row of four words for each
abbrev pub pairs : Section
pairs = record { start = 280; size = 1536 }

abbrev pub holders : Section
holders = record { start = 1816; size = 1536 }

-- for each holder its sort, and 1 + the slot of a group
abbrev pub sorts : Section
sorts = record { start = 3352; size = 256 }

abbrev pub slot_of : Section
slot_of = record { start = 3608; size = 256 }

-- ties: the holder number of each slot; a mask over slots for each holder; four words of own pairs for each holder
abbrev pub slots : Section
slots = record { start = 3864; size = 64 }

abbrev pub ups : Section
ups = record { start = 3928; size = 256 }

abbrev pub own : Section
own = record { start = 4184; size = 1024 }

-- for each rule the number of its operation; its code has its own bytes
abbrev pub rules : Section
rules = record { start = 5208; size = 32 }

abbrev pub book_words : ℕ
book_words = 5240

-- the code of rule k is the bytes from 768k on
abbrev pub code_bytes : ℕ
code_bytes = 768

-- the rows of its terms stand behind the code of all rules, from byte 24,576 + 256k on
abbrev pub rows_start : ℕ
rows_start = code_bytes * rule_limit

abbrev pub rows_bytes : ℕ
rows_bytes = 256

abbrev pub rule_bytes : ℕ
rule_bytes = rows_start + rows_bytes * rule_limit
