-- The limits and sizes of documents 01 and 02, each named once.
use Rattle.std.specs.Prelude.{ℕ, ◌+◌, ◌*◌}

-- "At most 32,768 bytes. Lines end with byte 10 and have at most 255 bytes before it."
abbrev pub file_bytes : ℕ
file_bytes = 32768

abbrev pub line_bytes : ℕ
line_bytes = 255

-- attr: "At most 32", op: "at most 8", atom: "At most 256", rule: "at most 32"
abbrev pub attribute_limit : ℕ
attribute_limit = 32

abbrev pub operation_limit : ℕ
operation_limit = 8

abbrev pub pair_limit : ℕ
pair_limit = 256

abbrev pub rule_limit : ℕ
rule_limit = 32

-- the edition of a file, which "is one of the declarations"
pub data Edition : Type 0 where
  first second : Edition

-- "Others are numbered from 1 in file order, at most 255, of which at most 64 groups"; document 02, E5: "Files that begin `rights=2` number holders to
-- 1,023 … At most 64 are groups, as before"
abbrev pub holder_limit : Edition → ℕ
holder_limit Edition.first = 255
holder_limit Edition.second = 1023

abbrev pub group_limit : ℕ
group_limit = 64

-- with holder 0 the numbers are those below 256, in the second edition those below 1,024
abbrev pub holder_numbers : Edition → ℕ
holder_numbers e = holder_limit e + 1

-- document 02, E3: "at most 16,640, which is 256 times 65"; E5: "In the bound of E3, 256 becomes the edition's number of holders"
abbrev pub join_limit : Edition → ℕ
join_limit e = holder_numbers e * (group_limit + 1)

-- "NAME: 1 to 12 bytes", "str in double quotes, 0 to 12 bytes", "int 0 to 4294967295"
abbrev pub name_bytes : ℕ
name_bytes = 12

abbrev pub text_bytes : ℕ
text_bytes = 12

abbrev pub largest_int : ℕ
largest_int = 4294967295

-- "words of 64 bits", "the four words from word 4k"
abbrev pub word_bits : ℕ
word_bits = 64

abbrev pub set_words : ℕ
set_words = 4

-- "exactly 1,024 words"; document 02, E5: "Their table has 4,096 words"
abbrev pub table_words : Edition → ℕ
table_words e = set_words * holder_numbers e

-- "At most 16 terms", "parentheses at most 8 deep", "set `{a, b}` of 1 to 8 atoms"
abbrev pub term_limit : ℕ
term_limit = 16

abbrev pub depth_limit : ℕ
depth_limit = 8

abbrev pub set_limit : ℕ
set_limit = 8

-- "8: n, 0 to 8", "Then n entries of five bytes", "Length exactly 10 + 5n", "4-7: activation mask, low byte first, bit k for attribute k"
abbrev pub entry_limit : ℕ
entry_limit = 8

abbrev pub entry_bytes : ℕ
entry_bytes = 5

abbrev pub head_bytes : ℕ
head_bytes = 10

abbrev pub mask_bits : ℕ
mask_bits = 32

-- "Over 65,536 bytes: `load=2,0` alone"
abbrev pub input_bytes : ℕ
input_bytes = 65536
