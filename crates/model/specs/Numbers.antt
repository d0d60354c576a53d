-- "Numbers a caller may meet": each named once. The condition of a number has the same name in Refusals.
use Rattle.std.specs.Prelude.{ℕ}

-- ---- Host

-- "table not 1,024 words, any call"
abbrev pub wrong_table : ℕ
wrong_table = 1

-- ---- Ticket office, file

-- "over 32,768 bytes"
abbrev pub too_long : ℕ
too_long = 2

-- "first line, with its byte 10, wrong or missing (line 1)"
abbrev pub wrong_first_line : ℕ
wrong_first_line = 3

-- ---- Ticket office, file or edit

-- "line too long, no byte 10 or bytes after it, no `=`, unknown key (a later `rights` too), edit sign missing"
abbrev pub unframed : ℕ
unframed = 4

-- "key before its predecessor's (file only)"
abbrev pub out_of_order : ℕ
out_of_order = 5

-- "field count, SRC, TYPE, name, atom or policy malformed, the policy judged without the limits of 7; `{}` and sets of two types are 6"
abbrev pub malformed : ℕ
malformed = 6

-- "more than 16 terms, depth over 8 or a set over 8"
abbrev pub over_limits : ℕ
over_limits = 7

-- "undeclared name or pair (for value: no such pair of the attribute source that the holder's sort fixes)"
abbrev pub undeclared : ℕ
undeclared = 8

-- "parent or member of the wrong sort, env or connect str, atom of env or connect or of the wrong type"
abbrev pub wrong_sort : ℕ
wrong_sort = 9

-- "already declared or standing"
abbrev pub repeated : ℕ
repeated = 10

-- "table of that key full (file only)"
abbrev pub full : ℕ
full = 11

-- "parent tie that closes a circle, itself included"
abbrev pub circular : ℕ
circular = 12

-- ---- Office, edits only

-- "another known key; comes after 4, before the rest"
abbrev pub other_key : ℕ
other_key = 13

-- "`-` of a tie not standing"
abbrev pub not_standing : ℕ
not_standing = 14

-- ---- Gate

-- "byte 0, 8, 9 or length wrong"
abbrev pub bad_block : ℕ
bad_block = 15

-- "unknown or wrong-sort number, entry not env or connect, bool above 1"
abbrev pub wrong_number : ℕ
wrong_number = 16

-- "activated bit that is no user attribute held by that user"
abbrev pub not_held : ℕ
not_held = 17

-- ---- Writer (document 02, E1)

-- "the text is longer than the buffer or than 32,768 bytes"
abbrev pub does_not_fit : ℕ
does_not_fit = 18
