-- The numbers a caller may meet: the condition of each, and the order of their tests.
use Rattle.std.specs.Prelude.{ℕ, Bool, true, false, ◌&&◌, ◌||◌, not, List, [], ◌∷◌, length, eqb, leb, ltb}
use Rattle.std.proofs.Math.Option.{Option}
use Rattle.model.specs.Notation.{◌>>=◌, ◌or_else◌, ◌is◌, is_none, any_of, all_of, nth, below}
use Rattle.model.specs.Limits.{Edition, file_bytes, attribute_limit, operation_limit, pair_limit, rule_limit, holder_numbers, group_limit, table_words, mask_bits}
use Rattle.model.specs.Numbers as refusal
use Rattle.model.specs.Bytes.{Bytes, bytes, behind}
use Rattle.model.specs.Attributes.{Source, AtomType, from_block, same_type, same_source}
use Rattle.model.specs.Atoms.{type_of}
use Rattle.model.specs.Keys.{Key, rank, is_tie_key}
use Rattle.model.specs.Lines.{first_line, named_edition, Line, attr, op, atom, holder, parent, member, value, rule, framed, read_fields, read_line}
use Rattle.model.specs.Tokens.{Token, as_name}
use Rattle.model.specs.Grammar.{read_policy, too_large}
use Rattle.model.specs.Declarations.{Declarations, Sort, is_sort, is_group, groups, parent_sort, group_sort, sort_of, attribute_number, attribute_of, operation_number, pair_number, holder_number, holder_numbers_of}
use Rattle.model.specs.Ties.{Tie, Ties, closes_circle}
use Rattle.model.specs.State.{State, tie_of}
use Rattle.model.specs.Block.{Block, Entry, read_block, activated}
use Rattle.model.specs.Session.{held}

-- a number and its condition
infix 70 ◌if◌
pub data Test : Type 0 where
  ◌if◌ : ℕ → Bool → Test

-- "Lower numbers win within a line or call": the number of the first condition that holds, or 0
abbrev pub first : List Test → ℕ
first [] = 0
first ((n if true) ∷ tests) = n
first ((n if false) ∷ tests) = first tests

-- ---- Host

-- "1: table not 1,024 words, any call"; document 02, E5: "refusal 1 tests the length of the book's edition"
unfoldable pub wrong_table : Edition → ℕ → Bool
wrong_table e words = not (eqb words (table_words e))

-- ---- Ticket office, file

-- "2: over 32,768 bytes"
unfoldable pub too_long : Bytes → Bool
too_long file = ltb file_bytes (length file)

-- "3: first line, with its byte 10, wrong or missing"
unfoldable pub wrong_first_line : Bytes → Bool
wrong_first_line file = is_none (behind (first_line (named_edition file)) file)

-- ---- Ticket office, file or edit. A line is given with its byte 10

-- "4: line too long, no byte 10 or bytes after it, no `=`, unknown key (a later `rights` too)"
unfoldable pub unframed : Bytes → Bool
unframed line = is_none (framed line)

-- "5: key before its predecessor's": that of the line before, if it has one
unfoldable pub out_of_order : Option Key → Bytes → Bool
out_of_order previous line = framed line is λ (key, fields). previous is λ p. ltb (rank key) (rank p)

-- "6: field count, SRC, TYPE, name, atom or policy malformed, the policy judged without the limits of 7; `{}` and sets of two types are 6"
unfoldable pub malformed : Bytes → Bool
malformed line = framed line is λ (key, fields). is_none (read_fields key fields)

-- "7: more than 16 terms, depth over 8 or a set over 8"
abbrev pub over_limits : Line → Bool
over_limits (attr s n t) = false
over_limits (op n) = false
over_limits (atom s n a) = false
over_limits (holder s n) = false
over_limits (parent c g) = false
over_limits (member p g) = false
over_limits (value h n a) = false
over_limits (rule o ts) = read_policy ts is too_large

abbrev pub unknown_name : Declarations → Token → Bool
unknown_name D t = as_name t is λ (s, n). is_none (attribute_number D s n)

-- "8: undeclared name or pair (for value: no such pair of the attribute source that the holder's sort fixes)"
abbrev pub undeclared : Declarations → Line → Bool
undeclared D (attr s n t) = false
undeclared D (op n) = false
undeclared D (atom s n a) = is_none (attribute_number D s n)
undeclared D (holder s n) = false
undeclared D (parent c g) = is_none (tie_of D (parent c g))
undeclared D (member p g) = is_none (tie_of D (member p g))
undeclared D (value h n a) = is_none (tie_of D (value h n a))
undeclared D (rule o ts) = is_none (operation_number D o) || any_of (unknown_name D) ts

-- the two holders are of sorts that fit: the upper one's is the one that `above` gives for the lower one's
unfoldable pub fits : (Sort → Option Sort) → Declarations → Bytes → Bytes → Bool
fits above D lower upper =
    (holder_number D lower >>= sort_of D >>= above) is λ wanted. (holder_number D upper >>= sort_of D) is is_sort wanted

-- "9: parent or member of the wrong sort, env or connect str, atom of env or connect or of the wrong type"
abbrev pub wrong_sort : Declarations → Line → Bool
wrong_sort D (attr s n t) = from_block s && same_type t AtomType.str
wrong_sort D (op n) = false
wrong_sort D (atom s n a) = from_block s || (attribute_of D s n is λ b. not (same_type b.type (type_of a)))
wrong_sort D (holder s n) = false
wrong_sort D (parent c g) = not (fits parent_sort D c g)
wrong_sort D (member p g) = not (fits group_sort D p g)
wrong_sort D (value h n a) = false
wrong_sort D (rule o ts) = false

-- whether the tie of a line stands
unfoldable pub stands : State → Line → Bool
stands S l = tie_of S.declared l is S.ties

-- "10: already declared or standing"; of a rule "a repeat is allowed"
abbrev pub repeated : State → Line → Bool
repeated S (attr s n t) = not (is_none (attribute_number S.declared s n))
repeated S (op n) = not (is_none (operation_number S.declared n))
repeated S (atom s n a) = not (is_none (pair_number S.declared s n a))
repeated S (holder s n) = not (is_none (holder_number S.declared n))
repeated S (parent c g) = stands S (parent c g)
repeated S (member p g) = stands S (member p g)
repeated S (value h n a) = stands S (value h n a)
repeated S (rule o ts) = false

-- "11: table of that key full"; groups of both sorts share one table
abbrev pub full : Declarations → Line → Bool
full D (attr s n t) = leb attribute_limit (length D.attributes)
full D (op n) = leb operation_limit (length D.operations)
full D (atom s n a) = leb pair_limit (length D.pairs)
full D (holder s n) = leb (holder_numbers D.edition) (length (holder_numbers_of D)) || is_group s && leb group_limit (groups D)
full D (parent c g) = false
full D (member p g) = false
full D (value h n a) = false
full D (rule o ts) = leb rule_limit (length D.rules)

abbrev pub tie_closes : List ℕ → Ties → Tie → Bool
tie_closes hs T (Tie.parent child g) = closes_circle hs T child g
tie_closes hs T (Tie.member party g) = false
tie_closes hs T (Tie.value h p) = false

-- "12: parent tie that closes a circle, itself included"
unfoldable pub circular : State → Line → Bool
circular S l = tie_of S.declared l is tie_closes (holder_numbers_of S.declared) S.ties

-- the tests of a file's line, behind one whose key is `previous`
abbrev pub line_tests : State → Option Key → Bytes → List Test
line_tests S previous line =
    let l = read_line line in
    (refusal.unframed if unframed line
    ∷ refusal.out_of_order if out_of_order previous line
    ∷ refusal.malformed if malformed line
    ∷ refusal.over_limits if (l is over_limits)
    ∷ refusal.undeclared if (l is undeclared S.declared)
    ∷ refusal.wrong_sort if (l is wrong_sort S.declared)
    ∷ refusal.repeated if (l is repeated S)
    ∷ refusal.full if (l is full S.declared)
    ∷ refusal.circular if (l is circular S)
    ∷ [])

-- "Lower numbers win within a line or call"
unfoldable pub line_refusal : State → Option Key → Bytes → ℕ
line_refusal S previous line = first (line_tests S previous line)

-- ---- Office, edits only

-- "`+` or `-` before one whole parent, member or value line with its byte 10": the line behind each sign
abbrev pub plus_line : Bytes → Option Bytes
plus_line edit = behind (bytes "+") edit

abbrev pub minus_line : Bytes → Option Bytes
minus_line edit = behind (bytes "-") edit

-- the line behind either sign
abbrev pub signed_line : Bytes → Option Bytes
signed_line edit = plus_line edit or_else minus_line edit

-- "13: another known key"
unfoldable pub other_key : Bytes → Bool
other_key line = framed line is λ (key, fields). not (is_tie_key key)

-- "14: `-` of a tie not standing"
unfoldable pub not_standing : State → Line → Bool
not_standing S l = not (stands S l)

-- the tests of an edit, 4 for "edit sign missing" too; 13 "comes after 4, before the rest", "A `-` line never gets 10 or 12". 5 and 11 are "file only", and 7
-- is of rule lines, which get 13
abbrev pub edit_tests : State → Bytes → List Test
edit_tests S edit =
    let line = signed_line edit in
    let l = line >>= read_line in
    (refusal.unframed if (is_none line || (line is unframed))
    ∷ refusal.other_key if (line is other_key)
    ∷ refusal.malformed if (line is malformed)
    ∷ refusal.undeclared if (l is undeclared S.declared)
    ∷ refusal.wrong_sort if (l is wrong_sort S.declared)
    ∷ refusal.repeated if ((plus_line edit >>= read_line) is repeated S)
    ∷ refusal.circular if ((plus_line edit >>= read_line) is circular S)
    ∷ refusal.not_standing if ((minus_line edit >>= read_line) is not_standing S)
    ∷ [])

-- the number of an edit; 0 where it is accepted
unfoldable pub edit_refusal : State → Bytes → ℕ
edit_refusal S edit = first (edit_tests S edit)

-- ---- Gate

-- "15: byte 0, 8, 9 or length wrong"
unfoldable pub bad_block : Bytes → Bool
bad_block block = is_none (read_block block)

-- "entry not env or connect, bool above 1"
abbrev pub bool_above_one : AtomType → ℕ → Bool
bool_above_one AtomType.int v = false
bool_above_one AtomType.str v = false
bool_above_one AtomType.bool v = ltb 1 v

unfoldable pub entry_fits : Declarations → Entry → Bool
entry_fits D e = nth D.attributes e.attribute is λ a. from_block a.source && not (bool_above_one a.type e.value)

-- "16: unknown or wrong-sort number, entry not env or connect, bool above 1"
unfoldable pub wrong_number : Declarations → Block → Bool
wrong_number D b =
    not (sort_of D b.user is is_sort Sort.user)
    || not (sort_of D b.object is is_sort Sort.object)
    || leb (length D.operations) b.operation
    || not (all_of (entry_fits D) b.entries)

-- whether attribute k is a user attribute of which the user has a value
unfoldable pub is_held : State → Block → ℕ → Bool
is_held S b k =
    nth S.declared.attributes k is λ a.
    same_source a.source Source.user && ltb 0 (length (held S b.user Source.user a.name))

-- "17: activated bit that is no user attribute held by that user"
unfoldable pub not_held : State → Block → Bool
not_held S b = any_of (λ k. activated b k && not (is_held S b k)) (below mask_bits)

-- the tests of a request
abbrev pub request_tests : State → Bytes → List Test
request_tests S block =
    let b = read_block block in
    (refusal.bad_block if bad_block block
    ∷ refusal.wrong_number if (b is wrong_number S.declared)
    ∷ refusal.not_held if (b is not_held S)
    ∷ [])

unfoldable pub request_refusal : State → Bytes → ℕ
request_refusal S block = first (request_tests S block)

-- ---- Writer

-- document 02, E1: "18, the writer's only one, when the text is longer than the buffer or than 32,768 bytes", and E14: "precisely when this length is over its
-- buffer or over 32,768". Both by their lengths
unfoldable pub does_not_fit : ℕ → ℕ → Bool
does_not_fit text buffer = ltb buffer text || ltb file_bytes text
