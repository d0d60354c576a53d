-- The fields and lines that the words of a book and the bytes of its rules spell: of what is declared, and of rules. On any words, so that code is compared
-- with words alone. That these are the lines of the state that a book holds is told by `BookDeclared`, `BookHolders` and `BookRules`.
use Rattle.std.specs.Prelude.{ℕ, zero, suc, ◌+◌, ◌-◌, ◌*◌, ◌%◌, min, Bool, false, ◌&&◌, ◌||◌, List, [], ◌∷◌, ◌++◌, get_or, take, drop, eqb, leb}
use Rattle.model.specs.Notation.{if◌then◌otherwise◌, map, each, below}
use Rattle.model.specs.Limits.{attribute_limit, operation_limit, pair_limit, rule_limit}
use Rattle.model.specs.Bytes.{Bytes, bytes, newline}
use Rattle.model.specs.Atoms.{decimal, quoted}
use Rattle.model.specs.Block.{number, value_at}
use Rattle.output.specs.Laid.{word_text}
use Rattle.index.specs.Index.{row_place}
use Rattle.book.specs.Sections as section
use Rattle.book.specs.Sections.{book_holders, code_bytes}

-- ---- words of the format, each packed in a word of a table; the number that a book has for it is its place

abbrev pub key_words : List ℕ
key_words = map number (bytes "" ∷ bytes "attr=" ∷ bytes "op=" ∷ bytes "atom=" ∷ bytes "ugroup=" ∷ bytes "ogroup=" ∷ bytes "user=" ∷ bytes "object=" ∷ bytes "parent=" ∷ bytes "member=" ∷ bytes "value=" ∷ bytes "rule=" ∷ [])

abbrev pub source_words : List ℕ
source_words = map number (bytes "" ∷ bytes "user" ∷ bytes "object" ∷ bytes "admin" ∷ bytes "env" ∷ bytes "connect" ∷ [])

abbrev pub type_words : List ℕ
type_words = map number (bytes "" ∷ bytes "int" ∷ bytes "str" ∷ bytes "bool" ∷ [])

abbrev pub bool_words : List ℕ
bool_words = map number (bytes "FALSE" ∷ bytes "TRUE" ∷ [])

-- the tokens that carry nothing, by their kinds
abbrev pub token_words : List ℕ
token_words = map number (bytes "" ∷ bytes "" ∷ bytes "" ∷ bytes "" ∷ bytes "" ∷ bytes "(" ∷ bytes ")" ∷ bytes "{" ∷ bytes "}" ∷ bytes "," ∷ bytes "AND" ∷ bytes "OR" ∷ bytes "NOT" ∷ bytes "FALSE" ∷ bytes "UNDEF" ∷ bytes "TRUE" ∷ bytes "=" ∷ bytes "IN" ∷ bytes "!=" ∷ bytes "SUBSET" ∷ bytes "<" ∷ bytes "<=" ∷ bytes ">" ∷ bytes ">=" ∷ [])

-- the word at a place of a table; nothing behind its end
unfoldable pub listed_text : List ℕ → ℕ → Bytes
listed_text table k = word_text 8 (get_or table k 0)

-- ---- places of a book

abbrev pub attribute_at : ℕ → ℕ
attribute_at k = (section.attributes).start + 8 * k

abbrev pub operation_at : ℕ → ℕ
operation_at k = (section.operations).start + 2 * k

abbrev pub pair_at : ℕ → ℕ
pair_at p = (section.pairs).start + row_place pair_limit 0 + 4 * p

-- a holder's name
abbrev pub holder_at : ℕ → ℕ
holder_at k = (section.holders).start + row_place book_holders 0 + 1 + 4 * k

-- how many there are of something, by a word of the counts; never more than there can be
abbrev pub counted : List ℕ → ℕ → ℕ → ℕ
counted book k limit = min (get_or book k 0) limit

-- ---- names and atoms

-- the name in the two words from a place on
unfoldable pub name_text : List ℕ → ℕ → Bytes
name_text book at = word_text 8 (get_or book at 0) ++ word_text 8 (get_or book (at + 1) 0)

-- the string in the three words from a place on
unfoldable pub string_text : List ℕ → ℕ → Bytes
string_text book at = name_text book at ++ word_text 8 (get_or book (at + 2) 0)

-- the atom in the three words from a place on, by the number of its type
unfoldable pub atom_text : List ℕ → ℕ → ℕ → Bytes
atom_text book type at =
    if eqb type 1 then decimal (get_or book at 0 % 4294967296)
    otherwise (if eqb type 2 then quoted (string_text book at) otherwise listed_text bool_words (get_or book at 0))

-- SRC.NAME of the attribute whose row is at a place
unfoldable pub attribute_text : List ℕ → ℕ → Bytes
attribute_text book row = listed_text source_words (get_or book row 0) ++ (bytes "." ++ name_text book (row + 2))

-- the name of holder k
abbrev pub name_of_holder : List ℕ → ℕ → Bytes
name_of_holder book k = name_text book (holder_at k)

-- where the row of a pair's attribute is: the pair has one more than its number
abbrev pub row_of_pair : List ℕ → ℕ → ℕ
row_of_pair book p = attribute_at (get_or book (pair_at p) 0 % 64) - 8

-- the atom of a pair, of the type of its attribute
abbrev pub pair_atom_text : List ℕ → ℕ → Bytes
pair_atom_text book p = atom_text book (get_or book (row_of_pair book p + 1) 0) (pair_at p + 1)

-- ---- lines of declarations

abbrev pub line_end : Bytes
line_end = newline ∷ []

unfoldable pub attribute_line_text : List ℕ → ℕ → Bytes
attribute_line_text book k =
    listed_text key_words 1
    ++ (listed_text source_words (get_or book (attribute_at k) 0)
    ++ (bytes "," ++ (name_text book (attribute_at k + 2) ++ (bytes "," ++ (listed_text type_words (get_or book (attribute_at k + 1) 0) ++ line_end)))))

unfoldable pub operation_line_text : List ℕ → ℕ → Bytes
operation_line_text book k = listed_text key_words 2 ++ (name_text book (operation_at k) ++ line_end)

unfoldable pub pair_line_text : List ℕ → ℕ → Bytes
pair_line_text book p = listed_text key_words 3 ++ (attribute_text book (row_of_pair book p) ++ (bytes "," ++ (pair_atom_text book p ++ line_end)))

-- the line of holder k, if it is of that sort
unfoldable pub holder_line_text : List ℕ → ℕ → ℕ → Bytes
holder_line_text book sort k =
    if eqb (get_or book ((section.sorts).start + k) 0) sort then listed_text key_words sort ++ (name_of_holder book k ++ line_end) otherwise []

-- the lines before the holders
abbrev pub declared_text : List ℕ → Bytes
declared_text book =
    each (attribute_line_text book) (below (counted book 0 attribute_limit))
    ++ (each (operation_line_text book) (below (counted book 1 operation_limit))
    ++ each (pair_line_text book) (below (counted book 2 pair_limit)))

-- how many holders there are
abbrev pub holder_count : List ℕ → ℕ
holder_count book = counted book 3 book_holders

-- the lines of holders of a sort, by the number of its key
abbrev pub sort_text : List ℕ → ℕ → Bytes
sort_text book sort = each (holder_line_text book sort) (below (holder_count book))

-- the lines of all holders, key by key
abbrev pub holders_text : List ℕ → Bytes
holders_text book = sort_text book 4 ++ (sort_text book 5 ++ (sort_text book 6 ++ sort_text book 7))

-- ---- rules

-- whether the tokens of a kind are words
unfoldable pub word_kind : ℕ → Bool
word_kind k = eqb k 1 || eqb k 4 || (leb 10 k && leb k 15) || eqb k 17 || eqb k 19

-- the bytes of the string at a place of rule code
abbrev pub code_string : Bytes → ℕ → Bytes
code_string code place = take (get_or code (place + 1) 0) (drop (place + 2) code)

-- what goes with a kind of token: that of numbers, of strings, of names, and of those that carry nothing
abbrev pub by_kind : {A : Type 0} → ℕ → A → A → A → A → A
by_kind kind int str name plain = if eqb kind 1 then int otherwise (if eqb kind 2 then str otherwise (if eqb kind 4 then name otherwise plain))

-- the token at a place of rule code
unfoldable pub token_text : List ℕ → Bytes → ℕ → Bytes
token_text book code place =
    by_kind (get_or code place 0) (decimal (value_at code (place + 1))) (quoted (code_string code place)) (attribute_text book (attribute_at (get_or code (place + 1) 0)))
    (listed_text token_words (get_or code place 0))

-- how many bytes it takes
unfoldable pub size_at : Bytes → ℕ → ℕ
size_at code place = by_kind (get_or code place 0) 5 (get_or code (place + 1) 0 + 2) 2 1

-- the space before a token of a kind, behind a word or behind none
unfoldable pub gap_text : Bool → ℕ → Bytes
gap_text word kind = if (word && word_kind kind) then bytes " " otherwise []

-- the tokens from a place on, up to the first that is none; n at most
unfoldable pub code_text : ℕ → Bool → List ℕ → Bytes → ℕ → Bytes
code_text zero word book code place = []
code_text (suc n) word book code place =
    if eqb (get_or code place 0) 0 then []
    otherwise (gap_text word (get_or code place 0) ++ (token_text book code place ++ code_text n (word_kind (get_or code place 0)) book code (place + size_at code place)))

-- the policy of a rule's code
abbrev pub policy_text : List ℕ → Bytes → Bytes
policy_text book code = code_text code_bytes false book code 0

unfoldable pub rule_line_text : List ℕ → Bytes → ℕ → Bytes
rule_line_text book rules k =
    listed_text key_words 11
    ++ (name_text book (operation_at (get_or book ((section.rules).start + k) 0 % 8)) ++ (bytes "," ++ (policy_text book (take code_bytes (drop (code_bytes * k) rules)) ++ line_end)))

-- the lines of all rules
abbrev pub rules_text : List ℕ → Bytes → Bytes
rules_text book rules = each (rule_line_text book rules) (below (counted book 5 rule_limit))
