-- The tokens of a policy.
use Rattle.std.specs.Prelude.{ℕ, zero, suc, ◌≡◌, Bool, true, false, ◌&&◌, ◌||◌, not, List, [], ◌∷◌, ◌++◌, length, leb}
use Rattle.std.proofs.Math.Option.{Option, none, some}
use Rattle.model.specs.Notation.{if◌then◌otherwise◌, ◌>>=◌, ◌or_else◌, ◌is◌, only_if, is_empty, all_of}
use Rattle.model.specs.Bytes.{Bytes, bytes, same, is_byte, in_range, cut_at, behind, one_of}
use Rattle.model.specs.Limits.{largest_int}
use Rattle.model.specs.Names.{is_name, read_name}
use Rattle.model.specs.Attributes.{Source, source_word, read_source}
use Rattle.model.specs.Atoms.{Atom, decimal, read_int, quoted, is_text}
use Rattle.model.specs.Truth.{Truth, truth_word}

-- "operators `= != < <= > >= IN SUBSET`"
pub data Operator : Type 0 where
  equal unequal less at_most greater at_least IN SUBSET : Operator

-- the joining words, "parentheses", and the "braces and commas" of a set
pub data Mark : Type 0 where
  AND OR NOT lparen rparen lbrace rbrace comma : Mark

-- "Tokens: names `SRC.NAME`, atoms, set `{a, b}` …, words in capitals, operators …, parentheses"
pub data Token : Type 0 where
  name : Source → Bytes → Token
  int : ℕ → Token
  str : Bytes → Token
  truth : Truth → Token
  operator : Operator → Token
  mark : Mark → Token

-- a name's source and name; none for another token
abbrev pub as_name : Token → Option (Source × Bytes)
as_name (name s n) = some (s, n)
as_name (int n) = none
as_name (str s) = none
as_name (truth t) = none
as_name (operator o) = none
as_name (mark m) = none

-- "int or str constant"; "TRUE and FALSE are no var, so no set holds them"
abbrev pub as_constant : Token → Option Atom
as_constant (name s n) = none
as_constant (int n) = some (Atom.int n)
as_constant (str s) = some (Atom.str s)
as_constant (truth t) = none
as_constant (operator o) = none
as_constant (mark m) = none

-- a truth value; none for another token
abbrev pub as_truth : Token → Option Truth
as_truth (name s n) = none
as_truth (int n) = none
as_truth (str s) = none
as_truth (truth t) = some t
as_truth (operator o) = none
as_truth (mark m) = none

-- an operator; none for another token
abbrev pub as_operator : Token → Option Operator
as_operator (name s n) = none
as_operator (int n) = none
as_operator (str s) = none
as_operator (truth t) = none
as_operator (operator o) = some o
as_operator (mark m) = none

-- a mark; none for another token
abbrev pub as_mark : Token → Option Mark
as_mark (name s n) = none
as_mark (int n) = none
as_mark (str s) = none
as_mark (truth t) = none
as_mark (operator o) = none
as_mark (mark m) = some m

-- the tokens that can be written: names, ints and strs are well formed
abbrev pub is_token : Token → Bool
is_token (name s n) = is_name n
is_token (int n) = leb n largest_int
is_token (str s) = is_text s
is_token (truth t) = true
is_token (operator o) = true
is_token (mark m) = true

abbrev pub operator_word : Operator → Bytes
operator_word equal = bytes "="
operator_word unequal = bytes "!="
operator_word less = bytes "<"
operator_word at_most = bytes "<="
operator_word greater = bytes ">"
operator_word at_least = bytes ">="
operator_word IN = bytes "IN"
operator_word SUBSET = bytes "SUBSET"

abbrev pub mark_word : Mark → Bytes
mark_word AND = bytes "AND"
mark_word OR = bytes "OR"
mark_word NOT = bytes "NOT"
mark_word lparen = bytes "("
mark_word rparen = bytes ")"
mark_word lbrace = bytes "{"
mark_word rbrace = bytes "}"
mark_word comma = bytes ","

-- how a token is written
abbrev pub spelling : Token → Bytes
spelling (name s n) = source_word s ++ bytes "." ++ n
spelling (int n) = decimal n
spelling (str s) = quoted s
spelling (truth t) = truth_word t
spelling (operator o) = operator_word o
spelling (mark m) = mark_word m

-- the "words in capitals"
abbrev pub capitals : List Token
capitals =
    mark AND ∷ mark OR ∷ mark NOT ∷ truth Truth.TRUE ∷ truth Truth.FALSE ∷ truth Truth.UNDEF ∷ operator IN ∷ operator SUBSET ∷ []

-- the tokens of one or two bytes that are no words; "operators are read longest first"
abbrev pub signs : List Token
signs =
    operator unequal ∷ operator at_most ∷ operator at_least ∷ operator equal ∷ operator less ∷ operator greater
    ∷ mark lparen ∷ mark rparen ∷ mark lbrace ∷ mark rbrace ∷ mark comma ∷ []

-- a token and the bytes behind it
abbrev pub Read : Type 0
Read = Option (Token × Bytes)

-- "letters, digits, `_` and `.`"
abbrev pub word_byte : ℕ → Bool
word_byte b = in_range "a" "z" b || in_range "A" "Z" b || in_range "0" "9" b || is_byte "_" b || is_byte "." b

-- "A run of letters, digits, `_` and `.` is one word": the run at the front, and what stands behind it
abbrev pub run : Bytes → Bytes × Bytes
run [] = ([], [])
run (x ∷ xs) = if word_byte x then (let (w, r) = run xs in (x ∷ w, r)) otherwise ([], x ∷ xs)

-- "names `SRC.NAME`"
unfoldable pub read_attribute_name : Bytes → Option Token
read_attribute_name w = do
  (s, n) ← cut_at "." w
  source ← read_source s
  name' ← read_name n
  some (name source name')

-- a word: one in capitals, an int or a name
unfoldable pub read_word : Bytes → Option Token
read_word w = one_of spelling capitals w or_else (read_int w >>= λ n. some (int n)) or_else read_attribute_name w

-- a str, behind its first quote
unfoldable pub read_text : Bytes → Read
read_text r = do
  (s, rest) ← cut_at "\"" r
  only_if (is_text s) (str s, rest)

-- the first of the tokens that stands at the front
abbrev pub read_sign : List Token → Bytes → Read
read_sign [] s = none
read_sign (t ∷ ts) s = (behind (spelling t) s >>= λ rest. some (t, rest)) or_else read_sign ts s

-- the token at the front
unfoldable pub read_token : Bytes → Read
read_token s =
    let (w, rest) = run s in
    if is_empty w then ((behind (bytes "\"") s >>= read_text) or_else read_sign signs s) otherwise (read_word w >>= λ t. some (t, rest))

-- "Byte 32 may stand, any number of times, before, between and after tokens". Each token has a byte, so there are at most n in n bytes
abbrev pub tokens_within : ℕ → Bytes → Option (List Token)
tokens_within zero s = only_if (is_empty s) []
tokens_within (suc n) [] = some []
tokens_within (suc n) (x ∷ xs) =
    if is_byte " " x then tokens_within n xs otherwise (read_token (x ∷ xs) >>= λ (t, rest). tokens_within n rest >>= λ ts. some (t ∷ ts))

unfoldable pub tokens_of : Bytes → Option (List Token)
tokens_of s = tokens_within (length s) s

-- whether a token is a word: "A run of letters, digits, `_` and `.` is one word"
abbrev pub is_word : Token → Bool
is_word t = all_of word_byte (spelling t)

-- whether a token is that operator
abbrev pub is_operator : Operator → Token → Bool
is_operator o t = as_operator t is λ p. same (operator_word o) (operator_word p)

-- two tokens that may stand without byte 32 between them: two words would be one word, and `<` or `>` before `=` would be one operator,
-- as "operators are read longest first"
abbrev pub may_touch : Token → Token → Bool
may_touch t u = not (is_word t && is_word u) && not ((is_operator less t || is_operator greater t) && is_operator equal u)

abbrev pub begins_with_space : Bytes → Bool
begins_with_space [] = false
begins_with_space (x ∷ s) = is_byte " " x

-- whether a token may stand right before bytes that spell tokens: those that may not touch are parted by byte 32
abbrev pub may_follow : Token → List Token → Bytes → Bool
may_follow t [] s = true
may_follow t (u ∷ ts) s = may_touch t u || begins_with_space s

-- Spells ts s: the bytes s spell the tokens ts. "Byte 32 may stand, any number of times, before, between and after tokens"
pub data Spells : List Token → Bytes → Type 0 where
  no-token : Spells [] []
  a-space : {ts : List Token} {s : Bytes} → Spells ts s → Spells ts (bytes " " ++ s)
  a-token : (t : Token) {ts : List Token} {s : Bytes} → Spells ts s → may_follow t ts s ≡ true → Spells (t ∷ ts) (spelling t ++ s)

-- document 02, E1: "Rules keep their tokens; one space stands only between two neighbouring words". Whether the token before is a word is told first
abbrev pub gap : Bool → Token → Bytes
gap word t = if (word && is_word t) then bytes " " otherwise []

-- tokens behind a word, or behind none
abbrev pub spelled_behind : Bool → List Token → Bytes
spelled_behind word [] = []
spelled_behind word (t ∷ ts) = gap word t ++ (spelling t ++ spelled_behind (is_word t) ts)

-- the canonical spelling of tokens
unfoldable pub spelled : List Token → Bytes
spelled ts = spelled_behind false ts
