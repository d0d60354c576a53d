-- What the fields of a line, a line and a file do to a book. Assumes nothing: these are definitions.
use Rattle.std.specs.Prelude as std
use Rattle.std.specs.Prelude.{ℕ, Result, ◌+◌, ◌<◌, ◌≤◌, ◌≡◌, Bool, true, false, not, List, [], ◌∷◌, eqb, leb, length, take, drop, set}
use Rattle.std.proofs.Math.Option.{Option, none, some}
use Rattle.model.specs.Numbers as refusal
use Rattle.model.specs.Limits.{Edition, rule_limit}
use Rattle.model.specs.Bytes.{Bytes, newline, lines_of}
use Rattle.model.specs.Tokens.{Token, tokens_of}
use Rattle.model.specs.Keys as keys
use Rattle.model.specs.Keys.{is_tie_key}
use Rattle.model.specs.Lines.{Line, read_holder, read_fields, read_line}
use Rattle.model.specs.Declarations.{Declarations, Sort, is_sort}
use Rattle.model.specs.State.{State, empty}
use Rattle.model.specs.Refusals.{Test, ◌if◌, first, line_refusal}
use Rattle.model.specs.Load.{Loaded, stepped, key_of, read_on}
use Rattle.model.specs.Standing.{WellDeclared, Standing}
use Rattle.codes.specs.declared.Key.{Key}
use Rattle.codes.specs.declared.Refusal.{Refusal}
use Rattle.codes.specs.Codes.{coded, key_code}
use Rattle.codes.specs.Enums.{key_number, key_for, number_in}
use Rattle.text.specs.Parts.{FirstAt}
use Rattle.rows.specs.Rows.{AttributeRows}
use Rattle.tokens.specs.RuleCode.{Coded}
use Rattle.policy.specs.Judgements.{policy_number}
use Rattle.compile.specs.Compiled.{Compiled}
use Rattle.book.specs.Sections as section
use Rattle.book.specs.Sections.{rows_bytes}
use Rattle.book.specs.Held.{sort_code, code_of_rule, rows_of_rule, Holds}
use Rattle.book.specs.Steps.{later_tests}
use Rattle.file.specs.declared.Refused.{Refused}
use Rattle.file.specs.LoadAnswers.{load_number, load_line}

-- ---- fields

-- what a line is refused for whose fields read as `o`: 6 where they do not read
abbrev pub fields_refusal : State → Option Line → ℕ
fields_refusal S none = refusal.malformed
fields_refusal S (some l) = first (later_tests S l)

-- r is what a line is refused for whose fields read as `o`, whatever standing state the book holds; where it is for nothing, the book then holds the state with it
abbrev pub FieldsRead : List ℕ → Bytes → Option Line → List ℕ → Bytes → ℕ → Type 0
FieldsRead book code o book' code' r =
    (S : State) → Standing S → Holds book code S → (r ≡ fields_refusal S o) × (r ≡ 0 → Holds book' code' (stepped S o))

-- the same for fields that leave the rules' bytes as they are
abbrev pub KeyRead : List ℕ → Option Line → List ℕ → ℕ → Type 0
KeyRead book o book' r = (code : Bytes) → FieldsRead book code o book' code r

-- ---- rules

-- n is what the policy s alone is refused for, whatever declarations the rows are those of; rule k, where there can be one, has the code of its
-- tokens, the rules before it have the code that they had, and no rows change
pub record RuleJudged (s : Bytes) (rows : List ℕ) (k : ℕ) (code code' : Bytes) (n : ℕ) : Type 0 where
  pub number : (D : Declarations) → WellDeclared D → AttributeRows rows D → n ≡ policy_number D s
  pub before : (i : ℕ) → i < k → code_of_rule code' i ≡ code_of_rule code i
  pub rows_stay : (i : ℕ) → i < rule_limit → rows_of_rule code' i ≡ rows_of_rule code i
  pub here : k < rule_limit → (D : Declarations) → WellDeclared D → AttributeRows rows D → (ts : List Token) → tokens_of s ≡ some ts → Coded D (code_of_rule code' k) 0 ts

-- rule k has the rows of its terms, those before it have what they had, and no code changes
pub record RuleCompiled (attributes : List ℕ) (k : ℕ) (code code' : Bytes) : Type 0 where
  pub codes-stay : (i : ℕ) → i < rule_limit → code_of_rule code' i ≡ code_of_rule code i
  pub before : (i : ℕ) → i < k → rows_of_rule code' i ≡ rows_of_rule code i
  pub here : Compiled (code_of_rule code k) attributes (rows_of_rule code' k)
  pub rows_long : length (rows_of_rule code' k) ≡ rows_bytes
  pub long : length code' ≡ length code

-- the tests of a rule, by what its policy alone is refused for, whether its operation is missing, and the number of rules
abbrev pub rule_tests : ℕ → Bool → ℕ → List Test
rule_tests policy missing rules = policy if not (eqb policy 0) ∷ refusal.undeclared if missing ∷ refusal.full if leb rule_limit rules ∷ []

-- the operation's number of rule k, and the count with it
unfoldable pub rule_put : List ℕ → ℕ → ℕ → List ℕ
rule_put book k operation = set (set book ((section.rules).start + k) operation) 5 (k + 1)

-- ---- lines

-- the fields of a tie line, by its key
abbrev pub TieRead : List ℕ → Key → Bytes → List ℕ → ℕ → Type 0
TieRead book key f book' r = (k : keys.Key) → is_tie_key k ≡ true → key ≡ key_for k → KeyRead book (read_fields k f) book' r

-- the name of a holder, by the key of its sort
abbrev pub HolderRead : List ℕ → Key → Bytes → List ℕ → ℕ → Type 0
HolderRead book key f book' r = (s : Sort) → is_sort s Sort.admin ≡ false → key_number key ≡ sort_code s → KeyRead book (read_holder s f) book' r

-- the fields of a key
abbrev pub FieldsOf : List ℕ → Bytes → Key → Bytes → List ℕ → Bytes → ℕ → Type 0
FieldsOf book code key f book' code' r = (k : keys.Key) → key ≡ key_for k → FieldsRead book code (read_fields k f) book' code' r

-- what a line is refused for behind one whose key has the number `previous`, 0 for none; or its key and the state with the line
abbrev pub LineRead : List ℕ → Bytes → Bytes → ℕ → List ℕ → Bytes → Result Key Refusal → Type 0
LineRead book code line previous book' code' r =
    (S : State) → Standing S → Holds book code S → (p : Option keys.Key) → previous ≡ coded key_code p
    → (number_in r ≡ line_refusal S p line)
    × ((key : Key) → r ≡ std.Ok key → Holds book' code' (stepped S (read_line line)) × (key_number key ≡ coded key_code (key_of line)))

-- ---- files

-- the first line of s, with its byte 10 where it has one, at `end`, and what stands behind it
pub record FirstLine (s line : Bytes) (end : std.Option ℕ) (behind : Bytes) : Type 0 where
  pub ended : FirstAt newline line end
  pub lines : 0 < length s → lines_of s ≡ line ∷ lines_of behind
  pub shorter : 0 < length s → length behind < length s

-- the number and the line of an answer; where the number is 0, the book holds its state
pub record LoadedAs (answer : Loaded) (book : List ℕ) (code : Bytes) (r : Result ℕ Refused) : Type 0 where
  pub number_is : load_number r ≡ answer.number
  pub line-is : load_line r ≡ answer.line
  pub holds : load_number r ≡ 0 → Holds book code answer.state

-- the lines behind the first, from the empty state on; the first edition is the only one that is read
abbrev pub OthersRead : List ℕ → Bytes → Bytes → List ℕ → Bytes → Result ℕ Refused → Type 0
OthersRead book code rest book' code' r =
    Holds book code (empty Edition.first) → LoadedAs (read_on Edition.first (empty Edition.first) none 1 (lines_of rest)) book' code' r
