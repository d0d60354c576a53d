-- The office program: what it prints for an input.
use Rattle.std.specs.Prelude.{ℕ, ◌+◌, ◌*◌, ◌-◌, Bool, List, [], ◌∷◌, ◌++◌, length, ltb}
use Prim.Native.Char.{code}
use Rattle.std.proofs.Math.Option.{Option, none, some}
use Rattle.model.specs.Notation.{if◌then◌otherwise◌, ◌>>=◌, ◌or_else◌, only_if, map}
use Rattle.model.specs.Limits.{Edition, input_bytes, table_words}
use Rattle.model.specs.Numbers as refusal
use Rattle.model.specs.Bytes.{Bytes, bytes, same, behind, lines_of, content, in_range}
use Rattle.model.specs.Atoms.{decimal}
use Rattle.model.specs.Lines.{named_edition}
use Rattle.model.specs.State.{State, empty}
use Rattle.model.specs.Refusals.{signed_line}
use Rattle.model.specs.Causes.{cause_word}
use Rattle.model.specs.Decision.{Decision, permit, deny, undefined, refused}
use Rattle.model.specs.Ledger.{Call, Answer, loaded, edited, decided, step}

-- a line without its byte 10, if it has one: "A last `end=` or `try=` line needs no byte 10"
abbrev pub bare : Bytes → Bytes
bare line = elim (content line) [ some l ↦ l | none ↦ line ]

-- "a line `end=`"
unfoldable pub is_end : Bytes → Bool
is_end line = same (bare line) (bytes "end=")

-- "file lines, a line `end=`, then …"; "Without `end=` all is file"
abbrev pub file_of : List Bytes → Bytes
file_of [] = []
file_of (l ∷ ls) = if is_end l then [] otherwise l ++ file_of ls

abbrev pub commands_of : List Bytes → List Bytes
commands_of [] = []
commands_of (l ∷ ls) = if is_end l then ls otherwise commands_of ls

-- "lower-case hex": the value of a digit
abbrev pub hex_digit : ℕ → Option ℕ
hex_digit b = only_if (in_range "0" "9" b) (b - code "0") or_else only_if (in_range "a" "f" b) (10 + (b - code "a"))

-- "the block in lower-case hex pairs"
unfoldable pub hex_pairs : Bytes → Option Bytes
hex_pairs [] = some []
hex_pairs (x ∷ []) = none
hex_pairs (x ∷ y ∷ rest) = hex_digit x >>= λ h. hex_digit y >>= λ l. hex_pairs rest >>= λ block. some ((16 * h + l) ∷ block)

-- "edit lines (those that begin with `+` or `-`) and `try=` with the block"; none for other lines. An edit is called with its line as it stands: "a last
-- edit line without one is 4"
unfoldable pub call_of : Bytes → Option Call
call_of line =
    (signed_line line >>= λ l. some (Call.edit line))
    or_else (behind (bytes "try=") (bare line) >>= λ hex. hex_pairs hex >>= λ block. some (Call.request block))

-- "Printed: `load=` number, lines read (or refused line); `edit=` number, count (0 if refused); `try=permit,`rule, `try=deny`,
-- `try=undefined` or `try=refused,`number". Document 02, E2: "`gate` prints `try=undefined,absent` or `try=undefined,unlike`"; E3, of the joins: "`gate`
-- prints it as a third number on `edit=` lines"
abbrev pub printed_decision : Decision → Bytes
printed_decision (permit rule) = bytes "try=permit," ++ decimal rule
printed_decision deny = bytes "try=deny"
printed_decision (undefined c) = bytes "try=undefined," ++ cause_word c
printed_decision (refused n) = bytes "try=refused," ++ decimal n

unfoldable pub printed : Answer → Bytes
printed (loaded number line) = bytes "load=" ++ decimal number ++ bytes "," ++ decimal line ++ bytes "\n"
printed (edited number count joins) = bytes "edit=" ++ decimal number ++ bytes "," ++ decimal count ++ bytes "," ++ decimal joins ++ bytes "\n"
printed (decided d) = printed_decision d ++ bytes "\n"

-- the answers to the commands on a table of so many words, from a state on; "`bad=` for other lines, bad hex among them"
unfoldable pub output : ℕ → State → List (Option Call) → Bytes
output words S [] = []
output words S (none ∷ calls) = bytes "bad=\n" ++ output words S calls
output words S (some c ∷ calls) = let s = step words S c in printed s.answer ++ output words s.state calls

-- "After a refused load it goes on with the empty book. Over 65,536 bytes: `load=2,0` alone". Document 02, E5: "`gate` lends the table that its file's
-- first line asks for"
unfoldable pub gate : Bytes → Bytes
gate input =
    let lines = lines_of input in
    if ltb input_bytes (length input) then printed (loaded refusal.too_long 0)
    otherwise output (table_words (named_edition (file_of lines))) (empty Edition.first) (some (Call.load (file_of lines)) ∷ map call_of (commands_of lines))
