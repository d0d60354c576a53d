-- The office program prints the ledger's answers to its calls, in their order, on a table of the file's edition with any content, and `bad=` for each
-- command that is no call. Assumes nothing.
use Prim.Native.Nat.{ℕ, suc, ◌≤◌, ◌<◌}
use mathlib.Core.Path.{◌≡◌, refl, sym, ap, ◌∙◌}
use mathlib.Core.Bool.{Bool, true, false, not}
use mathlib.Core.List.{List, [], ◌∷◌, ◌++◌}
use mathlib.Core.Option.{Option, none, some}
use lib.ListN.{length}
use lib.Dec.{eqb}
use borrow.Author.Tests.{eqb-true, lt-ltb, le-ltb}
use Rattle.model.specs.Notation.{if◌then◌otherwise◌, map}
use Rattle.model.specs.Limits.{Edition, input_bytes, table_words}
use Rattle.model.specs.Numbers as refusal
use Rattle.model.specs.Bytes.{Bytes, bytes, lines_of}
use Rattle.model.specs.Lines.{named_edition}
use Rattle.model.specs.Table.{table}
use Rattle.model.specs.State.{State, empty}
use Rattle.model.specs.Refusals.{wrong_table}
use Rattle.model.specs.Ledger.{Call, Answer, loaded, Outcome, table_after, outcome, ledger_from, ledger}
use Rattle.model.specs.Gate.{file_of, commands_of, call_of, printed, output, gate}
use Rattle.model.proofs.Table.{table-length}

-- the file of an input, and the commands behind it: calls, or lines that are none
abbrev pub file_in : Bytes → Bytes
file_in input = file_of (lines_of input)

abbrev pub commands_in : Bytes → List (Option Call)
commands_in input = map call_of (commands_of (lines_of input))

abbrev pub calls_among : List (Option Call) → List Call
calls_among [] = []
calls_among (none ∷ commands) = calls_among commands
calls_among (some c ∷ commands) = c ∷ calls_among commands

-- for each command one line: the next answer for a call, `bad=` for what is none
abbrev pub interleaved : List (Option Call) → List Answer → Bytes
interleaved [] answers = []
interleaved (none ∷ commands) answers = bytes "bad=\n" ++ interleaved commands answers
interleaved (some c ∷ commands) [] = []
interleaved (some c ∷ commands) (a ∷ answers) = printed a ++ interleaved commands answers

abbrev pub answers_of : List Outcome → List Answer
answers_of outcomes = map (λ o. o.answer) outcomes

-- a table has as many words after a call
pub words-after : (words : List ℕ) (S : State) → length (table_after words S) ≡ length words
unfolding table_after wrong_table
words-after words S = go (eqb (length words) (table_words S.declared.edition)) refl
  where
    go : (b : Bool) → eqb (length words) (table_words S.declared.edition) ≡ b
        → length (if not b then words otherwise table S.declared S.ties) ≡ length words
    go true e = table-length S.declared S.ties ∙ sym (eqb-true (length words) (table_words S.declared.edition) e)
    go false e = refl

pub prints-ledger : (S : State) (words : List ℕ) (commands : List (Option Call))
    → output (length words) S commands ≡ interleaved commands (answers_of (ledger_from S words (calls_among commands)))
unfolding output
prints-ledger S words [] = refl
prints-ledger S words (none ∷ commands) = ap (λ (rest : Bytes). bytes "bad=\n" ++ rest) (prints-ledger S words commands)
prints-ledger S words (some c ∷ commands) =
    let o = outcome S words c in
    ap (λ (n : ℕ). printed o.answer ++ output n o.state commands) (sym (words-after words o.state))
    ∙ ap (λ (rest : Bytes). printed o.answer ++ rest) (prints-ledger o.state o.words commands)

-- an input of at most 65,536 bytes
pub gate-prints : (input : Bytes) (words : List ℕ) → length input ≤ input_bytes → length words ≡ table_words (named_edition (file_in input))
    → gate input
    ≡ interleaved (some (Call.load (file_in input)) ∷ commands_in input) (answers_of (ledger words (file_in input) (calls_among (commands_in input))))
unfolding gate ledger
gate-prints input words short e =
    ap (λ (b : Bool). if b then printed (loaded refusal.too_long 0) otherwise output (table_words (named_edition (file_in input))) (empty Edition.first) (some (Call.load (file_in input)) ∷ commands_in input))
    (le-ltb input_bytes (length input) short)
    ∙ ap (λ (n : ℕ). output n (empty Edition.first) (some (Call.load (file_in input)) ∷ commands_in input)) (sym e)
    ∙ prints-ledger (empty Edition.first) words (some (Call.load (file_in input)) ∷ commands_in input)

-- "Over 65,536 bytes: `load=2,0` alone"
pub gate-too-long : (input : Bytes) → input_bytes < length input → gate input ≡ printed (loaded refusal.too_long 0)
unfolding gate
gate-too-long input long =
    ap (λ (b : Bool). if b then printed (loaded refusal.too_long 0) otherwise output (table_words (named_edition (file_in input))) (empty Edition.first) (some (Call.load (file_in input)) ∷ commands_in input))
    (lt-ltb input_bytes (length input) long)

-- each call has its answer: none of the commands is left without a line
pub answers-all : (words : List ℕ) (file : Bytes) (calls : List Call) → length (answers_of (ledger words file calls)) ≡ suc (length calls)
unfolding ledger
answers-all words file calls = each-answered (empty Edition.first) words (Call.load file ∷ calls)
  where
    each-answered : (S : State) (words : List ℕ) (calls : List Call) → length (answers_of (ledger_from S words calls)) ≡ length calls
    each-answered S words [] = refl
    each-answered S words (c ∷ calls) = let o = outcome S words c in ap suc (each-answered o.state o.words calls)
