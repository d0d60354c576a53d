-- The whole output is the model's. Assumes nothing.
use Prim.Native.Nat.{ℕ, ◌+◌, ◌*◌, ◌≤◌, ◌<◌}
use mathlib.Core.Path.{◌≡◌, sym, ap, ap₂, ◌∙◌}
use mathlib.Core.Bool.{Bool}
use mathlib.Core.List.{List, [], ◌∷◌, ◌++◌, append-nil}
use mathlib.Core.Option.{some}
use native.Mathlib.Omega.{arith}
use borrow.Author.Tests.{le-ltb}
use lib.ListN.{length, length-append}
use Rattle.model.specs.Notation.{if◌then◌otherwise◌, map}
use Rattle.model.specs.Limits.{Edition, input_bytes}
use Rattle.model.specs.Numbers as refusal
use Rattle.model.specs.Bytes.{Bytes, lines_of}
use Rattle.model.specs.Lines.{named_edition}
use Rattle.model.specs.State.{empty}
use Rattle.model.specs.Ledger.{Call, Answer, loaded}
use Rattle.model.specs.Gate.{file_of, commands_of, call_of, printed, output, gate}
use Rattle.model.proofs.Standing.{empty-standing}
use Rattle.model.proofs.Gate.{gate-too-long}
use Rattle.book.specs.Calls.{Loads}
use Rattle.engine.specs.Runs.{Memory}
use Rattle.office.specs.declared.input.Input.{Input}
use Rattle.office.specs.Input.{Split}
use Rattle.output.specs.Laid.{Laid}
use Rattle.output.proofs.Laying.{laid_as, laid_on}
use Rattle.printing.specs.Printing.{answer_bytes, PrintedAt}
use Rattle.office.specs.Answers.{lent_words, Answered}
use Rattle.office.proofs.Answering.{outcome-prints}

-- what is laid over a buffer for an input, and how long it is at most
abbrev pub Output : Bytes → Bytes → Bytes → ℕ → Type 0
Output input out out' r = Laid out 0 (gate input) out' r × (r ≤ answer_bytes + answer_bytes * length input)

-- too long an input
pub too_long_lem : (input : Bytes) {out out' : Bytes} {r : ℕ} → input_bytes < length input → PrintedAt out 0 (printed (loaded refusal.too_long 0)) out' r → Output input out out' r
too_long_lem input h p = (laid_as (sym (gate-too-long input h)) p.laid, omega (arith, p.laid.behind, p.short))

gate-calls : (input : Bytes) (r : Input) → length input ≤ input_bytes → Split input r
    → gate input ≡ output lent_words (empty Edition.first) (some (Call.load r.file.now) ∷ map call_of (lines_of r.commands.rest.now))
unfolding gate named_edition
gate-calls input r short s =
    ap (λ (b : Bool). if b then printed (loaded refusal.too_long 0) otherwise output lent_words (empty Edition.first) (some (Call.load (file_of (lines_of input))) ∷ map call_of (commands_of (lines_of input))))
    (le-ltb input_bytes (length input) short)
    ∙ ap₂ (λ (f : Bytes) (ls : List Bytes). output lent_words (empty Edition.first) (some (Call.load f) ∷ map call_of ls)) s.file s.commands

module _ (input : Bytes) (parts : Input) (short : length input ≤ input_bytes) (split : Split input parts) {out : Bytes}
    (words : List ℕ) (long : length words ≡ lent_words) {a : Answer} (after : Memory)
    (l : Loads parts.file.now words a after.words after.book after.code) {out₁ : Bytes} {at : ℕ}
    (p : PrintedAt out 0 (printed a) out₁ at) where
  pub whole : {last : Memory} {out₂ : Bytes} {r : ℕ} → Answered parts.commands.rest.now [] after last out₁ at out₂ r → Output input out out₂ r
  unfolding output
  whole {out₂ = out₂} {r = r} b =
      let c = Call.load parts.file.now in
      let rest = map call_of (lines_of parts.commands.rest.now) in
      let first = outcome-prints (empty Edition.first) c words after a rest (empty-standing Edition.first) l long in
      let more = b.goes_on first.state first.stands in
      let s = p.short in
      let t = b.short in
      let w = split.within in
      let q = laid_on p.laid b.laid in (
        laid_as
            (sym (gate-calls input parts short split ∙ first.prints ∙ ap (λ (o : Bytes). printed a ++ o) (more.prints ∙ append-nil b.text)))
            q,
        omega (arith, q.behind, length-append (printed a) b.text),
      )
