-- A command answered prints what the model's output has for it, and leaves what goes together with the state behind it. Assumes nothing.
use Prim.Native.Nat.{ℕ}
use mathlib.Core.Path.{◌≡◌, refl, sym, ap, subst, ◌∙◌}
use mathlib.Core.List.{List, ◌∷◌, ◌++◌}
use mathlib.Core.Option.{Option, none, some}
use lib.ListN.{length}
use Rattle.model.specs.Bytes.{Bytes, bytes}
use Rattle.model.specs.State.{State}
use Rattle.model.specs.Ledger.{Call, Answer, decided, step, outcome}
use Rattle.model.specs.Gate.{call_of, printed, output}
use Rattle.model.specs.Standing.{Standing}
use Rattle.book.specs.Calls.{Gives}
use Rattle.request.specs.Decisions.{decision_of}
use Rattle.engine.specs.Runs.{Memory, Does}
use Rattle.engine.proofs.Runs.{does-gives, together-after}
use Rattle.engine.proofs.Promises.{line-edited, request-decided}
use Rattle.printing.specs.Printing.{PrintedAt}
use Rattle.office.specs.Answers.{lent_words, MemoryOf, Prints, EditAnswered, RequestAnswered, CommandAnswered}

-- an outcome given: its answer is printed
pub outcome-prints : (S : State) (c : Call) (words : List ℕ) (after : Memory) (a : Answer) (rest : List (Option Call)) → Standing S
    → Gives (outcome S words c) a after.words after.book after.code → length words ≡ lent_words → Prints S (some c ∷ rest) (printed a) rest after
unfolding output
outcome-prints S c words after a rest standing g long =
    let T = (outcome S words c).state in
    record {
      state = T;
      stands = together-after S words c {a = a} {after = after} standing g;
      prints = ap (λ (n : ℕ). printed (step n S c).answer ++ output lent_words (step n S c).state rest) (sym long)
          ∙ ap (λ (x : Answer). printed x ++ output lent_words T rest) g.answered;
    }

-- a call made
pub call-prints : (S : State) (c : Call) (before after : Memory) (a : Answer) (rest : List (Option Call)) → Does c before a after → MemoryOf S before
    → length before.words ≡ lent_words → Prints S (some c ∷ rest) (printed a) rest after
call-prints S c before after a rest does stands long = outcome-prints S c before.words after a rest stands.standing (does-gives stands does) long

-- no call: the state stays
pub bad-prints : (S : State) (l : Memory) (rest : List (Option Call)) → MemoryOf S l → Prints S (none ∷ rest) (bytes "bad=\n") rest l
unfolding output
bad-prints S l rest stands = record { state = S; stands = stands; prints = refl }

-- by what is known of the line
pub call-answered : (line : Bytes) (c : Call) (before after : Memory) (a : Answer) {out : Bytes} {at : ℕ} {out' : Bytes} {r : ℕ} → call_of line ≡ some c
    → Does c before a after → length before.words ≡ lent_words → PrintedAt out at (printed a) out' r → after.code ≡ before.code → CommandAnswered line before after out at out' r
call-answered line c before after a e does long p s = record {
  text = printed a;
  answer = p;
  same = s;
  goes_on = λ S rest stands.
      subst (λ (o : Option Call). Prints S (o ∷ rest) (printed a) rest after) (sym e) (call-prints S c before after a rest does stands long);
}

pub bad-answered : (line : Bytes) (l : Memory) {out : Bytes} {at : ℕ} {out' : Bytes} {r : ℕ} → call_of line ≡ none → PrintedAt out at (bytes "bad=\n") out' r
    → CommandAnswered line l l out at out' r
bad-answered line l e p = record {
  text = bytes "bad=\n";
  answer = p;
  same = refl;
  goes_on = λ S rest stands. subst (λ (o : Option Call). Prints S (o ∷ rest) (bytes "bad=\n") rest l) (sym e) (bad-prints S l rest stands);
}

pub edit-answered : (line : Bytes) (before after : Memory) (out : Bytes) (at : ℕ) (out' : Bytes) (r : ℕ) → call_of line ≡ some (Call.edit line)
    → EditAnswered line before.book before.words after.book after.words out at out' r → after.code ≡ before.code → CommandAnswered line before after out at out' r
edit-answered line before after out at out' r e p s =
    call-answered line (Call.edit line) before after p.answer e (line-edited before after p.call s) p.table-long p.prints s

pub request-answered : (line block : Bytes) (l : Memory) (out : Bytes) (at : ℕ) (out' : Bytes) (r : ℕ) → call_of line ≡ some (Call.request block)
    → RequestAnswered block l out at out' r → CommandAnswered line l l out at out' r
request-answered line block l out at out' r e p =
    call-answered line (Call.request block) l l (decided (decision_of p.decision)) e (request-decided l p.call) p.table-long p.prints refl
