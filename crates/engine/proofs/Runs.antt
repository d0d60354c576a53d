-- Demand 3: for every list of calls that begins with a load, whatever book and table were lent at first, the answers and the words after every call
-- are those of the ledger. Assumes nothing: it is about what the calls promise, put together.
use Prim.Native.Nat.{ℕ}
use mathlib.Core.Path.{◌≡◌, refl, sym, ap, ap₂, subst, ◌∙◌}
use mathlib.Core.Bool.{Bool, true, false}
use mathlib.Core.List.{List, [], ◌∷◌, ◌++◌}
use lib.ListN.{length}
use Rattle.model.specs.Notation.{if◌then◌otherwise◌, map}
use Rattle.model.specs.Limits.{Edition}
use Rattle.model.specs.Bytes.{Bytes}
use Rattle.model.specs.Lines.{named_edition}
use Rattle.model.specs.Table.{table}
use Rattle.model.specs.State.{State, empty}
use Rattle.model.specs.Refusals.{wrong_table}
use Rattle.model.specs.Ledger.{Call, Answer, step, with_table, without_table, table_after, Outcome, outcome, ledger_from, ledger}
use Rattle.model.specs.Standing.{Standing}
use Rattle.model.proofs.Standing.{empty-standing}
use Rattle.model.proofs.Ledger.{step-standing, request-keeps}
use Rattle.book.specs.Held.{Holds}
use Rattle.book.specs.Calls.{Gives, Together}
use Rattle.engine.specs.Runs.{Memory, Does, loads, edits, decides, CallSeen, AfterCall, compared, seen, posted, Run, end, next, end_state, end_words, Leads, from-load, from-there}

-- a load reads no state
load-anew : (S : State) (words : List ℕ) (file : Bytes) → outcome S words (Call.load file) ≡ outcome (empty Edition.first) words (Call.load file)
unfolding step
load-anew S words file = go (wrong_table (named_edition file) (length words))
  where
    from : Bool → State → Outcome
    from b T =
        let s = if b then without_table T (Call.load file) otherwise with_table T (Call.load file) in
        record { answer = s.answer; words = table_after words s.state; state = s.state }

    go : (b : Bool) → from b S ≡ from b (empty Edition.first)
    go true = refl
    go false = refl

-- the table after a call goes with its state
kept-after : (words : List ℕ) (S : State) → table_after (table_after words S) S ≡ table_after words S
unfolding table_after
kept-after words S = go (wrong_table S.declared.edition (length words)) refl
  where
    kept : List ℕ
    kept = table S.declared S.ties

    either : (c : Bool) → (if c then kept otherwise kept) ≡ kept
    either true = refl
    either false = refl

    go : (b : Bool) → wrong_table S.declared.edition (length words) ≡ b → (if wrong_table S.declared.edition (length (if b then words otherwise kept)) then (if b then words otherwise kept) otherwise kept) ≡ (if b then words otherwise kept)
    go true e = ap (λ (c : Bool). if c then words otherwise kept) e
    go false e = either (wrong_table S.declared.edition (length kept))

-- what a call leaves goes with the ledger's state
pub together-after : (S : State) (words : List ℕ) (c : Call) {a : Answer} {after : Memory} → Standing S
    → Gives (outcome S words c) a after.words after.book after.code → Together (outcome S words c).state after.book after.code after.words
together-after S words c {a} {after} standing g = record {
  standing = step-standing (length words) c standing;
  holds = g.holds;
  kept = subst (λ (w : List ℕ). table_after w (outcome S words c).state ≡ w) g.table (kept-after words (outcome S words c).state);
}

-- a request leaves state and words
request-given : (S : State) (lent : Memory) (block : Bytes) {a : Answer} → Together S lent.book lent.code lent.words
    → (outcome S lent.words (Call.request block)).answer ≡ a → Gives (outcome S lent.words (Call.request block)) a lent.words lent.book lent.code
request-given S lent block together e =
    let same = request-keeps (length lent.words) S block in
    record {
      answered = e;
      table = ap (table_after lent.words) same ∙ together.kept;
      holds = subst (λ (T : State). Holds lent.book lent.code T) (sym same) together.holds;
    }

-- each call, from a state on, is the ledger's
pub does-gives : {S : State} {c : Call} {before after : Memory} {a : Answer} → Together S before.book before.code before.words → Does c before a after
    → Gives (outcome S before.words c) a after.words after.book after.code
does-gives {S} {before = before} {after = after} {a = a} together (loads {file = file} g) =
    subst (λ (o : Outcome). Gives o a after.words after.book after.code) (sym (load-anew S before.words file)) g
does-gives {S} {before = before} {after = after} {a = a} together (edits {line = line} promise same) =
    subst (λ (code : Bytes). Gives (outcome S before.words (Call.edit line)) a after.words after.book code) (sym same) (promise S before.code together)
does-gives {S} together (decides {block = block} {lent = lent} promise) = request-given S lent block together (promise S together)

one_more : (S : State) (c : Call) {a : Answer} {after : Memory} (words : List ℕ) (calls : List Call) (rest : List AfterCall)
    → Gives (outcome S words c) a after.words after.book after.code → rest ≡ map posted (ledger_from (outcome S words c).state after.words calls)
    → compared a after.words ∷ rest ≡ map posted (ledger_from S words (c ∷ calls))
one_more S c words calls rest g e =
    ap₂ ◌∷◌ (ap₂ compared (sym g.answered) (sym g.table))
    (e ∙ ap (λ (w : List ℕ). map posted (ledger_from (outcome S words c).state w calls)) (sym g.table))

-- from a state on, what is seen is what the ledger posts
pub run-posts : (S : State) (lent : Memory) (calls : List Call) (results : List CallSeen) → Together S lent.book lent.code lent.words
    → Run lent calls results → map seen results ≡ map posted (ledger_from S lent.words calls)
run-posts S lent [] results together end = refl
run-posts S lent (c ∷ calls) results together (next {after = after} {rest = rest} does run) =
    let g = does-gives together does in
    one_more S c lent.words calls (map seen rest) g
    (run-posts (outcome S lent.words c).state after calls rest (together-after S lent.words c together.standing g) run)

-- Demand 3, "one claim about the list as a whole and not one for each call": for every list of loads, edits and requests that begins with a load, in any
-- order, refused ones among them, whatever was lent at first, on a table of any length and content: each answer and all words of the table after it are
-- those of the ledger
pub runs-are-the-ledger : (lent : Memory) (file : Bytes) (calls : List Call) (results : List CallSeen) → Run lent (Call.load file ∷ calls) results
    → map seen results ≡ map posted (ledger lent.words file calls)
unfolding ledger
runs-are-the-ledger lent file calls results (next {after = after} {rest = rest} (loads g) run) =
    one_more (empty Edition.first) (Call.load file) lent.words calls (map seen rest) g
    (run-posts (outcome (empty Edition.first) lent.words (Call.load file)).state after calls rest (together-after (empty Edition.first) lent.words (Call.load file) (empty-standing Edition.first) g) run)

-- what is lent to a call of a run goes with the ledger's state
pub leads-together : {first : Memory} {calls : List Call} {S : State} {lent : Memory} → Leads first calls S lent → Together S lent.book lent.code lent.words
leads-together {first} (from-load {file = file} (loads g)) = together-after (empty Edition.first) first.words (Call.load file) (empty-standing Edition.first) g
leads-together (from-there {S = S} {c = c} {before = before} run does) =
    let t = leads-together run in
    together-after S before.words c t.standing (does-gives t does)

-- one call more at the end of a list
end_more : (S : State) (words : List ℕ) (calls : List Call) (c : Call)
    → (end_state S (ledger_from S words (calls ++ c ∷ [])) ≡ (outcome (end_state S (ledger_from S words calls)) (end_words words (ledger_from S words calls)) c).state)
    × (end_words words (ledger_from S words (calls ++ c ∷ [])) ≡ (outcome (end_state S (ledger_from S words calls)) (end_words words (ledger_from S words calls)) c).words)
end_more S words [] c = (refl, refl)
end_more S words (d ∷ calls) c = end_more (outcome S words d).state (outcome S words d).words calls c

ends : {first : Memory} {calls : List Call} {S : State} {lent : Memory} → Leads first calls S lent
    → (end_state (empty Edition.first) (ledger_from (empty Edition.first) first.words calls) ≡ S) × (end_words first.words (ledger_from (empty Edition.first) first.words calls) ≡ lent.words)
ends (from-load (loads g)) = (refl, g.table)
ends {first} (from-there {calls = calls} {c = c} run does) =
    let e = ends run in
    let more = end_more (empty Edition.first) first.words calls c in (
      more.0 ∙ ap₂ (λ (T : State) (w : List ℕ). (outcome T w c).state) e.0 e.1,
      more.1 ∙ ap₂ (λ (T : State) (w : List ℕ). (outcome T w c).words) e.0 e.1 ∙ (does-gives (leads-together run) does).table,
    )

-- where a list of calls leads is where the ledger of its calls ends, on the table that was lent at first: the state, and the words of the table
pub leads-where-the-ledger-ends : {first : Memory} {file : Bytes} {calls : List Call} {S : State} {lent : Memory} → Leads first (Call.load file ∷ calls) S lent
    → (end_state (empty Edition.first) (ledger first.words file calls) ≡ S) × (end_words first.words (ledger first.words file calls) ≡ lent.words)
unfolding ledger
leads-where-the-ledger-ends run = ends run
