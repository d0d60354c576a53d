-- The writer and the length told beforehand over lists of calls: for every list of loads, edits and requests that begins with a load, whatever was lent at
-- first, the book that is then lent is written as the file of the ledger's state, what is written loads as that state, and the length told is that of this
-- file. Assumes nothing.
use Prim.Native.Nat.{ℕ, suc}
use mathlib.Core.Path.{◌≡◌, refl, sym, ap, subst, ◌∙◌}
use mathlib.Core.Logic.{◌⊎◌, ◌↔◌}
use mathlib.Core.List.Memᴰ.{head as here}
use mathlib.Core.List.Memᴰ.{tail as there}
use mathlib.Core.List.{List, [], ◌∷◌, ◌++◌}
use native.Mathlib.Omega.{arith}
use lib.ListN.{length, take, drop}
use Rattle.model.specs.Limits.{Edition, table_words}
use Rattle.model.specs.Numbers as refusal
use Rattle.model.specs.Bytes.{Bytes}
use Rattle.model.specs.State.{State, empty}
use Rattle.model.specs.Ledger.{Call, Answer, Outcome, outcome, ledger_from, ledger}
use Rattle.model.specs.FileText.{FileWritten, file_lines, file_text, write_file, written_length}
use Rattle.model.proofs.Lists.{◌∈◌}
use Rattle.model.proofs.Reached.{Reached, table_of}
use Rattle.model.proofs.Ledger.{refused-edit}
use Rattle.model.proofs.Lengths.{Moves, edit-moves}
use Rattle.model.proofs.Writer
use Rattle.model.proofs.Writer.{written_bytes, TooLong, Fits}
use Rattle.book.specs.Held.{Holds}
use Rattle.book.specs.Calls.{answer_number, Gives}
use Rattle.engine.specs.Runs.{Memory, Does, Leads, end_state}
use Rattle.model.proofs.Outcomes.{edit-by-table}
use Rattle.engine.proofs.Runs.{does-gives, leads-together, leads-where-the-ledger-ends}
use Rattle.writer.specs.WriteCalls.{written, WriteCall, LengthCall}

-- ---- where a list of calls leads is a state of its ledger

last-outcome : (S : State) (o : Outcome) (rest : List Outcome) → (x : Outcome) × (x ∈ (o ∷ rest)) × (x.state ≡ end_state S (o ∷ rest))
last-outcome S o [] = (o, here refl, refl)
last-outcome S o (p ∷ rest) = let (x, m, e) = last-outcome o.state p rest in (x, there m, e)

begins : {first : Memory} {calls : List Call} {S : State} {lent : Memory} → Leads first calls S lent → (file : Bytes) × (rest : List Call) × (calls ≡ Call.load file ∷ rest)
begins (Leads.from-load {file = file} does) = (file, [], refl)
begins (Leads.from-there {c = c} run does) = let (file, rest, e) = begins run in (file, rest ++ c ∷ [], ap (λ (l : List Call). l ++ c ∷ []) e)

pub leads-reached : {first : Memory} {calls : List Call} {S : State} {lent : Memory} → Leads first calls S lent → Reached S
unfolding ledger
leads-reached {first} {calls} {S} {lent} run =
    let (file, rest, e) = begins run in
    let there' = leads-where-the-ledger-ends (subst (λ (l : List Call). Leads first l S lent) e run) in
    let loaded = outcome (empty Edition.first) first.words (Call.load file) in
    let (o, m, at) = last-outcome (empty Edition.first) loaded (ledger_from loaded.state loaded.words rest) in
    record { words = first.words; file = file; calls = rest; last = o; in-ledger = m; state-is = at ∙ there'.0 }

-- what a load does, by its promise
load_gives : {file : Bytes} {other left : Memory} {a : Answer} → Does (Call.load file) other a left → Gives (outcome (empty Edition.first) other.words (Call.load file)) a left.words left.book left.code
load_gives (Does.loads g) = g

-- ---- a write in a run

module _ {first : Memory} {calls : List Call} {S : State} {lent : Memory} (run : Leads first calls S lent)
    {before : Bytes} {number long : ℕ} {after : Bytes} (call : WriteCall lent.book lent.code before number long after) where
  -- "A writer puts out the present one": the file of the ledger's state
  pub writes-state : written number long after ≡ write_file S before
  writes-state = let t = leads-together run in call.exact S t.standing t.holds

  number_is : number ≡ (write_file S before).number
  number_is = ap (λ (w : FileWritten). w.number) writes-state

  text-is : take long after ≡ written_bytes (write_file S before)
  text-is = ap written_bytes writes-state

  -- "18, the writer's only one, when the text is longer than the buffer or than 32,768 bytes": then, and only then
  pub eighteen-in-run : (number ≡ refusal.does_not_fit) ↔ TooLong (written_length S) before
  eighteen-in-run = subst (λ (n : ℕ). (n ≡ refusal.does_not_fit) ↔ TooLong (written_length S) before) (sym number_is) (Writer.eighteen-exactly S before)

  -- and 0 otherwise
  pub zero-in-run : (number ≡ 0) ↔ Fits (written_length S) before
  zero-in-run = subst (λ (n : ℕ). (n ≡ 0) ↔ Fits (written_length S) before) (sym number_is) (Writer.zero-exactly S before)

  pub no-other-in-run : (number ≡ 0) ⊎ (number ≡ refusal.does_not_fit)
  no-other-in-run = subst (λ (n : ℕ). (n ≡ 0) ⊎ (n ≡ refusal.does_not_fit)) (sym number_is) (Writer.no_other S before)

  -- "A refusal leaves the buffer untouched", and carries 0
  pub refused-in-run : number ≡ refusal.does_not_fit → (long ≡ 0) × (after ≡ before)
  refused-in-run e =
      let (z, b) = Writer.refused-write S before (sym number_is ∙ e) in
      (ap (λ (w : FileWritten). w.text_length) writes-state ∙ z, ap (λ (w : FileWritten). w.buffer) writes-state ∙ b)

  -- "answers 0 and its length"
  pub length-in-run : number ≡ 0 → (long ≡ written_length S) × (take long after ≡ file_text S)
  length-in-run e =
      let (l, t) = Writer.text-written S before (sym number_is ∙ e) in
      (ap (λ (w : FileWritten). w.text_length) writes-state ∙ l, text-is ∙ t)

  -- "Bytes of the buffer behind the text keep their content"
  pub behind-in-run : drop long after ≡ drop long before
  behind-in-run =
      ap (λ (w : FileWritten). drop w.text_length w.buffer) writes-state ∙ Writer.behind-kept S before
      ∙ ap (λ (w : FileWritten). drop w.text_length before) (sym writes-state)

  -- "loading the result on a table of the right length gives a book equal in declarations, ties and rule tokens, and the table words that belong to these
  -- ties", whatever was lent to that load
  pub loads-back : number ≡ 0 → {other left : Memory} {a : Answer} → Does (Call.load (take long after)) other a left → length other.words ≡ table_words S.declared.edition
      → Holds left.book left.code S × (left.words ≡ table_of S) × (a ≡ Answer.loaded 0 (suc (length (file_lines S))))
  loads-back e {other} {left} {a} does right =
      let same = ap (λ (s : Bytes). outcome (empty Edition.first) other.words (Call.load s)) text-is ∙ Writer.result-loads-on (leads-reached run) before (sym number_is ∙ e) (empty Edition.first) other.words right in
      let h = subst (λ (o : Outcome). Gives o a left.words left.book left.code) same (load_gives does) in
      (h.holds, sym h.table, sym h.answered)

  -- and that book, written again, gives the same bytes
  pub written-again : number ≡ 0 → {other left : Memory} {a : Answer} → Does (Call.load (take long after)) other a left → length other.words ≡ table_words S.declared.edition
      → {number' long' : ℕ} {after' : Bytes} → WriteCall left.book left.code before number' long' after' → written number' long' after' ≡ written number long after
  written-again e does right again = again.exact S (leads-together run).standing (loads-back e does right).0 ∙ sym writes-state

-- "two books equal in this way, neither refused, write equal bytes"
module _ {first first' : Memory} {calls calls' : List Call} {S S' : State} {lent lent' : Memory} (run : Leads first calls S lent) (run' : Leads first' calls' S' lent')
    {before before' : Bytes} {long long' : ℕ} {after after' : Bytes}
    (call : WriteCall lent.book lent.code before 0 long after) (call' : WriteCall lent'.book lent'.code before' 0 long' after') where
  pub equal-bytes-in-runs : S ≡ S' → (long ≡ long') × (take long after ≡ take long' after')
  equal-bytes-in-runs e =
      let (l, t) = length-in-run run call refl in
      let (m, u) = length-in-run run' call' refl in
      (l ∙ ap (λ (T : State). written_length T) e ∙ sym m, t ∙ ap file_text e ∙ sym u)

-- ---- a length told in a run

module _ {first : Memory} {calls : List Call} {S : State} {lent : Memory} (run : Leads first calls S lent)
    {told : ℕ} (tells : LengthCall lent.book lent.code told) where
  -- "the exact byte length that the writer of E1 would put out, for every producible book …, also when it exceeds 32,768"
  pub tells-state : told ≡ written_length S
  tells-state = let t = leads-together run in tells.exact S t.standing t.holds

  module _ {before : Bytes} {number long : ℕ} {after : Bytes} (call : WriteCall lent.book lent.code before number long after) where
    -- "The writer refuses by 18 precisely when this length is over its buffer or over 32,768."
    pub eighteen-by-length : (number ≡ refusal.does_not_fit) ↔ TooLong told before
    eighteen-by-length = subst (λ (n : ℕ). (number ≡ refusal.does_not_fit) ↔ TooLong n before) (sym tells-state) (eighteen-in-run run call)

    -- so a buffer of this length is enough for every file that can be loaded
    pub zero-by-length : (number ≡ 0) ↔ Fits told before
    zero-by-length = subst (λ (n : ℕ). (number ≡ 0) ↔ Fits n before) (sym tells-state) (zero-in-run run call)

    -- and it is the length that such a write answers
    pub told-then-written : number ≡ 0 → long ≡ told
    told-then-written e = (length-in-run run call e).0 ∙ sym tells-state

-- ---- an edit between two lengths

module _ {first : Memory} {calls : List Call} {S : State} {before after : Memory} {line : Bytes} {a : Answer}
    (run : Leads first calls S before) (does : Does (Call.edit line) before a after)
    {told told' : ℕ} (tells : LengthCall before.book before.code told) (tells' : LengthCall after.book after.code told') where
  abbrev next : Outcome
  next = outcome S before.words (Call.edit line)

  answered : next.answer ≡ a
  answered = (does-gives (leads-together run) does).answered

  told-next : told' ≡ written_length next.state
  told-next = tells-state (Leads.from-there run does) tells'

  -- an accepted edit makes the file longer or shorter by just its line
  pub edit-in-run : answer_number a ≡ 0 → Moves line told told'
  edit-in-run accepted =
      subst (λ (k : ℕ). Moves line k told') (sym (tells-state run tells)) (subst (λ (k : ℕ). Moves line (written_length S) k) (sym told-next)
      (edit-by-table S before.words line (leads-together run).kept (λ b w u T. b ≡ a → Moves line (written_length S) (written_length T))
      (λ e. let n : refusal.wrong_table ≡ answer_number a = ap answer_number e in absurd (omega (arith, n, accepted)))
      (λ e. edit-moves (leads-together run).standing line (ap answer_number e ∙ accepted))
      answered))

  -- and a refused one leaves it as it was
  pub refused-edit-in-run : (answer_number a ≡ 0 → ⊥) → told' ≡ told
  refused-edit-in-run refused =
      told-next
      ∙ edit-by-table S before.words line (leads-together run).kept (λ b w u T. b ≡ a → written_length T ≡ written_length S) (λ e. refl)
      (λ e. ap (λ (T : State). written_length T) (refused-edit S line (λ z. refused (sym (ap answer_number e) ∙ z))).0)
      answered
      ∙ sym (tells-state run tells)
