-- What the calls' contracts say is what a run asks of each call. Assumes nothing.
use Prim.Native.Nat.{ℕ}
use mathlib.Core.Path.{◌≡◌, refl, sym, ap, ◌∙◌}
use mathlib.Core.Bool.{Bool, true, false, true≢false}
use mathlib.Core.List.{List}
use lib.ListN.{length}
use borrow.Author.Tests.{eq-eqb}
use Rattle.model.specs.Notation.{if◌then◌otherwise◌}
use Rattle.model.specs.Limits.{Edition, table_words}
use Rattle.model.specs.Bytes.{Bytes}
use Rattle.model.specs.Table.{table}
use Rattle.model.specs.Refusals.{wrong_table}
use Rattle.model.specs.Ledger.{Call, Answer, decided, step, with_table, without_table, table_after}
use Rattle.request.specs.declared.Decision.{Decision}
use Rattle.request.specs.Decisions.{decision_of, Decides}
use Rattle.book.specs.Calls.{Loads, AnswersRequest}
use Rattle.edit.specs.EditSteps.{EditCall}
use Rattle.engine.specs.Runs.{Memory, Does, loads, edits, decides}

-- a table that is refused has not the words of the edition
right-length : (d : Edition) (n : ℕ) → wrong_table d n ≡ true → n ≡ table_words d → ⊥
unfolding wrong_table
right-length d n e long = true≢false (sym e ∙ ap (λ (b : Bool). if b then false otherwise true) (eq-eqb n (table_words d) long))

-- `decide`
pub request-answered : {block code : Bytes} {book words : List ℕ} {r : Decision} → Decides block book code words r → AnswersRequest block book code words (decided (decision_of r))
unfolding step table_after
request-answered {block} {code} {book} {words} {r} promise S together = go (wrong_table S.declared.edition (length words)) refl together.kept
  where
    go : (b : Bool) → wrong_table S.declared.edition (length words) ≡ b → (if b then words otherwise table S.declared S.ties) ≡ words
        → (if b then without_table S (Call.request block) otherwise with_table S (Call.request block)).answer ≡ decided (decision_of r)
    go true e k = ap decided (sym (promise.other-table (λ long. right-length S.declared.edition (length words) e (long ∙ ap table_words (sym together.holds.edition)))))
    go false e k = ap decided (sym (promise.decision S together.standing together.holds (sym k)))

-- `load`: its contract is what a run asks
pub file-loaded : {file : Bytes} {a : Answer} (before after : Memory) → Loads file before.words a after.words after.book after.code → Does (Call.load file) before a after
file-loaded before after promise = loads promise

-- `edit`, which is lent no rules
pub line-edited : {line : Bytes} {a : Answer} (before after : Memory) → EditCall line before.book before.words a after.words after.book
    → after.code ≡ before.code → Does (Call.edit line) before a after
line-edited before after promise same = edits promise.edits same

-- `decide`, which writes nothing
pub request-decided : {block : Bytes} {r : Decision} (lent : Memory) → Decides block lent.book lent.code lent.words r
    → Does (Call.request block) lent (decided (decision_of r)) lent
request-decided lent promise = decides (request-answered promise)
