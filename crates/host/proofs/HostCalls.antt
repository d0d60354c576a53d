-- The calls for hosts are calls of a run, so that the theorem about lists of calls is about them; and document 01's one call is the ledger's list of a
-- load and a request. Assumes nothing.
use Prim.Native.Nat.{ℕ, ◌/◌, ◌%◌}
use mathlib.Core.Path.{◌≡◌, refl, sym, ap, ◌∙◌}
use mathlib.Core.Bool.{Bool, true, false, not}
use mathlib.Core.List.{List, [], ◌∷◌}
use lib.ListN.{length}
use lib.Dec.{eqb}
use borrow.Author.Tests.{eq-eqb, eqb-true}
use Rattle.model.specs.Notation.{if◌then◌otherwise◌}
use Rattle.model.specs.Limits.{Edition, table_words}
use Rattle.model.specs.Numbers as refusal
use Rattle.model.specs.Bytes.{Bytes}
use Rattle.model.specs.Lines.{named_edition}
use Rattle.model.specs.Table.{table}
use Rattle.model.specs.State.{State, empty}
use Rattle.model.specs.Refusals.{wrong_table}
use Rattle.model.specs.Load as model
use Rattle.model.specs.Decision as decision
use Rattle.model.specs.Decision.{number_and_values}
use Rattle.model.specs.Ledger.{Call, decided, table_after, Outcome, outcome, ledger}
use Rattle.model.specs.Host.{host_call, host_table}
use Rattle.model.proofs.Table.{table-length}
use Rattle.model.proofs.Editions.{load-edition}
use Rattle.model.proofs.Outcomes.{outcome_by, outcome-by}
use Rattle.request.specs.Decisions.{decision_of}
use Rattle.book.specs.Calls.{answer_number, Loads}
use Rattle.edit.specs.EditSteps.{EditCall}
use Rattle.engine.specs.Runs.{Memory, Does, end_words}
use Rattle.engine.proofs.Promises.{file-loaded, line-edited, request-decided}
use Rattle.host.specs.AnswerNumbers.{high, load_answer, edit_answer, rule_in, cause_in, rule_numbers, RequestNumber}

-- ---- each call for hosts is one of a run, by what its contract says

-- `zhul_load`
pub load_does : {file : Bytes} (r : ℕ) (before after : Memory) → Loads file before.words (load_answer r) after.words after.book after.code
    → Does (Call.load file) before (load_answer r) after
load_does r before after promise = file-loaded before after promise

-- `zhul_edit`, which is lent no rules
pub edit-does : {line : Bytes} (r : ℕ) (before after : Memory) → EditCall line before.book before.words (edit_answer r) after.words after.book
    → after.code ≡ before.code → Does (Call.edit line) before (edit_answer r) after
edit-does r before after promise same = line-edited before after promise same

-- `zhul_decide`: the decision that the number, the rule and the cause are those of
pub decide-does : {block : Bytes} {r : ℕ} (lent : Memory) → RequestNumber block lent.book lent.code lent.words r
    → (d : decision.Decision) × Does (Call.request block) lent (decided d) lent × (r % high ≡ (number_and_values d).0) × (r / high % rule_numbers ≡ rule_in d) × (r / high / rule_numbers ≡ cause_in d)
decide-does lent promise = (decision_of promise.decision, request-decided lent promise.decides, promise.number, promise.rule, promise.cause)

-- ---- `zhul_pass` is a load and then a request

-- the first number of a list's outcomes that is not 0, and 0 where all are
abbrev pub first_number : List Outcome → ℕ
first_number [] = 0
first_number (o ∷ rest) = if eqb (answer_number o.answer) 0 then first_number rest otherwise answer_number o.answer

-- a number, told by whether it is 0
itself : (n : ℕ) → (if eqb n 0 then 0 otherwise n) ≡ n
itself n = go (eqb n 0) refl
  where
    go : (b : Bool) → eqb n 0 ≡ b → (if b then 0 otherwise n) ≡ n
    go true e = sym (eqb-true n 0 e)
    go false e = refl

table-right : (S : State) → wrong_table S.declared.edition (length (table S.declared S.ties)) ≡ false
unfolding wrong_table
table-right S = ap not (eq-eqb (length (table S.declared S.ties)) (table_words S.declared.edition) (table-length S.declared S.ties))

module _ (file block : Bytes) (words : List ℕ) where
  abbrev read : State
  read = (model.load file).state

  -- what the list comes to, by a law of its two outcomes
  by-outcomes : {A : Type 0} (f : List Outcome → A) (b : Bool) → wrong_table (named_edition file) (length words) ≡ b
      → f (ledger words file (Call.request block ∷ []))
      ≡ (if b then f (outcome_by true (empty Edition.first) words (Call.load file) ∷ outcome_by true (empty (named_edition file)) words (Call.request block) ∷ [])
      otherwise f (outcome_by false (empty Edition.first) words (Call.load file) ∷ outcome_by false read (table read.declared read.ties) (Call.request block) ∷ []))
  unfolding ledger
  by-outcomes f true e =
      ap (λ (o : Outcome). f (o ∷ outcome o.state o.words (Call.request block) ∷ [])) (outcome-by (empty Edition.first) words (Call.load file) e)
      ∙ ap (λ (o : Outcome). f (outcome_by true (empty Edition.first) words (Call.load file) ∷ o ∷ [])) (outcome-by (empty (named_edition file)) words (Call.request block) e)
  by-outcomes f false e =
      ap (λ (o : Outcome). f (o ∷ outcome o.state o.words (Call.request block) ∷ [])) (outcome-by (empty Edition.first) words (Call.load file) e)
      ∙ ap (λ (o : Outcome). f (outcome_by false (empty Edition.first) words (Call.load file) ∷ o ∷ [])) (outcome-by read (table read.declared read.ties) (Call.request block) (table-right read))

  -- its number is that of the load where that is refused, else that of the request
  pub pass-is-the-ledger : host_call file block (length words) ≡ first_number (ledger words file (Call.request block ∷ []))
  unfolding host_call
  pass-is-the-ledger = go (wrong_table (named_edition file) (length words)) refl
    where
      number : Bool → ℕ
      number b =
          if b then refusal.wrong_table
          otherwise (if eqb (model.load file).number 0 then (number_and_values (decision.decide read block)).0 otherwise (model.load file).number)

      go : (b : Bool) → wrong_table (named_edition file) (length words) ≡ b → number (wrong_table (named_edition file) (length words)) ≡ first_number (ledger words file (Call.request block ∷ []))
      go true e = ap number e ∙ sym (by-outcomes first_number true e)
      go false e =
          ap number e
          ∙ ap (λ (n : ℕ). if eqb (model.load file).number 0 then n otherwise (model.load file).number) (sym (itself (number_and_values (decision.decide read block)).0))
          ∙ sym (by-outcomes first_number false e)

  -- and its table that of the list
  pub pass-table-is-the-ledger : host_table file words ≡ end_words words (ledger words file (Call.request block ∷ []))
  unfolding host_table table_after
  pass-table-is-the-ledger =
      ap (λ (e : Edition). kept (wrong_table e (length words))) (load-edition file) ∙ go (wrong_table (named_edition file) (length words)) refl
    where
      kept : Bool → List ℕ
      kept b = if b then words otherwise table read.declared read.ties

      go : (b : Bool) → wrong_table (named_edition file) (length words) ≡ b → kept (wrong_table (named_edition file) (length words)) ≡ end_words words (ledger words file (Call.request block ∷ []))
      go true e = ap kept e ∙ sym (by-outcomes (end_words words) true e)
      go false e = ap kept e ∙ sym (by-outcomes (end_words words) false e)
