-- A load and then a decision are the call of the specification. Assumes nothing.
use Prim.Native.Nat.{ℕ}
use mathlib.Core.Path.{◌≡◌, refl, sym, ap, subst, ◌∙◌}
use mathlib.Core.Bool.{Bool, true, false}
use mathlib.Core.List.{List}
use native.Mathlib.Omega.{arith}
use lib.ListN.{length}
use lib.Dec.{eqb}
use borrow.Author.Tests.{eq-eqb, ne_eqb}
use Rattle.model.specs.Notation.{if◌then◌otherwise◌}
use Rattle.model.specs.Limits.{Edition}
use Rattle.model.specs.Numbers as refusal
use Rattle.model.specs.Bytes.{Bytes}
use Rattle.model.specs.Lines.{named_edition}
use Rattle.model.specs.Table.{table}
use Rattle.model.specs.State.{empty}
use Rattle.model.specs.Refusals.{wrong_table}
use Rattle.model.specs.Load as model
use Rattle.model.specs.Decision.{number_and_values}
use Rattle.model.specs.Decision as decision
use Rattle.model.specs.Ledger.{Call, loaded, table_after, Outcome}
use Rattle.model.specs.Host.{host_call, host_table}
use Rattle.model.proofs.Editions.{load-edition}
use Rattle.model.proofs.Outcomes.{outcome_by, outcome-by}
use Rattle.model.proofs.Ledger.{load-standing}
use Rattle.request.specs.declared.Decision.{Decision}
use Rattle.request.specs.Decisions.{number_and_values_of, Decides}
use Rattle.book.specs.Calls.{Gives, Loads}

module _ (file block : Bytes) (words words' book : List ℕ) (code : Bytes) (number line : ℕ) (given : Loads file words (loaded number line) words' book code) where
  -- whether the table is wrong for the file, and what the load gives then
  abbrev wrong : Bool
  wrong = wrong_table (named_edition file) (length words)

  given_by : (b : Bool) → wrong ≡ b → Gives (outcome_by b (empty Edition.first) words (Call.load file)) (loaded number line) words' book code
  given_by b e = subst (λ (o : Outcome). Gives o (loaded number line) words' book code) (outcome-by (empty Edition.first) words (Call.load file) e) given

  pub pass-table : words' ≡ host_table file words
  unfolding host_table table_after
  pass-table = go wrong refl ∙ ap (λ (e : Edition). kept (wrong_table e (length words))) (sym (load-edition file))
    where
      kept : Bool → List ℕ
      kept b = if b then words otherwise table (model.load file).state.declared (model.load file).state.ties

      go : (b : Bool) → wrong ≡ b → words' ≡ kept wrong
      go true e = sym (given_by true e).table ∙ ap kept (sym e)
      go false e = sym (given_by false e).table ∙ ap kept (sym e)

  -- the number of the call, by whether the table is wrong
  abbrev number_by : Bool → ℕ
  number_by b =
      if b then refusal.wrong_table
      otherwise (if eqb (model.load file).number 0 then (number_and_values (decision.decide (model.load file).state block)).0 otherwise (model.load file).number)

  pub pass-refused : (number ≡ 0 → ⊥) → number ≡ host_call file block (length words)
  unfolding host_call
  pass-refused off = go wrong refl
    where
      go : (b : Bool) → wrong ≡ b → number ≡ number_by b
      go true e = let a = (given_by true e).answered in cc
      go false e =
          let a = (given_by false e).answered in
          let n : (model.load file).number ≡ number = cc in
          sym n ∙ sym (ap (λ (t : Bool). if t then (number_and_values (decision.decide (model.load file).state block)).0 otherwise (model.load file).number) (ne_eqb (model.load file).number 0 (λ z. off (sym n ∙ z))))

  pub pass-decided : number ≡ 0 → (r : Decision) → Decides block book code words' r → (number_and_values_of r).0 ≡ host_call file block (length words)
  unfolding host_call
  pass-decided on r promise = go wrong refl
    where
      go : (b : Bool) → wrong ≡ b → (number_and_values_of r).0 ≡ number_by b
      go true e = let a = (given_by true e).answered in let z : ◌≡◌ {A = ℕ} 0 1 = cc in absurd (omega (arith, z))
      go false e =
          let g = given_by false e in
          let a = g.answered in
          let n : (model.load file).number ≡ 0 = cc in
          ap (λ (d : decision.Decision). (number_and_values d).0) (promise.decision (model.load file).state (load-standing file) g.holds (sym g.table))
          ∙ sym (ap (λ (b : Bool). if b then (number_and_values (decision.decide (model.load file).state block)).0 otherwise (model.load file).number) (eq-eqb (model.load file).number 0 n))
