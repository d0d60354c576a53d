-- The ways out of a load: a table of another length, a refused file, an accepted one. Assumes nothing.
use Prim.Native.Nat.{ℕ}
use mathlib.Core.Path.{◌≡◌, refl, sym, ap, ap₂, subst, ◌∙◌}
use mathlib.Core.Bool.{Bool, true, false, not}
use mathlib.Core.List.{List}
use native.Mathlib.Omega.{arith}
use lib.ListN.{length, replicate}
use borrow.Author.Tests.{eq-eqb, ne_eqb}
use Rattle.model.specs.Limits.{Edition, holder_numbers, table_words}
use Rattle.model.specs.Numbers as refusal
use Rattle.model.specs.Bytes.{Bytes}
use Rattle.model.specs.Lines.{named_edition}
use Rattle.model.specs.Table.{table}
use Rattle.model.specs.State.{State, empty}
use Rattle.model.specs.Refusals.{wrong_table}
use Rattle.model.specs.Load as model
use Rattle.model.specs.Ledger.{Call, loaded, Outcome, outcome}
use Rattle.model.proofs.Table.{empty-table}
use Rattle.model.proofs.Loads.{load-refused, refused-load}
use Rattle.model.proofs.Outcomes.{outcome_by, outcome-by}
use Rattle.model.proofs.Ledger.{load-standing}
use Rattle.book.specs.Sections as section
use Rattle.book.specs.Sections.{book_words}
use Rattle.book.specs.Held.{Holds}
use Rattle.std.proofs.Common.{Ok}
use Rattle.file.specs.LineSteps.{LoadedAs}
use Rattle.book.proofs.Sections.{part-size}
use Rattle.book.specs.Calls.{Gives, Loads}
use Rattle.engine.specs.LoadSteps.{TableFilled}

module _ (file : Bytes) (words : List ℕ) where
  by-table : (b : Bool) → wrong_table (named_edition file) (length words) ≡ b
      → outcome_by b (empty Edition.first) words (Call.load file) ≡ outcome (empty Edition.first) words (Call.load file)
  by-table b e = sym (outcome-by (empty Edition.first) words (Call.load file) e)

  wrong-is : (length words ≡ table_words Edition.first → ⊥) → wrong_table (named_edition file) (length words) ≡ true
  unfolding wrong_table named_edition
  wrong-is n = ap not (ne_eqb (length words) (table_words Edition.first) n)

  right_is : length words ≡ table_words Edition.first → wrong_table (named_edition file) (length words) ≡ false
  unfolding wrong_table named_edition
  right_is long = ap not (eq-eqb (length words) (table_words Edition.first) long)

  pub without-table : {book : List ℕ} {code : Bytes} → (length words ≡ table_words Edition.first → ⊥) → Holds book code (empty Edition.first) → Loads file words (loaded refusal.wrong_table 0) words book code
  unfolding named_edition
  without-table {book} {code} n held =
      subst (λ (o : Outcome). Gives o (loaded refusal.wrong_table 0) words book code) (by-table true (wrong-is n)) (record { answered = refl; table = refl; holds = held })

  module _ (long : length words ≡ table_words Edition.first) {book : List ℕ} {code : Bytes} (number line : ℕ) (words' : List ℕ) where
    by-load : number ≡ (model.load file).number → line ≡ (model.load file).line → table (model.load file).state.declared (model.load file).state.ties ≡ words'
        → Holds book code (model.load file).state → Loads file words (loaded number line) words' book code
    by-load n l t held =
        subst (λ (o : Outcome). Gives o (loaded number line) words' book code) (by-table false (right_is long))
        (record { answered = ap₂ loaded (sym n) (sym l); table = t; holds = held })

    -- "Book empty, table all 0"
    pub refused-file : number ≡ (model.load file).number → line ≡ (model.load file).line → (number ≡ 0 → ⊥) → Holds book code (empty Edition.first)
        → words' ≡ replicate {A = ℕ} (length words) 0 → Loads file words (loaded number line) words' book code
    unfolding named_edition
    refused-file n l off held zeros =
        let nothing : (model.load file).state ≡ empty Edition.first =
        ap (λ (r : model.Loaded). r.state) (refused-load file (load-refused file (λ z. off (n ∙ z)))) in
        by-load n l
        (ap (λ (S : State). table S.declared S.ties) nothing ∙ empty-table Edition.first ∙ ap (λ (k : ℕ). replicate {A = ℕ} k 0) (sym long) ∙ sym zeros)
        (subst (Holds book code) (sym nothing) held)

  pub accepted-file : length words ≡ table_words Edition.first → {book : List ℕ} {code : Bytes} (words' : List ℕ) {lines : ℕ} → LoadedAs (model.load file) book code (Ok lines)
      → length book ≡ book_words → TableFilled book words' → Loads file words (loaded 0 lines) words' book code
  accepted-file long {book} {code} words' {lines} answer size filled =
      let held = answer.holds refl in
      by-load long 0 lines words' answer.number_is answer.line-is
      (sym (filled.whole (model.load file).state.declared (model.load file).state.ties (load-standing file) held.ties (part-size section.ups book size (omega arith) ∙ ap holder_numbers (sym held.edition)))) held
