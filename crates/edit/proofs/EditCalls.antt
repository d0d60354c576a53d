-- The call of an edit gives the ledger's outcome: on a table of another length, where it is refused, and where it is accepted. Assumes nothing.
use Prim.Native.Nat.{ℕ}
use mathlib.Core.Path.{◌≡◌, refl, sym, ap, ap₂, subst, ◌∙◌}
use mathlib.Core.Bool.{Bool, not}
use mathlib.Core.List.{List}
use mathlib.Core.Option.{Option, some}
use native.Mathlib.Omega.{arith}
use Rattle.std.proofs.Common.{Result, Ok}
use lib.ListN.{length}
use borrow.Author.Tests.{eq-eqb, ne_eqb}
use Rattle.model.specs.Notation.{if◌then◌otherwise◌}
use Rattle.model.specs.Limits.{Edition, table_words}
use Rattle.model.specs.Numbers as refusal
use Rattle.model.specs.Bytes.{Bytes}
use Rattle.model.specs.Ties as ties
use Rattle.model.specs.Ties.{edited_holder}
use Rattle.model.specs.Table.{table}
use Rattle.model.specs.State.{State}
use Rattle.model.specs.Refusals.{wrong_table, edit_refusal}
use Rattle.model.specs.Edits as model
use Rattle.model.specs.Edits.{edited_tie, adds, edited_ties, changes, set_joins, joins_of, accepting, refusing}
use Rattle.model.specs.Ledger.{Call, Answer, edited, table_after, Outcome, outcome}
use Rattle.model.specs.Standing.{Standing}
use Rattle.model.proofs.Outcomes.{outcome-by}
use Rattle.book.specs.Held.{Holds}
use Rattle.book.specs.Calls.{refused_edit, Gives, Together, Edits}
use Rattle.codes.specs.declared.Refusal.{Refusal}
use Rattle.tielines.specs.declared.Tie.{Tie}
use Rattle.tielines.specs.TieReading.{tie_of}
use Rattle.tielines.specs.TieSteps.{TieJudged}
use Rattle.edit.specs.EditSteps.{LineTie, Applied, Bounded, Untouched, SetsElsewhere, EditCall}
use Rattle.edit.proofs.EditedSets.{sets-elsewhere}
use Rattle.edit.proofs.EditRefusals.{SignedLine, tie-refusal, edited-tie, adds-is}

module _ (S : State) (words : List ℕ) (line : Bytes) where
  -- the outcome by the specification's edit
  abbrev after : model.Edited → Outcome
  after r = record { answer = edited r.number r.changed r.joins; words = table r.state.declared r.state.ties; state = r.state }

  on-table : length words ≡ table_words S.declared.edition → {r : model.Edited} → model.edit S line ≡ r → outcome S words (Call.edit line) ≡ after r
  unfolding wrong_table
  on-table size e = outcome-by S words (Call.edit line) (ap not (eq-eqb (length words) (table_words S.declared.edition) size)) ∙ ap after e

  kept_table : length words ≡ table_words S.declared.edition → table_after words S ≡ words → words ≡ table S.declared S.ties
  unfolding table_after wrong_table
  kept_table size e = sym e ∙ ap (λ (b : Bool). if not b then words otherwise table S.declared S.ties) (eq-eqb (length words) (table_words S.declared.edition) size)

  refuses : (edit_refusal S line ≡ 0 → ⊥) → model.edit S line ≡ refusing S line
  unfolding model.edit
  refuses z = ap (λ (b : Bool). if b then accepting S line otherwise refusing S line) (ne_eqb (edit_refusal S line) 0 z)

  accepts : edit_refusal S line ≡ 0 → {plus : Bool} {t : ties.Tie} → adds line ≡ plus → edited_tie S line ≡ some t
      → model.edit S line ≡ record {
        number = 0;
        changed = changes S.declared S.ties (edited_ties plus (some t) S.ties);
        joins = set_joins S.declared (edited_ties plus (some t) S.ties) (edited_holder t);
        state = record { declared = S.declared; ties = edited_ties plus (some t) S.ties };
      }
  unfolding model.edit
  accepts z a e =
      ap (λ (b : Bool). if b then accepting S line otherwise refusing S line) (eq-eqb (edit_refusal S line) 0 z)
      ∙ ap₂ (λ (b : Bool) (o : Option ties.Tie). record {
        number = 0;
        changed = changes S.declared S.ties (edited_ties b o S.ties);
        joins = joins_of S.declared o (edited_ties b o S.ties);
        state = record { declared = S.declared; ties = edited_ties b o S.ties };
      }) a e

-- an edit that gives the ledger's outcome leaves the sets elsewhere
elsewhere-by : (line : Bytes) {book words : List ℕ} {a : Answer} {words' book' : List ℕ} → Edits line book words a words' book'
    → (S : State) (code : Bytes) → Together S book code words → SetsElsewhere S line words words'
elsewhere-by line edits S code together = sets-elsewhere line together (edits S code together)

module _ (line : Bytes) (book words : List ℕ) (number : ℕ) where
  untouched : Untouched book words words book
  untouched = record { same-table = refl; same-book = refl }

  -- "1: table not 1,024 words, any call. Table untouched; … an edit keeps its own" book
  pub without-table : (length words ≡ table_words Edition.first → ⊥) → number ≡ refusal.wrong_table → EditCall line book words (refused_edit number) words book
  unfolding wrong_table
  without-table wrong one = record {
    edits = given;
    elsewhere = elsewhere-by line given;
    wrong-table = λ _. (ap refused_edit one, untouched);
    refused = λ _. (refl, untouched);
    bounded = record { few = omega arith; few-joins = omega arith };
    table-long = refl;
    book-long = refl;
  }
    where
      given : Edits line book words (refused_edit number) words book
      given S code together =
          subst (λ (o : Outcome). Gives o (refused_edit number) words book code)
          (sym (outcome-by S words (Call.edit line) (ap not (ne_eqb (length words) (table_words S.declared.edition) (λ e. wrong (e ∙ ap table_words together.holds.edition))))))
          (record { answered = ap refused_edit (sym one); table = refl; holds = together.holds })

  -- "a refused edit changes nothing"
  pub refused-call : length words ≡ table_words Edition.first → (number ≡ 0 → ⊥)
      → ((S : State) (code : Bytes) → Standing S → Holds book code S → edit_refusal S line ≡ number) → EditCall line book words (refused_edit number) words book
  refused-call size z judged = record {
    edits = given;
    elsewhere = elsewhere-by line given;
    wrong-table = λ wrong. absurd (wrong size);
    refused = λ _. (refl, untouched);
    bounded = record { few = omega arith; few-joins = omega arith };
    table-long = refl;
    book-long = refl;
  }
    where
      given : Edits line book words (refused_edit number) words book
      given S code together =
          let n = judged S code together.standing together.holds in
          let right = size ∙ ap table_words (sym together.holds.edition) in
          let is-refused = refuses S words line (λ e. z (sym n ∙ e)) in
          subst (λ (o : Outcome). Gives o (refused_edit number) words book code) (sym (on-table S words line right is-refused))
          (record { answered = ap refused_edit n; table = sym (kept_table S words line right together.kept); holds = together.holds })

-- "The answer is 0 and the number of holders whose stored set changed"
pub accepted-call : (edit : Bytes) (book words words' book' : List ℕ) (count joins : ℕ)
    → length words ≡ table_words Edition.first → length words' ≡ length words → length book' ≡ length book
    → (plus : Bool) (line : Bytes) → SignedLine edit plus line → {r : Result Tie Refusal} {t : Tie} → LineTie book line r → r ≡ Ok t → {n : ℕ} → TieJudged book (tie_of t) plus n → n ≡ 0
    → Applied plus (tie_of t) book book' words words' count joins → Bounded count joins → EditCall edit book words (edited 0 count joins) words' book'
accepted-call edit book words words' book' count joins size long book-long' plus line signed {t = t} told z judged y applied bounded = record {
  edits = given;
  elsewhere = elsewhere-by edit given;
  wrong-table = λ wrong. absurd (wrong size);
  refused = λ z. absurd (z refl);
  bounded = bounded;
  table-long = long;
  book-long = book-long';
}
  where
    given : Edits edit book words (edited 0 count joins) words' book'
    given S code together =
        let right = size ∙ ap table_words (sym together.holds.edition) in
        let read = told S code together.standing together.holds in
        let fits = read.fits t z in
        let passed = sym y ∙ judged S code together.standing together.holds fits in
        let zero' = tie-refusal S edit plus line signed read z ∙ sym passed in
        let is-accepted = accepts S words edit zero' (adds-is S edit plus line signed) (edited-tie S edit plus line signed read z) in
        let done = applied S code together.standing together.holds (kept_table S words edit right together.kept) fits passed in
        subst (λ (o : Outcome). Gives o (edited 0 count joins) words' book' code) (sym (on-table S words edit right is-accepted))
        (record { answered = ap₂ (edited 0) (sym done.counted) (sym done.joined); table = sym done.table_is; holds = done.holds })
