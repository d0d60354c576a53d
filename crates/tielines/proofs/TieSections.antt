-- A book whose words of ties are written holds the declarations that it held, with the ties that those words keep. Assumes nothing.
use Prim.Native.Nat.{ℕ, ◌+◌, ◌≤◌}
use mathlib.Core.Path.{◌≡◌, refl, sym, ap, subst, ◌∙◌}
use mathlib.Core.Bool.{Bool, not}
use mathlib.Core.List.{List}
use mathlib.Core.Option.{some}
use native.Mathlib.Omega.{arith}
use lib.ListN.{length, take, drop}
use lib.Seq.{drop-drop}
use borrow.Rule.Slice.PartMut.{put_mid, take_put, drop_put, same_len_mid}
use Rattle.model.specs.Limits.{pair_limit}
use Rattle.model.specs.Bytes.{Bytes}
use Rattle.model.specs.Ties.{Tie, Ties}
use Rattle.model.specs.State.{State}
use Rattle.model.specs.Edits.{edited_ties}
use Rattle.model.specs.Standing.{Standing, TieFits}
use Rattle.rows.specs.Rows.{AttributeRows}
use Rattle.index.specs.Index.{Indexed}
use Rattle.ties.specs.TieArrays.{KeepsTies}
use Rattle.book.specs.Sections as section
use Rattle.book.specs.Sections.{Section, section_words, book_words, book_holders}
use Rattle.book.specs.Held.{CountsOf, OperationRows, pair_row, holder_row, SortRows, GroupSlots, RuleRows, Holds}
use Rattle.tielines.specs.TieSteps.{TieChanged}
use Rattle.book.proofs.Sections.{part-size, front, mid-inside, mid-before}

module _ {book : List ℕ} {code : Bytes} {S : State} (held : Holds book code S) (book' : List ℕ) (long : length book' ≡ book_words)
    (before : take (section.ups).start book' ≡ take (section.ups).start book) (behind : drop (section.rules).start book' ≡ drop (section.rules).start book) where
  -- a section before those of ties
  pub section-before : (s : Section) → s.start + s.size ≤ (section.ups).start → section_words s book' ≡ section_words s book
  section-before s l =
      sym (front s.size s.start (section.ups).start book' l) ∙ ap (λ (z : List ℕ). take s.size (drop s.start z)) before ∙ front s.size s.start (section.ups).start book l

  slots_same : section_words section.slots book' ≡ section_words section.slots book
  slots_same = section-before section.slots (omega arith)

  pub with-ties : (T : Ties) → KeepsTies (section_words section.ups book') (section_words section.own book') (section_words section.slots book) T → Holds book' code (record { declared = S.declared; ties = T })
  with-ties T kept = record {
    edition = held.edition;
    long = long;
    code-long = held.code-long;
    counts = subst (λ (w : List ℕ). CountsOf w S.declared) (sym (section-before section.counts (omega arith))) held.counts;
    attributes = subst (λ (w : List ℕ). AttributeRows w S.declared) (sym (section-before section.attributes (omega arith))) held.attributes;
    operations = subst (λ (w : List ℕ). OperationRows w S.declared.operations) (sym (section-before section.operations (omega arith))) held.operations;
    pairs = subst (λ (w : List ℕ). Indexed w pair_limit (pair_row S.declared)) (sym (section-before section.pairs (omega arith))) held.pairs;
    holders = subst (λ (w : List ℕ). Indexed w book_holders (holder_row S.declared)) (sym (section-before section.holders (omega arith))) held.holders;
    sorts = subst (λ (w : List ℕ). SortRows w S.declared) (sym (section-before section.sorts (omega arith))) held.sorts;
    groups = subst (λ (w : List ℕ). GroupSlots w (section_words section.slot_of book') S.declared) (sym slots_same)
        (subst (λ (w : List ℕ). GroupSlots (section_words section.slots book) w S.declared) (sym (section-before section.slot_of (omega arith))) held.groups);
    ties = subst (λ (w : List ℕ). KeepsTies (section_words section.ups book') (section_words section.own book') w T) (sym slots_same) kept;
    rules = subst (λ (w : List ℕ). RuleRows w code S.declared) (sym (ap (take (section.rules).size) behind)) held.rules;
  }

-- a book as it was, where the tie fits no declarations
pub unedited : {t : Tie} {plus : Bool} (book : List ℕ) → length book ≡ book_words
    → ((S : State) (code : Bytes) → Standing S → Holds book code S → TieFits S.declared t → ⊥) → TieChanged t plus book book
unedited book long never = record { long = long; before = refl; behind = refl; holds = λ S code standing held fits on. absurd (never S code standing held fits) }

-- words written in the section of ties up, and in that of own pairs
module _ (book ys : List ℕ) (long : length book ≡ book_words) (t : Tie) (plus : Bool) where
  pub ups-edited : length ys ≡ (section.ups).size
      → ((S : State) (code : Bytes) → Standing S → Holds book code S → TieFits S.declared t → S.ties t ≡ not plus → KeepsTies ys (section_words section.own book) (section_words section.slots book) (edited_ties plus (some t) S.ties))
      → TieChanged t plus book (put_mid (section.ups).start (section.ups).size book ys)
  ups-edited size keeps =
      let start = (section.ups).start in
      let book' = put_mid start (section.ups).size book ys in
      let next = (section.own).start in
      let before : take start book' ≡ take start book = take_put start (section.ups).size book ys (omega arith) in
      let from : drop next book' ≡ drop next book = drop_put start next book ys (omega arith) (omega arith) size in
      let behind : drop (section.rules).start book' ≡ drop (section.rules).start book =
      sym (drop-drop (section.own).size next book') ∙ ap (drop (section.own).size) from ∙ drop-drop (section.own).size next book in
      let all : length book' ≡ book_words = same_len_mid start (section.ups).size book ys (size ∙ sym (part-size section.ups book long (omega arith))) ∙ long in
      record {
        long = all;
        before = before;
        behind = behind;
        holds = λ S code standing held fits on.
            with-ties held book' all before behind (edited_ties plus (some t) S.ties)
            (subst (λ (w : List ℕ). KeepsTies w (section_words section.own book') (section_words section.slots book) (edited_ties plus (some t) S.ties))
            (sym (mid-inside start (section.ups).size book ys (omega arith) size))
            (subst (λ (w : List ℕ). KeepsTies ys w (section_words section.slots book) (edited_ties plus (some t) S.ties)) (sym (ap (take (section.own).size) from)) (keeps S code standing held fits on)));
      }

  pub own-edited : length ys ≡ (section.own).size
      → ((S : State) (code : Bytes) → Standing S → Holds book code S → TieFits S.declared t → S.ties t ≡ not plus → KeepsTies (section_words section.ups book) ys (section_words section.slots book) (edited_ties plus (some t) S.ties))
      → TieChanged t plus book (put_mid (section.own).start (section.own).size book ys)
  own-edited size keeps =
      let start = (section.own).start in
      let book' = put_mid start (section.own).size book ys in
      let rules = (section.rules).start in
      let before : take (section.ups).start book' ≡ take (section.ups).start book =
      mid-before start (section.own).size book ys (omega arith) 0 (section.ups).start (omega arith) in
      let behind : drop rules book' ≡ drop rules book = drop_put start rules book ys (omega arith) (omega arith) size in
      let all : length book' ≡ book_words = same_len_mid start (section.own).size book ys (size ∙ sym (part-size section.own book long (omega arith))) ∙ long in
      record {
        long = all;
        before = before;
        behind = behind;
        holds = λ S code standing held fits on.
            with-ties held book' all before behind (edited_ties plus (some t) S.ties)
            (subst (λ (w : List ℕ). KeepsTies (section_words section.ups book') w (section_words section.slots book) (edited_ties plus (some t) S.ties))
            (sym (mid-inside start (section.own).size book ys (omega arith) size))
            (subst (λ (w : List ℕ). KeepsTies w ys (section_words section.slots book) (edited_ties plus (some t) S.ties))
            (sym (mid-before start (section.own).size book ys (omega arith) (section.ups).start (section.ups).size (omega arith))) (keeps S code standing held fits on)));
      }
