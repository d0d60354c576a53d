-- A tie more or less, and the table refreshed: the book holds the changed state, and the table is that state's. Assumes nothing.
use Prim.Native.Nat.{ℕ, ◌*◌, ◌^◌, ◌≤◌, ◌<◌}
use mathlib.Core.Path.{◌≡◌, refl, sym, ap, subst, ◌∙◌}
use mathlib.Core.Bool.{Bool, true, false, ◌&&◌, ◌||◌, not}
use mathlib.Core.List.{List}
use mathlib.Core.Option.{some}
use native.Mathlib.Omega.{arith}
use lib.ListN.{length, get_or, take}
use lib.Seq.{length-take-le}
use Rattle.model.specs.Limits.{Edition, holder_numbers, table_words}
use Rattle.model.specs.Bytes.{Bytes}
use Rattle.model.specs.Declarations.{Declarations, is_holder}
use Rattle.model.specs.Ties.{Tie, Ties, edited_holder}
use Rattle.model.specs.Table.{table}
use Rattle.model.specs.State.{State}
use Rattle.model.specs.Edits.{edited_ties, changes, set_joins}
use Rattle.model.specs.Standing.{Standing, TieFits, DifferAt}
use Rattle.model.proofs.Tests.{NoneHolds, none-holds}
use Rattle.model.proofs.Ties.{other-tie}
use Rattle.model.proofs.Standing.{sort-number, holder-below, added-standing, removed-standing}
use Rattle.ties.specs.TieArrays.{TellsGroups, Room}
use Rattle.sets.specs.Filled.{KeepsSets}
use Rattle.sets.specs.Refreshed.{EditedAt}
use Rattle.sets.proofs.Tables.{sets-table, table-sets}
use Rattle.book.specs.Sections as section
use Rattle.book.specs.Sections.{section_words}
use Rattle.book.specs.Held.{Holds}
use Rattle.tielines.specs.TieSteps.{sign_tests, TieChanged}
use Rattle.tielines.proofs.TieRefusals.{stood}
use Rattle.book.proofs.Sections.{part-size}
use Rattle.edit.specs.EditSteps.{holders_in, groups_in, TableKept, Applied}
use Rattle.edit.proofs.LentTies.{first-sets, all-sets, first-ties, counted-room, counted-past, counted-slots, counted-tells}

-- the edited holder is a holder, where the tie fits
edited-there : (D : Declarations) (t : Tie) → TieFits D t → is_holder D (edited_holder t) ≡ true
edited-there D (Tie.parent c g) fits = holder-below D c (sort-number D c fits.lower-is)
edited-there D (Tie.member p g) fits = holder-below D p (sort-number D p fits.lower-is)
edited-there D (Tie.value h p) fits = holder-below D h (sort-number D h fits.sort-is)

-- its ties alone differ
edited-differs : (plus : Bool) (t : Tie) (T : Ties) → DifferAt (edited_holder t) T (edited_ties plus (some t) T)
edited-differs true t T u n = ap (λ (b : Bool). b || T u) (other-tie t u n)
edited-differs false t T u n = ap (λ (b : Bool). not b && T u) (other-tie t u n)

module _ (S : State) (t : Tie) where
  edited-standing : Standing S → (plus : Bool) → TieFits S.declared t → NoneHolds (sign_tests S t plus)
      → Standing (record { declared = S.declared; ties = edited_ties plus (some t) S.ties })
  edited-standing standing true fits h = added-standing standing t fits h.1.0
  edited-standing standing false fits h = removed-standing standing t

module _ (plus : Bool) (t : Tie) (book book' words words' : List ℕ) (e count joins : ℕ) (holder : edited_holder t ≡ e)
    (changed : TieChanged t plus book book') (kept : TableKept book' e words words' count joins) (long : length words' ≡ table_words Edition.first) (fit : (j : ℕ) → get_or words' j 0 < 2 ^ 64) where
  -- the first holders' sets go from one state's to the other's, and there is no other holder
  module _ (code : Bytes) (D : Declarations) (T U : Ties) (before : Standing (record { declared = D; ties = T })) (after : Standing (record { declared = D; ties = U }))
      (held : Holds book' code (record { declared = D; ties = U })) (there : is_holder D e ≡ true) (differ : DifferAt e T U) (was : words ≡ table D T) where
    ups : List ℕ
    ups = take (holders_in book') (section_words section.ups book')

    ups-long : length ups ≡ holders_in book'
    unfolding ups
    ups-long = length-take-le (holders_in book') (section_words section.ups book') (omega (arith, part-size section.ups book' held.long (omega arith)))

    edited-at : EditedAt ups (take (4 * holders_in book') (section_words section.own book')) (take (groups_in book') (section_words section.slots book')) (section_words section.slot_of book') e D T U
    unfolding ups
    edited-at = record {
      before = before;
      after = after;
      there = there;
      differ = differ;
      kept = first-ties (holders_in book') (groups_in book') held.ties (omega (arith, part-size section.ups book' held.long (omega arith))) (counted-slots after held);
      tells = subst (λ (n : ℕ). TellsGroups n (take (groups_in book') (section_words section.slots book')) (section_words section.slot_of book')) (sym ups-long) (counted-tells after held);
    }

    edition : table_words D.edition ≡ table_words Edition.first
    edition = ap table_words held.edition

    refreshed : (words' ≡ table D U) × (count ≡ changes D T U) × (joins ≡ set_joins D U e)
    unfolding ups
    refreshed =
        let n = holders_in book' in
        let sets = table-sets D T before words was in
        let few : n ≤ holder_numbers D.edition = omega (arith, edition) in
        let first = subst (λ (m : ℕ). KeepsSets m (take (4 * n) words) D T) (sym ups-long) (first-sets n (holder_numbers D.edition) words D T few sets) in
        let room = subst (Room D) (sym ups-long) (counted-room after held) in
        let now = kept.refreshed.pairs D T U edited-at room first in
        let right = subst (λ (m : ℕ). KeepsSets m (take (4 * n) words') D U) ups-long now.0 in (
          sets-table D U after words' (long ∙ sym edition) fit (all-sets n (holder_numbers D.edition) words words' D T U before after (counted-past after held) kept.behind sets right),
          now.1,
          kept.refreshed.joined D T U edited-at room,
        )

  pub applied : Applied plus t book book' words words' count joins
  applied S code standing held was fits passed =
      let none-refused = none-holds (sign_tests S t plus) refl (sym passed) in
      let held' = changed.holds S code standing held fits (stood S t plus passed) in
      let U = edited_ties plus (some t) S.ties in
      let r = refreshed code S.declared S.ties U standing (edited-standing S t standing plus fits none-refused) held'
      (ap (is_holder S.declared) (sym holder) ∙ edited-there S.declared t fits) (subst (λ (x : ℕ). DifferAt x S.ties U) holder (edited-differs plus t S.ties)) was in
      record { holds = held'; table_is = r.0; counted = r.1; joined = r.2 ∙ ap (set_joins S.declared U) (sym holder) }
