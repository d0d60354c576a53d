-- An edit goes through as many holders and groups as the book counts: the first words of its sections keep the state's ties, and tell its groups.
-- Assumes nothing.
use Prim.Native.Nat.{ℕ, ◌+◌, ◌-◌, ◌*◌, ◌/◌, ◌%◌, ◌≤◌, ◌<◌}
use mathlib.Core.Path.{◌≡◌, refl, sym, ap, ap₂, subst, ◌∙◌}
use mathlib.Core.Logic.{⊎_elim}
use mathlib.Core.Bool.{Bool, true, false, not, ◌&&◌, true≢false}
use mathlib.Core.List.{List, ◌++◌}
use mathlib.Core.Option.{Option, some, none, some-injective}
use native.Mathlib.Decide.{dec_lt}
use native.Mathlib.Omega.{arith}
use lib.Dec.{eqb}
use lib.ListN.{length, get_or, take, drop, length-take, length-drop, get_or-eq_default}
use lib.Seq.{get_or-take, get_or-drop, get_or-append_right, length-take-le, take-take, take_at}
use borrow.Author.Tests.{eq-eqb, ne_eqb, lt-ltb, le-ltb, ltb-true}
use Rattle.model.specs.Limits.{Edition, holder_numbers, table_words}
use Rattle.model.specs.Bytes.{Bytes}
use Rattle.model.specs.Declarations.{Declarations, Sort, sort_of, is_group, is_holder, groups, holder_numbers_of}
use Rattle.model.specs.Ties.{Ties}
use Rattle.model.specs.Table.{effective_set}
use Rattle.model.specs.State.{State}
use Rattle.model.specs.Standing.{Standing}
use Rattle.model.proofs.WordTables.{none-is-some}
use Rattle.model.proofs.Lists.{true-or-false}
use Rattle.model.proofs.Standing.{numbers-length, sort-number, holder-below}
use Rattle.bits.specs.Bits.{bit, holds}
use Rattle.bits.proofs.Counts.{any-ext}
use Rattle.ties.specs.TieArrays.{in_use, grouped, tied_up, TellsGroups, KeepsTies, Distinct, Room}
use Rattle.ties.proofs.Masks.{in-use-lt, in-use-by, numbered-lt}
use Rattle.sets.specs.Filled.{KeepsSets}
use Rattle.sets.specs.Settled.{Shaped}
use Rattle.sets.specs.Refreshed.{Refreshed}
use Rattle.sets.proofs.LentSets.{holds_kept}
use Rattle.sets.proofs.Tables.{no-holder}
use Rattle.book.specs.Sections as section
use Rattle.book.specs.Sections.{Section, section_words, book_words, book_holders}
use Rattle.book.specs.Held.{Holds}
use Rattle.book.proofs.Sections.{part-size}
use Rattle.edit.specs.EditSteps.{holders_in, groups_in, TableKept}

-- a holder's pairs stand in the first words
pub holds-first : (n : ℕ) (t : List ℕ) (k p : ℕ) → k < n → p < 256 → holds (take (4 * n) t) k p ≡ holds t k p
unfolding holds
holds-first n t k p h l = ap (λ (w : ℕ). bit w (p % 64)) (get_or-take (4 * n) t (4 * k + p / 64) 0 (omega arith))

pub first-sets : (n m : ℕ) (t : List ℕ) (D : Declarations) (T : Ties) → n ≤ m → KeepsSets m t D T → KeepsSets n (take (4 * n) t) D T
unfolding KeepsSets
first-sets n m t D T few was k p h l = holds-first n t k p h l ∙ was k p (omega arith) l

-- where no holder is past n, and the words past its sets stay, all sets are right where the first are
pub all-sets : (n m : ℕ) (t t' : List ℕ) (D : Declarations) (T U : Ties) → Standing (record { declared = D; ties = T }) → Standing (record { declared = D; ties = U })
    → ((k : ℕ) → n ≤ k → is_holder D k ≡ false) → ((j : ℕ) → 4 * n ≤ j → get_or t' j 0 ≡ get_or t j 0) → KeepsSets m t D T → KeepsSets n (take (4 * n) t') D U → KeepsSets m t' D U
unfolding KeepsSets
all-sets n m t t' D T U before after past behind was now k p h l = go (dec_lt k n)
  where
    go : Dec (k < n) → holds t' k p ≡ effective_set D U k p
    go (yes a) = sym (holds-first n t' k p a l) ∙ now k p a l
    go (no a) =
        let none = past k (omega arith) in
        holds_kept t t' k p l (λ j e. behind j (omega arith)) ∙ was k p h l ∙ no-holder D T before k p none ∙ sym (no-holder D U after k p none)

-- ---- the first g slots, where no other has a number, and none a number past n

used-by : (n : ℕ) (slots : List ℕ) (q : ℕ) → 0 < get_or slots q 0 → get_or slots q 0 < n → in_use n slots q ≡ true
used-by n slots q pos l = sym (in-use-by n slots q (get_or slots q 0) refl (λ z. omega arith)) ∙ lt-ltb (get_or slots q 0) n l

-- a slot that has a number is one of those that are there
slot_lt : (g : ℕ) (slots : List ℕ) (q : ℕ) → 0 < get_or (take g slots) q 0 → q < g
slot_lt g slots q pos = omega (arith, numbered-lt (take g slots) q pos, length-take g slots)

module _ (n g : ℕ) (slots : List ℕ) (first : (q : ℕ) → q < 64 → 0 < get_or slots q 0 → (q < g) × (get_or slots q 0 < n)) where
  pub first-used : (m q : ℕ) → q < 64 → in_use m slots q ≡ true → in_use n (take g slots) q ≡ true
  first-used m q l u =
      let pos = (in-use-lt m slots q u).0 in
      let f = first q l pos in
      let e = get_or-take g slots q 0 f.0 in
      used-by n (take g slots) q (omega (arith, e, pos)) (omega (arith, e, f.1))

module _ {ups own slots : List ℕ} {T : Ties} (n g : ℕ) (kept : KeepsTies ups own slots T) (few : n ≤ length ups)
    (first : (q : ℕ) → q < 64 → 0 < get_or slots q 0 → (q < g) × (get_or slots q 0 < n)) where
  long : length (take n ups) ≡ n
  long = length-take-le n ups few

  first-tied : (h q : ℕ) → h < n → tied_up (take n ups) h q ≡ tied_up ups h q
  unfolding tied_up
  first-tied h q l = ap (λ (w : ℕ). bit w q) (get_or-take n ups h 0 l)

  -- a tie leads to one of the first slots
  tied-slot : (h q : ℕ) → h < n → q < 64 → tied_up ups h q ≡ true → q < g
  tied-slot h q l low on = (first q low (in-use-lt (length ups) slots q (kept.used h q (omega arith) low on)).0).0

  same_up : (h k q : ℕ) → h < n → q < 64 → (tied_up ups h q && eqb (get_or slots q 0) k) ≡ (tied_up (take n ups) h q && eqb (get_or (take g slots) q 0) k)
  same_up h k q l low = ⊎_elim
      (λ y. ap₂ (λ (a : Bool) (x : ℕ). a && eqb x k) (sym (first-tied h q l)) (sym (get_or-take g slots q 0 (tied-slot h q l low y))))
      (λ y. ap (λ (a : Bool). a && eqb (get_or slots q 0) k) y ∙ sym (ap (λ (a : Bool). a && eqb (get_or (take g slots) q 0) k) (first-tied h q l ∙ y)))
      (true-or-false (tied_up ups h q))

  first-distinct : Distinct (length (take n ups)) (take g slots)
  unfolding Distinct
  first-distinct q r l m u e =
      let used = in-use-lt (length (take n ups)) (take g slots) q u in
      let a = get_or-take g slots q 0 (slot_lt g slots q used.0) in
      let b = get_or-take g slots r 0 (slot_lt g slots r (omega (arith, e, used.0))) in
      kept.distinct q r l m (used-by (length ups) slots q (omega (arith, a, used.0)) (omega (arith, a, used.1, long))) (sym b ∙ e ∙ a)

  pub first-ties : KeepsTies (take n ups) (take (4 * n) own) (take g slots) T
  first-ties = record {
    pairs = λ h p l m. holds-first n own h p (omega (arith, long)) m ∙ kept.pairs h p (omega (arith, long)) m;
    groups = λ h k l. kept.groups h k (omega (arith, long))
        ∙ any-ext 64 (λ q. tied_up ups h q && eqb (get_or slots q 0) k) (λ q. tied_up (take n ups) h q && eqb (get_or (take g slots) q 0) k) (λ q low. same_up h k q (omega (arith, long)) low);
    used = λ h q l low on.
        subst (λ (m : ℕ). in_use m (take g slots) q ≡ true) (sym long)
        (first-used n g slots first (length ups) q low (kept.used h q (omega (arith, long)) low (sym (first-tied h q (omega (arith, long))) ∙ on)));
    distinct = first-distinct;
  }

-- ---- what the book counts

module _ {book : List ℕ} {code : Bytes} {S : State} (standing : Standing S) (held : Holds book code S) where
  pub holders-counted : holders_in book ≡ length S.declared.holders
  holders-counted =
      let e = get_or-take 8 (drop 0 book) 3 0 (omega arith) in
      let few = subst (λ (e : Edition). length (holder_numbers_of S.declared) ≤ holder_numbers e) held.edition standing.declarations.holders.few in
      omega (arith, e, held.counts.holders, few, numbers-length S.declared)

  pub groups-counted : groups_in book ≡ groups S.declared
  groups-counted =
      let e = get_or-take 8 (drop 0 book) 4 0 (omega arith) in
      omega (arith, e, held.counts.groups-are, standing.declarations.holders.few-groups)

  pub counted-room : Room S.declared (holders_in book)
  counted-room k h =
      let l = ltb-true k (length S.declared.holders) (sym (standing.declarations.holders.gapless k) ∙ h) in omega (arith, l, holders-counted)

  pub counted-past : (k : ℕ) → holders_in book ≤ k → is_holder S.declared k ≡ false
  counted-past k l = standing.declarations.holders.gapless k ∙ le-ltb k (length S.declared.holders) (omega (arith, holders-counted))

  sorted-lt : (k : ℕ) {s : Sort} → sort_of S.declared k ≡ some s → k < holders_in book
  sorted-lt k e = counted-room k (holder-below S.declared k (sort-number S.declared k e))

  pub counted-slots : (q : ℕ) → q < 64 → 0 < get_or (section_words section.slots book) q 0 → (q < groups_in book) × (get_or (section_words section.slots book) q 0 < holders_in book)
  counted-slots q low pos = go (dec_lt q (groups S.declared))
    where
      go : Dec (q < groups S.declared) → (q < groups_in book) × (get_or (section_words section.slots book) q 0 < holders_in book)
      go (yes l) = (omega (arith, groups-counted), sorted-lt (get_or (section_words section.slots book) q 0) (held.groups.taken q l).1)
      go (no n) = absurd (omega (arith, pos, held.groups.free q (omega arith) low))

  -- a group is no admin
  group-some : (k : ℕ) (s : Sort) → sort_of S.declared k ≡ some s → is_group s ≡ true → 0 < k
  unfolding sort_of
  group-some k s e i = go (dec_lt 0 k)
    where
      admin-sort : sort_of S.declared 0 ≡ some Sort.admin
      admin-sort = rw standing.declarations.holders.admin-first refl

      go : Dec (0 < k) → 0 < k
      go (yes l) = l
      go (no n) =
          let z : k ≡ 0 = omega arith in
          absurd (true≢false (sym i ∙ ap is_group (some-injective s Sort.admin (sym e ∙ ap (sort_of S.declared) z ∙ admin-sort))))

  module _ (k : ℕ) (on : grouped (section_words section.slot_of book) k ≡ true) where
    tells-slot : get_or (section_words section.slot_of book) k 0 ≡ 0 → ⊥
    unfolding grouped
    tells-slot z = true≢false (sym on ∙ ap not (eq-eqb (get_or (section_words section.slot_of book) k 0) 0 z))

    in-book : k < book_holders
    in-book = go (dec_lt k book_holders)
      where
        go : Dec (k < book_holders) → k < book_holders
        go (yes l) = l
        go (no n) =
            absurd (tells-slot (get_or-eq_default (section_words section.slot_of book) 0 {n = k} (omega (arith, part-size section.slot_of book held.long (omega arith)))))

    -- so it is a group
    told-group : (s : Sort) × (sort_of S.declared k ≡ some s) × (is_group s ≡ true)
    told-group = go (sort_of S.declared k) refl
      where
        go : (o : Option Sort) → sort_of S.declared k ≡ o → (s : Sort) × (sort_of S.declared k ≡ some s) × (is_group s ≡ true)
        go none e = absurd (tells-slot (held.groups.no_slot k in-book (λ s f. none-is-some (sym e ∙ f))))
        go (some s) e = ⊎_elim (λ i. (s, e, i))
            (λ i. absurd (tells-slot (held.groups.no_slot k in-book (λ u f. ap is_group (sym (some-injective s u (sym e ∙ f))) ∙ i))))
            (true-or-false (is_group s))

  pub counted-tells : TellsGroups (holders_in book) (take (groups_in book) (section_words section.slots book)) (section_words section.slot_of book)
  unfolding grouped
  counted-tells = record {
    told = λ q low u.
        let lt = slot_lt (groups_in book) (section_words section.slots book) q (in-use-lt _ (take (groups_in book) (section_words section.slots book)) q u).0 in
        let (s, e, i) = held.groups.taken q (omega (arith, lt, groups-counted)) in
        let (r, w, l, at) = held.groups.in-slot (get_or (section_words section.slots book) q 0) s e i in
        ap (λ (k : ℕ). not (eqb (get_or (section_words section.slot_of book) k 0) 0)) (get_or-take (groups_in book) (section_words section.slots book) q 0 lt)
        ∙ ap not (ne_eqb (get_or (section_words section.slot_of book) (get_or (section_words section.slots book) q 0) 0) 0 (λ z. omega (arith, w, z)));
    slot = λ k on.
        let (s, e, i) = told-group k on in
        let (q, w, l, at) = held.groups.in-slot k s e i in
        let same = get_or-take (groups_in book) (section_words section.slots book) q 0 (omega (arith, l, groups-counted)) in (
          q,
          omega (arith, l, standing.declarations.holders.few-groups),
          used-by (holders_in book) (take (groups_in book) (section_words section.slots book)) q (omega (arith, same, at, group-some k s e i)) (omega (arith, same, at, sorted-lt k e)),
          same ∙ at,
        );
  }

-- ---- what is lent

-- how many words of the sections and of the table are lent
pub lent : (book words : List ℕ) (n g : ℕ) → length book ≡ book_words → length words ≡ table_words Edition.first → n ≡ holders_in book → g ≡ groups_in book
    → Shaped (take ((section.ups).start + n - (section.ups).start) (drop (section.ups).start book))
    (take ((section.own).start + 4 * n - (section.own).start) (drop (section.own).start book))
    (take ((section.slots).start + g - (section.slots).start) (drop (section.slots).start book)) (take (4 * n) words)
    × (length (take ((section.ups).start + n - (section.ups).start) (drop (section.ups).start book)) ≤ book_holders)
lent book words n g size long is-n is-g =
    let part : (a m : ℕ) → a + m ≤ book_words → length (take (a + m - a) (drop a book)) ≡ m =
    λ a m room. omega (arith, length-take (a + m - a) (drop a book), length-drop a book) in
    let ups = part (section.ups).start n (omega arith) in
    let own = part (section.own).start (4 * n) (omega arith) in
    let slots = part (section.slots).start g (omega arith) in
    (record { own-long = omega (arith, ups, own); slots-long = omega (arith, slots); table-long = omega (arith, ups, length-take (4 * n) words) }, omega (arith, ups))

-- the first n words of a section
lent_is : (s : Section) (n m : ℕ) (book : List ℕ) → n ≡ m → m ≤ s.size → take (s.start + n - s.start) (drop s.start book) ≡ take m (section_words s book)
lent_is s n m book e few =
    let z : s.start + n - s.start ≡ m = omega arith in
    ap (λ (x : ℕ). take x (drop s.start book)) z ∙ sym (take-take m s.size (drop s.start book) few)

-- the same lists in other words
refreshed-as : {ups ups' own own' slots slots' slot_of t t' u u' : List ℕ} {e r j : ℕ} → ups ≡ ups' → own ≡ own' → slots ≡ slots' → t ≡ t' → u ≡ u'
    → Refreshed ups own slots slot_of e t u r j → Refreshed ups' own' slots' slot_of e t' u' r j
refreshed-as {ups' = ups'} {own} {own'} {slots} {slots'} {slot_of} {t} {t'} {u} {u'} {e} {r} {j} a b c d f x =
    subst (λ (l : List ℕ). Refreshed ups' own' slots' slot_of e t' l r j) f
    (subst (λ (l : List ℕ). Refreshed ups' own' slots' slot_of e l u r j) d
    (subst (λ (l : List ℕ). Refreshed ups' own' l slot_of e t u r j) c
    (subst (λ (l : List ℕ). Refreshed ups' l slots slot_of e t u r j) b
    (subst (λ (l : List ℕ). Refreshed l own slots slot_of e t u r j) a x))))

module _ (book words part : List ℕ) (e n g r j : ℕ) (is-n : n ≡ holders_in book) (is-g : g ≡ groups_in book) (few : 4 * n ≤ length words)
    (same : length part ≡ length (take (4 * n) words))
    (b : Refreshed (take ((section.ups).start + n - (section.ups).start) (drop (section.ups).start book))
    (take ((section.own).start + 4 * n - (section.own).start) (drop (section.own).start book))
    (take ((section.slots).start + g - (section.slots).start) (drop (section.slots).start book)) (section_words section.slot_of book) e (take (4 * n) words) part r j) where
  part-long : length part ≡ 4 * n
  part-long = same ∙ length-take-le (4 * n) words few

  front : take (4 * n) (part ++ drop (4 * n) words) ≡ part
  front = take_at part (drop (4 * n) words) (4 * n) part-long

  behind : (j : ℕ) → 4 * n ≤ j → get_or (part ++ drop (4 * n) words) j 0 ≡ get_or words j 0
  behind j l =
      let z : 4 * n + (j - length part) ≡ j = omega (arith, part-long) in
      get_or-append_right part (drop (4 * n) words) j 0 (omega (arith, part-long)) ∙ get_or-drop (4 * n) words (j - length part) 0 ∙ ap (λ (i : ℕ). get_or words i 0) z

  pub table_kept : TableKept book e words (part ++ drop (4 * n) words) r j
  table_kept =
      let four : 4 * n ≡ 4 * holders_in book = omega arith in
      record {
        refreshed = refreshed-as
            (lent_is section.ups n (holders_in book) book is-n (omega arith))
            (lent_is section.own (4 * n) (4 * holders_in book) book four (omega arith))
            (lent_is section.slots g (groups_in book) book is-g (omega arith))
            (ap (λ (x : ℕ). take x words) four)
            (sym front ∙ ap (λ (x : ℕ). take x (part ++ drop (4 * n) words)) four)
            b;
        behind = λ i l. behind i (omega arith);
      }
