-- An edit's table: the edited holder and those below it anew, and the others as they were. Assumes nothing.
use Prim.Native.Nat.{ℕ, zero, suc, ◌-◌, ◌*◌, ◌/◌, ◌%◌, ◌^◌, ◌≤◌, ◌<◌}
use mathlib.Core.Path.{◌≡◌, refl, sym, ap, ap₂, ◌∙◌, subst}
use mathlib.Core.Logic.{◌⊎◌, inl, inr, ⊎_elim}
use mathlib.Core.Bool.{Bool, true, false, not, ◌&&◌, ◌||◌, beq, true≢false, or-false, and-false}
use mathlib.Core.List.{List}
use native.Mathlib.Nat.{eq-or-lt_of_le, lt_of_lt_of_le}
use native.Mathlib.Decide.{dec_lt}
use native.Mathlib.Omega.{arith}
use lib.Dec.{eqb}
use lib.ListN.{length, get_or, replicate, get_or-eq_default, get_or-replicate, length-replicate}
use borrow.Author.Tests.{eq-eqb, eqb-true, ne_eqb, not-true, not-false}
use Rattle.model.specs.Notation.{map}
use Rattle.model.specs.Declarations.{Declarations, Holder, is_holder, holder_numbers_of}
use Rattle.model.specs.Ties.{Ties}
use Rattle.model.specs.Table.{effective_set}
use Rattle.model.specs.Edits.{differs, changes, set_joins}
use Rattle.model.proofs.Options.{parts, both}
use Rattle.model.proofs.Lists.{true-or-false, or_cases, or_left, or_right, or-none, ◌∈◌, count-ext as List-ext}
use Rattle.model.proofs.Numbered.{count-numbers}
use Rattle.model.proofs.Effective.{same-elsewhere}
use Rattle.model.specs.Standing.{Standing}
use Rattle.model.proofs.Standing as model
use Rattle.bits.specs.Bits.{bit, member, holds, any_below, count_below}
use Rattle.bits.proofs.Bits.{bit-none, bit_not}
use Rattle.bits.proofs.Sets.{same-beq}
use Rattle.bits.proofs.Counts.{any-ext, any-suc, any_at, any-find, find-any, count-ext, count-below-le}
use Rattle.ties.specs.TieArrays.{in_use, grouped, tied_up, meets, under, Distinct, TellsGroups, Room, Under, here, over, Marks}
use Rattle.ties.proofs.Masks.{in-use-lt}
use Rattle.ties.proofs.Widening.{none_below}
use Rattle.ties.proofs.Below.{above-meets, holders-fit}
use Rattle.ties.specs.TieJoins.{joins_by, JoinsBelow}
use Rattle.ties.proofs.Joining.{joins-by-few, joins-few, joins-alone, joins-are}
use Rattle.sets.specs.Settled.{Solves, RightAt, Right, Stored, unlike, Settled, AllDeep, GroupsRight, party_below, PartiesStored}
use Rattle.sets.specs.Filled.{KeepsSets}
use Rattle.sets.specs.Refreshed.{EditedAt, Elsewhere, Rewritten, Refreshed}
use Rattle.sets.proofs.LentSets.{holds_kept}
use Rattle.sets.proofs.Telling.{SameAt, unlike-past, others_same, told_more}
use Rattle.sets.proofs.Laws.{stored-right, group-no-party, apart-no-party, party-by}
use Rattle.sets.proofs.Tables.{pair-declared, no-holder}
use Rattle.sets.proofs.Solving.{all-deep, effective-solves, groups-right}

-- none passes from n on
any-rest : (n m : ℕ) (f : ℕ → Bool) → n ≤ m → ((i : ℕ) → n ≤ i → i < m → f i ≡ false) → any_below m f ≡ any_below n f
any-rest n zero f l e = ap (λ (k : ℕ). any_below k f) (let z : 0 ≡ n = omega arith in z)
any-rest n (suc m) f l e = ⊎_elim
    (λ q. ap (λ (k : ℕ). any_below k f) (sym q))
    (λ h. any-suc m f ∙ ap (λ (b : Bool). any_below m f || b) (e m (omega arith) (omega arith)) ∙ or-false (any_below m f) ∙ any-rest n m f (omega arith) (λ i a b. e i a (omega arith)))
    (eq-or-lt_of_le l)

-- the empty set
no-numbers : (k : ℕ) → member (replicate 4 0) k ≡ false
unfolding member
no-numbers k = ap (λ (w : ℕ). bit w (k % 64)) (go (dec_lt (k / 64) 4)) ∙ bit-none (k % 64)
  where
    go : Dec (k / 64 < 4) → ◌≡◌ {A = ℕ} (get_or (replicate 4 0) (k / 64) 0) 0
    go (yes l) = get_or-replicate 4 (k / 64) 0 0 l
    go (no l) = get_or-eq_default (replicate 4 0) 0 {n = k / 64} (omega (arith, length-replicate {A = ℕ} 4 0))

-- ---- the groups at e and below it, in the arrays

module _ (ups slots : List ℕ) (e m : ℕ) (marks : Marks ups slots e m) where
  -- a group of the mask is e, or has a tie into the mask
  marked-under : (q : ℕ) → q < 64 → bit m q ≡ true → under ups m e (get_or slots q 0) ≡ true
  unfolding under meets tied_up
  marked-under q l on = by (marks.sound q l on)
    where
      by : Under ups slots e q → (eqb (get_or slots q 0) e || any_below 64 (λ r. bit (get_or ups (get_or slots q 0) 0) r && bit m r)) ≡ true
      by (here u at) = or_left (eqb (get_or slots q 0) e) (any_below 64 (λ r. bit (get_or ups (get_or slots q 0) 0) r && bit m r)) (eq-eqb (get_or slots q 0) e at)
      by (over {r = r} u low on c) =
          or_right (eqb (get_or slots q 0) e) (any_below 64 (λ r. bit (get_or ups (get_or slots q 0) 0) r && bit m r))
          (find-any 64 (λ r. bit (get_or ups (get_or slots q 0) 0) r && bit m r) r low (both on (marks.complete r low c)))

  -- and the other way round
  under-marked : (q : ℕ) → q < 64 → in_use (length ups) slots q ≡ true → under ups m e (get_or slots q 0) ≡ true → bit m q ≡ true
  unfolding under meets tied_up
  under-marked q l u y =
      marks.complete q l (⊎_elim (λ z. here u (eqb-true (get_or slots q 0) e z))
      (λ z.
      let r = any-find 64 (λ r. bit (get_or ups (get_or slots q 0) 0) r && bit m r) z in
      let s = parts (bit (get_or ups (get_or slots q 0) 0) r.0) (bit m r.0) r.2 in
      over u r.1 s.0 (marks.sound r.0 r.1 s.1))
      (or_cases (eqb (get_or slots q 0) e) (any_below 64 (λ r. bit (get_or ups (get_or slots q 0) 0) r && bit m r)) y))

  not-under : (k : ℕ) → (k ≡ e → ⊥) → ((q : ℕ) → q < 64 → tied_up ups k q ≡ true → Under ups slots e q → ⊥) → under ups m e k ≡ false
  unfolding under meets tied_up
  not-under k no-e none =
      ap₂ (λ (a b : Bool). a || b) (ne_eqb k e no-e) (⊎_elim
      (λ y.
      let r = any-find 64 (λ q. bit (get_or ups k 0) q && bit m q) y in
      let s = parts (bit (get_or ups k 0) r.0) (bit m r.0) r.2 in
      absurd (none r.0 r.1 s.0 (marks.sound r.0 r.1 s.1)))
      (λ y. y) (true-or-false (any_below 64 (λ q. bit (get_or ups k 0) q && bit m q))))

  -- what stays where a holder is not under e stays elsewhere
  stays-elsewhere : (t t' : List ℕ) → ((k : ℕ) → under ups m e k ≡ false → SameAt t t' k) → Elsewhere ups slots e t t'
  unfolding Elsewhere
  stays-elsewhere t t' stays j no-e none = stays (j / 4) (not-under (j / 4) no-e none) j refl

  -- against the specification
  module _ (own slot_of t : List ℕ) (D : Declarations) (T U : Ties) (edit : EditedAt ups own slots slot_of e D T U) (room : Room D (length ups))
      (was : KeepsSets (length ups) t D T) where
    -- a holder that is not under e has the same effective set as before
    unchanged : (k : ℕ) → k < length ups → under ups m e k ≡ false → RightAt (effective_set D U) t k
    unfolding RightAt KeepsSets effective_set under
    unchanged k h off p l =
        let s = or-none (eqb k e) (meets (get_or ups k 0) m) off in
        was k p h l
        ∙ same-elsewhere (holder_numbers_of D) U T e (λ t n. sym (edit.differ t n)) k p (λ q. true≢false (sym (eq-eqb k e q) ∙ s.0))
        (λ c. true≢false (sym (above-meets edit.kept (holders-fit ups D U edit.after room) e m marks k c) ∙ s.1))

    -- a group that is not in the mask is right
    group-right : (q : ℕ) → q < 64 → in_use (length ups) slots q ≡ true → bit m q ≡ false → RightAt (effective_set D U) t (get_or slots q 0)
    group-right q l u off =
        unchanged (get_or slots q 0) (in-use-lt (length ups) slots q u).1
        (⊎_elim (λ y. absurd (true≢false (sym (under-marked q l u y) ∙ off))) (λ y. y) (true-or-false (under ups m e (get_or slots q 0))))

    solved : Solves ups own slots (effective_set D U)
    solved = effective-solves ups own slots D U edit.after edit.kept

    -- all are right, where those under e are and the others stay
    all_right : (t' : List ℕ) → ((k : ℕ) → under ups m e k ≡ false → SameAt t t' k) → ((k : ℕ) → k < length ups → under ups m e k ≡ true → RightAt (effective_set D U) t' k)
        → KeepsSets (length ups) t' D U
    unfolding RightAt KeepsSets
    all_right t' stays right k p h l =
        ⊎_elim (λ y. right k h y p l) (λ y. holds_kept t t' k p l (stays k y) ∙ unchanged k h y p l) (true-or-false (under ups m e k))

-- ---- how many changed

module _ (ups own slots slot_of : List ℕ) (e : ℕ) (t t' : List ℕ) (r : ℕ) (few : length ups ≤ 256) (long : length t ≡ 4 * length ups) (long' : length t' ≡ 4 * length ups)
    (right : (D : Declarations) (T U : Ties) → EditedAt ups own slots slot_of e D T U → Room D (length ups) → KeepsSets (length ups) t D T → KeepsSets (length ups) t' D U)
    (n : Distinct (length ups) slots → TellsGroups (length ups) slots slot_of → r ≡ count_below 256 (unlike t t')) where
  module _ (D : Declarations) (T U : Ties) (edit : EditedAt ups own slots slot_of e D T U) (room : Room D (length ups)) (was : KeepsSets (length ups) t D T) where
    now : KeepsSets (length ups) t' D U
    now = right D T U edit room was

    -- a holder's sets, by the table's words and by the specification
    unlike-differs : (k : ℕ) → k < length ups → unlike t t' k ≡ any_below (length D.pairs) (λ p. not (beq (effective_set D T k p) (effective_set D U k p)))
    unfolding unlike KeepsSets
    unlike-differs k h =
        any-ext 256 (λ p. not (beq (holds t k p) (holds t' k p))) (λ p. not (beq (effective_set D T k p) (effective_set D U k p)))
        (λ p l. ap₂ (λ (x y : Bool). not (beq x y)) (was k p h l) (now k p h l))
        ∙ any-rest (length D.pairs) 256 (λ p. not (beq (effective_set D T k p) (effective_set D U k p))) (model.pairs-fit edit.before)
        (λ p l m. same-beq (effective_set D T k p) (effective_set D U k p) (none T edit.before k p l ∙ sym (none U edit.after k p l)))
      where
        none : (S : Ties) → Standing (record { declared = D; ties = S }) → (k p : ℕ) → length D.pairs ≤ p → effective_set D S k p ≡ false
        none S st k p l = ⊎_elim (λ e. absurd (omega (arith, pair-declared D S st k p e))) (λ e. e) (true-or-false (effective_set D S k p))

    -- there is no other
    unlike-none : (k : ℕ) → is_holder D k ≡ false → unlike t t' k ≡ false
    unlike-none k l = go (dec_lt k (length ups))
      where
        go : Dec (k < length ups) → unlike t t' k ≡ false
        go (yes h) = unlike-differs k h ∙ any_at (length D.pairs) _ (λ p x.
            same-beq (effective_set D T k p) (effective_set D U k p) (no-holder D T edit.before k p l ∙ sym (no-holder D U edit.after k p l)))
        go (no h) = unlike-past t t' k (omega arith) (long' ∙ sym long)

    counted : r ≡ changes D T U
    unfolding changes differs holder_numbers_of count_below any_below
    counted =
        n edit.kept.distinct edit.tells
        ∙ sym (count-numbers (λ h. h.number) (unlike t t') D.holders 256 edit.before.declarations.holders.ordered
        (λ k m. lt_of_lt_of_le (room k (model.holder-below D k m)) few) (λ k l out. unlike-none k (absent k out (true-or-false (is_holder D k)))))
        ∙ List-ext (unlike t t') (differs D T U) (holder_numbers_of D) (λ k m. unlike-differs k (room k (model.holder-below D k m)))
      where
        absent : (k : ℕ) → (k ∈ map (λ (h : Holder). h.number) D.holders → ⊥) → (is_holder D k ≡ true) ⊎ (is_holder D k ≡ false) → is_holder D k ≡ false
        absent k out (inl e) = absurd (out (model.holder_in D k e))
        absent k out (inr e) = e

  refreshed : (j : ℕ) → ((D : Declarations) (T U : Ties) → EditedAt ups own slots slot_of e D T U → Room D (length ups) → j ≡ set_joins D U e) → r ≤ 256 → j ≤ 65 * 256
      → Elsewhere ups slots e t t' → Refreshed ups own slots slot_of e t t' r j
  refreshed j joined most joins-most elsewhere = record {
    pairs = λ D T U edit room was. (now D T U edit room was, counted D T U edit room was);
    joined = joined;
    elsewhere = elsewhere;
    at-most = most;
    joins-at-most = joins-most;
  }

-- ---- a user or object: nobody is below it, and its own set is all

module _ (ups own slots slot_of : List ℕ) (e up : ℕ) (t t' : List ℕ) (no-group : grouped slot_of e ≡ false) (few : length ups ≤ 256) (long : length t ≡ 4 * length ups)
    (long' : length t' ≡ 4 * length ups) (by : up ≡ get_or ups e 0) (b : Stored own slots e up t t') where
  under_none : (k : ℕ) → under ups 0 e k ≡ eqb k e
  unfolding under meets
  under_none k =
      ap (λ (x : Bool). eqb k e || x) (any_at 64 (λ q. bit (get_or ups k 0) q && bit 0 q) (λ q l. ap (λ (x : Bool). bit (get_or ups k 0) q && x) (bit-none q) ∙ and-false (bit (get_or ups k 0) q)))
      ∙ or-false (eqb k e)

  one-stays : (k : ℕ) → under ups 0 e k ≡ false → SameAt t t' k
  one-stays k off = others_same b k (λ x. true≢false (sym (eq-eqb k e x) ∙ sym (under_none k) ∙ off))

  alone : TellsGroups (length ups) slots slot_of → Marks ups slots e 0
  alone tells = none_below ups slots e (λ q l u at. true≢false (sym (tells.told q l u) ∙ ap (grouped slot_of) at ∙ no-group))

  alone-right : (D : Declarations) (T U : Ties) → EditedAt ups own slots slot_of e D T U → Room D (length ups) → KeepsSets (length ups) t D T → KeepsSets (length ups) t' D U
  alone-right D T U edit room was =
      let none = alone edit.tells in
      all_right ups slots e 0 none own slot_of t D T U edit room was t' one-stays
      (λ k h on.
      let at = eqb-true k e (sym (under_none k) ∙ on) in
      subst (RightAt (effective_set D U) t') (sym at)
      (stored-right ups own slots e up (effective_set D U) (solved ups slots e 0 none own slot_of t D T U edit room was) (subst (λ (x : ℕ). x < length ups) at h) long by b
      (λ q l u o. group-right ups slots e 0 none own slot_of t D T U edit room was q l u (bit-none q))))

  -- so are its joins
  alone-joins : (D : Declarations) (T U : Ties) → EditedAt ups own slots slot_of e D T U → Room D (length ups) → joins_by (get_or ups e 0) ≡ set_joins D U e
  alone-joins D T U edit room =
      sym (joins-are ups own slots D U edit.after edit.kept room e 0 edit.there (alone edit.tells) ∙ joins-alone ups 0 e (length ups) (room e edit.there) under_none)

  pub refreshed-alone : (r j : ℕ) → r ≡ count_below 256 (unlike t t') → j ≡ joins_by (get_or ups e 0) → Refreshed ups own slots slot_of e t t' r j
  unfolding Elsewhere
  refreshed-alone r j n joined =
      refreshed ups own slots slot_of e t t' r few long long' alone-right (λ distinct tells. n) j (λ D T U edit room. joined ∙ alone-joins D T U edit room)
      (omega (arith, n, count-below-le 256 (unlike t t'))) (omega (arith, joined, joins-by-few (get_or ups e 0))) (λ i no-e none. b.others i no-e)

-- ---- a group: the groups of the mask are settled anew, and then the parties below are stored

module _ (ups own slots slot_of : List ℕ) (e m : ℕ) (marks : Marks ups slots e m) (small : m < 2 ^ 64)
    (t t₁ t₂ m₀ m₁ m₂ : List ℕ) (d₁ : ℕ) (a : Settled ups own slots t t₁ m₀ m₁ (2 ^ 64 - 1 - m) d₁ (AllDeep ups slots) (λ g. g < 64))
    (b : PartiesStored ups own slots slot_of m e t₁ t₂ m₁ m₂ (length ups)) where
  not_done : (q : ℕ) → q < 64 → bit (2 ^ 64 - 1 - m) q ≡ not (bit m q)
  not_done q l = bit_not 64 m q small l

  -- a group's words stay behind the settling, and so do those of a holder that is not under e
  group-stays : (k : ℕ) → grouped slot_of k ≡ true → SameAt t₁ t₂ k
  group-stays k g j at = b.others j (λ on l. group-no-party ups slot_of m e k g (ap (party_below ups slot_of m e) (sym at) ∙ on))

  below_stays : (k : ℕ) → under ups m e k ≡ false → SameAt t t₂ k
  unfolding under
  below_stays k off j at =
      b.others j (λ on l. apart-no-party ups slot_of m e k off (ap (party_below ups slot_of m e) (sym at) ∙ on))
      ∙ a.others j (λ q l u off₁ on₁ x. true≢false (sym (marked-under ups slots e m marks q l (not-false (bit m q) (sym (not_done q l) ∙ off₁))) ∙ ap (under ups m e) (sym x ∙ at) ∙ off))

  -- a group is settled, another holder is stored
  settled-or-stored : TellsGroups (length ups) slots slot_of → (k : ℕ) → SameAt t t₁ k ⊎ SameAt t₁ t₂ k
  settled-or-stored tells k = ⊎_elim
      (λ y. inr (group-stays k y))
      (λ y. inl (λ j at. a.others j (λ q l u off on x. true≢false (sym (tells.told q l u) ∙ ap (grouped slot_of) (sym x ∙ at) ∙ y))))
      (true-or-false (grouped slot_of k))

  module _ (f : ℕ → ℕ → Bool) (s : Solves ups own slots f) (r : GroupsRight (length ups) slots f t₁) (tells : TellsGroups (length ups) slots slot_of) (k : ℕ)
      (few : k < length ups) (on : under ups m e k ≡ true) where
    settled-right : grouped slot_of k ≡ true → RightAt f t₂ k
    unfolding GroupsRight RightAt
    settled-right y p h =
        let q = tells.slot k y in
        holds_kept t₁ t₂ k p h (group-stays k y) ∙ subst (λ (i : ℕ). holds t₁ i p ≡ f i p) q.3 (r q.0 q.1 q.2 p h)

    under-right : RightAt f t₂ k
    under-right = ⊎_elim settled-right (λ y. b.right f s r tells k few (party-by ups slot_of m e k on y)) (true-or-false (grouped slot_of k))

  pub rewritten : Rewritten ups own slots slot_of e t t₂ m₀ m₂
  unfolding Right
  rewritten = record {
    right = λ D T U edit room was.
        let s = solved ups slots e m marks own slot_of t D T U edit room was in
        let r = groups-right (effective_set D U) a s
        (λ q l u on. group-right ups slots e m marks own slot_of t D T U edit room was q l u (not-true (bit m q) (sym (not_done q l) ∙ on)))
        (all-deep ups own slots D U edit.after edit.kept room) in
        all_right ups slots e m marks own slot_of t D T U edit room was t₂ below_stays (under-right (effective_set D U) s r edit.tells);
    told = λ distinct tells. told_more (a.told distinct) b.told (settled-or-stored tells);
    elsewhere = stays-elsewhere ups slots e m marks t t₂ below_stays;
  }

-- the marks are counted, and the joins summed
pub refreshed-below : (ups own slots slot_of : List ℕ) (e : ℕ) (t t' changed : List ℕ) (r j : ℕ) → length ups ≤ 256 → length t ≡ 4 * length ups → length t' ≡ 4 * length ups
    → Rewritten ups own slots slot_of e t t' (replicate 4 0) changed → r ≡ count_below 256 (member changed) → JoinsBelow ups slots e j → Refreshed ups own slots slot_of e t t' r j
refreshed-below ups own slots slot_of e t t' changed r j few long long' b n joined =
    refreshed ups own slots slot_of e t t' r few long long' b.right
    (λ distinct tells. n ∙ count-ext 256 (member changed) (unlike t t') (λ k l. (b.told distinct tells).marks k ∙ ap (λ (x : Bool). x || unlike t t' k) (no-numbers k)))
    j (λ D T U edit room. joined.summed ∙ sym (joins-are ups own slots D U edit.after edit.kept room e joined.mask edit.there joined.marks))
    (omega (arith, n, count-below-le 256 (member changed))) (omega (arith, joined.summed, joins-few ups joined.mask e (length ups))) b.elsewhere
