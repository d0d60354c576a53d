-- How settled groups and stored sets add up. Assumes nothing.
use Prim.Native.Nat.{ℕ, zero, suc, ◌+◌, ◌-◌, ◌*◌, ◌/◌, ◌<◌, ◌≤◌}
use mathlib.Core.Path.{◌≡◌, refl, sym, ap, ◌∙◌, subst}
use mathlib.Core.Logic.{◌⊎◌, inl, inr, ⊎_elim}
use mathlib.Core.Bool.{Bool, true, false, not, ◌&&◌, ◌||◌, or-true, or-false, and-true, true≢false}
use mathlib.Core.List.{List}
use native.Mathlib.Decide.{ℕ_discrete}
use native.Mathlib.Numerals.{sub-one}
use native.Mathlib.Omega.{arith}
use lib.ListN.{get_or, length}
use lib.Dec.{eqb}
use borrow.Author.Tests.{eq-eqb, eqb-true, ne_eqb, not-true}
use Rattle.model.proofs.Options.{parts, both}
use Rattle.model.proofs.Lists.{or_cases}
use Rattle.bits.specs.Bits.{bit, holds, any_below}
use Rattle.bits.proofs.Counts.{any-ext, any-find, find-any}
use Rattle.bits.proofs.Bits.{bit-none}
use Rattle.ties.specs.TieArrays.{in_use, grouped, tied_up, under, Distinct, TellsGroups}
use Rattle.ties.proofs.Masks.{in-use-lt}
use Rattle.sets.specs.Settled.{Solves, RightAt, Right, Stored, ShortChains, Chain, one, more, Deep, Settled, Spared, AllDeep, GroupsRight, party_below, MarksChanged, PartiesStored, StoredTied}
use Rattle.sets.proofs.LentSets.{holds_kept}
use Rattle.sets.proofs.Telling.{SameAt, others_same, told_none, told_more}

-- what changes nothing where it is not set
pub masked : (b x y : Bool) → (b ≡ true → x ≡ y) → (b && x) ≡ (b && y)
masked true x y e = e refl
masked false x y e = refl

not-true-false : (b : Bool) → (b ≡ true → ⊥) → b ≡ false
not-true-false true n = absurd (n refl)
not-true-false false n = refl

-- ---- depth

module _ (ups slots : List ℕ) where
  pub no-depth : (n g : ℕ) → n ≡ 0 → ShortChains ups slots n g → ⊥
  unfolding ShortChains
  no-depth n g e d = subst (λ (m : ℕ). ShortChains ups slots m g) e d

  depth-down : (n g q : ℕ) → ShortChains ups slots n g → q < 64 → tied_up ups (get_or slots g 0) q ≡ true → (m : ℕ) × (m < n) × ShortChains ups slots m q
  unfolding ShortChains
  depth-down zero g q d l e = absurd d
  depth-down (suc n) g q d l e = (n, omega arith, d q l e)

  -- along a chain the depth falls
  depth-along : (n : ℕ) {x g : ℕ} → ShortChains ups slots n x → Chain ups slots x g → (m : ℕ) × (m < n) × ShortChains ups slots m g
  depth-along n {x} d (one {g = g} l e) = depth-down n x g d l e
  depth-along n d (more {m = y} {g = g} c l e) =
      let a = depth-along n d c in
      let b = depth-down a.0 y g a.2 l e in
      (b.0, omega (arith, a.1, b.1), b.2)

  -- so no chain comes back
  no-cycle-in : (fuel n g : ℕ) → n ≤ fuel → ShortChains ups slots n g → Chain ups slots g g → ⊥
  no-cycle-in zero n g l d c = no-depth n g (omega arith) d
  no-cycle-in (suc fuel) n g l d c = let a = depth-along n d c in no-cycle-in fuel a.0 g (omega (arith, a.1)) a.2 c

  pub no-cycle : (n g : ℕ) → ShortChains ups slots n g → Chain ups slots g g → ⊥
  no-cycle n g d c = no-cycle-in n n g (omega arith) d c

  -- one tie up, from a group in live
  pub deep_step : (path below n g q : ℕ) → (n ≡ 0 → ⊥) → in_use (length ups) slots g ≡ true → q < 64 → tied_up ups (get_or slots g 0) q ≡ true
      → ((j : ℕ) → bit below j ≡ (bit path j || eqb j g)) → Deep ups slots path n g → Deep ups slots below (n - 1) q
  unfolding ShortChains Deep
  deep_step path below zero g q high live l e o d = absurd (high refl)
  deep_step path below (suc n) g q high live l e o d =
      λ used. (
        subst (λ (m : ℕ). ShortChains ups slots m q) (sym (sub-one (suc n))) ((d live).0 q l e),
        λ x m on. ⊎_elim (λ y. more ((d live).1 x m y) l e) (λ y. subst (λ (z : ℕ). Chain ups slots z q) (sym (eqb-true x g y)) (one l e))
            (or_cases (bit path x) (eqb x g) (sym (o x) ∙ on)),
      )

  pub not-open : (path n g : ℕ) → g < 64 → bit path g ≡ true → in_use (length ups) slots g ≡ true → Deep ups slots path n g → ⊥
  unfolding Deep
  not-open path n g l on live d = no-cycle n g (d live).0 ((d live).1 g l on)

  pub not-high : (path n g : ℕ) → n ≡ 0 → in_use (length ups) slots g ≡ true → Deep ups slots path n g → ⊥
  unfolding Deep
  not-high path n g e live d = no-depth n g e (d live).0

  -- from no path
  pub deep-start : (g : ℕ) → g < 64 → AllDeep ups slots → Deep ups slots 0 (length ups) g
  unfolding AllDeep Deep
  deep-start g l d = λ live. (d g l live, λ x m on. absurd (true≢false (sym on ∙ bit-none x)))

-- ---- settled groups

module _ {ups own slots : List ℕ} where
  pub settled-none : (t m : List ℕ) (d : ℕ) (deep : Type 0) (w : ℕ → Type 0) → (deep → (g : ℕ) → g < 64 → in_use (length ups) slots g ≡ true → w g → bit d g ≡ true)
      → Settled ups own slots t t m m d d deep w
  settled-none t m d deep w on = record { grows = λ i h. h; right = λ f s r p. r; marked = on; others = λ j n. refl; told = λ distinct. told_none m t }

  -- less is wanted
  pub settled-less : {t t' m m' : List ℕ} {d d' : ℕ} {deep : Type 0} {w : ℕ → Type 0} (v : ℕ → Type 0)
      → Settled ups own slots t t' m m' d d' deep w → ((g : ℕ) → v g → w g) → Settled ups own slots t t' m m' d d' deep v
  settled-less v a i = record { grows = a.grows; right = a.right; marked = λ p g h u x. a.marked p g h u (i g x); others = a.others; told = a.told }

  -- the words of holder k stay before or after: its one slot is settled in one of the two
  module _ {t t₁ t₂ m m₁ m₂ : List ℕ} {d d₁ d₂ : ℕ} {deep deep₂ : Type 0} {w w₂ : ℕ → Type 0} (distinct : Distinct (length ups) slots)
      (a : Settled ups own slots t t₁ m m₁ d d₁ deep w) (b : Settled ups own slots t₁ t₂ m₁ m₂ d₁ d₂ deep₂ w₂) where
    stays-once : (k : ℕ) → SameAt t t₁ k ⊎ SameAt t₁ t₂ k
    unfolding Distinct
    stays-once k = go (any_below 64 new) refl
      where
        new : ℕ → Bool
        new q = in_use (length ups) slots q && eqb (get_or slots q 0) k && bit d₁ q

        go : (x : Bool) → any_below 64 new ≡ x → SameAt t t₁ k ⊎ SameAt t₁ t₂ k
        go true e =
            let r = any-find 64 new e in
            let x = parts (in_use (length ups) slots r.0 && eqb (get_or slots r.0 0) k) (bit d₁ r.0) r.2 in
            let y = parts (in_use (length ups) slots r.0) (eqb (get_or slots r.0 0) k) x.0 in
            inr (λ j at. b.others j (λ q l u off on e.
            true≢false (sym x.1 ∙ ap (bit d₁) (sym (distinct r.0 q r.1 l y.0 (sym e ∙ at ∙ sym (eqb-true (get_or slots r.0 0) k y.1)))) ∙ off)))
        go false e =
            inl (λ j at. a.others j (λ q l u off on e₁.
            true≢false (sym (find-any 64 new q l (both (both u (eq-eqb (get_or slots q 0) k (sym e₁ ∙ at))) on)) ∙ e)))

  -- one after another
  pub settled-more : {t t₁ t₂ m m₁ m₂ : List ℕ} {d d₁ d₂ : ℕ} {deep deep₂ : Type 0} {w w₂ : ℕ → Type 0} (v : ℕ → Type 0)
      → Settled ups own slots t t₁ m m₁ d d₁ deep w → Settled ups own slots t₁ t₂ m₁ m₂ d₁ d₂ deep₂ w₂
      → (deep → deep₂) → ((g : ℕ) → v g → w g ⊎ w₂ g) → Settled ups own slots t t₂ m m₂ d d₂ deep v
  settled-more {d = d} v a b i c = record {
    grows = λ k h. b.grows k (a.grows k h);
    right = λ f s r p. b.right f s (a.right f s r p) (i p);
    marked = λ p g h u x. ⊎_elim (λ y. b.grows g (a.marked p g h u y)) (λ y. b.marked (i p) g h u y) (c g x);
    others = λ j n. b.others j (λ q l u off on. n q l u (not-true-false (bit d q) (λ y. true≢false (sym (a.grows q y) ∙ off))) on)
        ∙ a.others j (λ q l u off on. n q l u off (b.grows q on));
    told = λ distinct. told_more (a.told distinct) (b.told distinct) (stays-once distinct a b);
  }

  -- a turn of a walk over the bits of a mask: those of `left` are left, and v is `left` without q
  pub turn : {t t₁ t₂ m m₁ m₂ : List ℕ} {d d₁ d₂ : ℕ} {deep deep₂ : Type 0} (w : ℕ → Type 0) (left q v : ℕ)
      → ((j : ℕ) → bit v j ≡ (bit left j && not (eqb j q)))
      → Settled ups own slots t t₁ m m₁ d d₁ deep (λ g. w g × (bit left g ≡ false)) → Settled ups own slots t₁ t₂ m₁ m₂ d₁ d₂ deep₂ (λ g. g ≡ q)
      → (deep → deep₂) → Settled ups own slots t t₂ m m₂ d d₂ deep (λ g. w g × (bit v g ≡ false))
  turn w left q v rest a b i = settled-more (λ g. w g × (bit v g ≡ false)) a b i (λ g x. go g x (ℕ_discrete g q))
    where
      go : (g : ℕ) → w g × (bit v g ≡ false) → Dec (g ≡ q) → (w g × (bit left g ≡ false)) ⊎ (g ≡ q)
      go g x (yes e) = inr e
      go g x (no n) = inl (x.0, sym (and-true (bit left g)) ∙ ap (λ (b : Bool). bit left g && not b) (sym (ne_eqb g q n)) ∙ sym (rest g) ∙ x.1)

-- ---- groups that are spared

pub spared-none : (path d : ℕ) → Spared path d d
unfolding Spared
spared-none path d i on = refl

-- `below` has the groups of `path`, and `group`
module _ (path below group d d₁ : ℕ) (with-group : (j : ℕ) → bit below j ≡ (bit path j || eqb j group)) where
  pub spared-more : (d₂ : ℕ) → Spared below d d₁ → Spared below d₁ d₂ → Spared below d d₂
  unfolding Spared
  spared-more d₂ a b i on = b i on ∙ a i on

  pub group-new : Spared below d d₁ → bit d group ≡ false → bit d₁ group ≡ false
  unfolding Spared
  group-new a new = a group (with-group group ∙ ap (λ (y : Bool). bit path group || y) (eq-eqb group group refl) ∙ or-true (bit path group)) ∙ new

  pub spared-own : (d₂ : ℕ) → Spared below d d₁ → bit path group ≡ false → ((j : ℕ) → bit d₂ j ≡ (bit d₁ j || eqb j group)) → Spared path d d₂
  unfolding Spared
  spared-own d₂ a off e i on =
      e i ∙ ap (λ (y : Bool). bit d₁ i || y) (ne_eqb i group (λ x. true≢false (sym on ∙ ap (bit path) x ∙ off))) ∙ or-false (bit d₁ i)
      ∙ a i (with-group i ∙ ap (λ (y : Bool). y || eqb i group) on)

-- a set that is stored from groups that are right is right
module _ (ups own slots : List ℕ) {t₁ t₂ : List ℕ} (k mask : ℕ) (f : ℕ → ℕ → Bool) (s : Solves ups own slots f) (few : k < length ups)
    (long : length t₁ ≡ 4 * length ups) (by : mask ≡ get_or ups k 0) (b : Stored own slots k mask t₁ t₂) where
  pub stored-right : ((q : ℕ) → q < 64 → in_use (length ups) slots q ≡ true → bit mask q ≡ true → RightAt f t₁ (get_or slots q 0)) → RightAt f t₂ k
  unfolding RightAt tied_up
  stored-right r p h =
      b.pairs (omega arith) p h
      ∙ ap (λ (x : Bool). holds own k p || x)
      (any-ext 64 (λ q. bit mask q && holds t₁ (get_or slots q 0) p) (λ q. bit (get_or ups k 0) q && f (get_or slots q 0) p)
      (λ q l. masked (bit mask q) (holds t₁ (get_or slots q 0) p) (f (get_or slots q 0) p)
      (λ on. r q l (s.used k q few l (ap (λ (m : ℕ). bit m q) (sym by) ∙ on)) on p h) ∙ ap (λ (m : ℕ). bit m q && f (get_or slots q 0) p) by))
      ∙ sym (s.sentence k p few h)

-- another holder's set stays right
pub other-right : (own slots : List ℕ) {t₁ t₂ : List ℕ} (k mask i : ℕ) (f : ℕ → ℕ → Bool) → Stored own slots k mask t₁ t₂ → (i ≡ k → ⊥) → RightAt f t₁ i → RightAt f t₂ i
unfolding RightAt
other-right own slots {t₁} {t₂} k mask i f b n r p h = holds_kept t₁ t₂ i p h (λ j e. b.others j (λ x. n (sym e ∙ x))) ∙ r p h

-- the groups one tie up are settled, and the group's own set is stored
module _ {ups own slots t t₁ t₂ m m₁ m₂ : List ℕ} {d d₁ : ℕ} {deep : Type 0} (d₂ group k mask : ℕ) (low : group < 64) (live : in_use (length ups) slots group ≡ true)
    (long : length t₁ ≡ 4 * length ups) (at : k ≡ get_or slots group 0) (by : mask ≡ get_or ups k 0) (new : bit d₁ group ≡ false)
    (a : Settled ups own slots t t₁ m m₁ d d₁ deep (λ g. bit mask g ≡ true))
    (b : Stored own slots k mask t₁ t₂) (c : MarksChanged m₁ m₂ t₁ t₂)
    (e : (j : ℕ) → bit d₂ j ≡ (bit d₁ j || eqb j group)) where
  own-right : (f : ℕ → ℕ → Bool) → Solves ups own slots f → Right (length ups) slots f t₁ d₁ → deep → RightAt f t₂ k
  unfolding Right
  own-right f s r dp =
      stored-right ups own slots k mask f s (omega (arith, at, (in-use-lt (length ups) slots group live).1)) long by b (λ q l u on. r q l u (a.marked dp q l u on))

  right_by : (f : ℕ → ℕ → Bool) → Solves ups own slots f → Right (length ups) slots f t₁ d₁ → deep → (g : ℕ) → g < 64 → in_use (length ups) slots g ≡ true
      → bit d₂ g ≡ true → Dec (get_or slots g 0 ≡ k) → RightAt f t₂ (get_or slots g 0)
  unfolding Right
  right_by f s r dp g l u on (yes same) = subst (RightAt f t₂) (sym same) (own-right f s r dp)
  right_by f s r dp g l u on (no n) =
      other-right own slots k mask (get_or slots g 0) f b n
      (r g l u (⊎_elim (λ x. x) (λ x. absurd (n (ap (λ (i : ℕ). get_or slots i 0) (eqb-true g group x) ∙ sym at))) (or_cases (bit d₁ g) (eqb g group) (sym (e g) ∙ on))))

  in-mask : bit d₂ group ≡ true
  in-mask = e group ∙ ap (λ (y : Bool). bit d₁ group || y) (eq-eqb group group refl) ∙ or-true (bit d₁ group)

  grows-own : (i : ℕ) → bit d₁ i ≡ true → bit d₂ i ≡ true
  grows-own i h = e i ∙ ap (λ (x : Bool). x || eqb i group) h

  own-others : (j : ℕ) → ((q : ℕ) → q < 64 → in_use (length ups) slots q ≡ true → bit d₁ q ≡ false → bit d₂ q ≡ true → j / 4 ≡ get_or slots q 0 → ⊥) → get_or t₂ j 0 ≡ get_or t₁ j 0
  own-others j n = b.others j (λ x. n group low live new in-mask (x ∙ at))

  own-settled : Settled ups own slots t₁ t₂ m₁ m₂ d₁ d₂ deep (λ g. g ≡ group)
  unfolding Right
  own-settled = record {
    grows = grows-own;
    right = λ f s r dp g l u on. right_by f s r dp g l u on (ℕ_discrete (get_or slots g 0) k);
    marked = λ dp g l u x. ap (bit d₂) x ∙ in-mask;
    others = own-others;
    told = λ distinct. c;
  }

  pub settled-own : Settled ups own slots t t₂ m m₂ d d₂ deep (λ g. g ≡ group)
  settled-own = settled-more (λ g. g ≡ group) a own-settled (λ x. x) (λ g x. inr x)

-- ---- the parties below, one after another

pub parties-none : (ups own slots slot_of : List ℕ) (below e : ℕ) (t m : List ℕ) → PartiesStored ups own slots slot_of below e t t m m 0
parties-none ups own slots slot_of below e t m = record { right = λ f s r tells i l on. absurd (omega arith); others = λ j out. refl; told = told_none m t }

-- neither a group nor a holder that is not under e is a party below; any other is
module _ (ups slot_of : List ℕ) (below e k : ℕ) where
  pub group-no-party : grouped slot_of k ≡ true → party_below ups slot_of below e k ≡ true → ⊥
  unfolding party_below
  group-no-party g on = true≢false (sym g ∙ not-true (grouped slot_of k) (parts (under ups below e k) (not (grouped slot_of k)) on).1)

  pub apart-no-party : under ups below e k ≡ false → party_below ups slot_of below e k ≡ true → ⊥
  unfolding party_below
  apart-no-party off on = true≢false (sym (parts (under ups below e k) (not (grouped slot_of k)) on).0 ∙ off)

  pub party-by : under ups below e k ≡ true → grouped slot_of k ≡ false → party_below ups slot_of below e k ≡ true
  unfolding party_below
  party-by on off = both on (ap not off)

module _ {ups own slots slot_of t t₁ m m₁ : List ℕ} {below e k : ℕ} (a : PartiesStored ups own slots slot_of below e t t₁ m m₁ k) where
  pub party-passed : (party_below ups slot_of below e k ≡ true → ⊥) → PartiesStored ups own slots slot_of below e t t₁ m m₁ (k + 1)
  party-passed off = record {
    right = λ f s r tells i l on. a.right f s r tells i (before i l on (ℕ_discrete i k)) on;
    others = λ j out. a.others j (λ on l. out on (omega arith));
    told = a.told;
  }
    where
      before : (i : ℕ) → i < k + 1 → party_below ups slot_of below e i ≡ true → Dec (i ≡ k) → i < k
      before i l on (yes at) = absurd (off (ap (party_below ups slot_of below e) (sym at) ∙ on))
      before i l on (no n) = omega arith

  -- the groups' words have stayed
  groups-stay : (f : ℕ → ℕ → Bool) → GroupsRight (length ups) slots f t → TellsGroups (length ups) slots slot_of → GroupsRight (length ups) slots f t₁
  unfolding GroupsRight RightAt
  groups-stay f r tells g l u p h =
      holds_kept t t₁ (get_or slots g 0) p h
      (λ j at. a.others j (λ on few. group-no-party ups slot_of below e (get_or slots g 0) (tells.told g l u) (ap (party_below ups slot_of below e) (sym at) ∙ on))) ∙ r g l u p h

  pub party-stored : {t₂ m₂ : List ℕ} (mask : ℕ) → k < length ups → length t₁ ≡ 4 * length ups → mask ≡ get_or ups k 0 → party_below ups slot_of below e k ≡ true
      → Stored own slots k mask t₁ t₂ → MarksChanged m₁ m₂ t₁ t₂ → PartiesStored ups own slots slot_of below e t t₂ m m₂ (k + 1)
  unfolding GroupsRight
  party-stored {t₂} mask few long by party b c = record {
    right = λ f s r tells i l on. go f s (groups-stay f r tells) i (ℕ_discrete i k) (λ n. a.right f s r tells i (omega arith) on);
    others = λ j out. b.others j (λ at. out (ap (party_below ups slot_of below e) at ∙ party) (omega arith)) ∙ a.others j (λ on l. out on (omega arith));
    told = told_more a.told c (λ i. once i (ℕ_discrete i k));
  }
    where
      go : (f : ℕ → ℕ → Bool) → Solves ups own slots f → GroupsRight (length ups) slots f t₁ → (i : ℕ) → Dec (i ≡ k) → ((i ≡ k → ⊥) → RightAt f t₁ i) → RightAt f t₂ i
      go f s r i (yes e) y = subst (RightAt f t₂) (sym e) (stored-right ups own slots k mask f s few long by b (λ q l u on. r q l u))
      go f s r i (no n) y = other-right own slots k mask i f b n (y n)

      once : (i : ℕ) → Dec (i ≡ k) → SameAt t t₁ i ⊎ SameAt t₁ t₂ i
      once i (yes e) = inl (λ j x. a.others j (λ on l. omega arith))
      once i (no n) = inr (others_same b i n)

-- ---- the holders that have a tie up, one after another

pub tied-none : (ups own slots t : List ℕ) → StoredTied ups own slots t t 0
tied-none ups own slots t = record { right = λ f s r k l some. absurd (omega arith); stays = λ f s r k y. y }

module _ {ups own slots t t₁ : List ℕ} {k : ℕ} (a : StoredTied ups own slots t t₁ k) where
  pub tied-passed : get_or ups k 0 ≡ 0 → StoredTied ups own slots t t₁ (k + 1)
  tied-passed none = record { right = λ f s r i l some. a.right f s r i (before i l some (ℕ_discrete i k)) some; stays = a.stays }
    where
      before : (i : ℕ) → i < k + 1 → (get_or ups i 0 ≡ 0 → ⊥) → Dec (i ≡ k) → i < k
      before i l some (yes e) = absurd (some (ap (λ (x : ℕ). get_or ups x 0) e ∙ none))
      before i l some (no n) = omega arith

  module _ {t₂ : List ℕ} (mask : ℕ) (few : k < length ups) (long : length t₁ ≡ 4 * length ups) (by : mask ≡ get_or ups k 0) (b : Stored own slots k mask t₁ t₂)
      (f : ℕ → ℕ → Bool) (s : Solves ups own slots f) (r : GroupsRight (length ups) slots f t) where
    now-right : RightAt f t₂ k
    unfolding GroupsRight
    now-right = stored-right ups own slots k mask f s few long by b (λ q l u on. a.stays f s r (get_or slots q 0) (r q l u))

    still-right : (i : ℕ) → Dec (i ≡ k) → ((i ≡ k → ⊥) → RightAt f t₁ i) → RightAt f t₂ i
    still-right i (yes e) y = subst (RightAt f t₂) (sym e) now-right
    still-right i (no n) y = other-right own slots k mask i f b n (y n)

  pub tied-stored : {t₂ : List ℕ} (mask : ℕ) → k < length ups → length t₁ ≡ 4 * length ups → mask ≡ get_or ups k 0 → Stored own slots k mask t₁ t₂ → StoredTied ups own slots t t₂ (k + 1)
  tied-stored mask few long by b = record {
    right = λ f s r i l some. still-right mask few long by b f s r i (ℕ_discrete i k) (λ n. a.right f s r i (omega arith) some);
    stays = λ f s r i y. still-right mask few long by b f s r i (ℕ_discrete i k) (λ n. a.stays f s r i y);
  }
