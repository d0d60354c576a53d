-- Arrays that keep ties keep them with one tie more or less, and with a slot for a new group. Assumes nothing.
use Prim.Native.Nat.{ℕ, ◌+◌, ◌*◌, ◌/◌, ◌%◌, ◌≤◌, ◌<◌}
use mathlib.Core.Path.{◌≡◌, refl, sym, ap, ap₂, ◌∙◌, subst}
use mathlib.Core.Logic.{inl, inr}
use mathlib.Core.Bool.{Bool, true, false, not, ◌&&◌, ◌||◌, or-false, and-false, true≢false}
use mathlib.Core.List.{List}
use mathlib.Core.Option.{some, some-injective}
use native.Mathlib.Decide.{ℕ_discrete}
use native.Mathlib.Omega.{arith}
use lib.Dec.{eqb, ltb}
use lib.ListN.{get_or, length, set, length-set}
use lib.Seq.{get_or-set_same, get_or-set_other}
use borrow.Author.Tests.{eq-eqb, eqb-true, ne_eqb}
use Rattle.model.specs.Notation.{if◌then◌otherwise◌}
use Rattle.model.specs.Declarations.{Declarations, Sort, parent_sort, group_sort}
use Rattle.model.specs.Ties.{Tie, same_tie, Ties, no_ties, parent, member, value, up}
use Rattle.model.specs.Edits.{edited_ties}
use Rattle.model.proofs.WordTables.{none-is-some}
use Rattle.model.proofs.Options.{parts, both}
use Rattle.model.proofs.Lists.{same_truth}
use Rattle.model.specs.Standing.{Standing, TieFits}
use Rattle.bits.specs.Bits.{bit, holds, any_below}
use Rattle.bits.specs.Bits
use Rattle.bits.proofs.Sets.{member-stored, holds-member}
use Rattle.bits.proofs.Bits.{bit-none}
use Rattle.bits.proofs.Counts.{any-ext, any_at, find-any}
use Rattle.ties.specs.TieArrays.{in_use, tied_up, Distinct, KeepsTies}
use Rattle.ties.specs.TieEdits.{LeadsUp, MaskChanged, OwnChanged, SlotGiven}
use Rattle.ties.proofs.Masks.{in-use-lt, eqb-flip}

-- ---- tests

pub off-by : (b : Bool) → (b ≡ true → ⊥) → b ≡ false
off-by true n = absurd (n refl)
off-by false n = refl

flip-both : (a b c d : ℕ) → (eqb a b && eqb c d) ≡ (eqb b a && eqb d c)
flip-both a b c d = ap₂ (λ (x y : Bool). x && y) (eqb-flip a b) (eqb-flip c d)

-- numbers of pairs of holders
pair-test : (k r h p : ℕ) → r < 256 → p < 256 → eqb (256 * k + r) (256 * h + p) ≡ (eqb k h && eqb r p)
pair-test k r h p l m = same_truth (eqb (256 * k + r) (256 * h + p)) (eqb k h && eqb r p)
    (λ e.
    let n = eqb-true (256 * k + r) (256 * h + p) e in
    let a : k ≡ h = omega arith in
    let b : r ≡ p = omega arith in
    both (eq-eqb k h a) (eq-eqb r p b))
    (λ e.
    let s = parts (eqb k h) (eqb r p) e in
    let a = eqb-true k h s.0 in
    let b = eqb-true r p s.1 in
    let n : 256 * k + r ≡ 256 * h + p = omega arith in
    eq-eqb (256 * k + r) (256 * h + p) n)

-- ---- a word that is stored anew

module _ (plus : Bool) where
  tied-set : (ups : List ℕ) (h q v : ℕ) → h < length ups → ((j : ℕ) → bit v j ≡ (if eqb j q then plus otherwise bit (get_or ups h 0) j)) → (k r : ℕ)
      → tied_up (set ups h v) k r ≡ (if eqb k h && eqb r q then plus otherwise tied_up ups k r)
  unfolding tied_up
  tied-set ups h q v few one k r = go (ℕ_discrete k h)
    where
      go : Dec (k ≡ h) → bit (get_or (set ups h v) k 0) r ≡ (if eqb k h && eqb r q then plus otherwise bit (get_or ups k 0) r)
      go (yes e) =
          ap (λ (i : ℕ). bit (get_or (set ups h v) i 0) r) e ∙ ap (λ (w : ℕ). bit w r) (get_or-set_same ups h v 0 few) ∙ one r
          ∙ ap₂ (λ (i : ℕ) (b : Bool). if b && eqb r q then plus otherwise bit (get_or ups i 0) r) (sym e) (sym (eq-eqb k h e))
      go (no n) =
          ap (λ (w : ℕ). bit w r) (get_or-set_other ups h k v 0 n)
          ∙ sym (ap (λ (b : Bool). if b && eqb r q then plus otherwise bit (get_or ups k 0) r) (ne_eqb k h n))

  holds-set : (own : List ℕ) (h p v : ℕ) → 4 * h + 4 ≤ length own → p < 256
      → ((j : ℕ) → bit v j ≡ (if eqb j (p % 64) then plus otherwise bit (get_or own (4 * h + p / 64) 0) j))
      → (k r : ℕ) → r < 256 → holds (set own (4 * h + p / 64) v) k r ≡ (if eqb k h && eqb r p then plus otherwise holds own k r)
  holds-set own h p v few low one k r l =
      let d : 4 * h + p / 64 ≡ (256 * h + p) / 64 = omega arith in
      let e : p % 64 ≡ (256 * h + p) % 64 = omega arith in
      sym (holds-member (set own (4 * h + p / 64) v) k r l)
      ∙ ap (λ (i : ℕ). Bits.member (set own i v) (256 * k + r)) d
      ∙ member-stored own (256 * h + p) v (omega arith) (λ a b. if b then plus otherwise a) (λ b. refl)
      (λ j. one j ∙ ap₂ (λ (x y : ℕ). if eqb j y then plus otherwise bit (get_or own x 0) j) d e) (256 * k + r) (ℕ_discrete ((256 * k + r) / 64) ((256 * h + p) / 64))
      ∙ ap₂ (λ (a b : Bool). if b then plus otherwise a) (holds-member own k r l) (pair-test k r h p l low)

-- ---- ties with one more or less

-- by each tie
edited-at : (plus : Bool) (t : Tie) (T : Ties) (u : Tie) → edited_ties plus (some t) T u ≡ (if same_tie t u then plus otherwise T u)
edited-at true t T u = go (same_tie t u)
  where
    go : (b : Bool) → (b || T u) ≡ (if b then true otherwise T u)
    go true = refl
    go false = refl
edited-at false t T u = go (same_tie t u)
  where
    go : (b : Bool) → (not b && T u) ≡ (if b then false otherwise T u)
    go true = refl
    go false = refl

-- where one of two is put, and a cleared one is not made up for by the other
put-left : (x a b plus : Bool) → (plus ≡ false → x ≡ true → b ≡ false) → ((if x then plus otherwise a) || b) ≡ (if x then plus otherwise (a || b))
put-left true a b true n = refl
put-left true a b false n = n refl refl
put-left false a b plus n = refl

put_right : (x a b plus : Bool) → (plus ≡ false → x ≡ true → a ≡ false) → (a || (if x then plus otherwise b)) ≡ (if x then plus otherwise (a || b))
put_right true true b true n = refl
put_right true false b true n = refl
put_right true a b false n = or-false a ∙ n refl refl
put_right false a b plus n = refl

-- a group has parents, and a user or object is a member: no holder has both ties up to one group
pub one-kind : (D : Declarations) (h g : ℕ) → TieFits D (parent h g) → TieFits D (member h g) → ⊥
one-kind D h g x y =
    go x.lower-sort x.upper-sort y.upper-sort x.one-above (ap group_sort (some-injective _ _ (sym x.lower-is ∙ y.lower-is)) ∙ y.one-above)
  where
    go : (s u v : Sort) → parent_sort s ≡ some u → group_sort s ≡ some v → ⊥
    go Sort.admin u v p q = none-is-some p
    go Sort.ugroup u v p q = none-is-some q
    go Sort.ogroup u v p q = none-is-some q
    go Sort.user u v p q = none-is-some p
    go Sort.object u v p q = none-is-some p

module _ (plus : Bool) (t : Tie) (h g : ℕ) where
  up-edited : (D : Declarations) (T : Ties) → Standing (record { declared = D; ties = T }) → T t ≡ not plus → LeadsUp t h g
      → (k m : ℕ) → up (edited_ties plus (some t) T) k m ≡ (if eqb k h && eqb m g then plus otherwise up T k m)
  up-edited D T standing on leads k m = go leads ∙ ap (λ (b : Bool). if b then plus otherwise up T k m) (flip-both h k g m)
    where
      -- a tie that is taken stands
      stood : (line : ℕ → ℕ → Tie) → t ≡ line h g → plus ≡ false → (eqb h k && eqb g m) ≡ true → T (line k m) ≡ true
      stood line e p x =
          let s = parts (eqb h k) (eqb g m) x in
          ap T (ap₂ line (sym (eqb-true h k s.0)) (sym (eqb-true g m s.1)) ∙ sym e) ∙ on ∙ ap not p

      go : LeadsUp t h g → up (edited_ties plus (some t) T) k m ≡ (if eqb h k && eqb g m then plus otherwise up T k m)
      go (inl e) =
          ap (λ (t : Tie). up (edited_ties plus (some t) T) k m) e
          ∙ ap₂ (λ (a b : Bool). a || b) (edited-at plus (parent h g) T (parent k m)) (edited-at plus (parent h g) T (member k m))
          ∙ put-left (eqb h k && eqb g m) (T (parent k m)) (T (member k m)) plus
          (λ p x. off-by (T (member k m)) (λ b. one-kind D k m (standing.ties-fit (parent k m) (stood parent e p x)) (standing.ties-fit (member k m) b)))
      go (inr e) =
          ap (λ (t : Tie). up (edited_ties plus (some t) T) k m) e
          ∙ ap₂ (λ (a b : Bool). a || b) (edited-at plus (member h g) T (parent k m)) (edited-at plus (member h g) T (member k m))
          ∙ put_right (eqb h k && eqb g m) (T (parent k m)) (T (member k m)) plus
          (λ p x. off-by (T (parent k m)) (λ a. one-kind D k m (standing.ties-fit (parent k m) a) (standing.ties-fit (member k m) (stood member e p x))))

  -- a tie up is no tie of a pair
  value-edited : LeadsUp t h g → (T : Ties) (k p : ℕ) → edited_ties plus (some t) T (value k p) ≡ T (value k p)
  value-edited (inl e) T k p = ap (λ (t : Tie). edited_ties plus (some t) T (value k p)) e ∙ edited-at plus (parent h g) T (value k p)
  value-edited (inr e) T k p = ap (λ (t : Tie). edited_ties plus (some t) T (value k p)) e ∙ edited-at plus (member h g) T (value k p)

-- ---- the arrays

-- a tie of the holder h up to the group of slot q
module _ (ups : List ℕ) (h q : ℕ) (plus : Bool) (ups' : List ℕ) (long : length ups' ≡ length ups)
    (bits : (k r : ℕ) → tied_up ups' k r ≡ (if eqb k h && eqb r q then plus otherwise tied_up ups k r)) (own slots : List ℕ) (D : Declarations) (T : Ties) (t : Tie)
    (standing : Standing (record { declared = D; ties = T })) (kept : KeepsTies ups own slots T) (low : q < 64) (live : in_use (length ups) slots q ≡ true)
    (on : T t ≡ not plus) (leads : LeadsUp t h (get_or slots q 0)) where
  -- the slots are distinct: no other one has the group
  groups-edited : (k g : ℕ) → any_below 64 (λ r. tied_up ups' k r && eqb (get_or slots r 0) g)
      ≡ (if eqb k h && eqb g (get_or slots q 0) then plus otherwise any_below 64 (λ r. tied_up ups k r && eqb (get_or slots r 0) g))
  unfolding Distinct
  groups-edited k g = go (eqb k h && eqb g (get_or slots q 0)) refl
    where
      new : ℕ → Bool
      new r = tied_up ups' k r && eqb (get_or slots r 0) g

      old : ℕ → Bool
      old r = tied_up ups k r && eqb (get_or slots r 0) g

      there : (x b : Bool) → ((if x then plus otherwise b) && x) ≡ (plus && x)
      there true b = refl
      there false b = and-false b ∙ sym (and-false plus)

      at_slot : (eqb k h && eqb g (get_or slots q 0)) ≡ true → (r : ℕ) → r < 64 → new r ≡ (plus && eqb r q)
      at_slot e r l =
          let z = parts (eqb k h) (eqb g (get_or slots q 0)) e in
          let group = eqb-true g (get_or slots q 0) z.1 in
          let same : eqb (get_or slots r 0) g ≡ eqb r q = same_truth (eqb (get_or slots r 0) g) (eqb r q)
          (λ x. eq-eqb r q (kept.distinct q r low l live (eqb-true (get_or slots r 0) g x ∙ group)))
          (λ x. eq-eqb (get_or slots r 0) g (ap (λ (i : ℕ). get_or slots i 0) (eqb-true r q x) ∙ sym group)) in
          ap₂ (λ (a b : Bool). a && b) (bits k r ∙ ap (λ (b : Bool). if b && eqb r q then plus otherwise tied_up ups k r) z.0) same ∙ there (eqb r q) (tied_up ups k r)

      one-slot : (b : Bool) → any_below 64 (λ r. b && eqb r q) ≡ b
      one-slot true = find-any 64 (λ r. eqb r q) q low (eq-eqb q q refl)
      one-slot false = any_at 64 (λ r. false) (λ r l. refl)

      elsewhere : (eqb k h && eqb g (get_or slots q 0)) ≡ false → (r : ℕ) (b : Bool) → (eqb k h && eqb r q) ≡ b → tied_up ups' k r ≡ (if b then plus otherwise tied_up ups k r)
          → new r ≡ old r
      elsewhere e r false y is = ap (λ (a : Bool). a && eqb (get_or slots r 0) g) is
      elsewhere e r true y is =
          let z = parts (eqb k h) (eqb r q) y in
          let other : eqb (get_or slots r 0) g ≡ false = off-by (eqb (get_or slots r 0) g) (λ x.
          true≢false (sym (both z.0 (eq-eqb g (get_or slots q 0) (sym (eqb-true (get_or slots r 0) g x) ∙ ap (λ (i : ℕ). get_or slots i 0) (eqb-true r q z.1)))) ∙ e)) in
          ap (λ (a : Bool). tied_up ups' k r && a) other ∙ and-false (tied_up ups' k r)
          ∙ sym (ap (λ (a : Bool). tied_up ups k r && a) other ∙ and-false (tied_up ups k r))

      go : (b : Bool) → (eqb k h && eqb g (get_or slots q 0)) ≡ b → any_below 64 new ≡ (if b then plus otherwise any_below 64 old)
      go true e = any-ext 64 new (λ r. plus && eqb r q) (at_slot e) ∙ one-slot plus
      go false e = any-ext 64 new old (λ r l. elsewhere e r (eqb k h && eqb r q) refl (bits k r))

  used-edited : (k r : ℕ) → k < length ups → r < 64 → tied_up ups' k r ≡ true → in_use (length ups) slots r ≡ true
  used-edited k r few l e = go (eqb k h && eqb r q) refl (sym (bits k r) ∙ e)
    where
      go : (b : Bool) → (eqb k h && eqb r q) ≡ b → (if b then plus otherwise tied_up ups k r) ≡ true → in_use (length ups) slots r ≡ true
      go true y x = ap (in_use (length ups) slots) (eqb-true r q (parts (eqb k h) (eqb r q) y).1) ∙ live
      go false y x = kept.used k r few l x

  keeps-up : KeepsTies ups' own slots (edited_ties plus (some t) T)
  keeps-up = record {
    pairs = λ k p few l. kept.pairs k p (omega arith) l ∙ sym (value-edited plus t h (get_or slots q 0) leads T k p);
    groups = λ k g few.
        up-edited plus t h (get_or slots q 0) D T standing on leads k g
        ∙ ap (λ (b : Bool). if eqb k h && eqb g (get_or slots q 0) then plus otherwise b) (kept.groups k g (omega arith)) ∙ sym (groups-edited k g);
    used = λ k r few l e. ap (λ (n : ℕ). in_use n slots r) long ∙ used-edited k r (omega arith) l e;
    distinct = subst (λ (n : ℕ). Distinct n slots) (sym long) kept.distinct;
  }

-- a pair of the holder h
keeps-value : (own : List ℕ) (h p : ℕ) (plus : Bool) (own' : List ℕ) → ((k r : ℕ) → r < 256 → holds own' k r ≡ (if eqb k h && eqb r p then plus otherwise holds own k r))
    → (ups slots : List ℕ) (T : Ties) → KeepsTies ups own slots T → KeepsTies ups own' slots (edited_ties plus (some (value h p)) T)
keeps-value own h p plus own' bits ups slots T kept = record {
  pairs = λ k r few l.
      bits k r l ∙ ap₂ (λ (a b : Bool). if b then plus otherwise a) (kept.pairs k r few l) (flip-both k h r p) ∙ sym (edited-at plus (value h p) T (value k r));
  groups = λ k g few. ap₂ (λ (a b : Bool). a || b) (edited-at plus (value h p) T (parent k g)) (edited-at plus (value h p) T (member k g)) ∙ kept.groups k g few;
  used = kept.used;
  distinct = kept.distinct;
}

-- a slot for the holder number k
module _ (slots : List ℕ) (q v : ℕ) (within : q < length slots) (ups own : List ℕ) (T : Ties) (kept : KeepsTies ups own slots T)
    (free : in_use (length ups) slots q ≡ false) (new : (r : ℕ) → r < 64 → get_or slots r 0 ≡ v → ⊥) where
  other : (r : ℕ) → (r ≡ q → ⊥) → get_or (set slots q v) r 0 ≡ get_or slots r 0
  other r n = get_or-set_other slots q r v 0 n

  -- no tie leads to a free slot
  not_free : (h r : ℕ) → h < length ups → r < 64 → tied_up ups h r ≡ true → r ≡ q → ⊥
  not_free h r few l on e = true≢false (sym (kept.used h r few l on) ∙ ap (in_use (length ups) slots) e ∙ free)

  same-group : (h g r : ℕ) → h < length ups → r < 64 → (tied_up ups h r && eqb (get_or slots r 0) g) ≡ (tied_up ups h r && eqb (get_or (set slots q v) r 0) g)
  same-group h g r few l = go (tied_up ups h r) refl
    where
      go : (b : Bool) → tied_up ups h r ≡ b → (b && eqb (get_or slots r 0) g) ≡ (b && eqb (get_or (set slots q v) r 0) g)
      go true e = ap (λ (x : ℕ). eqb x g) (sym (other r (not_free h r few l e)))
      go false e = refl

  still-used : (h r : ℕ) → h < length ups → r < 64 → tied_up ups h r ≡ true → in_use (length ups) (set slots q v) r ≡ true
  unfolding in_use
  still-used h r few l on = ap (λ (x : ℕ). ltb 0 x && ltb x (length ups)) (other r (not_free h r few l on)) ∙ kept.used h r few l on

  still-distinct : Distinct (length ups) (set slots q v)
  unfolding Distinct in_use
  still-distinct x y l m u e = go (ℕ_discrete x q) (ℕ_discrete y q)
    where
      at : get_or (set slots q v) q 0 ≡ v
      at = get_or-set_same slots q v 0 within

      go : Dec (x ≡ q) → Dec (y ≡ q) → y ≡ x
      go (yes a) (yes b) = b ∙ sym a
      go (yes a) (no b) = absurd (new y m (sym (other y b) ∙ e ∙ ap (λ (i : ℕ). get_or (set slots q v) i 0) a ∙ at))
      go (no a) (yes b) = absurd (new x l (sym (other x a) ∙ sym e ∙ ap (λ (i : ℕ). get_or (set slots q v) i 0) b ∙ at))
      go (no a) (no b) =
          kept.distinct x y l m (sym (ap (λ (i : ℕ). ltb 0 i && ltb i (length ups)) (other x a)) ∙ u) (sym (other y b) ∙ e ∙ other x a)

  pub keeps-slot : KeepsTies ups own (set slots q v) T
  keeps-slot = record {
    pairs = kept.pairs;
    groups = λ h g few. kept.groups h g few ∙ any-ext 64 (λ r. tied_up ups h r && eqb (get_or slots r 0) g) (λ r. tied_up ups h r && eqb (get_or (set slots q v) r 0) g) (λ r l. same-group h g r few l);
    used = still-used;
    distinct = still-distinct;
  }

-- arrays of zeros keep no ties
pub keeps-none : (ups own slots : List ℕ) → ((k : ℕ) → get_or ups k 0 ≡ 0) → ((j : ℕ) → get_or own j 0 ≡ 0) → ((q : ℕ) → get_or slots q 0 ≡ 0) → KeepsTies ups own slots no_ties
unfolding tied_up holds Distinct
keeps-none ups own slots no-ups no_own no-slots = record {
  pairs = λ h p few l. ap (λ (w : ℕ). bit w (p % 64)) (no_own (4 * h + p / 64)) ∙ bit-none (p % 64);
  groups = λ h g few. sym (any_at 64 (λ q. bit (get_or ups h 0) q && eqb (get_or slots q 0) g) (λ q l. ap (λ (b : Bool). b && eqb (get_or slots q 0) g) (none h q)));
  used = λ h q few l on. absurd (true≢false (sym on ∙ none h q));
  distinct = λ q r l m u e. absurd (omega (arith, in-use-lt (length ups) slots q u, no-slots q));
}
  where
    none : (h q : ℕ) → bit (get_or ups h 0) q ≡ false
    none h q = ap (λ (w : ℕ). bit w q) (no-ups h) ∙ bit-none q

-- ---- what the functions do

pub up-changed : (ups : List ℕ) (h q v : ℕ) (plus : Bool) → h < length ups → q < 64 → ((j : ℕ) → bit v j ≡ (if eqb j q then plus otherwise bit (get_or ups h 0) j))
    → MaskChanged ups h q plus (set ups h v)
up-changed ups h q v plus few low one =
    let words = tied-set plus ups h q v few one in
    record {
      bits = words;
      keeps = λ own slots D T t standing kept live on leads.
          keeps-up ups h q plus (set ups h v) (simp length-set) words own slots D T t standing kept low live on leads;
    }

pub value-changed : (own : List ℕ) (h p v : ℕ) (plus : Bool) → 4 * h + 4 ≤ length own → p < 256
    → ((j : ℕ) → bit v j ≡ (if eqb j (p % 64) then plus otherwise bit (get_or own (4 * h + p / 64) 0) j)) → OwnChanged own h p plus (set own (4 * h + p / 64) v)
value-changed own h p v plus few low one =
    let words = holds-set plus own h p v few low one in
    record { bits = words; keeps = keeps-value own h p plus (set own (4 * h + p / 64) v) words }

pub slot-given : (slots : List ℕ) (q k : ℕ) → q < length slots → SlotGiven slots q k (set slots q k)
slot-given slots q k within = record { words = refl; keeps = λ ups own T kept free new. keeps-slot slots q k within ups own T kept free new }
