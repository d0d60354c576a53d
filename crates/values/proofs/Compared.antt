-- A comparison of values is the one of the atoms that they stand for. Assumes nothing.
use Prim.Native.Nat.{ℕ, ◌≤◌, ◌<◌}
use mathlib.Core.Path.{◌≡◌, refl, sym, ap, ap₂, subst, ◌∙◌}
use mathlib.Core.Bool.{Bool, true, false, not, ◌&&◌, and-false, beq}
use mathlib.Core.List.Memᴰ.{head as here}
use mathlib.Core.List.{List, [], ◌∷◌}
use native.Mathlib.Omega.{arith}
use native.Mathlib.Decide.{dec_lt}
use lib.Dec.{eqb, leb, ltb}
use borrow.Author.Tests.{eq-eqb, ne_eqb, eqb-true, eqb-false}
use Rattle.std.specs.Prelude.{Option, Some, None}
use Rattle.model.specs.Notation.{if◌then◌otherwise◌, any_of, map, is_empty}
use Rattle.model.specs.Attributes.{same_type}
use Rattle.model.specs.Atoms.{Atom, int, str, bool, type_of, is_atom}
use Rattle.model.specs.Truth as model
use Rattle.model.specs.Truth.{truth, NOT}
use Rattle.model.specs.Tokens.{Operator}
use Rattle.model.specs.Comparison.{ordered, order, compare_like, compare_sets, lone_value}
use Rattle.model.proofs.Lists.{all_in}
use Rattle.codes.specs.Codes.{type_code, operator_code}
use Rattle.codes.proofs.Codes.{operator-injective}
use Rattle.truth.specs.declared.Truth.{Truth}
use Rattle.truth.specs.declared.Truth.TheVariants.{Undef}
use Rattle.truth.specs.Truths.{truth_of}
use Rattle.text.specs.declared.Words.{Words}
use Rattle.text.specs.Values.{words, same_words, atom_words}
use Rattle.values.specs.declared.Operand.{Operand}
use Rattle.values.specs.Operands.{Lent, operand_values, Stands}
use Rattle.values.specs.Compared.{extreme_from, worst, extreme_of, greatest_of, least_of, least_below_greatest, or_next, sought_from, among_of, asked, found_of, of_present, order_of, below_of, Compared, Lone}
use Rattle.values.proofs.Orders.{below-so, not-above-so}
use Rattle.values.proofs.ComparedAtoms.{among_values, some_found, int_small, Typed, among-atoms, common-turned, common-atoms, subset-atoms, before-atoms, after-atoms}

-- what an operator says of present values of one type
unfoldable like_values : Operator → ℕ → List Words → List Words → model.Truth
like_values Operator.equal ty l r = truth (some_found true l r)
like_values Operator.IN ty l r = truth (some_found true l r)
like_values Operator.unequal ty l r = NOT (truth (some_found true l r))
like_values Operator.SUBSET ty l r = NOT (truth (some_found false l r))
like_values Operator.less ty l r = order_of ty false l r
like_values Operator.at_most ty l r = order_of ty true l r
like_values Operator.greater ty l r = order_of ty false r l
like_values Operator.at_least ty l r = order_of ty true r l

-- and of any values
unfoldable compare_values : Operator → ℕ → ℕ → List Words → List Words → model.Truth
compare_values o ty ty' l r = if eqb ty ty' then of_present l r (like_values o ty l r) otherwise model.UNDEF

-- what a lone attribute with these values comes to
unfoldable lone_of : ℕ → List Words → model.Truth
lone_of ty values = if (eqb ty 3 && not (is_empty values)) then truth (among_values values (words 1 0 0)) otherwise model.UNDEF

-- what is said of two operands that have values, by the test for them
undef-either : (b : Bool) → (if b then model.UNDEF otherwise model.UNDEF) ≡ model.UNDEF
undef-either true = refl
undef-either false = refl

absent-left : (r : List Words) (t : model.Truth) → of_present [] r t ≡ model.UNDEF
unfolding of_present
absent-left r t = refl

absent-right : (l : List Words) (t : model.Truth) → of_present l [] t ≡ model.UNDEF
unfolding of_present
absent-right [] t = refl
absent-right (w ∷ l) t = refl

both-there : (v : Words) (l : List Words) (w : Words) (r : List Words) (t : model.Truth) → of_present (v ∷ l) (w ∷ r) t ≡ t
unfolding of_present
both-there v l w r t = refl

turned : (l r : List Words) (t : model.Truth) → of_present r l t ≡ of_present l r t
unfolding of_present
turned [] [] t = refl
turned [] (v ∷ r) t = refl
turned (w ∷ l) [] t = refl
turned (w ∷ l) (v ∷ r) t = refl

never : (l r : List Words) → of_present l r model.UNDEF ≡ model.UNDEF
unfolding of_present
never l r = undef-either (not (is_empty l) && not (is_empty r))

not-inside : (l r : List Words) (t : model.Truth) → NOT (of_present l r t) ≡ of_present l r (NOT t)
unfolding of_present
not-inside l r t = go (not (is_empty l) && not (is_empty r))
  where
    go : (b : Bool) → NOT (if b then t otherwise model.UNDEF) ≡ (if b then NOT t otherwise model.UNDEF)
    go true = refl
    go false = refl

-- by the greatest or the least of each side
module _ (greatest : Bool) where
  pub without-left : (l r : List Words) (t : model.Truth) → ◌≡◌ {A = Option ℕ} None (extreme_of greatest l) → model.UNDEF ≡ of_present l r t
  unfolding extreme_of
  without-left [] r t e = sym (absent-left r t)
  without-left (w ∷ l) r t e = cc

  pub without-right : (l r : List Words) (t : model.Truth) → ◌≡◌ {A = Option ℕ} None (extreme_of greatest r) → model.UNDEF ≡ of_present l r t
  unfolding extreme_of
  without-right l [] t e = sym (absent-right l t)
  without-right l (w ∷ r) t e = cc

  pub extreme-is : (l : List Words) (a : ℕ) → ◌≡◌ {A = Option ℕ} (Some a) (extreme_of greatest l) → a ≡ extreme_from greatest (worst greatest) l
  unfolding extreme_of
  extreme-is [] a e = cc
  extreme-is (w ∷ l) a e = cc

pub with-both : (l r : List Words) (t : model.Truth) (a b : ℕ) → ◌≡◌ {A = Option ℕ} (Some a) (extreme_of false l) → ◌≡◌ {A = Option ℕ} (Some b) (extreme_of true r) → t ≡ of_present l r t
unfolding extreme_of
with-both [] r t a b e f = cc
with-both (w ∷ l) [] t a b e f = cc
with-both (w ∷ l) (v ∷ r) t a b e f = sym (both-there w l v r t)

-- the ways through the tests before it
module _ (o : Operator) (k k' : ℕ) (l r : List Words) where
  unlike : (k ≡ k' → ⊥) → compare_values o k k' l r ≡ model.UNDEF
  unfolding compare_values
  unlike h = simp (ne_eqb k k' h)

  alike : k ≡ k' → compare_values o k k' l r ≡ of_present l r (like_values o k l r)
  unfolding compare_values
  alike e = simp (eq-eqb k k' e)

  -- whatever the types
  empty : of_present l r (like_values o k l r) ≡ model.UNDEF → compare_values o k k' l r ≡ model.UNDEF
  unfolding compare_values
  empty h = ap (λ (t : model.Truth). if eqb k k' then t otherwise model.UNDEF) h ∙ undef-either (eqb k k')

-- searches: what they say of values that are there
module _ (answer : Words → model.Truth) (p : Words → Bool) (so : (w : Words) → answer w ≡ truth (p w)) where
  sought-all : (l : List Words) → sought_from answer true l ≡ truth (any_of p l)
  unfolding sought_from
  sought-all [] = refl
  sought-all (w ∷ l) = ap₂ or_next (so w) (sought-all l) ∙ go (p w)
    where
      go : (b : Bool) → or_next (truth b) (truth (any_of p l)) ≡ truth (elim b as (λ _. Bool) [ true ↦ true | false ↦ any_of p l ])
      go true = refl
      go false = refl

  sought-so : (l : List Words) → sought_from answer false l ≡ (if not (is_empty l) then truth (any_of p l) otherwise model.UNDEF)
  unfolding sought_from
  sought-so [] = refl
  sought-so (w ∷ l) = sought-all (w ∷ l)

among-so : (values : List Words) (w : Words) → among_of values w ≡ (if not (is_empty values) then truth (among_values values w) otherwise model.UNDEF)
unfolding among_of
among-so values w = sought-so (λ v. truth (same_words w v)) (same_words w) (λ v. refl) values

asked-truth : (wanted b : Bool) → asked wanted (truth b) ≡ truth (beq b wanted)
asked-truth true true = refl
asked-truth true false = refl
asked-truth false true = refl
asked-truth false false = refl

found-so : (wanted : Bool) (l r : List Words) → found_of wanted l r ≡ of_present l r (truth (some_found wanted l r))
unfolding found_of of_present sought_from some_found
found-so wanted [] r = refl
found-so wanted (w ∷ l) [] = ap (λ (t : model.Truth). or_next (asked wanted t) (sought_from (λ v. asked wanted (among_of [] v)) true l)) (among-so [] w) ∙ go wanted
  where
    go : (b : Bool) → or_next (asked b model.UNDEF) (sought_from (λ v. asked wanted (among_of [] v)) true l) ≡ model.UNDEF
    go true = refl
    go false = refl
found-so wanted (w ∷ l) (v ∷ r) =
    sought-so (λ x. asked wanted (among_of (v ∷ r) x)) (λ x. beq (among_values (v ∷ r) x) wanted)
    (λ x. ap (asked wanted) (among-so (v ∷ r) x) ∙ asked-truth wanted (among_values (v ∷ r) x)) (w ∷ l)

pub found-turned : (l r : List Words) → found_of true l r ≡ found_of true r l
found-turned l r =
    found-so true l r
    ∙ ap (λ (b : Bool). of_present l r (truth b)) (common-turned l r)
    ∙ turned r l (truth (some_found true r l))
    ∙ sym (found-so true r l)

-- types are the same where their numbers are
same-ty : (a b : Atom) → same_type (type_of a) (type_of b) ≡ eqb (type_code (type_of a)) (type_code (type_of b))
same-ty (int m) (int n) = refl
same-ty (int m) (str t) = refl
same-ty (int m) (bool b) = refl
same-ty (str s) (int n) = refl
same-ty (str s) (str t) = refl
same-ty (str s) (bool b) = refl
same-ty (bool a) (int n) = refl
same-ty (bool a) (str t) = refl
same-ty (bool a) (bool b) = refl

not-truth : (b : Bool) → NOT (truth b) ≡ truth (not b)
not-truth true = refl
not-truth false = refl

-- present atoms of one type
module _ (k : ℕ) (a : Atom) (l : List Atom) (b : Atom) (m : List Atom) (tl : Typed k (a ∷ l)) (tm : Typed k (b ∷ m)) where
  order-so : (equal : Bool) (low high : List Words) (before : ℕ → ℕ → Bool)
      → (Typed 1 (a ∷ l) → Typed 1 (b ∷ m) → least_below_greatest equal low high ≡ any_of (λ x. any_of (ordered before x) (b ∷ m)) (a ∷ l))
      → order_of k equal low high ≡ order before (type_of a) (a ∷ l) (b ∷ m)
  unfolding order_of
  order-so equal low high before f = go a refl
    where
      ty : (x : Atom) → x ≡ a → k ≡ type_code (type_of x)
      ty x p = sym (tl.types a (here refl)) ∙ ap (λ (y : Atom). type_code (type_of y)) (sym p)

      go : (x : Atom) → x ≡ a → (if eqb k 1 then truth (least_below_greatest equal low high) otherwise model.UNDEF) ≡ order before (type_of x) (a ∷ l) (b ∷ m)
      go (int x) p =
          let e : k ≡ 1 = ty (int x) p in
          rw (eq-eqb k 1 e) (ap truth (f (subst (λ (j : ℕ). Typed j (a ∷ l)) e tl) (subst (λ (j : ℕ). Typed j (b ∷ m)) e tm)))
      go (str x) p = let e : k ≡ 2 = ty (str x) p in rw e
      go (bool x) p = let e : k ≡ 3 = ty (bool x) p in rw e

  small-left : Typed 1 (a ∷ l) → (atom_words a).first ≤ Rattle.model.specs.Limits.largest_int
  small-left t = int_small a (t.written a (here refl)) (t.types a (here refl))

  small-right : Typed 1 (b ∷ m) → (atom_words b).first ≤ Rattle.model.specs.Limits.largest_int
  small-right t = int_small b (t.written b (here refl)) (t.types b (here refl))

  like-atoms : (o : Operator) → like_values o k (map atom_words (a ∷ l)) (map atom_words (b ∷ m)) ≡ compare_like o (type_of a) (a ∷ l) (b ∷ m)
  unfolding like_values
  like-atoms Operator.equal = ap truth (common-atoms k (a ∷ l) (b ∷ m) tl tm)
  like-atoms Operator.IN = ap truth (common-atoms k (a ∷ l) (b ∷ m) tl tm)
  like-atoms Operator.unequal = ap (λ (t : Bool). NOT (truth t)) (common-atoms k (a ∷ l) (b ∷ m) tl tm)
  like-atoms Operator.SUBSET =
      not-truth (some_found false (map atom_words (a ∷ l)) (map atom_words (b ∷ m))) ∙ ap truth (subset-atoms k (a ∷ l) (b ∷ m) tl tm)
  like-atoms Operator.less =
      order-so false (map atom_words (a ∷ l)) (map atom_words (b ∷ m)) (λ x y. ltb x y) (λ u v.
      below-so (atom_words a) (map atom_words l) (atom_words b) (map atom_words m) (small-left u) ∙ before-atoms (λ x y. ltb x y) (a ∷ l) (b ∷ m) u v)
  like-atoms Operator.at_most =
      order-so true (map atom_words (a ∷ l)) (map atom_words (b ∷ m)) (λ x y. leb x y) (λ u v.
      not-above-so (atom_words a) (map atom_words l) (atom_words b) (map atom_words m) (small-left u) ∙ before-atoms (λ x y. leb x y) (a ∷ l) (b ∷ m) u v)
  like-atoms Operator.greater =
      order-so false (map atom_words (b ∷ m)) (map atom_words (a ∷ l)) (λ x y. ltb y x) (λ u v.
      below-so (atom_words b) (map atom_words m) (atom_words a) (map atom_words l) (small-right v)
      ∙ before-atoms (λ x y. ltb x y) (b ∷ m) (a ∷ l) v u ∙ after-atoms (λ x y. ltb x y) (a ∷ l) (b ∷ m))
  like-atoms Operator.at_least =
      order-so true (map atom_words (b ∷ m)) (map atom_words (a ∷ l)) (λ x y. leb y x) (λ u v.
      not-above-so (atom_words b) (map atom_words m) (atom_words a) (map atom_words l) (small-right v)
      ∙ before-atoms (λ x y. leb x y) (b ∷ m) (a ∷ l) v u ∙ after-atoms (λ x y. leb x y) (a ∷ l) (b ∷ m))

compare-atoms : (o : Operator) (k k' : ℕ) (l m : List Atom) → Typed k l → Typed k' m
    → compare_values o k k' (map atom_words l) (map atom_words m) ≡ compare_sets o l m
unfolding compare_sets
compare-atoms o k k' [] m tl tm =
    empty o k k' [] (map atom_words m) (absent-left (map atom_words m) (like_values o k [] (map atom_words m)))
compare-atoms o k k' (a ∷ l) [] tl tm =
    empty o k k' (map atom_words (a ∷ l)) [] (absent-right (map atom_words (a ∷ l)) (like_values o k (map atom_words (a ∷ l)) []))
compare-atoms o k k' (a ∷ l) (b ∷ m) tl tm = go (eqb k k') refl
  where
    types : same_type (type_of a) (type_of b) ≡ eqb k k'
    types = same-ty a b ∙ ap₂ eqb (tl.types a (here refl)) (tm.types b (here refl))

    go : (t : Bool) → eqb k k' ≡ t → compare_values o k k' (map atom_words (a ∷ l)) (map atom_words (b ∷ m))
        ≡ (elim (same_type (type_of a) (type_of b)) as (λ _. model.Truth) [ true ↦ compare_like o (type_of a) (a ∷ l) (b ∷ m) | false ↦ model.UNDEF ])
    go true e =
        let same : k ≡ k' = eqb-true k k' e in
        alike o k k' (map atom_words (a ∷ l)) (map atom_words (b ∷ m)) same
        ∙ both-there (atom_words a) (map atom_words l) (atom_words b) (map atom_words m) (like_values o k (map atom_words (a ∷ l)) (map atom_words (b ∷ m)))
        ∙ like-atoms k a l b m tl (record { types = λ x p. tm.types x p ∙ sym same; written = tm.written }) o
        ∙ ap (λ (t : Bool). elim t as (λ _. model.Truth) [ true ↦ compare_like o (type_of a) (a ∷ l) (b ∷ m) | false ↦ model.UNDEF ]) (sym (types ∙ e))
    go false e =
        unlike o k k' (map atom_words (a ∷ l)) (map atom_words (b ∷ m)) (eqb-false k k' e)
        ∙ ap (λ (t : Bool). elim t as (λ _. model.Truth) [ true ↦ compare_like o (type_of a) (a ∷ l) (b ∷ m) | false ↦ model.UNDEF ]) (sym (types ∙ e))

-- the atoms that an operand stands for have its type
stands-typed : (L : Lent) (o : Operand) {l : List Atom} → Stands L o l → Typed o.ty l
stands-typed L o {l} s =
    record {
      types = λ a p. eqb-true (type_code (type_of a)) o.ty (all_in (λ x. eqb (type_code (type_of x)) o.ty) l s.typed p);
      written = λ a p. all_in is_atom l s.written p;
    }

-- the ways of a comparison: what was found out of two operands, and the answer
module _ (L : Lent) (n : ℕ) (left right : Operand) where
  -- the comparison by an operator, whose number it is
  compared : (x : Operator) → n ≡ operator_code x → (r : Truth)
      → truth_of r ≡ compare_values x left.ty right.ty (operand_values L left) (operand_values L right) → Compared L n left right r
  compared x e r f =
      record {
        by-operator = λ o l m d s t.
            f ∙ ap (λ (y : Operator). compare_values y left.ty right.ty (operand_values L left) (operand_values L right)) (operator-injective x o (sym e ∙ d))
            ∙ ap₂ (compare_values o left.ty right.ty) s.coded t.coded
            ∙ compare-atoms o left.ty right.ty l m (stands-typed L left s) (stands-typed L right t);
        by-none = λ g. absurd (g x e);
      }

  pub types-differ : (left.ty ≡ right.ty → ⊥) → Compared L n left right Undef
  types-differ h =
      record {
        by-operator = λ o l m d s t.
            sym (unlike o left.ty right.ty (operand_values L left) (operand_values L right) h)
            ∙ ap₂ (compare_values o left.ty right.ty) s.coded t.coded
            ∙ compare-atoms o left.ty right.ty l m (stands-typed L left s) (stands-typed L right t);
        by-none = λ g. refl;
      }

  module _ (same : left.ty ≡ right.ty) (r : Truth) where
    -- by what the operator says of present values
    present : (x : Operator) → n ≡ operator_code x
        → truth_of r ≡ of_present (operand_values L left) (operand_values L right) (like_values x left.ty (operand_values L left) (operand_values L right))
        → Compared L n left right r
    present x e f = compared x e r (f ∙ sym (alike x left.ty right.ty (operand_values L left) (operand_values L right) same))

    pub by-equality : 16 ≤ n → n ≤ 17 → truth_of r ≡ found_of true (operand_values L left) (operand_values L right) → Compared L n left right r
    unfolding like_values
    by-equality h m f = go (dec_lt n 17)
      where
        go : Dec (n < 17) → Compared L n left right r
        go (yes l) = present Operator.equal (omega arith) (f ∙ found-so true (operand_values L left) (operand_values L right))
        go (no l) = present Operator.IN (omega arith) (f ∙ found-so true (operand_values L left) (operand_values L right))

    -- a search that is negated
    negated : (wanted : Bool) → truth_of r ≡ NOT (found_of wanted (operand_values L left) (operand_values L right))
        → truth_of r ≡ of_present (operand_values L left) (operand_values L right) (NOT (truth (some_found wanted (operand_values L left) (operand_values L right))))
    negated wanted f =
        f ∙ ap NOT (found-so wanted (operand_values L left) (operand_values L right))
        ∙ not-inside (operand_values L left) (operand_values L right) (truth (some_found wanted (operand_values L left) (operand_values L right)))

    pub by-inequality : n ≡ 18 → truth_of r ≡ NOT (found_of true (operand_values L left) (operand_values L right)) → Compared L n left right r
    unfolding like_values
    by-inequality e f = present Operator.unequal e (negated true f)

    pub by-subset : n ≡ 19 → truth_of r ≡ NOT (found_of false (operand_values L left) (operand_values L right)) → Compared L n left right r
    unfolding like_values
    by-subset e f = present Operator.SUBSET e (negated false f)

    -- an order whose low side is on the right
    from-right : (equal : Bool) → below_of L equal right left ≡ of_present (operand_values L left) (operand_values L right) (order_of left.ty equal (operand_values L right) (operand_values L left))
    from-right equal =
        turned (operand_values L left) (operand_values L right) (order_of right.ty equal (operand_values L right) (operand_values L left))
        ∙ ap (λ (k : ℕ). of_present (operand_values L left) (operand_values L right) (order_of k equal (operand_values L right) (operand_values L left))) (sym same)

    pub by_less : n ≡ 20 → truth_of r ≡ below_of L false left right → Compared L n left right r
    unfolding like_values
    by_less e f = present Operator.less e f

    pub by-at-most : n ≡ 21 → truth_of r ≡ below_of L true left right → Compared L n left right r
    unfolding like_values
    by-at-most e f = present Operator.at_most e f

    pub by-greater : n ≡ 22 → truth_of r ≡ below_of L false right left → Compared L n left right r
    unfolding like_values
    by-greater e f = present Operator.greater e (f ∙ from-right false)

    pub by-at-least : n ≡ 23 → truth_of r ≡ below_of L true right left → Compared L n left right r
    unfolding like_values
    by-at-least e f = present Operator.at_least e (f ∙ from-right true)

-- a lone attribute
lone-atoms : (k : ℕ) (l : List Atom) → Typed k l → lone_of k (map atom_words l) ≡ lone_value l
unfolding lone_of lone_value
lone-atoms k [] t = rw (and-false (eqb k 3))
lone-atoms k (int n ∷ l) t = let e : k ≡ 1 = sym (t.types (int n) (here refl)) in rw e
lone-atoms k (str s ∷ l) t = let e : k ≡ 2 = sym (t.types (str s) (here refl)) in rw e
lone-atoms k (bool b ∷ l) t =
    let e : k ≡ 3 = sym (t.types (bool b) (here refl)) in
    rw e (ap truth (among-atoms 3 (bool true) (bool b ∷ l) refl refl (subst (λ (n : ℕ). Typed n (bool b ∷ l)) e t)))

module _ (L : Lent) (o : Operand) (r : Truth) where
  alone : truth_of r ≡ lone_of o.ty (operand_values L o) → Lone L o r
  alone e = record { lone-value = λ l s. e ∙ ap (lone_of o.ty) s.coded ∙ lone-atoms o.ty l (stands-typed L o s) }

-- the ways through a lone attribute's tests
module _ (L : Lent) (o : Operand) where
  pub not_bool : (o.ty ≡ 3 → ⊥) → Lone L o Undef
  unfolding lone_of
  not_bool h = alone L o Undef (sym (rw (ne_eqb o.ty 3 h)))

  pub some_alone : o.ty ≡ 3 → (r : Truth) → truth_of r ≡ among_of (operand_values L o) (words 1 0 0) → Lone L o r
  unfolding lone_of
  some_alone e r er = alone L o r (er ∙ among-so (operand_values L o) (words 1 0 0) ∙ sym (rw (eq-eqb o.ty 3 e)))

-- the ways through an order's tests
module _ (ty : ℕ) (equal : Bool) (low high : List Words) where
  pub not-ints : (ty ≡ 1 → ⊥) → model.UNDEF ≡ of_present low high (order_of ty equal low high)
  unfolding order_of
  not-ints h = sym (ap (of_present low high) (rw (ne_eqb ty 1 h)) ∙ never low high)

  module _ (e : ty ≡ 1) where
    ints : truth (least_below_greatest equal low high) ≡ order_of ty equal low high
    unfolding order_of
    ints = sym (rw (eq-eqb ty 1 e))

    pub at-most : equal ≡ true → truth (leb (least_of low) (greatest_of high)) ≡ order_of ty equal low high
    unfolding least_below_greatest
    at-most f = sym (ap (λ (t : Bool). truth (if t then leb (least_of low) (greatest_of high) otherwise ltb (least_of low) (greatest_of high))) f) ∙ ints

    pub strictly : equal ≡ false → truth (ltb (least_of low) (greatest_of high)) ≡ order_of ty equal low high
    unfolding least_below_greatest
    strictly f = sym (ap (λ (t : Bool). truth (if t then leb (least_of low) (greatest_of high) otherwise ltb (least_of low) (greatest_of high))) f) ∙ ints
