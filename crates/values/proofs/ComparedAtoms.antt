-- Values are compared by their words: they are equal, and so ordered, exactly when their atoms are. Assumes nothing.
use Prim.Native.Nat.{ℕ, ◌≤◌}
use mathlib.Core.Path.{◌≡◌, refl, sym, ap, ◌∙◌}
use mathlib.Core.Bool.{Bool, true, false, not, beq}
use mathlib.Core.List.{List, [], ◌∷◌}
use native.Mathlib.Omega.{arith}
use lib.Dec.{eqb}
use borrow.Author.Tests.{eq-eqb, eqb-true, leb-true}
use Rattle.model.specs.Notation.{any_of, all_of, map}
use Rattle.model.specs.Limits.{largest_int}
use Rattle.model.specs.Atoms.{Atom, int, str, bool, type_of, is_atom, same_atom}
use Rattle.model.specs.Comparison as model
use Rattle.model.specs.Comparison.{ordered}
use Rattle.model.proofs.Lists.{◌∈◌, any-ext, any-in, in-any, same_truth}
use Rattle.codes.specs.Codes.{type_code}
use Rattle.codes.proofs.Codes.{type-injective}
use Rattle.text.specs.declared.Words.{Words}
use Rattle.text.specs.Values.{atom_words, same_words}
use Rattle.text.proofs.Values.{words_same}
use Rattle.values.proofs.Orders.{some_before}

-- a value is among others
abbrev pub among_values : List Words → Words → Bool
among_values values w = any_of (same_words w) values

-- some left value is among the right, or with `wanted` false, some is not
unfoldable pub some_found : Bool → List Words → List Words → Bool
some_found wanted left right = any_of (λ w. beq (among_values right w) wanted) left

-- lists
pub any-map : {A B : Type 0} (p : B → Bool) (f : A → B) (l : List A) → any_of p (map f l) ≡ any_of (λ x. p (f x)) l
any-map p f [] = refl
any-map p f (x ∷ l) = ap (λ (b : Bool). elim (p (f x)) as (λ _. Bool) [ true ↦ true | false ↦ b ]) (any-map p f l)

-- each passes exactly if none fails
none-fails : {A : Type 0} (p : A → Bool) (l : List A) → not (any_of (λ x. beq (p x) false) l) ≡ all_of p l
none-fails p [] = refl
none-fails p (x ∷ l) = go (p x) (none-fails p l)
  where
    go : (t : Bool) → not (any_of (λ y. beq (p y) false) l) ≡ all_of p l → not (elim (beq t false) as (λ _. Bool) [ true ↦ true | false ↦ any_of (λ y. beq (p y) false) l ])
        ≡ elim t as (λ _. Bool) [ true ↦ all_of p l | false ↦ false ]
    go true e = e
    go false e = refl

beq-true : (b : Bool) → beq b true ≡ b
beq-true true = refl
beq-true false = refl

-- an int is at most the largest
pub int_small : (a : Atom) → is_atom a ≡ true → type_code (type_of a) ≡ 1 → (atom_words a).first ≤ largest_int
int_small (int n) e k = leb-true n largest_int e
int_small (str s) e k = absurd (omega arith)
int_small (bool b) e k = absurd (omega arith)

-- integers are ordered as their numbers are
ordered-numbers : (before : ℕ → ℕ → Bool) (a b : Atom) → type_code (type_of a) ≡ 1 → type_code (type_of b) ≡ 1
    → before (atom_words a).first (atom_words b).first ≡ ordered before a b
ordered-numbers before (int m) (int n) p q = refl
ordered-numbers before (int m) (str t) p q = absurd (omega arith)
ordered-numbers before (int m) (bool b) p q = absurd (omega arith)
ordered-numbers before (str s) b p q = absurd (omega arith)
ordered-numbers before (bool a) b p q = absurd (omega arith)

-- atoms of one type, well formed
pub record Typed (k : ℕ) (l : List Atom) : Type 0 where
  pub types : (a : Atom) → a ∈ l → type_code (type_of a) ≡ k
  pub written : (a : Atom) → a ∈ l → is_atom a ≡ true

-- a value is among others where its atom is
pub among-atoms : (k : ℕ) (a : Atom) (m : List Atom) → is_atom a ≡ true → type_code (type_of a) ≡ k → Typed k m
    → among_values (map atom_words m) (atom_words a) ≡ model.among m a
among-atoms k a m w t tm =
    any-map (same_words (atom_words a)) atom_words m
    ∙ any-ext (λ b. same_words (atom_words a) (atom_words b)) (same_atom a) m
    (λ b q. words_same a b w (tm.written b q) (type-injective (type_of a) (type_of b) (t ∙ sym (tm.types b q))))

module _ (k : ℕ) (l m : List Atom) (tl : Typed k l) (tm : Typed k m) where
  found-atoms : (wanted : Bool) → some_found wanted (map atom_words l) (map atom_words m) ≡ any_of (λ a. beq (model.among m a) wanted) l
  unfolding some_found
  found-atoms wanted =
      any-map (λ w. beq (among_values (map atom_words m) w) wanted) atom_words l
      ∙ any-ext (λ a. beq (among_values (map atom_words m) (atom_words a)) wanted) (λ a. beq (model.among m a) wanted) l
      (λ a p. ap (λ (b : Bool). beq b wanted) (among-atoms k a m (tl.written a p) (tl.types a p) tm))

  pub common-atoms : some_found true (map atom_words l) (map atom_words m) ≡ model.common l m
  common-atoms = found-atoms true ∙ any-ext (λ a. beq (model.among m a) true) (model.among m) l (λ a p. beq-true (model.among m a))

  pub subset-atoms : not (some_found false (map atom_words l) (map atom_words m)) ≡ model.subset l m
  subset-atoms = ap not (found-atoms false) ∙ none-fails (model.among m) l

-- some are so ordered, seen from either side
pub before-atoms : (before : ℕ → ℕ → Bool) (l m : List Atom) → Typed 1 l → Typed 1 m
    → some_before before (map atom_words l) (map atom_words m) ≡ any_of (λ a. any_of (ordered before a) m) l
before-atoms before l m tl tm =
    any-map (λ v. any_of (λ w. before v.first w.first) (map atom_words m)) atom_words l
    ∙ any-ext (λ a. any_of (λ w. before (atom_words a).first w.first) (map atom_words m)) (λ a. any_of (ordered before a) m) l
    (λ a p.
    any-map (λ w. before (atom_words a).first w.first) atom_words m
    ∙ any-ext (λ b. before (atom_words a).first (atom_words b).first) (ordered before a) m (λ b q. ordered-numbers before a b (tl.types a p) (tm.types b q)))

pub turned : {A : Type 0} (f : A → A → Bool) (l m : List A) → any_of (λ a. any_of (f a) m) l ≡ any_of (λ b. any_of (λ a. f a b) l) m
turned f l m = same_truth (any_of (λ a. any_of (f a) m) l) (any_of (λ b. any_of (λ a. f a b) l) m) there-so back
  where
    there-so : any_of (λ a. any_of (f a) m) l ≡ true → any_of (λ b. any_of (λ a. f a b) l) m ≡ true
    there-so e =
        let (a, p, d) = any-in (λ a. any_of (f a) m) l e in
        let (b, q, t) = any-in (f a) m d in
        in-any (λ b. any_of (λ a. f a b) l) q (in-any (λ a. f a b) p t)

    back : any_of (λ b. any_of (λ a. f a b) l) m ≡ true → any_of (λ a. any_of (f a) m) l ≡ true
    back e =
        let (b, q, d) = any-in (λ b. any_of (λ a. f a b) l) m e in
        let (a, p, t) = any-in (λ a. f a b) l d in
        in-any (λ a. any_of (f a) m) p (in-any (f a) q t)

-- a common value, seen from either side
same-turned : (a b : Words) → same_words a b ≡ same_words b a
same-turned a b =
    simp (eqb-turned a.first b.first, eqb-turned a.second b.second, eqb-turned a.third b.third)
  where
    eqb-turned : (m n : ℕ) → eqb m n ≡ eqb n m
    eqb-turned m n = same_truth (eqb m n) (eqb n m) (λ e. eq-eqb n m (sym (eqb-true m n e))) (λ e. eq-eqb m n (sym (eqb-true n m e)))

pub common-turned : (l r : List Words) → some_found true l r ≡ some_found true r l
unfolding some_found
common-turned l r =
    any-ext (λ w. beq (among_values r w) true) (among_values r) l (λ w p. beq-true (among_values r w))
    ∙ turned same_words l r
    ∙ any-ext (λ w. any_of (λ v. same_words v w) l) (λ w. beq (among_values l w) true) r
    (λ w p. any-ext (λ v. same_words v w) (same_words w) l (λ v q. same-turned v w) ∙ sym (beq-true (among_values l w)))

-- an order the other way round
ordered-turned : (before : ℕ → ℕ → Bool) (a b : Atom) → ordered (λ x y. before y x) a b ≡ ordered before b a
ordered-turned before (int m) (int n) = refl
ordered-turned before (int m) (str t) = refl
ordered-turned before (int m) (bool b) = refl
ordered-turned before (str s) (int n) = refl
ordered-turned before (str s) (str t) = refl
ordered-turned before (str s) (bool b) = refl
ordered-turned before (bool a) (int n) = refl
ordered-turned before (bool a) (str t) = refl
ordered-turned before (bool a) (bool b) = refl

pub after-atoms : (before : ℕ → ℕ → Bool) (l m : List Atom) → any_of (λ b. any_of (ordered before b) l) m ≡ any_of (λ a. any_of (ordered (λ x y. before y x) a) m) l
after-atoms before l m =
    turned (ordered before) m l
    ∙ any-ext (λ a. any_of (λ b. ordered before b a) m) (λ a. any_of (ordered (λ x y. before y x) a) m) l
    (λ a p. any-ext (λ b. ordered before b a) (ordered (λ x y. before y x) a) m (λ b q. sym (ordered-turned before a b)))
