-- Effective sets: on acyclic ties the computed set is the least one closed under the document's sentence, and an edit changes the sets of the
-- edited holder and those below it alone. Assumes nothing.
use Prim.Native.Nat.{ℕ, zero, suc}
use mathlib.Core.Path.{◌≡◌, refl, sym, ap, ap₂, subst, ◌∙◌}
use mathlib.Core.Logic.{⊎_elim, ◌↔◌}
use mathlib.Core.Bool.{Bool, true, ◌||◌, true≢false}
use mathlib.Core.List.{List}
use lib.ListN.{length}
use Rattle.model.specs.Notation.{any_of}
use Rattle.model.specs.Ties.{Ties, parent, member, value, up, one, more, Below, Acyclic, ups}
use Rattle.model.specs.Effective.{direct, effective_within, effective, Has, own, inherited}
use Rattle.model.specs.Standing.{DifferAt}
use Rattle.model.proofs.Lists.{◌∈◌, same_truth, or_cases, or_left, or_right, any-in, in-any, any-ext, filter-ext, in-filter, filter-in}
use Rattle.model.proofs.Chains.{Among, Depth, acyclic-depth}

-- F is closed under the document's sentence: own direct pairs, and the pairs of each holder one tie up
pub record Closed (T : Ties) (F : ℕ → ℕ → Type 0) : Type 0 where
  pub closed-own : (h p : ℕ) → direct T h p ≡ true → F h p
  pub closed-up : (h g p : ℕ) → up T h g ≡ true → F g p → F h p

has-least : {T : Ties} {p h : ℕ} (F : ℕ → ℕ → Type 0) → Closed T F → Has T p h → F h p
has-least {p = p} F c (own {h = h} e) = c.closed-own h p e
has-least {p = p} F c (inherited {g = g} {h = h} e a) = c.closed-up h g p e (has-least F c a)

has-sound : (n : ℕ) (hs : List ℕ) (T : Ties) (h p : ℕ) → effective_within n hs T h p ≡ true → Has T p h
has-sound zero hs T h p e = absurd (true≢false (sym e))
has-sound (suc n) hs T h p e =
    ⊎_elim (λ d. own d)
    (λ s.
    let r = any-in (λ g. effective_within n hs T g p) (ups hs T h) s in
    inherited (in-filter (up T h) hs r.1).1 (has-sound n hs T r.0 p r.2))
    (or_cases (direct T h p) (any_of (λ g. effective_within n hs T g p) (ups hs T h)) e)

has-complete : (n : ℕ) (hs : List ℕ) (T : Ties) → Among hs T → (h p : ℕ) → Depth T n h → Has T p h → effective_within n hs T h p ≡ true
unfolding Depth
has-complete zero hs T a h p d c = absurd d
has-complete (suc n) hs T a h p d (own e) = or_left (direct T h p) (any_of (λ g. effective_within n hs T g p) (ups hs T h)) e
has-complete (suc n) hs T a h p d (inherited {g = g} e c) =
    or_right (direct T h p) (any_of (λ g. effective_within n hs T g p) (ups hs T h))
    (in-any (λ g. effective_within n hs T g p) (filter-in (up T h) (a.upper h g e) e) (has-complete n hs T a g p (d g e) c))

has_in : {hs : List ℕ} {T : Ties} {p h : ℕ} → Among hs T → Has T p h → h ∈ hs
has_in {p = p} a (own {h = h} e) = a.valued h p e
has_in a (inherited {g = g} {h = h} e c) = a.lower h g e

module _ (hs : List ℕ) (T : Ties) (a : Among hs T) (acyclic : Acyclic T) where
  -- the computed set is that of the sentence without a bound
  pub effective-has : (h p : ℕ) → (effective hs T h p ≡ true) ↔ Has T p h
  unfolding effective
  effective-has h p = (has-sound (length hs) hs T h p, λ c. has-complete (length hs) hs T a h p (acyclic-depth hs T a acyclic h (has_in a c)) c)

  -- it is closed under the sentence
  pub effective-closed : Closed T (λ h p. effective hs T h p ≡ true)
  effective-closed = record {
    closed-own = λ h p e. (effective-has h p).1 (own e);
    closed-up = λ h g p e f. (effective-has h p).1 (inherited e ((effective-has g p).0 f));
  }

  -- and it is the least such set
  pub effective-least : (F : ℕ → ℕ → Type 0) → Closed T F → (h p : ℕ) → effective hs T h p ≡ true → F h p
  effective-least F c h p e = has-least F c ((effective-has h p).0 e)

  -- what a holder has by the sentence: its own pairs, and those of the holders one tie up
  by-sentence : ℕ → ℕ → Bool
  by-sentence h p = direct T h p || any_of (λ g. effective hs T g p) (ups hs T h)

  sentence-complete : (h p : ℕ) → Has T p h → by-sentence h p ≡ true
  unfolding by-sentence
  sentence-complete h p (own e) = or_left (direct T h p) (any_of (λ g. effective hs T g p) (ups hs T h)) e
  sentence-complete h p (inherited {g = g} e c) =
      or_right (direct T h p) (any_of (λ g. effective hs T g p) (ups hs T h))
      (in-any (λ g. effective hs T g p) (filter-in (up T h) (a.upper h g e) e) ((effective-has g p).1 c))

  sentence-sound : (h p : ℕ) → by-sentence h p ≡ true → effective hs T h p ≡ true
  unfolding by-sentence
  sentence-sound h p e =
      ⊎_elim (effective-closed.closed-own h p)
      (λ s.
      let r = any-in (λ g. effective hs T g p) (ups hs T h) s in
      effective-closed.closed-up h r.0 p (in-filter (up T h) hs r.1).1 r.2)
      (or_cases (direct T h p) (any_of (λ g. effective hs T g p) (ups hs T h)) e)

  -- the sentence as an equation
  pub effective-equation : (h p : ℕ) → effective hs T h p ≡ (direct T h p || any_of (λ g. effective hs T g p) (ups hs T h))
  unfolding by-sentence
  effective-equation h p =
      same_truth (effective hs T h p) (by-sentence h p) (λ e. sentence-complete h p ((effective-has h p).0 e)) (sentence-sound h p)

-- where T and U differ in ties of the holder e alone, each holder that is neither e nor below it has the same effective set on both
module _ (hs : List ℕ) (T U : Ties) (e : ℕ) (differ : DifferAt e T U) where
  same-within : (n k p : ℕ) → (k ≡ e → ⊥) → (Below T k e → ⊥) → effective_within n hs U k p ≡ effective_within n hs T k p
  same-within zero k p not-e not-below = refl
  same-within (suc n) k p not-e not-below =
      ap₂ (λ (d s : Bool). d || s) (differ (value k p) not-e)
      (ap (λ (l : List ℕ). any_of (λ g. effective_within n hs U g p) l) (filter-ext (up U k) (up T k) hs (λ g m. same_up g))
      ∙ any-ext (λ g. effective_within n hs U g p) (λ g. effective_within n hs T g p) (ups hs T k)
      (λ g m.
      let t : up T k g ≡ true = (in-filter (up T k) hs m).1 in
      same-within n g p (λ q. not-below (one (subst (λ (x : ℕ). up T k x ≡ true) q t))) (λ b. not-below (more t b))))
    where
      same_up : (g : ℕ) → up U k g ≡ up T k g
      same_up g = ap₂ (λ (x y : Bool). x || y) (differ (parent k g) not-e) (differ (member k g) not-e)

  pub same-elsewhere : (k p : ℕ) → (k ≡ e → ⊥) → (Below T k e → ⊥) → effective hs U k p ≡ effective hs T k p
  unfolding effective
  same-elsewhere k p not-e not-below = same-within (length hs) k p not-e not-below
