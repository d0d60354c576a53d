-- Chains of ties: what is above is found by climbing, and ties stay acyclic where a new one closes no circle. Assumes nothing.
use Prim.Native.Nat.{ℕ, zero, suc, ◌+◌, ◌≤◌, ◌<◌}
use mathlib.Core.Path.{◌≡◌, refl, sym, subst, ◌∙◌}
use mathlib.Core.Logic.{◌⊎◌, inl, inr, ⊎_elim, ◌↔◌}
use mathlib.Core.Bool.{Bool, true, false, ◌||◌, true≢false}
use mathlib.Core.List.{List}
use native.Mathlib.Omega.{arith}
use lib.ListN.{length}
use lib.Dec.{eqb}
use borrow.Author.Tests.{eq-eqb, eqb-true}
use Rattle.model.specs.Notation.{count_of}
use Rattle.model.specs.Ties.{Ties, parent, member, value, added, up, Below, one, more, Acyclic, ups, below_within, is_below, closes_circle}
use Rattle.model.proofs.Ties.{up-added}
use Rattle.model.proofs.Lists.{◌∈◌, true-or-false, or_cases, or_left, or_right, or-none, any-in, in-any, in-filter, filter-in, count-le, count-more}

-- each tie is one of the holders hs, up to one of them
pub record Among (hs : List ℕ) (T : Ties) : Type 0 where
  pub lower : (h g : ℕ) → up T h g ≡ true → h ∈ hs
  pub upper : (h g : ℕ) → up T h g ≡ true → g ∈ hs
  pub valued : (h p : ℕ) → T (value h p) ≡ true → h ∈ hs

-- each chain up from h has fewer than n ties
unfoldable pub Depth : Ties → ℕ → ℕ → Type 0
Depth T zero h = ⊥
Depth T (suc n) h = (g : ℕ) → up T h g ≡ true → Depth T n g

module _ {T : Ties} where
  -- a tie more at the upper end, and one chain after another
  pub climb : {g m h : ℕ} → Below T h m → up T m g ≡ true → Below T h g
  climb (one e) f = more e (one f)
  climb (more e a) f = more e (climb a f)

  pub chained : {g m h : ℕ} → Below T h m → Below T m g → Below T h g
  chained (one e) b = more e b
  chained (more e a) b = more e (chained a b)

  -- the lowest tie of a chain, and the highest
  pub first-tie : {g h : ℕ} → Below T h g → (m : ℕ) × (up T h m ≡ true)
  first-tie (one {g = g} e) = (g, e)
  first-tie (more {m = m} e a) = (m, e)

  pub last-tie : {g h : ℕ} → Below T h g → (m : ℕ) × (up T m g ≡ true)
  last-tie (one {h = h} e) = (h, e)
  last-tie (more e a) = last-tie a

module _ (hs : List ℕ) (T : Ties) (in-hs : Among hs T) (acyclic : Acyclic T) where
  -- the holders met so far, and h, which is none of them
  module _ (h : ℕ) (seen : ℕ → Bool) (m : h ∈ hs) (above : (x : ℕ) → seen x ≡ true → Below T x h) where
    fresh : seen h ≡ false
    fresh = ⊎_elim (λ on. absurd (acyclic h (above h on))) (λ off. off) (true-or-false (seen h))

    one_more : count_of seen hs < count_of (λ x. seen x || eqb x h) hs
    one_more =
        count-more seen (λ x. seen x || eqb x h) (λ x e. or_left (seen x) (eqb x h) e) m fresh (or_right (seen h) (eqb h h) (eq-eqb h h refl))

  -- a chain meets a holder that it has not met yet, of which there are fewer each time
  path-depth : (n h : ℕ) (seen : ℕ → Bool) → h ∈ hs → ((x : ℕ) → seen x ≡ true → Below T x h) → length hs ≤ n + count_of seen hs → Depth T n h
  unfolding Depth
  path-depth zero h seen m above l = omega (arith, count-le (λ x. seen x || eqb x h) hs, one_more h seen m above)
  path-depth (suc n) h seen m above l =
      λ g e. path-depth n g (λ x. seen x || eqb x h) (in-hs.upper h g e)
      (λ x on. ⊎_elim (λ a. climb (above x a) e) (λ a. subst (λ (y : ℕ). Below T y g) (sym (eqb-true x h a)) (one e)) (or_cases (seen x) (eqb x h) on))
      (omega (arith, one_more h seen m above))

  pub acyclic-depth : (h : ℕ) → h ∈ hs → Depth T (length hs) h
  acyclic-depth h m = path-depth (length hs) h (λ x. false) m (λ x e. absurd (true≢false (sym e))) (omega arith)

-- what climbing finds is above
pub below-sound : (n : ℕ) (hs : List ℕ) (T : Ties) (h g : ℕ) → below_within n hs T h g ≡ true → Below T h g
below-sound zero hs T h g e = absurd (true≢false (sym e))
below-sound (suc n) hs T h g e =
    let r = any-in (λ m. eqb m g || below_within n hs T m g) (ups hs T h) e in
    let m = r.0 in
    let t = (in-filter (up T h) hs r.1).1 in
    ⊎_elim (λ q. one (subst (λ (x : ℕ). up T h x ≡ true) (eqb-true m g q) t)) (λ q. more t (below-sound n hs T m g q)) (or_cases (eqb m g) (below_within n hs T m g) r.2)

-- and what is above is found, where chains are short enough
below-complete : (n : ℕ) (hs : List ℕ) (T : Ties) → Among hs T → (h g : ℕ) → Depth T n h → Below T h g → below_within n hs T h g ≡ true
unfolding Depth
below-complete zero hs T a h g d c = absurd d
below-complete (suc n) hs T a h g d (one e) =
    in-any (λ m. eqb m g || below_within n hs T m g) (filter-in (up T h) (a.upper h g e) e) (or_left (eqb g g) (below_within n hs T g g) (eq-eqb g g refl))
below-complete (suc n) hs T a h g d (more {m = m} e c) =
    in-any (λ m. eqb m g || below_within n hs T m g) (filter-in (up T h) (a.upper h m e) e) (or_right (eqb m g) (below_within n hs T m g) (below-complete n hs T a m g (d m e) c))

-- on acyclic ties, `is_below` says what a chain of ties says
pub is_below_lem : (hs : List ℕ) (T : Ties) → Among hs T → Acyclic T → (h g : ℕ) → (is_below hs T h g ≡ true) ↔ Below T h g
unfolding is_below
is_below_lem hs T a acyclic h g = (
  below-sound (length hs) hs T h g,
  λ c. below-complete (length hs) hs T a h g (acyclic-depth hs T a acyclic h (a.lower h (first-tie c).0 (first-tie c).1)) c,
)

-- h is g or below it
abbrev pub AtOrBelow : Ties → ℕ → ℕ → Type 0
AtOrBelow T h g = (g ≡ h) ⊎ Below T h g

-- U has the ties up of T, and perhaps one from c up to g
module _ (T U : Ties) (c g : ℕ) (ties : (h m : ℕ) → up U h m ≡ true → (up T h m ≡ true) ⊎ ((h ≡ c) × (m ≡ g))) where
  -- a chain of U is one of T, or goes by the new tie
  by-new : {x h : ℕ} → Below U h x → Below T h x ⊎ (AtOrBelow T h c × AtOrBelow T g x)
  by-new (one {h = h} {g = x} e) = ⊎_elim (λ t. inl (one t)) (λ t. inr (inl (sym t.0), inl t.1)) (ties h x e)
  by-new (more {h = h} {m = m} {g = x} e a) =
      ⊎_elim
      (λ t. ⊎_elim (λ b. inl (more t b)) (λ b. inr (inr (⊎_elim (λ q. one (subst (λ (y : ℕ). up T h y ≡ true) (sym q) t)) (λ q. more t q) b.0), b.1)) (by-new a))
      (λ t. ⊎_elim (λ b. inr (inl (sym t.0), inr (subst (λ (y : ℕ). Below T y x) t.1 b))) (λ b. inr (inl (sym t.0), b.1)) (by-new a))
      (ties h m e)

  -- a tie from c up to g keeps ties acyclic where c is neither g nor above it
  pub still-acyclic : Acyclic T → (AtOrBelow T g c → ⊥) → Acyclic U
  still-acyclic acyclic no-circle h cycle = ⊎_elim (λ b. acyclic h b) (λ b. no-circle (around b.0 b.1)) (by-new cycle)
    where
      around : AtOrBelow T h c → AtOrBelow T g h → AtOrBelow T g c
      around (inl p) (inl q) = inl (p ∙ q)
      around (inl p) (inr q) = inr (subst (Below T g) (sym p) q)
      around (inr p) (inl q) = inr (subst (λ (y : ℕ). Below T y c) q p)
      around (inr p) (inr q) = inr (chained q p)

-- where `closes_circle` says no, none is closed
pub no-circle : (hs : List ℕ) (T : Ties) → Among hs T → Acyclic T → (c g : ℕ) → closes_circle hs T c g ≡ false → AtOrBelow T g c → ⊥
unfolding closes_circle
no-circle hs T a acyclic c g e (inl q) = true≢false (sym (eq-eqb c g q) ∙ (or-none (eqb c g) (is_below hs T g c) e).0)
no-circle hs T a acyclic c g e (inr q) = true≢false (sym ((is_below_lem hs T a acyclic g c).1 q) ∙ (or-none (eqb c g) (is_below hs T g c) e).1)

-- fewer ties keep acyclic
pub fewer-acyclic : (T U : Ties) → ((h g : ℕ) → up U h g ≡ true → up T h g ≡ true) → Acyclic T → Acyclic U
fewer-acyclic T U f acyclic h c = acyclic h (lifted c)
  where
    lifted : {g k : ℕ} → Below U k g → Below T k g
    lifted (one {h = k} {g = g} e) = one (f k g e)
    lifted (more {h = k} {m = m} e a) = more (f k m e) (lifted a)

-- so a parent tie that closes no circle keeps ties acyclic
pub parent-acyclic : (hs : List ℕ) (T : Ties) → Among hs T → Acyclic T → (c g : ℕ) → closes_circle hs T c g ≡ false → Acyclic (added (parent c g) T)
parent-acyclic hs T a acyclic c g e =
    still-acyclic T (added (parent c g) T) c g
    (λ h m u. ⊎_elim inl (λ n. inr (⊎_elim (λ q. parts q) (λ q. differ q) n)) (up-added (parent c g) T h m u))
    acyclic (no-circle hs T a acyclic c g e)
  where
    parts : {h m : ℕ} → parent c g ≡ parent h m → (h ≡ c) × (m ≡ g)
    parts q = (cc, cc)

    differ : {h m : ℕ} → parent c g ≡ member h m → (h ≡ c) × (m ≡ g)
    differ q = let z : ◌≡◌ {A = ℕ} 0 1 = cc in absurd (omega (arith, z))
