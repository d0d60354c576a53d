-- Direct and effective pairs of a holder.
use Rattle.std.specs.Prelude.{ℕ, zero, suc, ◌≡◌, Bool, true, false, ◌||◌, List, length}
use Rattle.model.specs.Notation.{any_of}
use Rattle.model.specs.Ties.{Ties, value, up, ups}

-- "direct(h): the pairs of h's value ties"
abbrev pub direct : Ties → ℕ → ℕ → Bool
direct T h p = T (value h p)

-- the pairs that h has itself or inherits along fewer than n ties
abbrev pub effective_within : ℕ → List ℕ → Ties → ℕ → ℕ → Bool
effective_within zero hs T h p = false
effective_within (suc n) hs T h p = direct T h p || any_of (λ g. effective_within n hs T g p) (ups hs T h)

-- "effective(h): its own direct pairs together with those inherited from each parent (a group) or each group it is a member of (a user or
-- object), namely that parent's or group's effective pairs"; the source's min_group "has no values", so nothing is added for it. A chain of ties that never comes back passes each of the holders hs at most once.
unfoldable pub effective : List ℕ → Ties → ℕ → ℕ → Bool
effective hs T h p = effective_within (length hs) hs T h p

-- the same sentence with no bound: h has p
pub data Has (T : Ties) (p : ℕ) : ℕ → Type 0 where
  own : {h : ℕ} → direct T h p ≡ true → Has T p h
  inherited : {g h : ℕ} → up T h g ≡ true → Has T p g → Has T p h
