-- Marks and truth values by their numbers.
use Prim.Native.Nat.{ℕ, ◌≤◌, ◌<◌}
use mathlib.Core.Path.{◌≡◌, refl, sym}
use mathlib.Core.Bool.{true, false}
use native.Mathlib.Omega.{arith}
use borrow.Author.Tests.{le-leb, lt-leb}
use lib.Dec.{leb}
use Rattle.model.specs.Truth.{Truth, FALSE, UNDEF, TRUE}
use Rattle.codes.specs.Codes.{truth_code}
use Rattle.program.specs.Walks.{is_passed}

-- ---- which marks are passed

module _ (kind : ℕ) where
  pub below_all : kind < 5 → false ≡ is_passed kind
  unfolding is_passed
  below_all h = sym (rw (lt-leb 5 kind h, lt-leb 10 kind (omega arith)) refl)

  pub parenthesis : 5 ≤ kind → kind ≤ 6 → true ≡ is_passed kind
  unfolding is_passed
  parenthesis h l = sym (rw (le-leb 5 kind h, le-leb kind 6 l) refl)

  pub between : 6 < kind → kind < 10 → false ≡ is_passed kind
  unfolding is_passed
  between h l = sym (rw (lt-leb kind 6 h, lt-leb 10 kind l, le-leb 5 kind (omega arith)) refl)

  pub word : 10 ≤ kind → leb kind 12 ≡ is_passed kind
  unfolding is_passed
  word h = sym (rw (le-leb 10 kind h, le-leb 5 kind (omega arith), lt-leb kind 6 (omega arith)) refl)

-- ---- truth values

pub spoken-false : (t : Truth) → 13 ≡ truth_code t → FALSE ≡ t
spoken-false FALSE e = refl
spoken-false UNDEF e = absurd (omega arith)
spoken-false TRUE e = absurd (omega arith)

pub spoken-undef : (t : Truth) → 14 ≡ truth_code t → UNDEF ≡ t
spoken-undef FALSE e = absurd (omega arith)
spoken-undef UNDEF e = refl
spoken-undef TRUE e = absurd (omega arith)

pub spoken-true : (n : ℕ) (t : Truth) → (n ≡ 13 → ⊥) → (n ≡ 14 → ⊥) → n ≡ truth_code t → TRUE ≡ t
spoken-true n FALSE a b e = absurd (a e)
spoken-true n UNDEF a b e = absurd (b e)
spoken-true n TRUE a b e = refl
