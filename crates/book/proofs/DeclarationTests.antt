-- The tests of a line that declares, by their conditions; and what a number that was found says of them. Assumes nothing.
use Prim.Native.Nat.{ℕ, ◌<◌}
use mathlib.Core.Path.{◌≡◌, refl, sym, ap, ◌∙◌}
use mathlib.Core.Bool.{Bool, true, false, not, true≢false}
use mathlib.Core.List.{List, [], ◌∷◌}
use mathlib.Core.Option as math
use mathlib.Core.Option.{none, some}
use Rattle.std.specs.Prelude.{Option, Some, is_some, Result, Ok, Err, IsErrAnd}
use lib.ListN.{length}
use Rattle.model.specs.Notation.{if◌then◌otherwise◌, ◌is◌, is_none, place}
use Rattle.model.specs.Numbers as refusal
use Rattle.model.specs.Lines.{Line}
use Rattle.model.specs.Declarations.{holder_numbers_of}
use Rattle.model.specs.Ties.{Tie}
use Rattle.model.specs.State.{State, tie_of}
use Rattle.model.specs.Refusals.{first, ◌if◌, over_limits, undeclared, wrong_sort, repeated, full, circular, tie_closes}
use Rattle.model.proofs.Lists.{place-nth, nth-lt}
use Rattle.codes.specs.declared.Refusal.{Refusal}
use Rattle.codes.specs.Enums.{told, number_in, refusal_number}
use Rattle.book.specs.Steps.{later_tests}
use Rattle.book.specs.Declaring.{Keeps}

in_order_lem : (a b c d e f : Bool) → e ≡ false → f ≡ false
    → first (refusal.over_limits if e ∷ refusal.undeclared if a ∷ refusal.wrong_sort if b ∷ refusal.repeated if c ∷ refusal.full if d ∷ refusal.circular if f ∷ []) ≡ (if a then refusal.undeclared otherwise if b then refusal.wrong_sort otherwise if c then refusal.repeated otherwise if d then refusal.full otherwise 0)
in_order_lem true b c d e f p q = rw p
in_order_lem false true c d e f p q = rw p
in_order_lem false false true d e f p q = rw p
in_order_lem false false false true e f p q = rw p
in_order_lem false false false false e f p q = rw (p, q)

-- a line that declares has no policy and no tie: the first of four conditions that holds decides
module _ (S : State) (l : Line) (plain : over_limits l ≡ false) (free : tie_of S.declared l ≡ none) where
  tested : first (later_tests S l)
      ≡ (if undeclared S.declared l then 8 otherwise if wrong_sort S.declared l then 9 otherwise if repeated S l then 10 otherwise if full S.declared l then 11 otherwise 0)
  unfolding circular
  tested =
      in_order_lem (undeclared S.declared l) (wrong_sort S.declared l) (repeated S l) (full S.declared l) (over_limits l) (circular S l) plain
      (ap (λ (o : math.Option Tie). o is tie_closes (holder_numbers_of S.declared) S.ties) free)

  pub test-undeclared : undeclared S.declared l ≡ true → refusal.undeclared ≡ first (later_tests S l)
  test-undeclared e = sym (tested ∙ rw e)

  module _ (known : undeclared S.declared l ≡ false) where
    pub test-sort : wrong_sort S.declared l ≡ true → refusal.wrong_sort ≡ first (later_tests S l)
    test-sort e = sym (tested ∙ rw (known, e))

    module _ (sorted : wrong_sort S.declared l ≡ false) where
      pub test-repeated : repeated S l ≡ true → refusal.repeated ≡ first (later_tests S l)
      test-repeated e = sym (tested ∙ rw (known, sorted, e))

      module _ (new : repeated S l ≡ false) where
        pub test-full : full S.declared l ≡ true → refusal.full ≡ first (later_tests S l)
        test-full e = sym (tested ∙ rw (known, sorted, new, e))

        pub accepted : full S.declared l ≡ false → 0 ≡ first (later_tests S l)
        accepted e = sym (tested ∙ rw (known, sorted, new, e))

-- a number that is not n was found; n is none, where numbers are below n
pub number-there : (o : math.Option ℕ) (r : Option ℕ) → r ≡ told o → is_some r ≡ true → not (is_none o) ≡ true
number-there none r e there = absurd (true≢false (sym there ∙ ap is_some e))
number-there (some k) r e there = refl

pub number-nowhere : (o : math.Option ℕ) (r : Option ℕ) → r ≡ told o → is_some r ≡ false → o ≡ none
number-nowhere none r e nowhere = refl
number-nowhere (some k) r e nowhere = absurd (true≢false (sym (ap is_some e) ∙ nowhere))

pub number_is : (o : math.Option ℕ) (k : ℕ) → Some k ≡ told o → o ≡ some k
number_is none k e = cc
number_is (some j) k e = cc

-- a refusal that `?` hands on
pub handed-on : {A : Type 0} (r : Result A Refusal) (e full : Refusal) → IsErrAnd r (λ x. x ≡ e) → e ≡ full → number_in r ≡ refusal_number full
handed-on (Ok a) e full same f = absurd same
handed-on (Err x) e full same f = ap refusal_number (same ∙ f)

pub place-few : {A : Type 0} (p : A → Bool) (xs : List A) (k : ℕ) → place p xs ≡ some k → k < length xs
place-few p xs k e = nth-lt xs k (place-nth p xs k e).1

-- a book that is left, and one that a line was written into
pub left : {r : ℕ} {book : List ℕ} → Keeps r book book
left = record { long = refl; refused = λ _. refl }

pub written : {book next : List ℕ} → length next ≡ length book → Keeps 0 book next
written long = record { long = long; refused = λ off. absurd (off refl) }
