-- Walks from one value to the next. Assumes nothing.
use Prim.Native.Nat.{ℕ}
use mathlib.Core.Path.{◌≡◌, refl, sym, ap, ◌∙◌}
use mathlib.Core.Bool.{Bool, true, false, not, true≢false}
use denote.Enum.Bare.{sameb}
use Rattle.truth.specs.contracts.Truth.{the_type}
use Rattle.truth.specs.declared.Truth.{Truth}
use Rattle.truth.specs.declared.Truth.TheVariants.{False, Undef, True}
use Rattle.truth.specs.Truths.{truth_of}
use mathlib.Core.List.{List, [], ◌∷◌}
use Rattle.std.specs.Prelude.{Option, Some, None}
use Rattle.std.specs.Option.{unwrap_or}
use Rattle.model.specs.Truth as model
use Rattle.model.specs.Truth.{truth}
use Rattle.codes.specs.Enums.{number_or}
use Rattle.text.specs.declared.Words.{Words}
use Rattle.text.specs.Values.{same_words}
use Rattle.values.specs.Compared.{further, extreme_from, worst, extreme_of, or_next, at_end, sought_from, among_of, asked, found_of}

-- ---- a search

-- the search among the values that are left, with a value before them or not, comes to `said`
pub record Seeking (answer : Words → model.Truth) (said : model.Truth) (some : Bool) (left : List Words) : Type 0 where
  pub comes-to : sought_from answer some left ≡ said

module _ {answer : Words → model.Truth} {said : model.Truth} {some : Bool} {left : List Words} (so_far : Seeking answer said some left) where
  -- no value is left
  pub seeking-end : left ≡ [] → {t : model.Truth} → t ≡ at_end some → t ≡ said
  unfolding sought_from
  seeking-end h e = e ∙ sym (ap (sought_from answer some) h) ∙ so_far.comes-to

  -- a value, and the answer for it
  module _ {next : List Words} {w : Words} (h : left ≡ w ∷ next) {t : model.Truth} (e : t ≡ answer w) where
    abbrev rest : model.Truth
    rest = sought_from answer true next

    seeking-more : or_next t rest ≡ said
    unfolding sought_from
    seeking-more = ap (λ (u : model.Truth). or_next u rest) e ∙ sym (ap (sought_from answer some) h) ∙ so_far.comes-to

    pub seeking-met : (t ≡ model.FALSE → ⊥) → t ≡ said
    seeking-met f = sym (go t f) ∙ seeking-more
      where
        go : (u : model.Truth) → (u ≡ model.FALSE → ⊥) → or_next u rest ≡ u
        go model.FALSE f = absurd (f refl)
        go model.UNDEF f = refl
        go model.TRUE f = refl

    pub seeking-on : t ≡ model.FALSE → Seeking answer said true next
    seeking-on f = record { comes-to = ap (λ (u : model.Truth). or_next u rest) (sym f) ∙ seeking-more }

-- whether an answer is FALSE, as the code asks it
pub not_false : (t : Truth) → not (sameb the_type t False) ≡ true → truth_of t ≡ model.FALSE → ⊥
not_false False e z = true≢false (sym e)
not_false Undef e z = cc
not_false True e z = cc

pub was_false : (t : Truth) → not (sameb the_type t False) ≡ false → truth_of t ≡ model.FALSE
was_false False e = refl
was_false Undef e = absurd (true≢false e)
was_false True e = absurd (true≢false e)

-- a search for a value
abbrev pub Searching : Words → List Words → Bool → List Words → Type 0
Searching wanted all some left = Seeking (λ v. truth (same_words wanted v)) (among_of all wanted) some left

-- a search for a value that is among others, or with `wanted` false, for one that is not
abbrev pub Finding : Bool → List Words → List Words → Bool → List Words → Type 0
Finding wanted others all some left = Seeking (λ w. asked wanted (among_of others w)) (found_of wanted all others) some left

-- ---- a walk to the greatest or the least

-- the greatest, or the least, of `best` and the values behind it
unfoldable pub extreme_after : Bool → Option ℕ → List Words → Option ℕ
extreme_after greatest best [] = best
extreme_after greatest best (w ∷ values) = extreme_after greatest (Some (further greatest (number_or (worst greatest) best) w.first)) values

-- what was seen, and the values that are left, give what all give
pub record Nearing (greatest : Bool) (all : List Words) (best : Option ℕ) (left : List Words) : Type 0 where
  pub comes-to : extreme_after greatest best left ≡ extreme_of greatest all

after-some : (greatest : Bool) (b : ℕ) (values : List Words) → extreme_after greatest (Some b) values ≡ Some (extreme_from greatest b values)
unfolding extreme_after extreme_from
after-some greatest b [] = refl
after-some greatest b (w ∷ values) = after-some greatest (further greatest b w.first) values

pub nearing-start : (greatest : Bool) (all : List Words) → Nearing greatest all None all
unfolding extreme_after extreme_from extreme_of
nearing-start greatest [] = record { comes-to = refl }
nearing-start greatest (w ∷ values) = record { comes-to = after-some greatest (further greatest (worst greatest) w.first) values }

module _ {greatest : Bool} {all : List Words} {best : Option ℕ} {left : List Words} (so_far : Nearing greatest all best left) where
  pub nearing-end : left ≡ [] → best ≡ extreme_of greatest all
  unfolding extreme_after
  nearing-end h = sym (ap (extreme_after greatest best) h) ∙ so_far.comes-to

  -- a value, and the number to go on from
  pub nearing-on : {next : List Words} {w : Words} → left ≡ w ∷ next → {d b u : ℕ} → d ≡ worst greatest → b ≡ unwrap_or best d → u ≡ further greatest b w.first
      → Nearing greatest all (Some u) next
  unfolding extreme_after
  nearing-on {next} {w} h p q e =
      record {
        comes-to = ap (λ (b : ℕ). extreme_after greatest (Some b) next) (e ∙ ap (λ (b : ℕ). further greatest b w.first) (q ∙ ap (unwrap_or best) p ∙ go best))
            ∙ sym (ap (extreme_after greatest best) h) ∙ so_far.comes-to;
      }
    where
      go : (o : Option ℕ) → unwrap_or o (worst greatest) ≡ number_or (worst greatest) o
      go None = refl
      go (Some b) = refl
