-- The codes of sorts tell the sorts. Assumes nothing.
use Rattle.std.proofs.Common.{◌≡◌, refl, sym, ap, ◌∙◌, true, false, Option, Some, None, ℕ, eqb, not}
use borrow.Author.Tests.{eqb-true, eqb-false, not-true, not-false}
use Rattle.std.specs.Option.{option_eq}
use Rattle.std.proofs.Math.Option as math
use Rattle.std.proofs.Math.Option.{none, some}
use Rattle.model.specs.Notation.{◌is◌}
use Rattle.model.specs.Declarations.{Sort, sort_word, is_sort}
use Rattle.model.proofs.WordTables.{same_refl, same_word, reads-sort, sorts}
use Rattle.codes.specs.Enums.{told_by}
use Rattle.codes.proofs.Codes.{with_code, code-injective}
use Rattle.ties.proofs.Editing.{off-by}
use Rattle.book.specs.Held.{sort_code}

pub sort-injective : (a b : Sort) → sort_code a ≡ sort_code b → a ≡ b
sort-injective = code-injective sort_code sorts reads
  where
    reads : (s : Sort) → with_code sort_code sorts (sort_code s) ≡ some s
    reads Sort.admin = refl
    reads Sort.ugroup = refl
    reads Sort.ogroup = refl
    reads Sort.user = refl
    reads Sort.object = refl

-- one sort is the sort that is wanted, or is not
pub sort-fits : (o : math.Option Sort) (b : Sort) → told_by sort_code o ≡ Some (sort_code b) → (o is λ w. is_sort w b) ≡ true
sort-fits none b e = absurd (cc)
sort-fits (some w) b e = ap (λ (v : Sort). is_sort v b) (sort-injective w b (cc)) ∙ same_refl (sort_word b)

pub sort-differs : (o : math.Option Sort) (b : Sort) → (told_by sort_code o ≡ Some (sort_code b) → ⊥) → (o is λ w. is_sort w b) ≡ false
sort-differs none b n = refl
sort-differs (some w) b n = off-by (is_sort w b) (λ on. n (ap (λ (s : Sort). Some (sort_code s)) (same_word sort_word sorts reads-sort w b on)))

-- what a test of options says
pub same-option : (o : Option ℕ) (b : ℕ) → false ≡ not (option_eq eqb o (Some b)) → o ≡ Some b
same-option None b e = absurd (cc)
same-option (Some a) b e = ap Some (eqb-true a b (not-false (eqb a b) (sym e)))

pub other-option : (o : Option ℕ) (b : ℕ) → true ≡ not (option_eq eqb o (Some b)) → o ≡ Some b → ⊥
other-option None b e s = cc s
other-option (Some a) b e s = let same : a ≡ b = cc s in eqb-false a b (not-true (eqb a b) (sym e)) same
