-- The operand of an attribute, by its row. Assumes nothing.
use Prim.Native.Nat.{ℕ, ◌*◌, ◌≤◌, ◌<◌}
use mathlib.Core.Path.{◌≡◌, sym, ap, ◌∙◌}
use mathlib.Core.List.{List}
use lib.ListN.{get_or}
use borrow.Author.Tests.{eq-eqb, ne_eqb, le-leb, lt-leb, lt-ltb, le-ltb}
use Rattle.values.specs.Operands.{operand, no_values, row_type, attribute_operand}

module _ (rows : List ℕ) (k : ℕ) where
  pub no_number : 32 ≤ k → no_values ≡ attribute_operand rows k
  unfolding attribute_operand
  no_number h = simp (le-ltb k 32 h)

  module _ (h : k < 32) where
    pub no_row : get_or rows (8 * k) 0 ≡ 0 → no_values ≡ attribute_operand rows k
    unfolding attribute_operand
    no_row e = simp (lt-ltb k 32 h, eq-eqb (get_or rows (8 * k) 0) 0 e)

    pub in_words : (get_or rows (8 * k) 0 ≡ 0 → ⊥) → get_or rows (8 * k) 0 ≤ 3 → (ty : ℕ) → ty ≡ row_type rows k → operand ty 0 k 0 ≡ attribute_operand rows k
    unfolding attribute_operand
    in_words e l ty t =
        ap (λ (n : ℕ). operand n 0 k 0) t ∙ sym (simp (lt-ltb k 32 h, ne_eqb (get_or rows (8 * k) 0) 0 e, le-leb (get_or rows (8 * k) 0) 3 l))

    pub in-entries : (get_or rows (8 * k) 0 ≡ 0 → ⊥) → 3 < get_or rows (8 * k) 0 → (ty : ℕ) → ty ≡ row_type rows k → operand ty 1 k 0 ≡ attribute_operand rows k
    unfolding attribute_operand
    in-entries e l ty t =
        ap (λ (n : ℕ). operand n 1 k 0) t ∙ sym (simp (lt-ltb k 32 h, ne_eqb (get_or rows (8 * k) 0) 0 e, lt-leb (get_or rows (8 * k) 0) 3 l))
