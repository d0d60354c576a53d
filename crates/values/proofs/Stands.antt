-- What operands stand for. Assumes nothing.
use Prim.Native.Nat.{ℕ, ◌<◌}
use native.Mathlib.Omega.{arith}
use mathlib.Core.Path.{◌≡◌, refl, ap, ◌∙◌}
use mathlib.Core.Bool.{Bool}
use mathlib.Core.List.{[]}
use borrow.Author.Tests.{lt-ltb}
use Rattle.model.specs.Notation.{if◌then◌otherwise◌}
use Rattle.bits.specs.Bits.{holds}
use Rattle.std.specs.Prelude.{None}
use Rattle.values.specs.Operands.{Lent, chosen, pair_words, words_from, entries_from, values_from, first_of, operand_values, Stands, operand, no_values}
use Rattle.values.proofs.Constants.{int-short, as_int, constants-find}

-- the values of an attribute's words, and of its entries
module _ (L : Lent) (ty k : ℕ) where
  pub session-values : k < 32 → operand_values L (operand ty 0 k 0) ≡ chosen (holds L.session k) (pair_words L.pairs) 256 0
  unfolding values_from first_of words_from
  session-values h = ap (λ (t : Bool). if t then chosen (holds L.session k) (pair_words L.pairs) 256 0 otherwise []) (lt-ltb k 32 h)

  pub block-values : operand_values L (operand ty 1 k 0) ≡ entries_from L.entries ty k 0
  unfolding values_from first_of
  block-values = refl

-- an operand without a value
pub none-stand : (L : Lent) → Stands L no_values []
unfolding values_from first_of
none-stand L =
    record { coded = (constants-find 0 L.code 0 0 None (int-short L.code 0 0 (omega arith) (omega arith) ∙ as_int 0 L.code 0 0 (λ z. omega arith))).so; typed = refl; written = refl }
