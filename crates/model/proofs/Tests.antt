-- The order of tests: an answer of 0 means that no condition holds, and no more. Assumes nothing.
use Prim.Native.Nat.{ℕ}
use mathlib.Core.Path.{◌≡◌, refl}
use mathlib.Core.Bool.{Bool, true, false, ◌&&◌}
use mathlib.Core.List.{List, [], ◌∷◌}
use native.Mathlib.Omega.{arith}
use lib.Dec.{ltb}
use borrow.Author.Tests.{ltb-true}
use Rattle.model.specs.Refusals.{Test, ◌if◌, first}
use Rattle.model.proofs.Options.{parts}

-- each number is above 0
abbrev pub all_numbered : List Test → Bool
all_numbered [] = true
all_numbered ((n if b) ∷ tests) = ltb 0 n && all_numbered tests

-- no condition holds
abbrev pub NoneHolds : List Test → Type 0
NoneHolds [] = Unit {0}
NoneHolds ((n if b) ∷ tests) = (b ≡ false) × NoneHolds tests

pub none-holds : (tests : List Test) → all_numbered tests ≡ true → first tests ≡ 0 → NoneHolds tests
none-holds [] p e = tt
none-holds ((n if true) ∷ tests) p e = absurd (omega (arith, e, ltb-true 0 n (parts (ltb 0 n) (all_numbered tests) p).0))
none-holds ((n if false) ∷ tests) p e = (refl, none-holds tests (parts (ltb 0 n) (all_numbered tests) p).1 e)

pub accepted : (tests : List Test) → NoneHolds tests → first tests ≡ 0
accepted [] h = refl
accepted ((n if true) ∷ tests) h = absurd (let z : ◌≡◌ {A = ℕ} 0 1 = cc in omega (arith, z))
accepted ((n if false) ∷ tests) h = accepted tests h.1
