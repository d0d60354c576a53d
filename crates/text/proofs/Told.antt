-- What the code has tells what the specification has. Assumes nothing.
use mathlib.Core.Path.{◌≡◌, refl}
use mathlib.Core.Option as math
use Rattle.std.proofs.Common.{Some, None}
use Rattle.codes.specs.Enums.{told}

pub told-none : {A : Type 0} (o : math.Option A) → None ≡ told o → o ≡ math.none
told-none math.none e = refl
told-none (math.some a) e = cc

pub told-some : {A : Type 0} (o : math.Option A) (a : A) → Some a ≡ told o → o ≡ math.some a
told-some math.none a e = cc
told-some (math.some b) a e = cc
