-- What a `?` hands on: the refusal that was there, or that of nothing there. Assumes nothing.
use Rattle.std.proofs.Common.{◌≡◌, refl, ap, Option, Some, None, Result, Ok, Err}
use Rattle.std.specs.Result.{IsErrAnd}
use Rattle.std.specs.Option.{ok_or}
use Rattle.codes.specs.declared.Refusal.{Refusal}

pub handed-on : {A : Type 0} (r : Result A Refusal) {e : Refusal} → IsErrAnd r (λ x. x ≡ e) → r ≡ Err e
handed-on (Ok a) same = absurd same
handed-on (Err x) same = ap Err same

pub none-there : {A : Type 0} (o : Option A) {e x : Refusal} → Err x ≡ ok_or o e → (o ≡ None) × (x ≡ e)
none-there None f = (refl, cc)
none-there (Some a) f = cc
