-- `request::entries_fit` meets its contract. Assumes nothing.
use Prim.Native.Nat.{ℕ, ◌<◌}
use mathlib.Core.Path.{◌≡◌}
use mathlib.Core.Bool.{true}
use Rattle.model.specs.Declarations.{Declarations}
use Rattle.model.specs.Refusals.{entry_fits}
use Rattle.rows.specs.Rows.{AttributeRows}
use Rattle.request.proofs.EntryTests.{entry_at}
use Rattle.request.proofs.entries_fit.Given as goal

abbrev pub invariant-loop-i : goal.invariant-loop-i
invariant-loop-i l = (D : Declarations) → AttributeRows l.attributes D → (j : ℕ) → j < l.i → entry_fits D (entry_at l.entries j) ≡ true
