-- `session::write` meets its contract: the words passed stand in their places, and the others as before. Assumes nothing.
use Rattle.std.proofs.Common.{◌≡◌, ℕ, ◌+◌, ◌*◌, ◌<◌, ◌≤◌, ◌⊎◌, get_or}
use Rattle.session.proofs.write.Given as goal

abbrev pub invariant-loop-i : goal.invariant-loop-i
invariant-loop-i l =
    ((j : ℕ) → j < l.i → get_or l.session (4 * l.k + j) 0 ≡ get_or l.word-items j 0)
    × ((j : ℕ) → (j < 4 * l.k) ⊎ (4 * l.k + 4 ≤ j) → get_or l.session j 0 ≡ get_or l.initial.session j 0)
