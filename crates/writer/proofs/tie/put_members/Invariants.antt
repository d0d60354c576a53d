-- `put_members` meets its contract: the lines of the members before k are put.
use Prim.Native.Nat.{ℕ, ◌+◌, ◌-◌, ◌*◌, ◌≤◌, min}
use Rattle.model.specs.Bytes.{Bytes}
use Rattle.spelling.specs.Lines.{PutsTexts}
use Rattle.writer.proofs.TieTexts.{WalkLaid}
use Rattle.writer.proofs.tie.put_members.Given as goal

abbrev pub invariant-loop-k : goal.invariant-loop-k
invariant-loop-k g l =
    (l.m ≤ l.at + g.row.SIZE * min l.k l.n)
    × ((text : ℕ → Bytes) → PutsTexts g.F.Fn l.put g.row.SIZE l.n text → WalkLaid l.set text g.row.SIZE l.n l.initial.out l.at l.out l.m l.k)

abbrev pub decreases-loop-k : goal.decreases-loop-k
decreases-loop-k g l = l.n - l.k
