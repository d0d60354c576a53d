-- `put_lines` meets its contract: the lines of the numbers before k are put.
use Prim.Native.Nat.{ℕ, ◌+◌, ◌*◌, ◌≤◌}
use Rattle.model.specs.Bytes.{Bytes}
use Rattle.model.specs.Notation.{each, below}
use Rattle.output.specs.Laid.{Laid}
use Rattle.spelling.specs.Lines.{PutsTexts}
use Rattle.spelling.proofs.line.put_lines.Given as goal

abbrev pub invariant-loop-k : goal.invariant-loop-k
invariant-loop-k g l =
    (l.n ≤ l.at + g.row.SIZE * l.k)
    × ((text : ℕ → Bytes) → PutsTexts g.F.Fn l.put g.row.SIZE l.count text → Laid l.initial.out l.at (each text (below l.k)) l.out l.n)
