-- `file::others` meets its contract: the answer from here on is the answer of the rest. Assumes nothing.
use Rattle.std.proofs.Common.{◌≡◌, ◌+◌, ◌≤◌, length}
use Rattle.std.proofs.Math.Option.{none}
use Rattle.model.specs.Bytes.{lines_of}
use Rattle.model.specs.Limits.{Edition}
use Rattle.model.specs.State.{empty}
use Rattle.model.specs.Load.{read_on}
use Rattle.book.specs.Sections.{book_words, rule_bytes}
use Rattle.book.specs.Held.{Holds}
use Rattle.file.proofs.Files.{Onward}
use Rattle.file.proofs.others.Given as goal

abbrev pub invariant-loop-left : goal.invariant-loop-left
invariant-loop-left l =
    (length l.book ≡ book_words) × (length l.code ≡ rule_bytes) × (l.lines + length l.left ≤ length l.rest + 1)
    × (Holds l.initial.book l.initial.code (empty Edition.first) → Onward (read_on Edition.first (empty Edition.first) none 1 (lines_of l.rest)) l.book l.code l.previous l.lines l.left)

abbrev pub decreases-loop-left : goal.decreases-loop-left
decreases-loop-left l = length l.left
