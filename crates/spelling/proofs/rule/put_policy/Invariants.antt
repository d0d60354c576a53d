-- `put_policy` meets its contract.
use lib.ListN.{get_or}
use Prim.Native.Nat.{◌+◌, ◌-◌, ◌*◌, ◌≤◌}
use Rattle.spelling.proofs.RuleTexts.{PolicyLaid}
use mathlib.Core.Path.{◌≡◌}
use Rattle.spelling.proofs.rule.put_policy.Given as goal

abbrev pub invariant-loop-kind : goal.invariant-loop-kind
invariant-loop-kind l = (l.place ≤ 1025) × (l.kind ≡ get_or l.code l.place 0) × (l.n ≤ l.at + 32 * l.place) × PolicyLaid l.book l.code l.initial.out l.at l.out l.n l.place l.word

abbrev pub decreases-loop-kind : goal.decreases-loop-kind
decreases-loop-kind l = 1025 - l.place
