-- The measures of `policy::conjunction`, `policy::policy`, `policy::term`: each falls with the code that is left, and at one place a policy calls a
-- conjunction, and that a term.
use Prim.Native.Nat.{◌+◌, ◌-◌, ◌*◌}
use lib.ListN.{length}
use Rattle.policy.proofs.+conjunction_policy_term.Given as goal

abbrev pub decreases-conjunction : goal.decreases-conjunction
decreases-conjunction l = 3 * (length l.code.now - l.at) + 1

abbrev pub decreases-policy : goal.decreases-policy
decreases-policy l = 3 * (length l.code.now - l.at) + 2

abbrev pub decreases-term : goal.decreases-term
decreases-term l = 3 * (length l.code.now - l.at)
