-- `tielines::judge` meets its contract. Assumes nothing.
use Rattle.std.proofs.Common.{sym, ◌∙◌}
use Rattle.tielines.specs.TieReading.{tie_of}
use Rattle.tielines.proofs.TieRefusals.{plus-stands, plus-closes, plus-free, minus-stands, minus-gone}
use Rattle.tielines.proofs.judge.Goals as goal

pub returns-then-standing : goal.returns-then-standing
returns-then-standing c S code standing held fits =
    minus-stands S (tie_of c.args.t) c.if-not-plus.true (sym (c.stands-standing.ensures S code standing held fits) ∙ c.if-standing.true)

pub returns-else-standing : goal.returns-else-standing
returns-else-standing c S code standing held fits =
    minus-gone S (tie_of c.args.t) c.if-not-plus.true (sym (c.stands-standing.ensures S code standing held fits) ∙ c.if-standing.false)

pub returns-then-standing-2 : goal.returns-then-standing-2
returns-then-standing-2 c S code standing held fits =
    plus-stands S (tie_of c.args.t) c.if-not-plus.false (sym (c.stands-standing.ensures S code standing held fits) ∙ c.if-standing-2.true)

pub returns-then-closes : goal.returns-then-closes
returns-then-closes c S code standing held fits =
    plus-closes S (tie_of c.args.t) c.if-not-plus.false (sym (c.stands-standing.ensures S code standing held fits) ∙ c.if-standing-2.false)
    (sym (c.closes.ensures S code standing held) ∙ c.if-closes.true)

pub returns-else-closes : goal.returns-else-closes
returns-else-closes c S code standing held fits =
    plus-free S (tie_of c.args.t) c.if-not-plus.false (sym (c.stands-standing.ensures S code standing held fits) ∙ c.if-standing-2.false)
    (sym (c.closes.ensures S code standing held) ∙ c.if-closes.false)
