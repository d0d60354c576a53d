-- `ties::closes_circle` meets its contract. Assumes nothing.
use mathlib.Core.Path.{sym, ap, ◌∙◌}
use mathlib.Core.Bool.{Bool, ◌||◌}
use borrow.Author.Tests.{eq-eqb, ne_eqb}
use Rattle.model.specs.Declarations.{holder_numbers_of}
use Rattle.model.specs.Ties.{closes_circle, is_below}
use Rattle.ties.specs.TieArrays.{ClosesCircle}
use Rattle.ties.proofs.Below.{leads-below}
use Rattle.ties.proofs.closes_circle.Goals as goal

pub returns-then-child-group : goal.returns-then-child-group
unfolding ClosesCircle closes_circle
returns-then-child-group c D T own standing kept room =
    eq-eqb c.args.child c.args.group c.if-child-group.true
    ∙ sym (ap (λ (b : Bool). b || is_below (holder_numbers_of D) T c.args.group c.args.child) (eq-eqb c.args.child c.args.group c.if-child-group.true))

pub returns-else-child-group : goal.returns-else-child-group
unfolding ClosesCircle closes_circle
returns-else-child-group c D T own standing kept room =
    leads-below c.args.ups.now own c.args.slots.now D T standing kept room c.args.child c.args.group c.leads_up.result c.leads_up.ensures
    ∙ sym (ap (λ (b : Bool). b || is_below (holder_numbers_of D) T c.args.group c.args.child) (ne_eqb c.args.child c.args.group c.if-child-group.false))
