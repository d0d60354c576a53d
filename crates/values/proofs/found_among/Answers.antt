-- `values::found_among` meets its contract. Assumes nothing.
use mathlib.Core.Path.{◌≡◌, refl, sym, ap, ◌∙◌}
use mathlib.Core.List.{[]}
use borrow.Author.Rules.{rules}
use Rattle.values.specs.Operands.{lent_by, operand_values}
use Rattle.values.specs.Compared.{found_of, asked}
use Rattle.values.proofs.ValueWalks.{seeking-end, seeking-met, seeking-on, not_false, was_false}
use Rattle.values.proofs.found_among.Goals as goal

pub loop-words-init : goal.loop-words-init
unfolding found_of
loop-words-init g c = record { comes-to = refl }

pub returns-then-ne : goal.returns-then-ne
returns-then-ne g c =
    seeking-met c.loop-words.invariant c.in-Some.ensures (c.asked-answer.ensures ∙ ap (asked c.args.wanted) c.is_among.ensures)
    (not_false c.asked-answer.result (sym c.ne.ensures ∙ c.if-ne.true))

pub loop-words-preserved : goal.loop-words-preserved
loop-words-preserved g c =
    seeking-on c.loop-words.invariant c.in-Some.ensures (c.asked-answer.ensures ∙ ap (asked c.args.wanted) c.is_among.ensures)
    (was_false c.asked-answer.result (sym c.ne.ensures ∙ c.if-ne.false))

pub returns : goal.returns
returns g c =
    let h : g.V.Values.left c.loop-words.values ≡ [] = search rules in
    seeking-end {said = found_of c.args.wanted (g.V.Values.left c.args.values) (operand_values (lent_by c.args.lent.now) c.args.others)} c.loop-words.invariant h c.at_end.ensures
