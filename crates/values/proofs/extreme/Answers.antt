-- `values::extreme` meets its contract. Assumes nothing.
use mathlib.Core.Path.{◌≡◌}
use mathlib.Core.List.{[]}
use borrow.Author.Rules.{rules}
use Rattle.values.proofs.ValueWalks.{nearing-start, nearing-end, nearing-on}
use Rattle.values.proofs.extreme.Goals as goal

pub loop-words-init : goal.loop-words-init
loop-words-init g c = nearing-start c.args.greatest (g.V.Values.left c.args.values)

pub loop-words-preserved : goal.loop-words-preserved
loop-words-preserved g c =
    nearing-on c.loop-words.invariant c.in-Some.ensures c.start_of.ensures c.unwrap_or-so_far.ensures c.further.ensures

pub returns : goal.returns
returns g c =
    let h : g.V.Values.left c.loop-words.values ≡ [] = search rules in
    nearing-end c.loop-words.invariant h
