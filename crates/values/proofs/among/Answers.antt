-- `values::among` meets its contract. Assumes nothing.
use mathlib.Core.Path.{◌≡◌, refl, sym, ap}
use mathlib.Core.Bool.{true, false}
use mathlib.Core.List.{[], ◌∷◌}
use borrow.Author.Rules.{rules}
use Rattle.model.specs.Truth.{truth}
use Rattle.text.specs.Values.{same_words}
use Rattle.values.specs.Compared.{among_of}
use Rattle.values.proofs.ValueWalks.{seeking-end, seeking-met, seeking-on}
use Rattle.values.proofs.among.Goals as goal

pub loop-words-init : goal.loop-words-init
unfolding among_of
loop-words-init g c = record { comes-to = refl }

pub returns-then-eq : goal.returns-then-eq
returns-then-eq g c =
    let h : g.V.Values.left c.loop-words.values ≡ c.in-Some.words ∷ g.V.Values.left c.next.new.self = search rules in
    let e : same_words c.args.wanted c.in-Some.words ≡ true = search rules in
    seeking-met c.loop-words.invariant h (ap truth (sym e)) (λ z. cc)

pub loop-words-preserved : goal.loop-words-preserved
loop-words-preserved g c =
    let h : g.V.Values.left c.loop-words.values ≡ c.in-Some.words ∷ g.V.Values.left c.next.new.self = search rules in
    let e : same_words c.args.wanted c.in-Some.words ≡ false = search rules in
    seeking-on c.loop-words.invariant h (ap truth (sym e)) refl

pub returns : goal.returns
returns g c =
    let h : g.V.Values.left c.loop-words.values ≡ [] = search rules in
    seeking-end c.loop-words.invariant h c.at_end.ensures
