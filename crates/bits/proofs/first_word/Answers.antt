-- `bits::first_word` meets its contract: the first word from word k on that is not 0, or none. Assumes nothing.
use mathlib.Core.Path.{◌≡◌, ◌∙◌}
use borrow.Author.Tests.{tests}
use Rattle.std.proofs.Common.{rules}
use Rattle.std.proofs.lemmas.Iterator.{IsFirst-from_position, YieldsList-from_slice}
use Rattle.bits.proofs.Walks.{tail-part, word-found, words-none}
use Rattle.bits.proofs.first_word.Goals as goal

pub returns-in-Some : goal.returns-in-Some
returns-in-Some c =
    word-found c.args.set.now c.args.k c.in-Some.i c.lowest.result
    (IsFirst-from_position _ _ _ (λ x. x ≡ 0 → ⊥) (λ x. x ≡ 0) c.in-Some.ensures.ran (YieldsList-from_slice _ (c.iter.ensures.rest ∙ tail-part c.args.k c.args.set.now)) (λ x q k. search (rules, tests)) (λ x q k. search (rules, tests)))
    c.lowest.ensures

pub returns-in-None : goal.returns-in-None
returns-in-None c =
    words-none c.args.set.now c.args.k c.requires.0
    (IsFirst-from_position _ _ _ (λ x. x ≡ 0 → ⊥) (λ x. x ≡ 0) c.in-None.ensures.ran (YieldsList-from_slice _ (c.iter.ensures.rest ∙ tail-part c.args.k c.args.set.now)) (λ x q k. search (rules, tests)) (λ x q k. search (rules, tests)))
