-- `text::keyword` meets its contract: the first place of the word that the bytes write, in what stands behind the place of none.
use Prim.Native.Nat.{◌-◌}
use mathlib.Core.Path.{◌≡◌, sym, subst, ◌∙◌}
use native.Mathlib.Omega.{arith}
use borrow.Author.Tests.{tests}
use lib.ListN.{length}
use Rattle.std.proofs.Common.{rules}
use Rattle.std.proofs.lemmas.Iterator.{IsFirst-from_position, YieldsList-from_slice}
use Rattle.text.specs.Keywords.{Keyword}
use Rattle.text.proofs.Keywords.{too_long_lem, no_bytes, ends-in-zero, keyword-none, keyword-at}
use Rattle.text.proofs.keyword.Goals as goal
use Rattle.text.proofs.keyword.Goals.{then-s-gt-WORD_BYTES-via-then-s-gt-WORD_BYTES, then-s-gt-WORD_BYTES-via-else-s-gt-WORD_BYTES+in_ok-last+then-branch-eq0}

pub returns-in_err-last : goal.returns-in_err-last
returns-in_err-last c =
    subst (Keyword c.args.table.now c.args.s.now) (sym c.from_residual.ensures) (no_bytes _ _ (omega (arith, c.in_err-last.ensures.item.3)))

pub returns-then-s-gt-WORD_BYTES : goal.returns-then-s-gt-WORD_BYTES
returns-then-s-gt-WORD_BYTES c =
    elim c.then-s-gt-WORD_BYTES.branch [
      | then-s-gt-WORD_BYTES-via-then-s-gt-WORD_BYTES w ↦ too_long_lem _ _ w.if-s-gt-WORD_BYTES.true
      | then-s-gt-WORD_BYTES-via-else-s-gt-WORD_BYTES+in_ok-last+then-branch-eq0 w ↦
          let (some, last) = w.in_ok-last.ensures.item.3 in
          ends-in-zero _ _ (length c.args.s.now - 1) (omega arith) (sym (last 0) ∙ w.if-branch-eq0.true)
    ]

pub returns-in_err-position : goal.returns-in_err-position
returns-in_err-position c =
    let (some, last) = c.in_ok-last.ensures.item.3 in
    subst (Keyword c.args.table.now c.args.s.now) (sym c.from_residual-in_err-position.ensures)
    (keyword-none _ _ (length c.args.s.now - 1) (omega arith) (λ k. (c.type_inv.s k).fits) (λ e. c.if-branch-eq0.false (last 0 ∙ e))
    _ _ _ c.in_ok-words.ensures.cases.0 c.word_of-word.ensures
    (IsFirst-from_position _ _ _ (λ x. x ≡ c.word_of-word.result) (λ x. x ≡ c.word_of-word.result → ⊥) c.in_err-position.ensures.ran (YieldsList-from_slice c.in_ok-words.words.now cc) (λ x q k. search (rules, tests)) (λ x q k. search (rules, tests))))

pub returns : goal.returns
returns c =
    let (some, last) = c.in_ok-last.ensures.item.3 in
    keyword-at _ _ (length c.args.s.now - 1) (omega arith) (λ k. (c.type_inv.s k).fits) (λ e. c.if-branch-eq0.false (last 0 ∙ e))
    _ _ _ c.in_ok-words.ensures.cases.0 c.word_of-word.ensures _
    (IsFirst-from_position _ _ _ (λ x. x ≡ c.word_of-word.result) (λ x. x ≡ c.word_of-word.result → ⊥) c.in_ok-position.ensures.ran (YieldsList-from_slice c.in_ok-words.words.now cc) (λ x q k. search (rules, tests)) (λ x q k. search (rules, tests)))
