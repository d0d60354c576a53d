-- `put_policy` meets its contract.
use lib.ListN.{get_or}
use Prim.Native.Nat.{◌+◌, ◌≤◌}
use Rattle.spelling.proofs.RuleTexts.{policy-start, within-code, policy-next, policy-end}
use Rattle.output.proofs.Laying.{laid-length}
use mathlib.Core.Path.{◌≡◌, sym, ◌∙◌}
use native.Mathlib.Omega.{arith}
use Prim.Native.Nat.{◌<◌}
use Rattle.output.specs.Laid.{far}
use Rattle.spelling.proofs.rule.put_policy.Goals as goal

pub loop-kind-init : goal.loop-kind-init
loop-kind-init c = (omega arith, c.byte-kind.ensures, omega arith, policy-start c.args.book.now c.args.code.now c.args.out.now c.args.at)

pub put_gap-n-requires : goal.put_gap-n-requires
put_gap-n-requires c =
    let within = within-code c.args.code.now c.loop-kind.place (λ e. c.loop-kind-test.true (c.loop-kind.invariant.1 ∙ e)) in
    let g : c.loop-kind.n < far = omega (arith, within, c.requires.0, c.requires.1, c.loop-kind.invariant.2) in
    g

pub put_token-n-requires : goal.put_token-n-requires
put_token-n-requires c =
    let within = within-code c.args.code.now c.loop-kind.place (λ e. c.loop-kind-test.true (c.loop-kind.invariant.1 ∙ e)) in
    let g : c.put_gap-n.result + 257 ≤ far = omega (arith, within, c.requires.0, c.requires.1, c.loop-kind.invariant.2, c.put_gap-n.ensures.1) in
    let h : c.loop-kind.place + 257 ≤ far = omega (arith, within, c.requires.1) in
    (g, h)

pub loop-kind-smaller : goal.loop-kind-smaller
loop-kind-smaller c =
    let some : get_or c.args.code.now c.loop-kind.place 0 ≡ 0 → ⊥ = λ e. c.loop-kind-test.true (c.loop-kind.invariant.1 ∙ e) in
    let within = within-code c.args.code.now c.loop-kind.place some in
    omega (arith, within, c.requires.1, c.size-place.ensures.1, c.size-place.ensures.2)

pub loop-kind-preserved : goal.loop-kind-preserved
loop-kind-preserved c =
    let some : get_or c.args.code.now c.loop-kind.place 0 ≡ 0 → ⊥ = λ e. c.loop-kind-test.true (c.loop-kind.invariant.1 ∙ e) in
    let within = within-code c.args.code.now c.loop-kind.place some in (
      omega (arith, within, c.requires.1, c.size-place.ensures.2),
      c.byte-kind-in-loop-kind.ensures,
      omega (arith, c.put_gap-n.ensures.1, c.put_token-n.ensures.1, c.size-place.ensures.0, c.size-place.ensures.1, c.loop-kind.invariant.2),
      policy-next c.loop-kind.invariant.3 some c.requires.1 c.loop-kind.invariant.1 c.put_gap-n.ensures.0 c.put_token-n.ensures.0 c.is_word-word.ensures c.size-place.ensures.0 c.size-place.ensures.1,
    )

pub shape_of-out : goal.shape_of-out
shape_of-out c = laid-length c.loop-kind.invariant.3.so_far

pub returns : goal.returns
returns c =
    (policy-end c.loop-kind.invariant.3 (sym c.loop-kind.invariant.1 ∙ c.loop-kind-test.false), omega (arith, c.loop-kind.invariant.0, c.loop-kind.invariant.2))
