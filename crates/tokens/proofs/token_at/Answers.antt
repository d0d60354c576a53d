-- `tokens::token_at` meets its contract.
use Prim.Native.Nat.{ℕ, ◌-◌}
use mathlib.Core.Path.{sym, ap, ◌∙◌}
use native.Mathlib.Omega.{arith}
use lib.ListN.{length, take, drop}
use Rattle.model.specs.Bytes.{is_byte}
use Rattle.tokens.specs.TokenAt.{token_in, token_at, unspaced}
use Rattle.tokens.proofs.ByteRuns.{lead-le, unspaced-lead, tail-part}
use Rattle.tokens.proofs.token_at.Goals as goal

pub slice_bounds-token_in-count : goal.slice_bounds-token_in-count
slice_bounds-token_in-count c =
    let t = take (length c.args.s.now - c.args.at) (drop c.args.at c.args.s.now) in
    omega (arith, c.spaces.ensures, lead-le (is_byte " ") t)

pub slice_bounds-token_in-start : goal.slice_bounds-token_in-start
slice_bounds-token_in-start c =
    let t = take (length c.args.s.now - c.args.at) (drop c.args.at c.args.s.now) in
    omega (arith, c.spaces.ensures, lead-le (is_byte " ") t)

pub returns : goal.returns
unfolding token_at
returns c =
    let t = take (length c.args.s.now - c.args.at) (drop c.args.at c.args.s.now) in
    c.token_in.ensures
    ∙ ap (token_in (length c.args.s.now)) (tail-part c.spaces.result t ∙ ap (λ (k : ℕ). drop k t) c.spaces.ensures ∙ sym (unspaced-lead t) ∙ ap unspaced (tail-part c.args.at c.args.s.now))
