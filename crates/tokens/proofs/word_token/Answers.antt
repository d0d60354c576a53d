-- `tokens::word_token` meets its contract.
use Prim.Native.Nat.{ℕ, ◌-◌}
use mathlib.Core.Path.{sym, ap, ◌∙◌}
use native.Mathlib.Omega.{arith}
use Rattle.std.specs.Prelude.{Some}
use lib.ListN.{length, take}
use lib.Seq.{length-take-le}
use Rattle.model.specs.Tokens.{word_byte, read_word}
use Rattle.codes.specs.Enums.{told_by}
use Rattle.tokens.specs.TokenAt.{code_of, placed}
use Rattle.tokens.proofs.ByteRuns.{lead-le}
use Rattle.tokens.proofs.TextFronts.{no_word, word}
use Rattle.tokens.proofs.word_token.Goals as goal

pub slice_bounds-word_in-end : goal.slice_bounds-word_in-end
slice_bounds-word_in-end c =
    sym (length-take-le c.word_length-end.result c.args.s.now (omega (arith, c.word_length-end.ensures, lead-le word_byte c.args.s.now)))

pub returns-in_err-token : goal.returns-in_err-token
returns-in_err-token c =
    c.from_residual.ensures
    ∙ no_word c.args.n c.args.s.now
    (sym c.in_err-token.was ∙ c.word_in.ensures ∙ ap (λ (e : ℕ). told_by code_of (read_word (take e c.args.s.now))) c.word_length-end.ensures)

pub overflow_sub-result : goal.overflow_sub-result
overflow_sub-result c = omega (arith, c.word_length-end.ensures, lead-le word_byte c.args.s.now)

pub returns : goal.returns
returns c =
    ap (λ (e : ℕ). Some (placed (Some c.in_ok-token.token) (c.args.n - (length c.args.s.now - e)))) c.word_length-end.ensures
    ∙ word c.args.n c.args.s.now c.in_ok-token.token
    (sym c.in_ok-token.was ∙ c.word_in.ensures ∙ ap (λ (e : ℕ). told_by code_of (read_word (take e c.args.s.now))) c.word_length-end.ensures)
