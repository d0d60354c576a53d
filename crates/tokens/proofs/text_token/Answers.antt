-- `tokens::text_token` meets its contract.
use mathlib.Core.Path.{sym, ◌∙◌}
use Rattle.tokens.proofs.TextFronts.{no_end, no_text, text}
use Rattle.tokens.proofs.text_token.Goals as goal

pub returns-in_err-quote : goal.returns-in_err-quote
returns-in_err-quote c = c.from_residual.ensures ∙ no_end c.args.n c.args.s.now c.index_of.result c.index_of.ensures c.in_err-quote.was

pub returns-then-not-is_text : goal.returns-then-not-is_text
returns-then-not-is_text c =
    no_text c.args.n c.args.s.now c.index_of.result c.index_of.ensures c.in_ok-quote.quote c.in_ok-quote.was (sym c.is_text.ensures ∙ c.if-not-is_text.true)

pub returns : goal.returns
returns c =
    text c.args.n c.args.s.now c.index_of.result c.index_of.ensures c.in_ok-quote.quote c.in_ok-quote.was (sym c.is_text.ensures ∙ c.if-not-is_text.false)
