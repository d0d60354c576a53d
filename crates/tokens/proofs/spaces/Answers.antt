-- `tokens::spaces` meets its contract.
use mathlib.Core.Path.{◌∙◌}
use Rattle.std.proofs.Common.{rules, not}
use Rattle.std.proofs.lemmas.Iterator.{YieldsList-from_slice}
use Rattle.std.proofs.lemmas.Iterator.Search.{position_from_yields_List}
use Rattle.model.specs.Bytes.{is_byte}
use Rattle.tokens.proofs.ByteRuns.{lead-found}
use Rattle.tokens.proofs.spaces.Goals as goal

pub returns : goal.returns
returns c =
    c.unwrap_or.ensures
    ∙ lead-found (is_byte " ") c.args.s.now c.position.result
    (position_from_yields_List (λ b. not (is_byte " " b)) _ _ _ c.position.ensures.ran (YieldsList-from_slice c.args.s.now cc) (λ x b q k. search rules))
