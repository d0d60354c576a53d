-- `text::is_text` meets its contract.
use mathlib.Core.Path.{◌∙◌}
use borrow.Author.Tests.{tests, le-leb}
use Rattle.std.proofs.Common.{rules}
use Rattle.std.proofs.lemmas.Iterator.{YieldsList-from_slice}
use Rattle.std.proofs.lemmas.Iterator.Search.{all_from_yields_List}
use Rattle.model.specs.Atoms.{is_text, text_byte}
use Rattle.text.proofs.LoopPlaces.{all-listed}
use Rattle.text.proofs.is_text.Goals as goal

pub returns-then-s-le-TEXT_BYTES : goal.returns-then-s-le-TEXT_BYTES
unfolding is_text
returns-then-s-le-TEXT_BYTES c =
    rw (le-leb _ 12 c.if-s-le-TEXT_BYTES.true)
    (all_from_yields_List text_byte _ _ c.all.result c.all.ensures.ran (YieldsList-from_slice c.args.s.now cc) (λ x b q k. search (rules, tests)) ∙ all-listed text_byte c.args.s.now)
