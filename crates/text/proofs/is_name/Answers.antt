-- `text::is_name` meets its contract.
use mathlib.Core.Path.{◌∙◌}
use borrow.Author.Tests.{tests, le-leb}
use Rattle.std.proofs.Common.{rules}
use Rattle.std.proofs.lemmas.Iterator.{YieldsList-from_slice}
use Rattle.std.proofs.lemmas.Iterator.Search.{all_from_yields_List}
use Rattle.model.specs.Names.{is_name, name_byte}
use Rattle.text.proofs.LoopPlaces.{all-listed, some-byte}
use Rattle.text.proofs.is_name.Goals as goal

pub returns-then-s-le-NAME_BYTES : goal.returns-then-s-le-NAME_BYTES
unfolding is_name
returns-then-s-le-NAME_BYTES c =
    rw (le-leb 1 _ (some-byte c.args.s.now c.is_empty.ensures c.if-s-le-NAME_BYTES.true.0), le-leb _ 12 c.if-s-le-NAME_BYTES.true.1)
    (all_from_yields_List name_byte _ _ c.all.result c.all.ensures.ran (YieldsList-from_slice c.args.s.now cc) (λ x b q k. search (rules, tests)) ∙ all-listed name_byte c.args.s.now)
