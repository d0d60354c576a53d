-- `put_value_line` meets its contract.
use Rattle.output.specs.Laid.{far}
use Prim.Native.Nat.{ℕ, ◌+◌, ◌<◌}
use Rattle.writer.specs.Texts.{value_line_text}
use Rattle.spelling.specs.LineTexts.{name_text}
use Rattle.output.proofs.Laying.{laid_on, laid_as}
use mathlib.Core.Path.{ap}
use native.Mathlib.Omega.{arith}
use Rattle.writer.proofs.tie.put_value_line.Goals as goal

pub put_byte-requires : goal.put_byte-requires
put_byte-requires c =
    let g : c.put_pair_atom-f.result < far = omega (arith, c.put_key-a.ensures.1, c.put_holder-b.ensures.1, c.put_byte-c.ensures.behind, c.put_name-d.ensures.1, c.put_byte-e.ensures.behind, c.put_pair_atom-f.ensures.1, c.requires.0) in
    g

pub returns : goal.returns
unfolding value_line_text
returns c =
    (laid_on c.put_key-a.ensures.0 (laid_on c.put_holder-b.ensures.0 (laid_on c.put_byte-c.ensures (laid_on (laid_as (ap (λ (k : ℕ). name_text c.args.book.now (k + 2)) c.row_of_pair-row.ensures.0) c.put_name-d.ensures.0) (laid_on c.put_byte-e.ensures (laid_on c.put_pair_atom-f.ensures.0 c.put_byte.ensures))))), omega (arith, c.put_key-a.ensures.1, c.put_holder-b.ensures.1, c.put_byte-c.ensures.behind, c.put_name-d.ensures.1, c.put_byte-e.ensures.behind, c.put_pair_atom-f.ensures.1, c.put_byte.ensures.behind))
