-- `put_ups` meets its contract.
use native.Mathlib.Omega.{arith}
use Rattle.std.proofs.Common.{rules}
use Rattle.writer.specs.Texts.{up_line_text}
use Rattle.writer.proofs.TieTexts.{no_groups, none_in, ups-among}
use Rattle.output.proofs.Laying.{laid_as}
use Rattle.writer.proofs.tie.put_ups.Goals as goal

pub returns : goal.returns
returns c = (
  laid_as (ups-among _ no_groups c.args.book.now c.args.n c.args.key c.args.h c.requires.2 none_in c.word-mask.ensures c.add_groups.ensures)
      (c.put_members.ensures.laid (up_line_text c.args.book.now c.args.key c.args.h) (search rules)),
  omega (arith, c.put_members.ensures.within, c.requires.2),
)
