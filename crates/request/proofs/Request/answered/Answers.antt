-- `request::Request::answered` meets its contract. Assumes nothing.
use mathlib.Core.Path.{refl}
use native.Mathlib.Omega.{arith}
use Rattle.codes.specs.declared.Refusal.TheVariants.{NotHeld}
use Rattle.session.proofs.Entries.{value-small}
use Rattle.request.proofs.RequestAnswers.{not-held, by-rules}
use Rattle.request.proofs.Request.answered.Goals as goal

pub overflow_cast-activation : goal.overflow_cast-activation
overflow_cast-activation c = omega (arith, c.four.ensures, value-small c.args.self.now.block.now c.args.self.now.bytes 4)

pub returns-then-unheld : goal.returns-then-unheld
returns-then-unheld c = (
  (NotHeld, refl),
  λ S b of. not-held of c.from.result c.four.result c.from.ensures c.four.ensures c.unheld.result c.unheld.ensures c.if-unheld.true,
)

pub returns : goal.returns
returns c = (
  c.decided.ensures.0,
  λ S b of.
      by-rules of c.from.result c.four.result c.from.ensures c.four.ensures
      c.unheld.result c.unheld.ensures
      c.from-2.result c.from-2.ensures c.in_room.result c.in_room.ensures.1
      c.open.new.session c.open.ensures
      c.if-unheld.false c.in_room-2.result c.in_room-2.ensures.1 _ refl c.decided.result c.decided.ensures.1,
)
