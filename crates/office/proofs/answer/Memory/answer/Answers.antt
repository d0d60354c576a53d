-- `office::answer::Memory::answer` meets its contract, by the kind of command.
use mathlib.Core.Path.{refl, ap}
use native.Mathlib.Omega.{arith}
use Rattle.std.specs.Borrow.{Bor}
use Rattle.model.specs.Bytes.{Bytes}
use Rattle.office.specs.Answers.{lent}
use Rattle.office.proofs.Answering.{edit-answered, request-answered, bad-answered}
use Rattle.office.proofs.answer.Memory.answer.Goals as goal

pub returns-in-Some-Edit : goal.returns-in-Some-Edit
returns-in-Some-Edit c = record {
  answered = edit-answered _ (lent c.args.self.now) (lent c.answer_edit.new.self) _ _ _ _ (rw c.in-Some-Edit.field-0-is at c.in-Some-Edit.ensures) c.answer_edit.ensures.answered
      (ap (λ (rules : Bor Bytes). rules.now) c.answer_edit.ensures.same_references.2);
  same_references = c.answer_edit.ensures.same_references;
}

pub returns-in-Some-Request : goal.returns-in-Some-Request
returns-in-Some-Request c = record {
  answered = request-answered _ _ (lent c.args.self.now) _ _ _ _ (rw c.in-Some-Request.field-0-is at c.in-Some-Request.ensures) c.answer_request.ensures.0;
  same_references = (refl, refl, refl);
}

pub returns-in-None : goal.returns-in-None
returns-in-None c = record {
  answered = bad-answered _ (lent c.args.self.now) c.in-None.ensures (record { laid = c.put.ensures; short = omega arith });
  same_references = (refl, refl, refl);
}
