-- `office::answer::answer_request` meets its contract. Assumes nothing.
use Rattle.office.proofs.answer.answer_request.Goals as goal

pub returns : goal.returns
returns c = (
  record { decision = c.decide-decision.result; table-long = c.told-table; call = c.decide-decision.ensures.decides; prints = c.put_decision.ensures },
  c.decide-decision.ensures.listed,
)
