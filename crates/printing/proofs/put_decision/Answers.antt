-- `printing::put_decision` meets its contract, by cases.
use mathlib.Core.Path.{sym}
use native.Mathlib.Omega.{arith}
use Rattle.model.specs.Gate.{printed}
use Rattle.printing.proofs.put_decision.Goals as goal

pub returns-in-Permit : goal.returns-in-Permit
unfolding printed
returns-in-Permit c = rw (c.in-Permit.is, sym c.from.ensures) c.put_number.ensures

pub returns-in-Deny : goal.returns-in-Deny
unfolding printed
returns-in-Deny c = rw c.in-Deny.is (record { laid = c.put.ensures; short = omega arith })

pub returns-in-Undefined-Absent : goal.returns-in-Undefined-Absent
unfolding printed
returns-in-Undefined-Absent c =
    let told = rw c.in-Undefined-Absent.is at c.in-Undefined-Absent.field-0-is in
    rw (c.in-Undefined-Absent.is, told) (record { laid = c.put-in-Undefined-Absent.ensures; short = omega arith })

pub returns-in-Undefined-Unlike : goal.returns-in-Undefined-Unlike
unfolding printed
returns-in-Undefined-Unlike c =
    let told = rw c.in-Undefined-Unlike.is at c.in-Undefined-Unlike.field-0-is in
    rw (c.in-Undefined-Unlike.is, told) (record { laid = c.put-in-Undefined-Unlike.ensures; short = omega arith })

pub returns-in-Refused : goal.returns-in-Refused
unfolding printed
returns-in-Refused c = rw (c.in-Refused.is, sym c.from-in-Refused.ensures) c.put_number-in-Refused.ensures
