-- `fields::rule_fields` meets its contract.
use Rattle.std.proofs.Common.{rules}
use Rattle.fields.proofs.Forms.{rule_told}
use Rattle.fields.proofs.rule_fields.Goals as goal

pub returns : goal.returns
returns c = rule_told _ (search rules)
