-- `fields::name_field` meets its contract.
use Rattle.std.proofs.Common.{sym, ◌∙◌, arith}
use Rattle.text.proofs.Packing.{name-length}
use Rattle.fields.proofs.name_field.Goals as goal

pub pack-requires : goal.pack-requires
pack-requires c = omega (arith, name-length _ (sym c.is_name.ensures ∙ c.if-is_name.true))
