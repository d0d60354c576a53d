-- `tielines::pair_of` meets its contract. Assumes nothing.
use Rattle.std.proofs.Common.{sym, ap, ◌∙◌}
use Rattle.model.specs.Declarations.{attribute_number}
use Rattle.codes.specs.Enums.{source_number, told}
use Rattle.codes.proofs.Enums.{source-numbered}
use Rattle.text.specs.declared.Value.{Value}
use Rattle.tielines.proofs.TieNaming.{told-some, told-none, no-attribute, attribute-at, same-type, other-type}
use Rattle.tielines.proofs.pair_of.Goals as goal

pub returns-in_err-k : goal.returns-in_err-k
returns-in_err-k c S code standing held s n a named written source packed value =
    let gone = told-none (attribute_number S.declared s n) (c.in_err-k.ensures.number S.declared standing.declarations held.attributes s n named (c.from.ensures ∙ ap source_number source ∙ source-numbered s) packed) in
    c.from_residual.ensures ∙ sym (ap told (no-attribute standing s n a gone))

pub returns-then-book-k : goal.returns-then-book-k
returns-then-book-k c S code standing held s n a named written source packed value =
    let there = told-some (attribute_number S.declared s n) (c.in_ok-k.ensures.number S.declared standing.declarations held.attributes s n named (c.from.ensures ∙ ap source_number source ∙ source-numbered s) packed) in
    let b = attribute-at S.declared s n c.in_ok-k.k there in
    sym (ap told (other-type standing held s n a c.in_ok-k.k b.0 there b.1
    (λ e. c.if-book-k.true (e ∙ ap (λ (v : Value). v.ty) value ∙ sym c.from-2.ensures))))

pub returns : goal.returns
returns c S code standing held s n a named written source packed value =
    let there = told-some (attribute_number S.declared s n) (c.in_ok-k.ensures.number S.declared standing.declarations held.attributes s n named (c.from.ensures ∙ ap source_number source ∙ source-numbered s) packed) in
    let b = attribute-at S.declared s n c.in_ok-k.k there in
    let typed = same-type standing held s n a c.in_ok-k.k b.0 there b.1
    (c.if-book-k.false ∙ c.from-2.ensures ∙ sym (ap (λ (v : Value). v.ty) value)) in
    c.pair_number.ensures.1 S.declared standing.declarations held.pairs s n b.0 a there b.1 typed written (ap (λ (v : Value). v.words) value)
