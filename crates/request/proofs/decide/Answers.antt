-- `request::decide` meets its contract. Assumes nothing.
use mathlib.Core.Path.{refl, sym, ◌∙◌}
use native.Mathlib.Omega.{arith}
use Rattle.codes.specs.declared.Refusal.TheVariants.{WrongTable, BadBlock, WrongNumber}
use Rattle.request.proofs.Blocks.{block_room}
use Rattle.request.proofs.RequestAnswers.{no_block, refuses-numbers, answers, stands-long, promised}
use Rattle.request.proofs.decide.Goals as goal

pub returns-then-table-ne-TABLE_WORDS : goal.returns-then-table-ne-TABLE_WORDS
returns-then-table-ne-TABLE_WORDS c = record {
  listed = (WrongTable, refl);
  decides = promised (λ d. refl) (λ S standing holds e. absurd (c.if-table-ne-TABLE_WORDS.true (stands-long holds e)));
}

pub returns-then-not-is_block : goal.returns-then-not-is_block
returns-then-not-is_block c = record {
  listed = (BadBlock, refl);
  decides = promised (λ d. absurd (d c.if-table-ne-TABLE_WORDS.false)) (λ S standing holds e. no_block S c.args.block.now (sym c.is_block.ensures ∙ c.if-not-is_block.true));
}

pub slice_bounds-request-count : goal.slice_bounds-request-count
slice_bounds-request-count c = block_room c.args.block.now (sym c.is_block.ensures ∙ c.if-not-is_block.false)

pub slice_bounds-request-start : goal.slice_bounds-request-start
slice_bounds-request-start c = omega (arith, block_room c.args.block.now (sym c.is_block.ensures ∙ c.if-not-is_block.false))

pub invariant_of-request : goal.invariant_of-request
invariant_of-request c = record {
  head = block_room c.args.block.now (sym c.is_block.ensures ∙ c.if-not-is_block.false);
  bytes = λ i. (c.type_inv.block i).fits;
}

pub returns-then-wrong_number : goal.returns-then-wrong_number
returns-then-wrong_number c = record {
  listed = (WrongNumber, refl);
  decides = promised
      (λ d. absurd (d c.if-table-ne-TABLE_WORDS.false))
      (λ S standing holds e. refuses-numbers standing holds c.args.block.now (λ i. (c.type_inv.block i).fits) (sym c.is_block.ensures ∙ c.if-not-is_block.false)
      c.section.ensures c.section-4.ensures c.section-2.ensures c.wrong_number.result c.wrong_number.ensures c.if-wrong_number.true);
}

pub returns : goal.returns
returns c = record {
  listed = c.answered.ensures.0;
  decides = promised
      (λ d. absurd (d c.if-table-ne-TABLE_WORDS.false))
      (λ S standing holds e. answers standing holds c.args.block.now (λ i. (c.type_inv.block i).fits) (sym c.is_block.ensures ∙ c.if-not-is_block.false)
      c.section.ensures c.section-4.ensures c.section-2.ensures c.wrong_number.result c.wrong_number.ensures c.if-wrong_number.false
      c.section-5.ensures c.section-3.ensures c.args.table.now e c.answered.result c.answered.ensures.1);
}
