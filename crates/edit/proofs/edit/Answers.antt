-- `edit::edit` meets its contract: one law for each way out. Assumes nothing.
use mathlib.Core.Path.{refl, sym, subst, ◌∙◌}
use Rattle.model.specs.Numbers as refusal
use Rattle.codes.specs.declared.Refusal.TheVariants.{Unframed}
use Rattle.codes.specs.Enums.{refusal_number}
use Rattle.fields.specs.Frames.{Signed}
use Rattle.tielines.proofs.TieRefusals.{refused_for}
use Rattle.edit.proofs.Exits.{handed-on, none-there}
use Rattle.edit.proofs.EditRefusals.{unsigned, line_of, plus-is, signed-line, edit-refused, tie-refusal}
use Rattle.edit.proofs.EditCalls.{without-table, refused-call, accepted-call}
use Rattle.edit.proofs.edit.Goals as goal

pub returns-then-table-ne-TABLE_WORDS : goal.returns-then-table-ne-TABLE_WORDS
returns-then-table-ne-TABLE_WORDS c = without-table c.args.line.now c.args.book.now c.args.table.now refusal.wrong_table c.if-table-ne-TABLE_WORDS.true refl

pub returns-in_err-sign : goal.returns-in_err-sign
returns-in_err-sign c =
    let (absent, unframed) = none-there c.sign_of.result c.in_err-sign.ensures.value in
    rw (handed-on c.from_residual.result c.from_residual.ensures.1, unframed)
    (refused-call c.args.line.now c.args.book.now c.args.table.now (refusal_number Unframed) c.if-table-ne-TABLE_WORDS.false (refused_for Unframed)
    (λ S code standing held. unsigned S c.args.line.now (subst (Signed c.args.line.now) absent c.sign_of.ensures)))

pub returns-in_err-t : goal.returns-in_err-t
returns-in_err-t c =
    let signed =
    signed-line c.args.line.now (subst (Signed c.args.line.now) c.in_ok-sign.ensures.ok_part c.sign_of.ensures) (c.eq-plus.ensures ∙ plus-is c.in_ok-sign.sign) in
    rw (handed-on c.from_residual-in_err-t.result c.from_residual-in_err-t.ensures.1)
    (refused-call c.args.line.now c.args.book.now c.args.table.now (refusal_number c.in_err-t.field-0.0) c.if-table-ne-TABLE_WORDS.false (refused_for c.in_err-t.field-0.0)
    (λ S code standing held. edit-refused S c.args.line.now c.eq-plus.result (line_of c.args.line.now) signed (c.tie_of_line.ensures S code standing held) c.in_err-t.was))

pub returns-in_err-judge : goal.returns-in_err-judge
returns-in_err-judge c =
    let signed =
    signed-line c.args.line.now (subst (Signed c.args.line.now) c.in_ok-sign.ensures.ok_part c.sign_of.ensures) (c.eq-plus.ensures ∙ plus-is c.in_ok-sign.sign) in
    rw (handed-on c.from_residual-in_err-judge.result c.from_residual-in_err-judge.ensures.1)
    (refused-call c.args.line.now c.args.book.now c.args.table.now (refusal_number c.in_err-judge.field-0.0) c.if-table-ne-TABLE_WORDS.false (refused_for c.in_err-judge.field-0.0)
    (λ S code standing held.
    let read = c.tie_of_line.ensures S code standing held in
    tie-refusal S c.args.line.now c.eq-plus.result (line_of c.args.line.now) signed read c.in_ok-t.was
    ∙ sym (c.in_err-judge.ensures S code standing held (read.fits c.in_ok-t.t c.in_ok-t.was))))

pub returns : goal.returns
returns c =
    let signed =
    signed-line c.args.line.now (subst (Signed c.args.line.now) c.in_ok-sign.ensures.ok_part c.sign_of.ensures) (c.eq-plus.ensures ∙ plus-is c.in_ok-sign.sign) in
    accepted-call c.args.line.now c.args.book.now c.args.table.now c.apply-done.new.table c.apply-done.new.book c.apply-done.result.changed c.apply-done.result.joins c.if-table-ne-TABLE_WORDS.false c.apply-done.auto.table c.apply-done.auto.book
    c.eq-plus.result (line_of c.args.line.now) signed c.tie_of_line.ensures c.in_ok-t.was c.in_ok-judge.ensures refl c.apply-done.ensures.0 c.apply-done.ensures.1
