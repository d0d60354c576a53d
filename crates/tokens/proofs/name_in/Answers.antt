-- `tokens::name_in` meets its contract.
use Prim.Native.Nat.{◌+◌}
use mathlib.Core.Path.{◌≡◌, sym, ap, ◌∙◌}
use mathlib.Core.Bool.{true, false}
use native.Mathlib.Omega.{arith}
use Rattle.std.specs.Prelude.{Some}
use lib.ListN.{drop}
use Rattle.model.specs.Names.{is_name}
use Rattle.text.specs.declared.Packed.{Packed}
use Rattle.text.specs.Packing.{packed_of}
use Rattle.text.proofs.Packing.{name-length}
use Rattle.tokens.specs.declared.Token.TheVariants.{Name}
use Rattle.tokens.proofs.ByteRuns.{tail-part}
use Rattle.tokens.proofs.WordCodes.{no-dot, no_source, no_name_lem, named}
use Rattle.tokens.proofs.name_in.Goals as goal

pub returns-in_err-dot : goal.returns-in_err-dot
returns-in_err-dot c = c.from_residual.ensures ∙ no-dot c.args.w.now c.index_of.result c.index_of.ensures c.in_err-dot.was

pub returns-in_err-source : goal.returns-in_err-source
returns-in_err-source c =
    c.from_residual-in_err-source.ensures
    ∙ no_source c.args.w.now c.index_of.result c.index_of.ensures c.in_ok-dot.dot c.in_ok-dot.was (sym c.in_err-source.was ∙ c.source_of.ensures)

pub returns-then-not-is_name : goal.returns-then-not-is_name
returns-then-not-is_name c =
    let e : is_name (drop (c.in_ok-dot.dot + 1) c.args.w.now) ≡ false =
    ap is_name (sym (tail-part (c.in_ok-dot.dot + 1) c.args.w.now)) ∙ sym c.is_name.ensures ∙ c.if-not-is_name.true in
    no_name_lem c.args.w.now c.index_of.result c.index_of.ensures c.in_ok-dot.dot c.in_ok-dot.was e

pub pack-requires : goal.pack-requires
pack-requires c = omega (arith, name-length _ (sym c.is_name.ensures ∙ c.if-not-is_name.false))

pub returns : goal.returns
returns c =
    let t = tail-part (c.in_ok-dot.dot + 1) c.args.w.now in
    let e : is_name (drop (c.in_ok-dot.dot + 1) c.args.w.now) ≡ true = ap is_name (sym t) ∙ sym c.is_name.ensures ∙ c.if-not-is_name.false in
    ap (λ (p : Packed). Some (Name c.in_ok-source.source p)) (c.pack.ensures ∙ ap packed_of t)
    ∙ named c.args.w.now c.index_of.result c.index_of.ensures c.in_ok-dot.dot c.in_ok-dot.was c.in_ok-source.source (sym c.in_ok-source.was ∙ c.source_of.ensures) e
