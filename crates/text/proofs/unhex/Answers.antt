-- `text::unhex` meets its contract: the pairs passed stand at the front of the output, and what is behind them is kept.
use Prim.Native.Nat.{ℕ, ◌+◌, ◌*◌}
use mathlib.Core.Path.{◌≡◌, refl, sym, ap, subst, ◌∙◌}
use mathlib.Core.Bool.{not}
use mathlib.Core.Option as math
use native.Mathlib.Omega.{arith}
use lib.ListN.{length, get_or, drop, set}
use lib.Seq.{drop-set-lt, drop-drop}
use borrow.Author.Tests.{eq-eqb, ne_eqb}
use Rattle.std.proofs.Common.{rules, Option, Some, None, Err, Ok}
use Rattle.std.specs.Option.{ok_or}
use Rattle.model.specs.Notation.{is_none}
use Rattle.model.specs.Bytes.{Bytes}
use Rattle.text.specs.declared.NoPair.{NoPair}
use Rattle.text.specs.Hex.{hex_pair_of, Unhexed}
use Rattle.codes.specs.Enums.{told}
use Rattle.text.proofs.HexPairs.{so_far_more, stops, ends, filled}
use Rattle.text.proofs.unhex.Goals as goal

-- one byte more is written, and what is behind it is kept
kept : (before after : Bytes) (i b : ℕ) → drop i after ≡ drop i before → drop (i + 1) (set after i b) ≡ drop (i + 1) before
kept before after i b e =
    drop-set-lt (i + 1) after i b (omega arith) ∙ sym (drop-drop 1 i after) ∙ ap (drop 1) e ∙ drop-drop 1 i before

-- what `ok_or` says of a pair
refused : (o : math.Option ℕ) (r : Option ℕ) (e x : NoPair) → r ≡ told o → Err x ≡ ok_or r e → o ≡ math.none
refused math.none r e x q p = refl
refused (math.some b) r e x q p = let z : Err x ≡ ok_or (Some b) e = p ∙ ap (λ (o : Option ℕ). ok_or o e) q in cc

taken : (o : math.Option ℕ) (r : Option ℕ) (e : NoPair) (b : ℕ) → r ≡ told o → Ok b ≡ ok_or r e → o ≡ math.some b
taken math.none r e b q p = let z : Ok b ≡ ok_or {T = ℕ} None e = p ∙ ap (λ (o : Option ℕ). ok_or o e) q in cc
taken (math.some a) r e b q p = let z : Ok b ≡ ok_or (Some a) e = p ∙ ap (λ (o : Option ℕ). ok_or o e) q in cc

pub returns-in_err-out : goal.returns-in_err-out
returns-in_err-out c =
    let s = c.args.s.now in
    let i = c.loop-i.i in
    let r : c.from_residual.result ≡ Err (record { pairs = i }) = search rules in
    let no = refused (hex_pair_of (get_or s (2 * i) 0) (get_or s (2 * i + 1) 0)) _ (record { pairs = i }) _ c.hex_pair.ensures c.in_err-out.ensures.value in
    let (l, z) = stops s c.loop-i.out i (omega arith) no c.loop-i.invariant.1 in
    subst (Unhexed s c.args.out.now c.loop-i.out) (sym r)
    (filled s c.args.out.now c.loop-i.out i _ refl (omega arith) l c.loop-i.invariant.0 (sym (ap (λ (o : math.Option Bytes). not (is_none o)) z)))

pub loop-i-preserved : goal.loop-i-preserved
loop-i-preserved c =
    let s = c.args.s.now in
    let i = c.loop-i.i in
    let b = taken (hex_pair_of (get_or s (2 * i) 0) (get_or s (2 * i + 1) 0)) _ (record { pairs = i }) c.in_ok-out.field-0 c.hex_pair.ensures c.in_ok-out.ensures.value in
    (kept c.args.out.now c.loop-i.out i c.in_ok-out.field-0 c.loop-i.invariant.0, so_far_more s c.loop-i.out i (omega arith) c.in_ok-out.field-0 b (omega arith) c.loop-i.invariant.1)

pub returns-then-s-eq0 : goal.returns-then-s-eq0
returns-then-s-eq0 c =
    let s = c.args.s.now in
    let i = c.loop-i.i in
    let (l, o) = ends s c.loop-i.out i (omega arith) (omega arith) c.loop-i.invariant.1 in
    filled s c.args.out.now c.loop-i.out i _ (omega arith) (omega arith) l c.loop-i.invariant.0 (sym (eq-eqb (length s) (2 * i) (omega arith)) ∙ o)

pub returns-else-s-eq0 : goal.returns-else-s-eq0
returns-else-s-eq0 c =
    let s = c.args.s.now in
    let i = c.loop-i.i in
    let (l, o) = ends s c.loop-i.out i (omega arith) (omega arith) c.loop-i.invariant.1 in
    filled s c.args.out.now c.loop-i.out i _ (omega arith) (omega arith) l c.loop-i.invariant.0 (sym (ne_eqb (length s) (2 * i) (λ e. omega arith)) ∙ o)
