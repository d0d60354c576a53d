-- `text::atom_of` meets its contract: an int, else a str, else a bool.
use Prim.Native.Nat.{ℕ}
use mathlib.Core.Path.{◌≡◌, refl, sym, ap, ◌∙◌}
use mathlib.Core.Bool.{Bool, true, false}
use mathlib.Core.Option as math
use native.Mathlib.Omega.{arith}
use mir.Val.{bool_byte}
use Rattle.std.proofs.Common.{Some, None}
use Rattle.model.specs.Bytes.{Bytes}
use Rattle.model.specs.Atoms.{str, read_int, read_str, read_bool, read_atom}
use Rattle.codes.specs.Enums.{told_by}
use Rattle.text.specs.Values.{words, value, truth_bit, atom_value}
use Rattle.text.specs.Parts.{inside}
use Rattle.text.proofs.Told.{told-none, told-some}
use Rattle.text.proofs.Values.{inside-length}
use Rattle.text.proofs.atom_of.Goals as goal

module _ (s : Bytes) where
  number-read : (n : ℕ) → read_int s ≡ math.some n → told_by atom_value (read_atom s) ≡ Some (value 1 (words n 0 0))
  unfolding read_atom
  number-read n e = rw e

  text-read : (t : Bytes) → read_int s ≡ math.none → read_str s ≡ math.some t → told_by atom_value (read_atom s) ≡ Some (atom_value (str t))
  unfolding read_atom
  text-read t e f = rw (e, f)

  truth-read : (b : Bool) → read_int s ≡ math.none → read_str s ≡ math.none → read_bool s ≡ math.some b → told_by atom_value (read_atom s) ≡ Some (value 3 (words (truth_bit b) 0 0))
  unfolding read_atom
  truth-read b e f g = rw (e, f, g)

  none-read : read_int s ≡ math.none → read_str s ≡ math.none → read_bool s ≡ math.none → told_by atom_value (read_atom s) ≡ None
  unfolding read_atom
  none-read e f g = rw (e, f, g)

-- a bool as a number
bit : (b : Bool) → bool_byte b ≡ truth_bit b
bit true = refl
bit false = refl

pub returns-in-Some : goal.returns-in-Some
returns-in-Some c =
    ap Some (c.single.ensures ∙ ap (λ (n : ℕ). value 1 (words n 0 0)) c.from.ensures)
    ∙ sym (number-read c.args.s.now c.in-Some.n (told-some (read_int c.args.s.now) c.in-Some.n c.in-Some.ensures))

pub words_of-requires : goal.words_of-requires
words_of-requires c = omega (arith, inside-length c.args.s.now c.is_str.ensures c.if-is_str.true)

pub returns-then-is_str : goal.returns-then-is_str
returns-then-is_str c =
    ap (λ (w : _). Some (record { ty = _; words = w })) c.words_of.ensures
    ∙ sym (text-read c.args.s.now (inside c.args.s.now) (told-none (read_int c.args.s.now) c.in_default.ensures) (c.is_str.ensures.text c.if-is_str.true))

pub returns-in_err-bool_of : goal.returns-in_err-bool_of
returns-in_err-bool_of c =
    c.from_residual.ensures
    ∙ sym (none-read c.args.s.now (told-none (read_int c.args.s.now) c.in_default.ensures) (c.is_str.ensures.other c.if-is_str.false) (told-none (read_bool c.args.s.now) c.in_err-bool_of.ensures))

pub returns : goal.returns
returns c =
    ap Some (c.single-2.ensures ∙ ap (λ (n : ℕ). value 3 (words n 0 0)) (c.from-2.ensures ∙ bit c.in_ok-bool_of.field-0))
    ∙ sym (truth-read c.args.s.now c.in_ok-bool_of.field-0 (told-none (read_int c.args.s.now) c.in_default.ensures) (c.is_str.ensures.other c.if-is_str.false) (told-some (read_bool c.args.s.now) c.in_ok-bool_of.field-0 c.in_ok-bool_of.ensures))
