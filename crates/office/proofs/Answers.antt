-- Commands answered one after another. Assumes nothing.
use Prim.Native.Nat.{ℕ, ◌+◌}
use mathlib.Core.Path.{◌≡◌, refl, sym, ap, ◌∙◌}
use mathlib.Core.List.{List, [], ◌++◌, append_assoc}
use native.Mathlib.Omega.{arith}
use lib.ListN.{length, length-append}
use Rattle.model.specs.Notation.{map}
use Rattle.model.specs.Bytes.{Bytes, lines_of}
use Rattle.model.specs.Gate.{call_of, output}
use Rattle.engine.specs.Runs.{Memory}
use Rattle.output.proofs.Laying.{laid_none, laid_on}
use Rattle.office.specs.Input.{FirstLine}
use Rattle.office.specs.Answers.{lent_words, CommandAnswered, Answered}

pub none-answered : (commands : Bytes) (l : Memory) (out : Bytes) (at : ℕ) → Answered commands commands l l out at out at
none-answered commands l out at = record {
  text = [];
  laid = laid_none out at;
  short = omega arith;
  same = refl;
  goes_on = λ S stands. record { state = S; stands = stands; prints = refl };
}

module _ {commands rest line left : Bytes} {before middle : Memory} {out : Bytes} {at : ℕ} {out₁ : Bytes} {n : ℕ} (a : Answered commands rest before middle out at out₁ n)
    (first : FirstLine rest line left) where
  lengths : length rest ≡ length line + length left
  lengths = ap length first.bytes ∙ length-append line left

  -- one command more
  pub more-answered : {after : Memory} {out₂ : Bytes} {r : ℕ} → CommandAnswered line middle after out₁ n out₂ r → Answered commands left before after out at out₂ r
  more-answered b =
      let s = b.answer.short in
      let z = a.short in
      record {
        text = a.text ++ b.text;
        laid = laid_on a.laid b.answer.laid;
        short = omega (arith, length-append a.text b.text, first.some, lengths);
        same = b.same ∙ a.same;
        goes_on = λ S stands.
            let x = a.goes_on S stands in
            let y = b.goes_on x.state (map call_of (lines_of left)) x.stands in
            record {
              state = y.state;
              stands = y.stands;
              prints = x.prints ∙ ap (λ (ls : List Bytes). a.text ++ output lent_words x.state (map call_of ls)) first.lines ∙ ap (λ (o : Bytes). a.text ++ o) y.prints
                  ∙ sym (append_assoc a.text b.text (output lent_words y.state (map call_of (lines_of left))));
            };
      }
