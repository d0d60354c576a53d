-- The lines of an input one after the other, the file before `end=` and the commands behind it. Assumes nothing.
use Prim.Native.Nat.{ℕ, ◌+◌, ◌-◌, ◌≤◌, ◌<◌}
use mathlib.Core.Path.{◌≡◌, refl, sym, ap, ap₂, ◌∙◌}
use mathlib.Core.Bool.{Bool, true, false, ◌&&◌}
use mathlib.Core.List.{List, [], ◌∷◌, ◌++◌, append-nil, append_assoc}
use mathlib.Core.Option.{Option, none, some}
use native.Mathlib.Omega.{arith}
use borrow.Author.Tests.{not-true}
use lib.ListN.{length, take, drop, length-drop, length-append}
use lib.Seq.{take-add, drop-drop, take_all, length-take-le, take_at, append_snoc, take-append_seam, drop-append_seam}
use lib.Dec.{eqb}
use lib.Pointwise.{pointwise}
use Rattle.model.specs.Notation.{if◌then◌otherwise◌, ◌>>=◌}
use Rattle.model.specs.Bytes.{Bytes, bytes, newline, same, cut, begun, lines_of, content}
use Rattle.model.specs.Gate.{bare, is_end, file_of, commands_of}
use Rattle.model.proofs.WordTables.{none-is-some}
use Rattle.model.proofs.Lists.{all-parts}
use Rattle.model.proofs.Cuts.{isnt, lacks, cut_parts, content-exact}
use Rattle.text.proofs.LoopPlaces.{done, next}
use Rattle.office.specs.declared.input.Input.{Input}
use Rattle.office.specs.Input.{LineLength, FirstLine, Split}

-- bytes without byte 10 and a byte 10 are a line; so are bytes without one at the end
lines-joined : (l r : Bytes) → lacks newline l ≡ true → lines_of (l ++ newline ∷ r) ≡ (l ++ newline ∷ []) ∷ lines_of r
lines-joined [] r e = refl
lines-joined (x ∷ l) r e = let (p, q) = all-parts (isnt newline) x l e in rw (lines_of, not-true (eqb x newline) p, lines-joined l r q)

abbrev lone : Bytes → List Bytes
lone [] = []
lone (x ∷ s) = (x ∷ s) ∷ []

lines-last : (s : Bytes) → cut newline s ≡ none → lines_of s ≡ lone s
lines-last [] e = refl
lines-last (x ∷ s) e = go (eqb x newline) refl (lines-last s)
  where
    rest : (o : Option (Bytes × Bytes)) → ◌>>=◌ {B = Bytes × Bytes} o (λ (l, r). some (x ∷ l, r)) ≡ none → o ≡ none
    rest none f = refl
    rest (some c) f = none-is-some (sym f)

    front : (s : Bytes) → begun x (lone s) ≡ (x ∷ s) ∷ []
    front [] = refl
    front (y ∷ s) = refl

    go : (b : Bool) → eqb x newline ≡ b → (cut newline s ≡ none → lines_of s ≡ lone s) → lines_of (x ∷ s) ≡ (x ∷ s) ∷ []
    go true p f = none-is-some (sym (rw (cut, p) at e))
    go false p f = rw (lines_of, p) (ap (begun x) (f (rest (cut newline s) (rw (cut, p) at e))) ∙ front s)

lone-some : (s : Bytes) → 1 ≤ length s → lone s ≡ s ∷ []
lone-some [] h = absurd (omega arith)
lone-some (x ∷ s) h = refl

-- the first line by the place of the first byte 10
pub line-ends : (s : Bytes) (i : ℕ) → i < length s → cut newline s ≡ some (take i s, drop (i + 1) s) → LineLength s (i + 1)
line-ends s i h found =
    let (m, j) = cut_parts newline s found in
    let l : length (take i s ++ newline ∷ []) ≡ i + 1 = simp (length-append, length-take-le i s (omega arith)) in
    let t : take (i + 1) s ≡ take i s ++ newline ∷ [] =
    ap (take (i + 1)) (j ∙ sym (append_snoc (take i s) newline (drop (i + 1) s))) ∙ take_at (take i s ++ newline ∷ []) (drop (i + 1) s) (i + 1) l in
    record {
      within = omega arith;
      some = λ _. omega arith;
      lines = λ _. ap lines_of j ∙ lines-joined (take i s) (drop (i + 1) s) m ∙ ap (λ (l : Bytes). l ∷ lines_of (drop (i + 1) s)) (sym t);
    }

pub line-runs-out : (s : Bytes) → cut newline s ≡ none → LineLength s (length s)
line-runs-out s absent =
    record {
      within = omega arith;
      some = λ k. k;
      lines = λ k.
          lines-last s absent ∙ lone-some s k
          ∙ ap₂ (λ (l r : Bytes). l ∷ lines_of r) (sym (take_all (length s) s (omega arith))) (sym (done s (length s) (omega arith)));
    }

-- the bytes without byte 10, by the place of the first
bare-by : (line : Bytes) (o : Option Bytes) → content line ≡ o → bare line ≡ elim o as (λ _. Bytes) [ some l ↦ l | none ↦ line ]
bare-by line o e = ap (λ (o : Option Bytes). elim o as (λ _. Bytes) [ some l ↦ l | none ↦ line ]) e

pub bare-inside : (line : Bytes) (i : ℕ) → i < length line → cut newline line ≡ some (take i line, drop (i + 1) line) → (i + 1 ≡ length line → ⊥) → line ≡ bare line
bare-inside line i h found off = let k : i + 1 < length line = omega arith in sym (bare-by line none (rw (found, next line (i + 1) k)))

pub bare-within : (line : Bytes) → length (bare line) ≤ length line
bare-within line = go (content line) refl
  where
    go : (o : Option Bytes) → content line ≡ o → length (bare line) ≤ length line
    go none e = omega (arith, ap length (bare-by line none e))
    go (some l) e = omega (arith, ap length (bare-by line (some l) e), ap length ((content-exact line l).0 e).1, length-append l (newline ∷ []))

-- the comparison of slices is the specification's
pub pointwise-same : (s t : Bytes) → pointwise eqb s t ≡ same s t
pointwise-same [] [] = refl
pointwise-same [] (y ∷ t) = refl
pointwise-same (x ∷ s) [] = refl
pointwise-same (x ∷ s) (y ∷ t) = go (eqb x y) (pointwise-same s t)
  where
    go : (b : Bool) → pointwise eqb s t ≡ same s t → (b && pointwise eqb s t) ≡ (if b then same s t otherwise false)
    go true e = e
    go false e = refl

-- the line `end=`
pub end-told : (line : Bytes) (b : Bool) → b ≡ pointwise eqb (bare line) (bytes "end=") → b ≡ is_end line
unfolding is_end
end-told line b e = e ∙ pointwise-same (bare line) (bytes "end=")

-- what is file up to a place, and what is left
pub record SoFar (input : Bytes) (n : ℕ) (rest : Bytes) : Type 0 where
  pub within : n ≤ length input
  pub left : drop n input ≡ rest
  pub file : file_of (lines_of input) ≡ take n input ++ file_of (lines_of rest)
  pub commands : commands_of (lines_of input) ≡ commands_of (lines_of rest)

module _ {input : Bytes} {n : ℕ} {rest line next : Bytes} (so : SoFar input n rest) (first : FirstLine rest line next) where
  lengths : length input ≡ n + length line + length next
  lengths = let w = so.within in omega (arith, ap length first.bytes, length-append line next, length-drop n input, ap length so.left)

  pub next-within : n + length line ≤ length input
  next-within = omega (arith, lengths)

  next-left : drop (n + length line) input ≡ next
  next-left =
      sym (drop-drop (length line) n input) ∙ ap (drop (length line)) (so.left ∙ first.bytes) ∙ drop-append_seam line next

  next-front : take (n + length line) input ≡ take n input ++ line
  next-front =
      take-add n (length line) input ∙ ap (λ (s : Bytes). take n input ++ take (length line) s) (so.left ∙ first.bytes)
      ∙ ap (λ (s : Bytes). take n input ++ s) (take-append_seam line next)

  pub so_far_more : is_end line ≡ false → SoFar input (n + length line) next
  so_far_more e =
      record {
        within = next-within;
        left = next-left;
        file = so.file ∙ ap (λ (ls : List Bytes). take n input ++ file_of ls) first.lines ∙ (rw e (sym (append_assoc (take n input) line (file_of (lines_of next)))))
            ∙ ap (λ (s : Bytes). s ++ file_of (lines_of next)) (sym next-front);
        commands = so.commands ∙ ap commands_of first.lines ∙ rw e;
      }

  module _ (r : Input) (file : r.file.now ≡ take n input) (commands : r.commands.rest.now ≡ next) where
    pub splits : is_end line ≡ true → Split input r
    splits e =
        let f : length r.file.now ≡ n = ap length file ∙ length-take-le n input so.within in
        record {
          within = omega (arith, lengths, ap length commands);
          front = file ∙ ap (λ (k : ℕ). take k input) (sym f);
          behind =
              let z : length input - length r.commands.rest.now ≡ n + length line = omega (arith, lengths, ap length commands) in
              commands ∙ sym next-left ∙ ap (λ (k : ℕ). drop k input) (sym z);
          file = so.file ∙ ap (λ (ls : List Bytes). take n input ++ file_of ls) first.lines ∙ (rw e (append-nil (take n input))) ∙ sym file;
          commands = so.commands ∙ ap commands_of first.lines ∙ (rw e) ∙ ap lines_of (sym commands);
        }
