-- Strs and words at the front of the last bytes of n.
use Prim.Native.Nat.{ℕ, ◌+◌, ◌-◌}
use mathlib.Core.Path.{◌≡◌, refl, sym, ap, ap₂, ◌∙◌}
use mathlib.Core.Bool.{true, false}
use mathlib.Core.Option as math
use mathlib.Core.Option.{none, some}
use native.Mathlib.Omega.{arith}
use Rattle.std.specs.Prelude.{Option, Some, None}
use lib.ListN.{length, take, drop, length-drop}
use lib.Seq.{length-take-le}
use Rattle.model.specs.Notation.{◌>>=◌}
use Rattle.model.specs.Bytes.{Bytes}
use Rattle.model.specs.Atoms.{is_text}
use Rattle.model.specs.Tokens as model
use Rattle.model.specs.Tokens.{word_byte, read_word, read_text}
use Rattle.codes.specs.Enums.{told_by}
use Rattle.text.specs.Parts.{FirstAt}
use Rattle.tokens.specs.declared.Token.{Token}
use Rattle.tokens.specs.declared.Token.TheVariants.{Str}
use Rattle.tokens.specs.TokenAt.{code_of, placed, coded_read, lead, word_token}
use Rattle.tokens.proofs.ByteRuns.{run-lead}

-- a str, by the place of its second quote
module _ (n : ℕ) (s : Bytes) (r : Option ℕ) (first : FirstAt 34 s r) where
  pub no_end : r ≡ None → None ≡ coded_read n (read_text s)
  unfolding read_text
  no_end e = rw (first.absent e)

  module _ (d : ℕ) (e : r ≡ Some d) where
    pub no_text : is_text (take d s) ≡ false → None ≡ coded_read n (read_text s)
    unfolding read_text
    no_text f = rw ((first.found d e).1, f)

    pub text : is_text (take d s) ≡ true → Some (placed (Some (Str d)) (n - (length s - (d + 1)))) ≡ coded_read n (read_text s)
    unfolding read_text
    text f =
        let w = (first.found d e).0 in
        rw ((first.found d e).1, f)
        (ap₂ (λ (k l : ℕ). Some (placed (Some (Str k)) (n - l))) (sym (length-take-le d s (omega arith))) (sym (length-drop (d + 1) s)))

-- a word
module _ (n : ℕ) (s : Bytes) where
  abbrev word_of : math.Option model.Token
  word_of = read_word (take (lead word_byte s) s)

  front : word_token n s ≡ coded_read n (word_of >>= λ t. some (t, drop (lead word_byte s) s))
  unfolding word_token
  front = ap (λ (r : Bytes × Bytes). coded_read n (read_word r.0 >>= λ t. some (t, r.1))) (run-lead s)

  pub no_word : None ≡ told_by code_of word_of → None ≡ word_token n s
  no_word e = go word_of e ∙ sym front
    where
      go : (o : math.Option model.Token) → None ≡ told_by code_of o → None ≡ coded_read n (o >>= λ t. some (t, drop (lead word_byte s) s))
      go none f = refl
      go (some t) f = cc

  pub word : (v : Token) → Some v ≡ told_by code_of word_of → Some (placed (Some v) (n - (length s - lead word_byte s))) ≡ word_token n s
  word v e = go word_of e ∙ sym front
    where
      go : (o : math.Option model.Token) → Some v ≡ told_by code_of o
          → Some (placed (Some v) (n - (length s - lead word_byte s))) ≡ coded_read n (o >>= λ t. some (t, drop (lead word_byte s) s))
      go none f = cc
      go (some t) f =
          let z : v ≡ code_of t = cc in
          ap₂ (λ (u : Token) (l : ℕ). Some (placed (Some u) (n - l))) z (sym (length-drop (lead word_byte s) s))
