-- The frame of a line, step by step as the code reads it.
use Rattle.std.proofs.Common.{◌≡◌, refl, sym, ◌∙◌, subst, ℕ, ◌+◌, ◌≤◌, ◌<◌, Option, Some, None, length, take, drop, arith}
use borrow.Author.Tests.{le-leb, lt-leb}
use lib.Seq.{length-take-le}
use Rattle.std.proofs.Math.Option as math
use Rattle.std.proofs.Math.Option.{none, some}
use Rattle.model.specs.Bytes.{Bytes, cut, content}
use Rattle.model.specs.Keys.{Key, read_key}
use Rattle.model.specs.Lines.{read_keyed, framed}
use Rattle.codes.specs.Enums.{told_by, key_for}
use Rattle.text.proofs.LoopPlaces.{next, done}
use Rattle.fields.specs.declared.Framed.{Framed}
use Rattle.fields.specs.Frames.{FrameTold}
use Rattle.fields.proofs.CutParts.{cut_within, cut_behind, behind-front}
use Rattle.fields.proofs.Forms.{◌then◌, parts_at}

module _ (line : Bytes) where
  pub unframed : framed line ≡ none → FrameTold line None
  unframed n = record { frame = record { parts = none; read = n; told = refl }; ordered = tt; within = tt }

  pub no_end : cut 10 line ≡ none → FrameTold line None
  unfolding framed
  no_end c = unframed (rw c)

  module _ {e : ℕ} (first : (e < length line) × (cut 10 line ≡ some (take e line, drop (e + 1) line))) where
    pub more_behind : e + 1 < length line → FrameTold line None
    unfolding framed
    more_behind h = unframed (rw (first.1, next line (e + 1) h))

    module _ (last : length line ≤ e + 1) where
      long : length (take e line) ≡ e
      long = length-take-le e line (omega arith)

      content-front : content line ≡ some (take e line)
      content-front = rw (first.1, done line (e + 1) last)

      pub too_long : 255 < e → FrameTold line None
      unfolding framed
      too_long h = unframed (rw (content-front, long, lt-leb e 255 h))

      module _ (fits : e ≤ 255) where
        keyed : framed line ≡ read_keyed (take e line)
        unfolding framed
        keyed = rw (content-front, long, le-leb e 255 fits)

        -- the key before the first `=`, and the places between which the fields stand
        pub keyed_told : {r : Option Framed} → r ≡ (parts_at 61 (take e line) then λ (k, fields). told_by key_for (read_key k) then λ key. Some (record { key = key; start = length k + 1; end = e }))
            → FrameTold line r
        unfolding read_keyed
        keyed_told h = subst (FrameTold line) (sym h) (go (cut 61 (take e line)) refl)
          where
            known : {k f : Bytes} → cut 61 (take e line) ≡ some (k, f) → (o : math.Option Key) → read_key k ≡ o
                → FrameTold line (told_by key_for o then λ key. Some (record { key = key; start = length k + 1; end = e }))
            known c none n = unframed (keyed ∙ rw (c, n))
            known {k} {f} c (some x) n =
                let b = cut_within 61 (take e line) k f c in
                record {
                  frame = record {
                    parts = some (x, length k + 1, e);
                    read = keyed ∙ rw (c, n, cut_behind 61 (take e line) k f c, behind-front (length k + 1) e line);
                    told = refl;
                  };
                  ordered = omega (arith, long);
                  within = omega arith;
                }

            go : (o : math.Option (Bytes × Bytes)) → cut 61 (take e line) ≡ o
                → FrameTold line (told_by (λ p. p) o then λ (k, fields). told_by key_for (read_key k) then λ key. Some (record { key = key; start = length k + 1; end = e }))
            go none c = unframed (keyed ∙ rw c)
            go (some (k, f)) c = known c (read_key k) refl
