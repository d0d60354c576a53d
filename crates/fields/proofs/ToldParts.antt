-- What callers take from a reader's answer: parts where it told any, none where it told none; and the same of a line's frame.
use Rattle.std.proofs.Common.{◌≡◌, sym, ap, ◌∙◌, Some, None}
use Rattle.std.proofs.Math.Option as math
use Rattle.std.proofs.Math.Option.{none, some}
use Rattle.model.specs.Notation.{◌>>=◌}
use Rattle.model.specs.Bytes.{Bytes}
use Rattle.model.specs.Keys.{Key}
use Rattle.model.specs.Lines.{framed}
use Rattle.codes.specs.Enums.{told_by, key_for}
use Rattle.fields.specs.declared.Framed.{Framed}
use Rattle.fields.specs.Told.{Told}
use Rattle.fields.specs.Frames.{bytes_between, FrameTold}

module _ {A L R : Type 0} {numbers : A → R} {line : A → math.Option L} {o : math.Option L} where
  pub unread : Told numbers line o None → o ≡ none
  unread told = go told.parts told.read told.told
    where
      go : (p : math.Option A) → o ≡ (p >>= line) → None ≡ told_by numbers p → o ≡ none
      go none f g = f
      go (some a) f g = absurd (cc g)

  pub read_as : {r : R} → Told numbers line o (Some r) → (a : A) × (o ≡ line a) × (r ≡ numbers a)
  read_as {r} told = go told.parts told.read told.told
    where
      go : (p : math.Option A) → o ≡ (p >>= line) → Some r ≡ told_by numbers p → (a : A) × (o ≡ line a) × (r ≡ numbers a)
      go none f g = absurd (cc g)
      go (some a) f g = (a, f, cc g)

pub not-framed : (line : Bytes) → FrameTold line None → framed line ≡ none
not-framed line told = unread told.frame

pub is_framed : (line : Bytes) (r : Framed) → FrameTold line (Some r) → (k : Key) × (r.key ≡ key_for k) × (framed line ≡ some (k, bytes_between line r.start r.end))
is_framed line r told =
    let ((k, start, end), f, g) = read_as told.frame in
    (k, ap (λ (x : Framed). x.key) g, f ∙ ap (λ (x : Framed). some (k, bytes_between line x.start x.end)) (sym g))
