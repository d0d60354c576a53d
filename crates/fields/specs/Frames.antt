-- The frame of a line: its key, and where its fields stand; the sign of an edit.
use Rattle.std.specs.Prelude.{ℕ, Option, Some, None, IfSome, ◌-◌, ◌≤◌, ◌≡◌, Bool, true, false, length, take, drop}
use Rattle.std.proofs.Math.Option.{some}
use Rattle.model.specs.Notation.{only_if}
use Rattle.model.specs.Bytes.{Bytes}
use Rattle.model.specs.Keys.{Key}
use Rattle.model.specs.Lines.{framed}
use Rattle.model.specs.Refusals.{plus_line, minus_line}
use Rattle.codes.specs.Enums.{key_for}
use Rattle.fields.specs.declared.Framed.{Framed}
use Rattle.fields.specs.declared.Sign.{Sign}
use Rattle.fields.specs.declared.Sign.TheVariants.{Plus, Minus}
use Rattle.fields.specs.Told.{Told}

abbrev pub frame_numbers : Key × ℕ × ℕ → Framed
frame_numbers (k, start, end) = record { key = key_for k; start = start; end = end }

-- the bytes between two places
abbrev pub bytes_between : Bytes → ℕ → ℕ → Bytes
bytes_between s start end = take (end - start) (drop start s)

-- the key, and the places between which the fields stand, where a line is so framed
pub record FrameTold (line : Bytes) (r : Option Framed) : Type 0 where
  pub frame : Told frame_numbers (λ (k, start, end). some (k, bytes_between line start end)) (framed line) r
  pub ordered : IfSome r (λ f. f.start ≤ f.end)
  pub within : IfSome r (λ f. f.end ≤ length line)

abbrev pub is_plus : Option Sign → Bool
is_plus None = false
is_plus (Some Plus) = true
is_plus (Some Minus) = false

abbrev pub is_minus : Option Sign → Bool
is_minus None = false
is_minus (Some Plus) = false
is_minus (Some Minus) = true

-- the line stands behind the sign
pub record Signed (edit : Bytes) (r : Option Sign) : Type 0 where
  pub plus : plus_line edit ≡ only_if (is_plus r) (drop 1 edit)
  pub minus : minus_line edit ≡ only_if (is_minus r) (drop 1 edit)
  pub within : IfSome r (λ s. 1 ≤ length edit)
