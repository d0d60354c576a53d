-- What a line calls, by its sign, or by `try=` and the hex behind it. Assumes nothing.
use Prim.Native.Nat.{ℕ}
use mathlib.Core.Path.{◌≡◌, refl, sym, ap, ap₂, ◌∙◌}
use mathlib.Core.Bool.{true, false, not}
use mathlib.Core.List.{◌++◌}
use mathlib.Core.Option.{Option, none, some}
use lib.Dec.{eqb}
use lib.ListN.{take, drop, take-append-drop}
use lib.Pointwise.{pointwise}
use lib.Seq.{take_at}
use Rattle.std.proofs.Common as std
use Rattle.std.proofs.Common.{Some, None, Ok, Err, Result}
use Rattle.std.specs.Result.{result_ok}
use Rattle.model.specs.Notation.{◌>>=◌, ◌or_else◌, only_if, is_none}
use Rattle.model.specs.Bytes.{Bytes, bytes, behind}
use Rattle.model.specs.Ledger.{Call}
use Rattle.model.specs.Gate.{bare, hex_pairs, call_of}
use Rattle.model.proofs.WordTables.{false-is-true, same-eq}
use Rattle.model.proofs.Options.{no_result}
use Rattle.model.proofs.Cuts.{behind-parts, behind-exact}
use Rattle.fields.specs.declared.Sign.{Sign}
use Rattle.fields.specs.declared.Sign.TheVariants.{Plus, Minus}
use Rattle.fields.specs.Frames.{Signed, is_plus, is_minus}
use Rattle.text.specs.declared.NoPair.{NoPair}
use Rattle.text.specs.Hex.{leading, Unhexed, all_pairs, pairs_in}
use Rattle.text.proofs.HexPairs.{leading-pairs}
use Rattle.office.proofs.InputLines.{pointwise-same}

-- the call of a line whose sign and the bytes behind it are as told
abbrev told_call : Bytes → Option Bytes → Option Bytes → Option Call
told_call line p m =
    ((p or_else m) >>= λ l. some (Call.edit line))
    or_else (behind (bytes "try=") (bare line) >>= λ hex. hex_pairs hex >>= λ block. some (Call.request block))

module _ (line : Bytes) {r : std.Option Sign} (signed : Signed line r) where
  by-sign : call_of line ≡ told_call line (only_if (is_plus r) (drop 1 line)) (only_if (is_minus r) (drop 1 line))
  unfolding call_of
  by-sign = ap₂ (told_call line) signed.plus signed.minus

-- a sign at the front
pub signed-call : (line : Bytes) (r : std.Option Sign) → Signed line r → std.is_some r ≡ true → call_of line ≡ some (Call.edit line)
signed-call line (Some Plus) signed e = by-sign line signed
signed-call line (Some Minus) signed e = by-sign line signed
signed-call line None signed e = false-is-true e

-- no sign: `try=` and hex, or nothing
pub unsigned-call : (line : Bytes) (r : std.Option Sign) → Signed line r → std.is_some r ≡ false
    → call_of line ≡ (behind (bytes "try=") (bare line) >>= λ hex. hex_pairs hex >>= λ block. some (Call.request block))
unsigned-call line (Some s) signed e = false-is-true (sym e)
unsigned-call line None signed e = by-sign line signed

-- all pairs, and how many; or not
all-read : (u : Result ℕ NoPair) {n : ℕ} → result_ok u ≡ Some n → (all_pairs u ≡ true) × (pairs_in u ≡ n)
all-read (Ok m) e = (refl, cc)
all-read (Err p) e = cc

not-all : (u : Result ℕ NoPair) → result_ok u ≡ None → all_pairs u ≡ false
not-all (Ok m) e = cc
not-all (Err p) e = refl

-- whether `try=` stands at the front, and what it calls by the hex behind it
module _ (line : Bytes) (r : std.Option Sign) (signed : Signed line r) (none-there : std.is_some r ≡ false) (s : Bytes) (is-bare : s ≡ bare line) where
  by-try : {o : Option Bytes} → behind (bytes "try=") s ≡ o → call_of line ≡ (o >>= λ hex. hex_pairs hex >>= λ block. some (Call.request block))
  by-try e =
      unsigned-call line r signed none-there
      ∙ ap (λ (o : Option Bytes). o >>= λ hex. hex_pairs hex >>= λ block. some (Call.request block)) (ap (behind (bytes "try=")) (sym is-bare) ∙ e)

  pub not-try : pointwise eqb (take 4 s) (bytes "try=") ≡ false → call_of line ≡ none
  not-try f =
      by-try
      (no_result (behind (bytes "try=") s) λ t e.
      let p : take 4 s ≡ bytes "try=" = ap (take 4) (behind-parts (bytes "try=") s e) in
      false-is-true (sym f ∙ ap (λ (k : Bytes). pointwise eqb k (bytes "try=")) p))

  module _ (hex : Bytes) (there : pointwise eqb (take 4 s) (bytes "try=") ≡ true) (rest : hex ≡ drop 4 s) where
    try-call : {o : Option Bytes} → hex_pairs hex ≡ o → call_of line ≡ (o >>= λ block. some (Call.request block))
    try-call e =
        by-try
        ((behind-exact (bytes "try=") s hex).1
        (sym (take-append-drop 4 s) ∙ ap₂ ◌++◌ (same-eq (take 4 s) (bytes "try=") (sym (pointwise-same (take 4 s) (bytes "try=")) ∙ there)) (sym rest)))
        ∙ ap (λ (o : Option Bytes). o >>= λ block. some (Call.request block)) e

    -- the hex read into a buffer
    module _ {before after : Bytes} {u : Result ℕ NoPair} (unhexed : Unhexed hex before after u) where
      pub request-read : {n : ℕ} → result_ok u ≡ Some n → call_of line ≡ some (Call.request (take n after))
      request-read {n} is = go (hex_pairs hex) refl
        where
          go : (o : Option Bytes) → hex_pairs hex ≡ o → call_of line ≡ some (Call.request (take n after))
          go none p = false-is-true (sym (ap (λ (o : Option Bytes). not (is_none o)) p) ∙ sym unhexed.all ∙ (all-read u is).0)
          go (some block) p =
              let t : take n after ≡ block =
              ap (take n) unhexed.bytes ∙ take_at (leading hex) _ n (sym unhexed.count ∙ (all-read u is).1) ∙ leading-pairs hex block p in
              try-call p ∙ ap (λ (b : Bytes). some (Call.request b)) (sym t)

      pub request-bad : result_ok u ≡ None → call_of line ≡ none
      request-bad is = go (hex_pairs hex) refl
        where
          go : (o : Option Bytes) → hex_pairs hex ≡ o → call_of line ≡ none
          go none p = try-call p
          go (some block) p = false-is-true (sym (not-all u is) ∙ unhexed.all ∙ ap (λ (o : Option Bytes). not (is_none o)) p)
