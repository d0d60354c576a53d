-- How long the code of a policy is at most: three bytes for each of its bytes, and three.
use Prim.Native.Nat.{ℕ, zero, suc, ◌+◌, ◌*◌, ◌≤◌, ◌<◌}
use mathlib.Core.Path.{◌≡◌, sym, ap, ◌∙◌}
use mathlib.Core.List.{List, [], ◌∷◌}
use mathlib.Core.Option.{some, some-injective}
use native.Mathlib.Omega.{arith}
use lib.ListN.{length, drop, length-append}
use Rattle.model.specs.Notation.{each}
use Rattle.model.specs.Bytes.{Bytes}
use Rattle.model.specs.Tokens.{Token, tokens_within, tokens_of}
use Rattle.model.specs.Declarations.{Declarations}
use Rattle.model.proofs.WordTables.{none-is-some}
use Rattle.model.proofs.Options.{bound}
use Rattle.codes.specs.Codes.{end_code}
use Rattle.tokens.specs.RuleCode.{encode_token, rule_code, size}
use Rattle.tokens.proofs.RuleCode.{size-carried}
use Rattle.tokens.proofs.Seen.{CodeRoom, Seen, ended, refused, read, seen}

module _ (D : Declarations) (s : Bytes) where
  -- the code of the tokens from a place on, behind what is written when the place is reached
  abbrev Fits : ℕ → ℕ → Type 0
  Fits at len = (ts : List Token) → tokens_within (length (drop at s)) (drop at s) ≡ some ts → len + length (each (encode_token D) ts) ≤ 3 * length s + 2

  step : (at len : ℕ) → at ≤ length s → CodeRoom s at len → Seen s at → ((next l : ℕ) → at < next → next ≤ length s → CodeRoom s next l → Fits next l) → Fits at len
  step at len w r (ended p q) more ts e =
      let z : [] ≡ ts = some-injective _ _ (sym (q (length (drop at s)) (omega arith)) ∙ e) in
      let f = r.few in
      omega (arith, ap (λ (us : List Token). length (each (encode_token D) us)) z)
  step at len w r (refused p q) more ts e = none-is-some (sym (q (length (drop at s)) (omega arith)) ∙ e)
  step at len w r (read t next x) more ts e =
      bound {o = tokens_within (length (drop next s)) (drop next s)} (sym (x.tokens (length (drop at s)) (length (drop next s)) (omega arith) (omega arith)) ∙ e) λ us f g.
      let h = more next (len + size t) x.after x.within (x.room len r) us f in
      let z : t ∷ us ≡ ts = some-injective _ _ g in
      omega (arith, size-carried D t, sym (ap (λ (us : List Token). length (each (encode_token D) us)) z) ∙ length-append (encode_token D t) (each (encode_token D) us))

  fits : (k at len : ℕ) → length s ≤ at + k → at ≤ length s → CodeRoom s at len → Fits at len
  fits zero at len h w r = step at len w r (seen s at) (λ next l a b c. absurd (omega arith))
  fits (suc k) at len h w r = step at len w r (seen s at) (λ next l a b c. fits k next l (omega arith) b c)

  pub code-bound : (ts : List Token) → tokens_of s ≡ some ts → length (rule_code D ts) ≤ 3 * length s + 3
  unfolding tokens_of
  code-bound ts e =
      let h = fits (length s) 0 0 (omega arith) (omega arith) (record { few = omega arith; fewer = λ _. omega arith }) ts e in
      omega (arith, length-append (each (encode_token D) ts) (end_code ∷ []))
