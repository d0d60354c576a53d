-- The token at a place of a policy.
use Rattle.std.specs.Prelude.{ℕ, suc, ◌-◌, Bool, true, false, Option, Some, None, [], ◌∷◌, length, drop}
use Rattle.std.proofs.Math.Option.{none, some}
use Rattle.model.specs.Notation.{◌>>=◌}
use Rattle.model.specs.Bytes.{Bytes, is_byte}
use Rattle.model.specs.Tokens as model
use Rattle.model.specs.Tokens.{name, int, str, truth, operator, mark, Read, run, read_word, read_token}
use Rattle.codes.specs.Codes.{kind_of}
use Rattle.codes.specs.Enums.{source_for}
use Rattle.text.specs.Packing.{packed_of}
use Rattle.tokens.specs.declared.Token.{Token}
use Rattle.tokens.specs.declared.Token.TheVariants.{Name, Int, Str, Sign}
use Rattle.tokens.specs.declared.Placed.{Placed}

-- a token as the code has it: the source and the packed bytes of a name, the value of an int, the length of a str, the kind of any other
abbrev pub code_of : model.Token → Token
code_of (name s n) = Name (source_for s) (packed_of n)
code_of (int n) = Int n
code_of (str s) = Str (length s)
code_of (truth t) = Sign (kind_of (truth t))
code_of (operator o) = Sign (kind_of (operator o))
code_of (mark m) = Sign (kind_of (mark m))

-- a token or none, and the place behind it
abbrev pub placed : Option Token → ℕ → Placed
placed t next = record { token = t; next = next }

-- the end of n bytes
abbrev pub end_at : ℕ → Option Placed
end_at n = Some (placed None n)

-- a token that its kind tells
abbrev pub sign_at : ℕ → ℕ → Option Placed
sign_at kind next = Some (placed (Some (Sign kind)) next)

-- what is read in the last bytes of n
abbrev pub coded_read : ℕ → Read → Option Placed
coded_read n none = None
coded_read n (some r) = Some (placed (Some (code_of r.0)) (n - length r.1))

-- without the spaces at the front
abbrev pub unspaced : Bytes → Bytes
unspaced [] = []
unspaced (x ∷ xs) = elim (is_byte " " x) [ true ↦ unspaced xs | false ↦ x ∷ xs ]

-- the token at the front of the last bytes of n
unfoldable pub token_in : ℕ → Bytes → Option Placed
token_in n [] = end_at n
token_in n (x ∷ xs) = coded_read n (read_token (x ∷ xs))

-- the token from a place on; places past the end are the end
unfoldable pub token_at : Bytes → ℕ → Option Placed
token_at s at = token_in (length s) (unspaced (drop at s))

-- how many bytes at the front pass
abbrev pub lead : (ℕ → Bool) → Bytes → ℕ
lead p [] = 0
lead p (x ∷ xs) = elim (p x) [ true ↦ suc (lead p xs) | false ↦ 0 ]

-- the word at the front of the last bytes of n
unfoldable pub word_token : ℕ → Bytes → Option Placed
word_token n s = coded_read n (read_word (run s).0 >>= λ t. some (t, (run s).1))
