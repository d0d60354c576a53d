-- Rule code: the tokens of a policy as bytes, each its kind and what it carries, and a byte that ends them.
use Rattle.std.specs.Prelude.{ℕ, zero, suc, ◌+◌, ◌*◌, ◌/◌, ◌%◌, ◌≤◌, ◌≡◌, Result, Ok, Err, is_err, IfOk, List, [], ◌∷◌, ◌++◌, length, drop}
use Rattle.std.proofs.Math.Option.{some}
use Rattle.model.specs.Notation.{is_none, any_of, each}
use Rattle.model.specs.Bytes.{Bytes}
use Rattle.model.specs.Tokens.{Token, name, int, str, truth, operator, mark, tokens_of}
use Rattle.model.specs.Declarations.{Declarations, attribute_number}
use Rattle.model.specs.Refusals.{unknown_name}
use Rattle.codes.specs.Codes.{end_code, kind_of}
use Rattle.model.specs.Standing.{WellDeclared}
use Rattle.rows.specs.Rows.{AttributeRows, number_or}
use Rattle.tokens.specs.declared.Encoded.{Encoded}
use Rattle.tokens.specs.declared.BadToken.{BadToken}

-- the number of no attribute
abbrev pub unknown_number : ℕ
unknown_number = 255

-- k bytes of a number, low byte first
abbrev pub low_bytes : ℕ → ℕ → Bytes
low_bytes zero n = []
low_bytes (suc k) n = n % 256 ∷ low_bytes k (n / 256)

-- what stands behind the kind of a token: the number of its attribute, an int's four bytes, the length and the bytes of a str
abbrev pub carried_bytes : Declarations → Token → Bytes
carried_bytes D (name s n) = number_or unknown_number (attribute_number D s n) ∷ []
carried_bytes D (int n) = low_bytes 4 n
carried_bytes D (str s) = length s ∷ s
carried_bytes D (truth t) = []
carried_bytes D (operator o) = []
carried_bytes D (mark m) = []

abbrev pub encode_token : Declarations → Token → Bytes
encode_token D t = kind_of t ∷ carried_bytes D t

abbrev pub rule_code : Declarations → List Token → Bytes
rule_code D ts = each (encode_token D) ts ++ (end_code ∷ [])

-- from `at` on, code holds the tokens ts
pub record Coded (D : Declarations) (code : Bytes) (at : ℕ) (ts : List Token) : Type 0 where
  pub rest : Bytes
  pub from : drop at code ≡ rule_code D ts ++ rest

-- how many bytes a token takes
abbrev pub size : Token → ℕ
size (name s n) = 2
size (int n) = 5
size (str s) = length s + 2
size (truth t) = 1
size (operator o) = 1
size (mark m) = 1

-- `after` is `before` with the code of the tokens ts at its front, and r says how long it is and whether some name is undeclared
pub record CodeOf (D : Declarations) (ts : List Token) (before after : Bytes) (r : Encoded) : Type 0 where
  pub code : after ≡ rule_code D ts ++ drop (length (rule_code D ts)) before
  pub len : r.len ≡ length (rule_code D ts)
  pub unknown : r.unknown ≡ any_of (unknown_name D) ts

-- how far the code reaches that was written
abbrev pub code_length : Result Encoded BadToken → ℕ
code_length (Ok r) = r.len
code_length (Err r) = r.len

-- r is what is found in the policy s; where it has tokens, their code is written, whatever declarations the rows are those of
pub record Encodes (s : Bytes) (attributes : List ℕ) (before after : Bytes) (r : Result Encoded BadToken) : Type 0 where
  pub bad : is_err r ≡ is_none (tokens_of s)
  pub within : code_length r ≤ 3 * length s + 3
  pub long : length after ≡ length before
  pub behind : drop (code_length r) after ≡ drop (code_length r) before
  pub tokens : (D : Declarations) → WellDeclared D → AttributeRows attributes D → (ts : List Token) → tokens_of s ≡ some ts
      → IfOk r (λ e. CodeOf D ts before after e)
