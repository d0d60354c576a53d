-- The code of one token, written at a place.
use Rattle.std.specs.Prelude.{ℕ, ◌+◌, ◌-◌, ◌≤◌, ◌≡◌, true, false, Some, None, List, [], ◌∷◌, length, take, drop}
use Rattle.model.specs.Notation.{is_none}
use Rattle.model.specs.Bytes.{Bytes}
use Rattle.model.specs.Names.{is_name}
use Rattle.model.specs.Attributes as attributes
use Rattle.model.specs.Tokens as model
use Rattle.model.specs.Tokens.{str, is_token}
use Rattle.model.specs.Declarations.{Declarations, attribute_number}
use Rattle.model.specs.Refusals.{unknown_name}
use Rattle.codes.specs.Codes.{name_code}
use Rattle.codes.specs.Enums.{source_for}
use Rattle.codes.specs.declared.Source.{Source}
use Rattle.text.specs.declared.Packed.{Packed}
use Rattle.text.specs.Packing.{packed_of}
use Rattle.model.specs.Standing.{WellDeclared}
use Rattle.rows.specs.Rows.{AttributeRows, number_or}
use Rattle.output.specs.Laid.{Laid}
use Rattle.tokens.specs.declared.Encoded.{Encoded}
use Rattle.tokens.specs.declared.Placed.{Placed}
use Rattle.tokens.specs.RuleCode.{unknown_number, encode_token, size}
use Rattle.tokens.specs.TokenAt.{code_of}

-- the name of an attribute is written by its number, whatever declarations the rows are those of
pub record NamePut (rows : List ℕ) (source : Source) (name : Packed) (before : Bytes) (at : ℕ) (after : Bytes) (r : Encoded) : Type 0 where
  pub byte : ℕ
  pub laid : Laid before at (name_code ∷ byte ∷ []) after r.len
  pub number : (D : Declarations) → WellDeclared D → AttributeRows rows D → (s : attributes.Source) (n : Bytes) → is_name n ≡ true
      → source ≡ source_for s → packed_of n ≡ name
      → (byte ≡ number_or unknown_number (attribute_number D s n)) × (r.unknown ≡ is_none (attribute_number D s n))

-- t is the token u of the policy s: the text of a str stands before the last byte that it takes
pub record TokenStands (s : Bytes) (t : Placed) (u : model.Token) : Type 0 where
  pub well : is_token u ≡ true
  pub code : t.token ≡ Some (code_of u)
  pub within : t.next ≤ length s
  pub text : (v : Bytes) → u ≡ str v → (length v + 1 ≤ t.next) × (take (length v) (drop (t.next - 1 - length v) s) ≡ v)

-- t is the end or a token, and there is room for its code
pub data Given (s : Bytes) (t : Placed) (at n : ℕ) : Type 0 where
  ended : t.token ≡ None → at ≤ n → Given s t at n
  token : (u : model.Token) → TokenStands s t u → at + size u ≤ n → Given s t at n

-- the code of a token is written, and none for the end
pub record Wrote (s : Bytes) (attributes : List ℕ) (t : Placed) (before : Bytes) (at : ℕ) (after : Bytes) (r : Encoded) : Type 0 where
  pub bytes : Bytes
  pub laid : Laid before at bytes after r.len
  pub end : t.token ≡ None → (bytes ≡ []) × (r.unknown ≡ false)
  pub long : (u : model.Token) → TokenStands s t u → length bytes ≡ size u
  pub token : (D : Declarations) → WellDeclared D → AttributeRows attributes D → (u : model.Token) → TokenStands s t u
      → (bytes ≡ encode_token D u) × (r.unknown ≡ unknown_name D u)
