-- Bytes, quoted texts and lines.
use Rattle.std.specs.Prelude.{ℕ, Bool, true, false, ◌&&◌, List, [], ◌∷◌, eqb, leb}
use Prim.Native.String.{String, [] as empty, ◌∷◌ as ◌then◌}
use Prim.Native.Char.{Char, code}
use Rattle.std.proofs.Math.Option.{Option, none, some}
use Rattle.model.specs.Notation.{if◌then◌otherwise◌, ◌>>=◌, only_if, is_empty}

-- a list of bytes: numbers below 256
abbrev pub Bytes : Type 0
Bytes = List ℕ

-- the bytes of a quoted text
abbrev pub bytes : String → Bytes
bytes empty = []
bytes (c then s) = code c ∷ bytes s

-- the byte that ends a line
abbrev pub newline : ℕ
newline = 10

-- whether a byte is that of a character, and whether it is in a range of characters
abbrev pub is_byte : Char → ℕ → Bool
is_byte c b = eqb b (code c)

abbrev pub in_range : Char → Char → ℕ → Bool
in_range lo hi b = leb (code lo) b && leb b (code hi)

-- whether two lists of bytes are the same
abbrev pub same : Bytes → Bytes → Bool
same [] [] = true
same [] (y ∷ ys) = false
same (x ∷ xs) [] = false
same (x ∷ xs) (y ∷ ys) = if eqb x y then same xs ys otherwise false

-- what stands before the first byte b and what stands after it; none where there is no b
abbrev pub cut : ℕ → Bytes → Option (Bytes × Bytes)
cut b [] = none
cut b (x ∷ xs) = if eqb x b then some ([], xs) otherwise (cut b xs >>= λ (l, r). some (x ∷ l, r))

abbrev pub cut_at : Char → Bytes → Option (Bytes × Bytes)
cut_at c s = cut (code c) s

-- what stands behind a text at the front; none where the text is not there
abbrev pub behind : Bytes → Bytes → Option Bytes
behind [] s = some s
behind (t ∷ ts) [] = none
behind (t ∷ ts) (x ∷ xs) = if eqb x t then behind ts xs otherwise none

-- a byte more at the front of the first line
abbrev pub begun : ℕ → List Bytes → List Bytes
begun x [] = (x ∷ []) ∷ []
begun x (l ∷ ls) = (x ∷ l) ∷ ls

-- "Lines end with byte 10": the lines, each with its byte 10; what stands behind the last byte 10 is a line without one
abbrev pub lines_of : Bytes → List Bytes
lines_of [] = []
lines_of (x ∷ xs) = if eqb x newline then (x ∷ []) ∷ lines_of xs otherwise begun x (lines_of xs)

-- a line without its byte 10; none where it has none, or bytes behind it
abbrev pub content : Bytes → Option Bytes
content s = cut newline s >>= λ (l, r). only_if (is_empty r) l

-- the value whose word these bytes are, among those listed
abbrev pub one_of : {A : Type 0} → (A → Bytes) → List A → Bytes → Option A
one_of word [] s = none
one_of word (a ∷ rest) s = if same (word a) s then some a otherwise one_of word rest s
