-- What the words of a section stand for: rows of four words, found by their words along chains. Rows are numbered from 0. A section of
-- n rows has 256 words of firsts, n words of nexts, and 4n words of rows.
use Rattle.std.specs.Prelude.{ℕ, suc, ◌+◌, ◌-◌, ◌*◌, ◌/◌, ◌%◌, ◌≤◌, ◌<◌, ◌≡◌, ◌⊎◌, Bool, ◌&&◌, List, Option, Some, None, IfSome, eqb, ltb, leb, length, get_or, set}
use Rattle.std.proofs.Math.Option as math
use Rattle.std.proofs.Math.Option.{none, some}
use Rattle.model.specs.Notation.{if◌then◌otherwise◌, ◌>>=◌, nth}

-- how many chains a section has
abbrev pub chains : ℕ
chains = 256

-- how many rows a section of so many words has
abbrev pub rows_in : ℕ → ℕ
rows_in words = (words - chains) / 5

-- where the next of row k stands, and the first of its four words, in a section of n rows
abbrev pub next_place : ℕ → ℕ
next_place k = chains + k

abbrev pub row_place : ℕ → ℕ → ℕ
row_place n k = chains + n + 4 * k

-- the four words of a row
abbrev pub Row : Type 0
Row = ℕ × ℕ × ℕ × ℕ

-- the chain that a row is in
unfoldable pub hash_of : Row → ℕ
hash_of w = (31 * (w.0 % 256) + w.1 % 233 + 5 * (w.2 % 241) + 7 * (w.3 % 239)) % chains

-- four words from a place on are a row's
unfoldable pub is_at : List ℕ → ℕ → Row → Bool
is_at s place w =
    eqb (get_or s place 0) w.0 && eqb (get_or s (place + 1) 0) w.1 && eqb (get_or s (place + 2) 0) w.2 && eqb (get_or s (place + 3) 0) w.3

-- the number of the row that a word of a chain leads to, if it is below `top`
abbrev pub link_of : ℕ → ℕ → Option ℕ
link_of v top = if ltb 0 v && leb v top then Some (v - 1) otherwise None

-- which rows are there: none where nobody is
abbrev pub Rows : Type 0
Rows = ℕ → math.Option Row

-- row k is there, and in the chain h
abbrev pub InChain : Rows → ℕ → ℕ → Type 0
InChain rows h k = (w : Row) × (rows k ≡ some w) × (hash_of w ≡ h)

-- v is 1 + the greatest number below `top` in the chain h, or 0 where there is none
pub record Greatest (rows : Rows) (h top v : ℕ) : Type 0 where
  pub within : v ≤ top
  pub inside : (k : ℕ) → v ≡ suc k → InChain rows h k
  pub above : (k : ℕ) → v ≤ k → k < top → InChain rows h k → ⊥

-- the words of row k are those of w, the first of which is not 0
pub record RowWritten (s : List ℕ) (n k : ℕ) (w : Row) : Type 0 where
  pub there : w.0 ≡ 0 → ⊥
  pub w0 : get_or s (row_place n k) 0 ≡ w.0
  pub w1 : get_or s (row_place n k + 1) 0 ≡ w.1
  pub w2 : get_or s (row_place n k + 2) 0 ≡ w.2
  pub w3 : get_or s (row_place n k + 3) 0 ≡ w.3

-- the section s is the index of `rows`, whose numbers are below n
pub record Indexed (s : List ℕ) (n : ℕ) (rows : Rows) : Type 0 where
  pub size : length s ≡ chains + 5 * n
  pub few : (k : ℕ) → n ≤ k → rows k ≡ none
  pub written : (k : ℕ) (w : Row) → rows k ≡ some w → RowWritten s n k w
  pub absent : (k : ℕ) → k < n → rows k ≡ none → get_or s (row_place n k) 0 ≡ 0
  pub firsts : (h : ℕ) → h < chains → Greatest rows h n (get_or s h 0)
  pub nexts : (k : ℕ) (w : Row) → rows k ≡ some w → Greatest rows (hash_of w) k (get_or s (next_place k) 0)

-- the number of a row with the words w; none where no row has them
abbrev pub RowFound : Rows → Row → Option ℕ → Type 0
RowFound rows w None = (k : ℕ) → rows k ≡ some w → ⊥
RowFound rows w (Some k) = rows k ≡ some w

-- what `find` answers on any words, and on an index
pub record FindsRow (s : List ℕ) (w : Row) (r : Option ℕ) : Type 0 where
  pub within : IfSome r (λ k. k < rows_in (length s))
  pub exact : (n : ℕ) (rows : Rows) → Indexed s n rows → RowFound rows w r

-- the rows of a list, numbered by their places in it
abbrev pub rows_of : {A : Type 0} → (A → Row) → List A → Rows
rows_of row xs k = nth xs k >>= λ x. some (row x)

-- the rows with row k, and without it
abbrev pub with_row : Rows → ℕ → Row → Rows
with_row rows k w j = if eqb j k then some w otherwise rows j

abbrev pub without_row : Rows → ℕ → Rows
without_row rows k j = if eqb j k then none otherwise rows j

-- four words from a place on, written as a row's
unfoldable pub put_row : List ℕ → ℕ → Row → List ℕ
put_row s place w = set (set (set (set s place w.0) (place + 1) w.1) (place + 2) w.2) (place + 3) w.3

-- the word at a place is the link of chain h that leads to row k, or past it: the chain's first, or the next of the least row of the chain above k
pub record LinkOver (s : List ℕ) (n : ℕ) (rows : Rows) (h k place : ℕ) : Type 0 where
  pub top : ℕ
  pub over : k < top
  pub leads : Greatest rows h top (get_or s place 0)
  pub low : get_or s place 0 ≤ suc k
  pub stands : ((place ≡ h) × (top ≡ n)) ⊎ ((place ≡ next_place top) × InChain rows h top)

-- what `link_place` answers on any words, and on an index
pub record LinkFound (s : List ℕ) (h k place : ℕ) : Type 0 where
  pub within : place < chains + rows_in (length s)
  pub exact : (n : ℕ) (rows : Rows) → Indexed s n rows → k < n → LinkOver s n rows h k place

-- what `add` makes of a section: of an index without row k, one with it
pub record Added (s t : List ℕ) (k : ℕ) (w : Row) : Type 0 where
  pub long : length t ≡ length s
  pub index : (n : ℕ) (rows : Rows) → Indexed s n rows → (w.0 ≡ 0 → ⊥) → rows k ≡ none → Indexed t n (with_row rows k w)

-- what `remove` makes of a section: of an index with row k, one without it
pub record Removed (s t : List ℕ) (k : ℕ) : Type 0 where
  pub long : length t ≡ length s
  pub index : (n : ℕ) (rows : Rows) (w : Row) → Indexed s n rows → rows k ≡ some w → Indexed t n (without_row rows k)
