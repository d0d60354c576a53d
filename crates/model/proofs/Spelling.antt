-- One token is read exactly from its spelling, where the bytes behind leave it whole.
use Prim.Native.Nat.{ℕ, ◌≤◌}
use mathlib.Core.Path.{◌≡◌, refl, sym, ap, ◌∙◌}
use mathlib.Core.Logic.{◌↔◌, ⊎_elim}
use mathlib.Core.Bool.{Bool, true, false, ◌&&◌, ◌||◌, not}
use mathlib.Core.List.{List, [], ◌∷◌, ◌++◌, append_assoc}
use mathlib.Core.Option.{none, some, some-injective}
use native.Mathlib.Omega.{arith}
use borrow.Author.Tests.{eqb-true, leb-true, le-leb, not-true}
use lib.ListN.{length, length-append}
use lib.Dec.{eqb}
use Rattle.model.specs.Notation.{if◌then◌otherwise◌, ◌>>=◌, ◌or_else◌, is_empty, all_of}
use Rattle.model.specs.Limits.{largest_int}
use Rattle.model.specs.Bytes.{Bytes, bytes, newline, same, is_byte, in_range, behind, one_of}
use Rattle.model.specs.Names.{name_byte, is_name, read_name}
use Rattle.model.specs.Attributes.{Source, source_word, sources, read_source}
use Rattle.model.specs.Atoms.{is_text, decimal, read_int}
use Rattle.model.specs.Truth.{Truth, truth_word}
use Rattle.model.specs.Tokens.{Token, name, int, str, truth, operator, mark, Operator, operator_word, Mark, mark_word, is_token, spelling, capitals, signs, Read, word_byte, run, read_attribute_name, read_word, read_text, read_sign, read_token, is_word, is_operator}
use Rattle.model.proofs.WordTables.{false-is-true, none-is-some, one-of-word, operators, marks, truths, reads-source, reads-operator, reads-mark, reads-truth}
use Rattle.model.proofs.Options.{parts, fields, bound, condition, choice, no_result}
use Rattle.model.proofs.Lists.{or_cases, or_left, or_right, all-parts, all_cons, all_append, all-by}
use Rattle.model.proofs.Cuts.{isnt, lacks, passing-lacks, cut-joined, cut-bound, behind-parts}
use Rattle.model.proofs.Decimals.{digit, digits_decimal, length-decimal, int-exact}
use Rattle.model.proofs.Names.{name-exact, name-all, source-all, source-lacks}
use Rattle.model.proofs.Atoms.{text-lacks}

-- what is read among the words of a table passes what all of the table pass
pub one_of_all : {A : Type 0} (word : A → Bytes) (p : A → Bool) (table : List A) (s : Bytes) (a : A)
    → all_of p table ≡ true → one_of word table s ≡ some a → p a ≡ true
one_of_all word p [] s a h e = none-is-some e
one_of_all {A} word p (b ∷ rest) s a h e = let (i, j) = all-parts p b rest h in go (same (word b) s) i e (one_of_all word p rest s a j)
  where
    go : (t : Bool) → p b ≡ true → (if t then some b otherwise one_of word rest s) ≡ some a → (one_of word rest s ≡ some a → p a ≡ true) → p a ≡ true
    go true i f more = ap p (sym (some-injective b a f)) ∙ i
    go false i f more = more f

-- a test that a whole table passes is passed by each operator, mark and truth
every : {A : Type 0} (word : A → Bytes) (table : List A) → ((a : A) → one_of word table (word a) ≡ some a)
    → (p : A → Bool) → all_of p table ≡ true → (a : A) → p a ≡ true
every word table reads p h a = one_of_all word p table (word a) a h (reads a)

every-operator : (p : Operator → Bool) → all_of p operators ≡ true → (o : Operator) → p o ≡ true
every-operator = every operator_word operators reads-operator

every-mark : (p : Mark → Bool) → all_of p marks ≡ true → (m : Mark) → p m ≡ true
every-mark = every mark_word marks reads-mark

every-truth : (p : Truth → Bool) → all_of p truths ≡ true → (t : Truth) → p t ≡ true
every-truth = every truth_word truths reads-truth

-- what is read as one of a table's signs passes what all of the table pass, and stands at the front
sign-all : (p : Token → Bool) (table : List Token) (s : Bytes) (t : Token) (rest : Bytes)
    → all_of p table ≡ true → read_sign table s ≡ some (t, rest) → (p t ≡ true) × (s ≡ spelling t ++ rest)
sign-all p [] s t rest h e = none-is-some e
sign-all p (u ∷ table) s t rest h e =
    let (a, b) = all-parts p u table h in
    choice {o = ◌>>=◌ {B = Token × Bytes} (behind (spelling u) s) (λ r. some (u, r))} e
    (λ f. bound {o = behind (spelling u) s} f λ r g k. let (x, y) = fields k in rw (← x, ← y) (a, behind-parts (spelling u) s g))
    (λ _ f. sign-all p table s t rest b f)

-- digits and the bytes of names are bytes of words
digit-word : (x : ℕ) → digit x ≡ true → word_byte x ≡ true
digit-word x e = or_left _ (is_byte "." x) (or_left _ (is_byte "_" x) (or_right (in_range "a" "z" x || in_range "A" "Z" x) (digit x) e))

name-word : (x : ℕ) → name_byte x ≡ true → word_byte x ≡ true
name-word x e =
    ⊎_elim (λ h. ⊎_elim lower (digit-word x) (or_cases (in_range "a" "z" x) (digit x) h)) under (or_cases (in_range "a" "z" x || digit x) (is_byte "_" x) e)
  where
    lower : in_range "a" "z" x ≡ true → word_byte x ≡ true
    lower h = rw h

    under : is_byte "_" x ≡ true → word_byte x ≡ true
    under h = or_left _ (is_byte "." x) (or_right (in_range "a" "z" x || in_range "A" "Z" x || digit x) (is_byte "_" x) h)

-- ints and names are words
pub int_word : (n : ℕ) → is_word (int n) ≡ true
int_word n = all-by digit word_byte digit-word (decimal n) (digits_decimal n)

pub name-is-word : (s : Source) (n : Bytes) → is_name n ≡ true → is_word (name s n) ≡ true
name-is-word s n h =
    all_append word_byte (source_word s ++ bytes ".") n
    (all_append word_byte (source_word s) (bytes ".") (all-by name_byte word_byte name-word (source_word s) (source-all s)) refl)
    (all-by name_byte word_byte name-word n (name-all n h))

-- a word is read as the token that it spells
word_sound : (w : Bytes) (t : Token) → read_word w ≡ some t → (is_token t ≡ true) × (is_word t ≡ true) × (w ≡ spelling t)
unfolding read_word read_attribute_name
word_sound w t e =
    choice {o = one_of spelling capitals w} e
    (λ f.
    let (a, b) = parts (is_token t) (is_word t) (one_of_all spelling (λ u. is_token u && is_word u) capitals w t refl f) in
    (a, b, sym (one-of-word spelling capitals w t f)))
    λ _ f.
    choice {o = read_int w >>= λ n. some (int n)} f
    (λ g. bound {o = read_int w} g λ n h k.
    let (a, b) = (int-exact w n).0 h in
    let z : int n ≡ t = some-injective _ _ k in
    rw (← z) (le-leb n largest_int a, int_word n, b))
    λ _ g.
    cut-bound 46 w g λ c p j k.
    bound {o = read_source c.0} k λ s q l.
    bound {o = read_name c.1} l λ n r m.
    let (a, b) = (name-exact c.1 n).0 r in
    let u = one-of-word source_word sources c.0 s q in
    let z : name s n ≡ t = some-injective _ _ m in
    rw (← z) (a, name-is-word s n a, j ∙ rw (← u, b) (sym (append_assoc (source_word s) (46 ∷ []) n)))

-- no word in capitals is an int or a name, and no name is an int
int-no-capital : (n : ℕ) → one_of spelling capitals (decimal n) ≡ none
int-no-capital n = no_result (one_of spelling capitals (decimal n)) λ t e.
    let h = one_of_all spelling (λ u. not (all_of digit (spelling u))) capitals (decimal n) t refl e in
    false-is-true (sym (not-true _ h) ∙ ap (all_of digit) (one-of-word spelling capitals (decimal n) t e) ∙ digits_decimal n)

name-no-capital : (s : Source) (n : Bytes) → one_of spelling capitals (spelling (name s n)) ≡ none
name-no-capital Source.user n = refl
name-no-capital Source.object n = refl
name-no-capital Source.admin n = refl
name-no-capital Source.env n = refl
name-no-capital Source.connect n = refl

name-no-digits : (s : Source) (n : Bytes) → all_of digit (spelling (name s n)) ≡ false
name-no-digits Source.user n = refl
name-no-digits Source.object n = refl
name-no-digits Source.admin n = refl
name-no-digits Source.env n = refl
name-no-digits Source.connect n = refl

name-no-int : (s : Source) (n : Bytes) → read_int (spelling (name s n)) ≡ none
name-no-int s n = no_result (read_int (spelling (name s n))) λ m e.
    false-is-true (sym (name-no-digits s n) ∙ ap (all_of digit) ((int-exact (spelling (name s n)) m).0 e).1 ∙ digits_decimal m)

word-complete : (t : Token) → is_token t ≡ true → is_word t ≡ true → read_word (spelling t) ≡ some t
unfolding read_word read_attribute_name
word-complete (name s n) h w =
    let j = append_assoc (source_word s) (46 ∷ []) n in
    rw (name-no-capital s n, name-no-int s n, j, cut-joined 46 (source_word s) n (source-lacks 46 refl s), reads-source s, h)
word-complete (int n) h w = rw (int-no-capital n, (int-exact (decimal n) n).1 (leb-true n largest_int h, refl))
word-complete (str s) h w = false-is-true w
word-complete (truth Truth.FALSE) h w = refl
word-complete (truth Truth.UNDEF) h w = refl
word-complete (truth Truth.TRUE) h w = refl
word-complete (operator Operator.equal) h w = false-is-true w
word-complete (operator Operator.unequal) h w = false-is-true w
word-complete (operator Operator.less) h w = false-is-true w
word-complete (operator Operator.at_most) h w = false-is-true w
word-complete (operator Operator.greater) h w = false-is-true w
word-complete (operator Operator.at_least) h w = false-is-true w
word-complete (operator Operator.IN) h w = refl
word-complete (operator Operator.SUBSET) h w = refl
word-complete (mark Mark.AND) h w = refl
word-complete (mark Mark.OR) h w = refl
word-complete (mark Mark.NOT) h w = refl
word-complete (mark Mark.lparen) h w = false-is-true w
word-complete (mark Mark.rparen) h w = false-is-true w
word-complete (mark Mark.lbrace) h w = false-is-true w
word-complete (mark Mark.rbrace) h w = false-is-true w
word-complete (mark Mark.comma) h w = false-is-true w

-- a run: its bytes are those of words, and the byte behind it is not
abbrev stops : Bytes → Bool
stops [] = true
stops (x ∷ s) = not (word_byte x)

run-parts : (s : Bytes) → (s ≡ (run s).0 ++ (run s).1) × (all_of word_byte (run s).0 ≡ true) × (stops (run s).1 ≡ true)
run-parts [] = (refl, refl, refl)
run-parts (x ∷ s) = go (word_byte x) refl (run s).0 (run s).1 (run-parts s)
  where
    go : (b : Bool) → word_byte x ≡ b → (w r : Bytes) → (s ≡ w ++ r) × (all_of word_byte w ≡ true) × (stops r ≡ true)
        → let p : Bytes × Bytes = elim b as (λ _. Bytes × Bytes) [ true ↦ (x ∷ w, r) | false ↦ ([], x ∷ s) ] in
        (x ∷ s ≡ p.0 ++ p.1) × (all_of word_byte p.0 ≡ true) × (stops p.1 ≡ true)
    go true e w r (j, a, h) = (ap (λ (z : Bytes). x ∷ z) j, all_cons word_byte x w e a, h)
    go false e w r h = (refl, refl, ap not e)

run-joined : (w r : Bytes) → all_of word_byte w ≡ true → stops r ≡ true → run (w ++ r) ≡ (w, r)
run-joined [] [] h k = refl
run-joined [] (x ∷ r) h k = rw (run, not-true (word_byte x) k)
run-joined (x ∷ w) r h k = let (a, b) = all-parts word_byte x w h in rw (run, a, run-joined w r b k)

-- whether the bytes behind a token leave it whole: the first of them goes on neither with its word nor with its operator
abbrev pub angle : Token → Bool
angle t = is_operator Operator.less t || is_operator Operator.greater t

abbrev pub whole : Token → Bytes → Bool
whole t [] = true
whole t (x ∷ s) = not (is_word t && word_byte x) && not (angle t && is_byte "=" x)

angle-is : (P : Token → Type 0) → P (operator Operator.less) → P (operator Operator.greater) → (t : Token) → angle t ≡ true → P t
angle-is P p q (name s n) h = false-is-true h
angle-is P p q (int n) h = false-is-true h
angle-is P p q (str s) h = false-is-true h
angle-is P p q (truth t) h = false-is-true h
angle-is P p q (operator Operator.equal) h = false-is-true h
angle-is P p q (operator Operator.unequal) h = false-is-true h
angle-is P p q (operator Operator.less) h = p
angle-is P p q (operator Operator.at_most) h = false-is-true h
angle-is P p q (operator Operator.greater) h = q
angle-is P p q (operator Operator.at_least) h = false-is-true h
angle-is P p q (operator Operator.IN) h = false-is-true h
angle-is P p q (operator Operator.SUBSET) h = false-is-true h
angle-is P p q (mark m) h = false-is-true h

word-no-angle : (t : Token) → is_word t ≡ true → angle t ≡ false
word-no-angle t h = go (angle t) refl
  where
    go : (b : Bool) → angle t ≡ b → b ≡ false
    go true e = false-is-true (sym (angle-is (λ u. is_word u ≡ false) refl refl t e) ∙ h)
    go false e = refl

word-whole : (t : Token) (rest : Bytes) → is_word t ≡ true → stops rest ≡ true → whole t rest ≡ true
word-whole t [] h k = refl
word-whole t (x ∷ r) h k = rw (h, word-no-angle t h, k)

str-whole : (s rest : Bytes) → whole (str s) rest ≡ true
str-whole s [] = refl
str-whole s (x ∷ r) = refl

sign-whole : (t : Token) (rest : Bytes) → is_word t ≡ false → read_sign signs (spelling t ++ rest) ≡ some (t, rest) → whole t rest ≡ true
sign-whole t [] h e = refl
sign-whole t (x ∷ r) h e = rw h (go (angle t) refl (eqb x 61) refl)
  where
    longer : (o p : Operator) → ◌≡◌ {A = Read} (some (operator o, r)) (some (operator p, 61 ∷ r)) → ⊥
    longer o p f = omega (arith, ap length (fields f).1)

    go : (a : Bool) → angle t ≡ a → (b : Bool) → eqb x 61 ≡ b → not (a && b) ≡ true
    go true p true q =
        absurd (angle-is (λ u. read_sign signs (spelling u ++ 61 ∷ r) ≡ some (u, 61 ∷ r) → ⊥)
        (longer Operator.at_most Operator.less) (longer Operator.at_least Operator.greater) t p (rw (eqb-true x 61 q) at e))
    go true p false q = refl
    go false p b q = refl

-- a token that is read is well formed, stands at the front and is whole
abbrev pub ReadWhole : Bytes → Token → Bytes → Type 0
ReadWhole s t rest = (is_token t ≡ true) × (s ≡ spelling t ++ rest) × (whole t rest ≡ true)

pub token-sound : (s : Bytes) (t : Token) (rest : Bytes) → read_token s ≡ some (t, rest) → ReadWhole s t rest
unfolding read_token read_text
token-sound s t rest e = let (j, a, h) = run-parts s in go (run s).0 (run s).1 j a h e
  where
    text : (behind (bytes "\"") s >>= read_text) ≡ some (t, rest) → ReadWhole s t rest
    text f = bound {o = behind (bytes "\"") s} f λ r g k. cut-bound 34 r k λ c p j q.
        let (i, z) = condition {t = is_text c.0} q in
        let x : str c.0 ≡ t = ap (λ (p : Token × Bytes). p.0) z in
        let y : c.1 ≡ rest = ap (λ (p : Token × Bytes). p.1) z in
        let joined = j ∙ sym (append_assoc c.0 (34 ∷ []) c.1) in
        rw (← x, ← y) (i, behind-parts (bytes "\"") s g ∙ ap (λ (l : Bytes). 34 ∷ l) joined, str-whole c.0 c.1)

    sign : read_sign signs s ≡ some (t, rest) → ReadWhole s t rest
    sign f =
        let (a, j) = sign-all (λ u. is_token u && not (is_word u)) signs s t rest refl f in
        let (b, c) = parts (is_token t) (not (is_word t)) a in
        (b, j, sign-whole t rest (not-true (is_word t) c) (rw j at f))

    go : (w r : Bytes) → s ≡ w ++ r → all_of word_byte w ≡ true → stops r ≡ true
        → (if is_empty w then (behind (bytes "\"") s >>= read_text) or_else read_sign signs s otherwise (read_word w >>= λ u. some (u, r))) ≡ some (t, rest)
        → ReadWhole s t rest
    go [] r j a h f = choice {o = behind (bytes "\"") s >>= read_text} f text (λ _ g. sign g)
    go (x ∷ w) r j a h f = bound {o = read_word (x ∷ w)} f λ u g k.
        let (y, z) = fields k in
        let (b, c, d) = word_sound (x ∷ w) u g in
        rw (← y, ← z) (b, j ∙ ap (λ (l : Bytes). l ++ r) d, word-whole u r c h)

-- the first byte of a token tells whether it is a word, and whether it is `=`
pub record FirstByte (t : Token) : Type 0 where
  pub first : ℕ
  pub more : Bytes
  pub joined : spelling t ≡ first ∷ more
  pub in-word : word_byte first ≡ is_word t
  pub equals : is_byte "=" first ≡ is_operator Operator.equal t
  pub no-space : is_byte " " first ≡ false

-- a byte that is no word's
no-word-byte : (b x : ℕ) → word_byte b ≡ false → word_byte x ≡ true → eqb x b ≡ false
no-word-byte b x off h = not-true (eqb x b) (all-parts (isnt b) x [] (passing-lacks word_byte b off (x ∷ []) (all_cons word_byte x [] h refl))).0

word-front : (t : Token) (w : Bytes) → spelling t ≡ w → 1 ≤ length w → is_word t ≡ true → is_operator Operator.equal t ≡ false → FirstByte t
word-front t [] j l h o = absurd (omega arith)
word-front t (x ∷ w) j l h o =
    let p = (all-parts word_byte x w (rw j at h)).0 in
    record { first = x; more = w; joined = j; in-word = p ∙ sym h; equals = no-word-byte 61 x refl p ∙ sym o; no-space = no-word-byte 32 x refl p }

abbrev agree : Bool → Bool → Bool
agree a b = if a then b otherwise not b

agreed : (a b : Bool) → agree a b ≡ true → a ≡ b
agreed true b h = sym h
agreed false b h = sym (not-true b h)

-- the same as a test, for the tokens of the tables
abbrev tells : Token → Bytes → Bool
tells t [] = false
tells t (x ∷ w) = agree (word_byte x) (is_word t) && agree (is_byte "=" x) (is_operator Operator.equal t) && not (is_byte " " x)

told-front : (t : Token) (w : Bytes) → spelling t ≡ w → tells t w ≡ true → FirstByte t
told-front t [] j h = false-is-true h
told-front t (x ∷ w) j h =
    let (p, c) = parts (agree (word_byte x) (is_word t) && agree (is_byte "=" x) (is_operator Operator.equal t)) (not (is_byte " " x)) h in
    let (a, b) = parts (agree (word_byte x) (is_word t)) (agree (is_byte "=" x) (is_operator Operator.equal t)) p in
    record {
      first = x;
      more = w;
      joined = j;
      in-word = agreed (word_byte x) (is_word t) a;
      equals = agreed (is_byte "=" x) (is_operator Operator.equal t) b;
      no-space = not-true (is_byte " " x) c;
    }

pub front_of : (t : Token) → is_token t ≡ true → FirstByte t
front_of (name s n) h =
    let l = length-append (source_word s) (bytes ".") in
    word-front (name s n) (spelling (name s n)) refl (omega (arith, l, length-append (source_word s ++ bytes ".") n)) (name-is-word s n h) refl
front_of (int n) h = word-front (int n) (decimal n) refl (length-decimal n) (int_word n) refl
front_of (str s) h = told-front (str s) (spelling (str s)) refl refl
front_of (truth t) h = told-front (truth t) (truth_word t) refl (every-truth (λ u. tells (truth u) (truth_word u)) refl t)
front_of (operator o) h = told-front (operator o) (operator_word o) refl (every-operator (λ p. tells (operator p) (operator_word p)) refl o)
front_of (mark m) h = told-front (mark m) (mark_word m) refl (every-mark (λ k. tells (mark k) (mark_word k)) refl m)

-- no well-formed token holds byte 10
pub spelling-lacks : (t : Token) → is_token t ≡ true → lacks newline (spelling t) ≡ true
spelling-lacks (name s n) h = passing-lacks word_byte newline refl (spelling (name s n)) (name-is-word s n h)
spelling-lacks (int n) h = passing-lacks word_byte newline refl (decimal n) (int_word n)
spelling-lacks (str s) h = all_append (isnt newline) s (bytes "\"") (text-lacks newline refl s h) refl
spelling-lacks (truth t) h = every-truth (λ u. lacks newline (truth_word u)) refl t
spelling-lacks (operator o) h = every-operator (λ p. lacks newline (operator_word p)) refl o
spelling-lacks (mark m) h = every-mark (λ k. lacks newline (mark_word k)) refl m

-- a well-formed token that is whole is read
word_read : (t : Token) (rest : Bytes) → is_token t ≡ true → is_word t ≡ true → whole t rest ≡ true → read_token (spelling t ++ rest) ≡ some (t, rest)
unfolding read_token
word_read t rest h w k =
    let f = front_of t h in
    let e : is_empty (spelling t) ≡ false = rw f.joined in
    rw (run-joined (spelling t) rest w (end rest k), e, word-complete t h w)
  where
    end : (r : Bytes) → whole t r ≡ true → stops r ≡ true
    end [] k = refl
    end (x ∷ r) k = rw w at (parts (not (is_word t && word_byte x)) _ k).0

no-equals : (t : Token) (rest : Bytes) → angle t ≡ true → whole t rest ≡ true → behind (bytes "=") rest ≡ none
no-equals t [] a k = refl
no-equals t (x ∷ r) a k = rw (behind, not-true (eqb x 61) (rw a at (parts (not (is_word t && word_byte x)) _ k).1))

pub token-complete : (t : Token) (rest : Bytes) → is_token t ≡ true → whole t rest ≡ true → read_token (spelling t ++ rest) ≡ some (t, rest)
unfolding read_token read_text
token-complete (name s n) rest h k = word_read (name s n) rest h (name-is-word s n h) k
token-complete (int n) rest h k = word_read (int n) rest h (int_word n) k
token-complete (str s) rest h k = rw (append_assoc s (34 ∷ []) rest, cut-joined 34 s rest (text-lacks 34 refl s h), h)
token-complete (truth Truth.FALSE) rest h k = word_read (truth Truth.FALSE) rest h refl k
token-complete (truth Truth.UNDEF) rest h k = word_read (truth Truth.UNDEF) rest h refl k
token-complete (truth Truth.TRUE) rest h k = word_read (truth Truth.TRUE) rest h refl k
token-complete (operator Operator.equal) rest h k = refl
token-complete (operator Operator.unequal) rest h k = refl
token-complete (operator Operator.less) rest h k = rw (no-equals (operator Operator.less) rest refl k)
token-complete (operator Operator.at_most) rest h k = refl
token-complete (operator Operator.greater) rest h k = rw (no-equals (operator Operator.greater) rest refl k)
token-complete (operator Operator.at_least) rest h k = refl
token-complete (operator Operator.IN) rest h k = word_read (operator Operator.IN) rest h refl k
token-complete (operator Operator.SUBSET) rest h k = word_read (operator Operator.SUBSET) rest h refl k
token-complete (mark Mark.AND) rest h k = word_read (mark Mark.AND) rest h refl k
token-complete (mark Mark.OR) rest h k = word_read (mark Mark.OR) rest h refl k
token-complete (mark Mark.NOT) rest h k = word_read (mark Mark.NOT) rest h refl k
token-complete (mark Mark.lparen) rest h k = refl
token-complete (mark Mark.rparen) rest h k = refl
token-complete (mark Mark.lbrace) rest h k = refl
token-complete (mark Mark.rbrace) rest h k = refl
token-complete (mark Mark.comma) rest h k = refl

pub token-exact : (s : Bytes) (t : Token) (rest : Bytes)
    → (read_token s ≡ some (t, rest)) ↔ ((is_token t ≡ true) × (s ≡ spelling t ++ rest) × (whole t rest ≡ true))
token-exact s t rest = (token-sound s t rest, λ (h, j, k). rw j (token-complete t rest h k))
