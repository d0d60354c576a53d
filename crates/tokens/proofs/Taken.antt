-- What a token that is read takes from the front: one byte at least, and few bytes of code for it; its text is in order.
use Prim.Native.Nat.{ℕ, ◌+◌, ◌*◌, ◌≤◌, ◌<◌}
use mathlib.Core.Path.{◌≡◌, refl, sym, ap, ◌∙◌}
use mathlib.Core.Bool.{Bool, true, false, ◌&&◌, not, true≢false}
use mathlib.Core.List.{List, [], ◌∷◌, ◌++◌, append_assoc}
use mathlib.Core.Option.{some, some-injective}
use native.Mathlib.Omega.{arith}
use borrow.Author.Tests.{leb-true, le-leb}
use lib.ListN.{length, length-append, take-append-drop}
use lib.Seq.{length-take-le}
use lib.Dec.{leb, eqb}
use Rattle.model.specs.Notation.{◌>>=◌, ◌or_else◌, is_empty, all_of}
use Rattle.model.specs.Limits.{largest_int}
use Rattle.model.specs.Bytes.{Bytes, bytes, cut_at, behind, one_of}
use Rattle.model.specs.Names.{read_name}
use Rattle.model.specs.Attributes.{read_source}
use Rattle.model.specs.Atoms.{is_text, read_int, quoted}
use Rattle.model.specs.Tokens.{Token, Read, name, int, str, truth, operator, mark, spelling, capitals, signs, word_byte, run, read_attribute_name, read_word, read_text, read_sign, read_token, is_token}
use Rattle.model.proofs.WordTables.{none-is-some}
use Rattle.model.proofs.Options.{parts, both, fields, bound, condition, choice}
use Rattle.model.proofs.Lists.{all-parts}
use Rattle.model.proofs.Cuts.{cut-bound, behind-parts}
use Rattle.model.proofs.Names.{name-exact}
use Rattle.model.proofs.Decimals.{int-exact}
use Rattle.codes.specs.Codes.{kind_of}
use Rattle.tokens.specs.RuleCode.{size}
use Rattle.tokens.specs.TokenAt.{lead}
use Rattle.tokens.proofs.ByteRuns.{run-lead, lead-behind, lead-le}
use Rattle.tokens.proofs.WordCodes.{one_of_all}

-- the code of a token for n bytes: a word, behind which no byte of a word stands, takes two bytes more than three for each; any other two less
pub data Cost (t : Token) (s rest : Bytes) (n : ℕ) : Type 0 where
  word : 0 < lead word_byte s → lead word_byte rest ≡ 0 → size t ≤ 3 * n + 2 → Cost t s rest n
  other : size t + 2 ≤ 3 * n → Cost t s rest n

pub record Taken (s : Bytes) (t : Token) (rest : Bytes) : Type 0 where
  pub well : is_token t ≡ true
  pub front : Bytes
  pub long : 1 ≤ length front
  pub joined : s ≡ front ++ rest
  pub text : (u : Bytes) → t ≡ str u → front ≡ quoted u
  pub cost : Cost t s rest (length front)

-- a word that is read is a token in order, and no str
abbrev wordy : Token → Bool
wordy t = is_token t && (leb (size t) 5 && not (eqb (kind_of t) 2))

word-well : (w : Bytes) {t : Token} → read_word w ≡ some t → wordy t ≡ true
unfolding read_word read_attribute_name
word-well w {t} e =
    choice {o = one_of spelling capitals w} e (one_of_all spelling wordy capitals w t refl) λ _ f.
    choice {o = read_int w >>= λ n. some (int n)} f
    (λ g. bound {o = read_int w} g λ n j h. ap wordy (sym (some-injective _ _ h)) ∙ both (le-leb n largest_int ((int-exact w n).0 j).0) refl)
    λ _ g. bound {o = cut_at "." w} g λ c _ h. bound {o = read_source c.0} h λ s _ i. bound {o = read_name c.1} i λ n j k.
    ap wordy (sym (some-injective _ _ k)) ∙ both ((name-exact c.1 n).0 j).0 refl

no-str : (t : Token) → not (eqb (kind_of t) 2) ≡ true → (u : Bytes) → t ≡ str u → ⊥
no-str t e u f = true≢false (sym e ∙ ap (λ (v : Token). not (eqb (kind_of v) 2)) f)

-- signs
abbrev sign : Token → Bool
sign t = is_token t && (leb (size t) 1 && leb 1 (length (spelling t)))

sign-taken : (table : List Token) (s : Bytes) {t : Token} {rest : Bytes} → all_of sign table ≡ true → read_sign table s ≡ some (t, rest) → Taken s t rest
sign-taken [] s h e = none-is-some e
sign-taken (u ∷ table) s {t} {rest} h e =
    let (a, b) = all-parts sign u table h in
    choice {o = ◌>>=◌ {B = Token × Bytes} (behind (spelling u) s) (λ r. some (u, r))} e (here a) (λ _ f. sign-taken table s b f)
  where
    here : sign u ≡ true → ◌>>=◌ {B = Token × Bytes} (behind (spelling u) s) (λ r. some (u, r)) ≡ some (t, rest) → Taken s t rest
    here a f = bound {o = behind (spelling u) s} f λ r g k.
        let (x, y) = fields k in
        let (i, j) = parts (is_token u) (leb (size u) 1 && leb 1 (length (spelling u))) a in
        let (k, l) = parts (leb (size u) 1) (leb 1 (length (spelling u))) j in
        let m = leb-true (size u) 1 k in
        let n = leb-true 1 (length (spelling u)) l in
        record {
          well = ap is_token (sym x) ∙ i;
          front = spelling u;
          long = n;
          joined = behind-parts (spelling u) s g ∙ ap (λ (l : Bytes). spelling u ++ l) y;
          text = λ v f. let z : size u ≡ length v + 2 = ap size (x ∙ f) in absurd (omega arith);
          cost = other (omega (arith, ap size x));
        }

-- strs
abbrev text_of : Token → Bytes
text_of (name s n) = []
text_of (int n) = []
text_of (str s) = s
text_of (truth t) = []
text_of (operator o) = []
text_of (mark m) = []

str-bytes : {s u : Bytes} → str s ≡ str u → s ≡ u
str-bytes e = ap text_of e

text-taken : (s : Bytes) {t : Token} {rest : Bytes} → (behind (bytes "\"") s >>= read_text) ≡ some (t, rest) → Taken s t rest
unfolding read_text
text-taken s {t} {rest} e = bound {o = behind (bytes "\"") s} e λ r g k. cut-bound 34 r k λ c _ j f.
    let (i, z) = condition {t = is_text c.0} f in
    let x : str c.0 ≡ t = ap (λ (p : Token × Bytes). p.0) z in
    let y : c.1 ≡ rest = ap (λ (p : Token × Bytes). p.1) z in
    record {
      well = ap is_token (sym x) ∙ i;
      front = 34 ∷ c.0 ++ 34 ∷ [];
      long = omega arith;
      text = λ v f. ap quoted (str-bytes (x ∙ f));
      cost = other (omega (arith, ap size x, length-append c.0 (34 ∷ [])));
      joined = behind-parts (bytes "\"") s g ∙ ap (λ (l : Bytes). 34 ∷ l) (j ∙ sym (append_assoc c.0 (34 ∷ []) c.1) ∙ ap (λ (l : Bytes). c.0 ++ 34 ∷ [] ++ l) y);
    }

pub taken : (s : Bytes) {t : Token} {rest : Bytes} → read_token s ≡ some (t, rest) → Taken s t rest
unfolding read_token
taken s {t} {rest} e =
    go (run s).0 (run s).1 (sym (take-append-drop (lead word_byte s) s) ∙ ap (λ (r : Bytes × Bytes). r.0 ++ r.1) (sym (run-lead s)))
    (ap (λ (r : Bytes × Bytes). length r.0) (run-lead s) ∙ length-take-le (lead word_byte s) s (lead-le word_byte s))
    (ap (λ (r : Bytes × Bytes). lead word_byte r.1) (run-lead s) ∙ lead-behind word_byte s) e
  where
    go : (w r : Bytes) → s ≡ w ++ r → length w ≡ lead word_byte s → lead word_byte r ≡ 0
        → ◌≡◌ {A = Read} (elim (is_empty w) as (λ _. Read) [ true ↦ (behind (bytes "\"") s >>= read_text) or_else read_sign signs s | false ↦ read_word w >>= λ u. some (u, r) ]) (some (t, rest))
        → Taken s t rest
    go [] r j l z f = choice {o = behind (bytes "\"") s >>= read_text} f (text-taken s) (λ _ g. sign-taken signs s refl g)
    go (x ∷ w) r j l z f = bound {o = read_word (x ∷ w)} f λ u g k.
        let (a, b) = fields k in
        let (p, q) = parts (is_token u) (leb (size u) 5 && not (eqb (kind_of u) 2)) (word-well (x ∷ w) g) in
        let (m, n) = parts (leb (size u) 5) (not (eqb (kind_of u) 2)) q in
        let i = leb-true (size u) 5 m in
        record {
          well = ap is_token (sym a) ∙ p;
          front = x ∷ w;
          long = omega arith;
          joined = j ∙ ap (λ (l : Bytes). x ∷ w ++ l) b;
          text = λ v f. absurd (no-str u n v (a ∙ f));
          cost = word (omega arith) (ap (lead word_byte) (sym b) ∙ z) (omega (arith, ap size a));
        }
