-- The text of rule code, token by token: the arms of a token's text and size, and what is laid while a policy is written. Assumes nothing.
use Prim.Native.Nat.{ℕ, zero, suc, ◌+◌, ◌-◌, ◌*◌, ◌≤◌, ◌<◌, min}
use mathlib.Core.Path.{◌≡◌, refl, sym, ap, ap₂, subst, ◌∙◌}
use mathlib.Core.Bool.{Bool, true, false, true≢false}
use mathlib.Core.List.{List, [], ◌∷◌, ◌++◌, append-nil, append_assoc}
use native.Mathlib.Decide.{dec_lt}
use native.Mathlib.Omega.{arith}
use borrow.Author.Tests.{ne_eqb}
use lib.ListN.{length, get_or, take, drop, length-drop, drop_of_length-le, get_or-eq_default}
use lib.Seq.{take_all, take-nil, get_or-drop}
use Rattle.model.specs.Notation.{if◌then◌otherwise◌}
use Rattle.model.specs.Bytes.{Bytes, bytes}
use Rattle.model.specs.Atoms.{decimal, quoted}
use Rattle.model.specs.Block.{number, value_at}
use Rattle.output.specs.Laid.{Laid}
use Rattle.output.proofs.Laying.{laid_none, laid_as, laid_on}
use Rattle.book.specs.Sections.{code_bytes}
use Rattle.spelling.specs.LineTexts.{by_kind, listed_text, token_words, attribute_at, attribute_text, word_kind, code_string, token_text, size_at, gap_text, code_text, policy_text}
use Rattle.spelling.proofs.LaidTexts.{chosen, passed}

-- ---- numbers and parts of code, which may reach behind its end

-- the first four bytes as a number
front-four : (l : Bytes) → get_or l 0 0 + 256 * (get_or l 1 0 + 256 * (get_or l 2 0 + 256 * get_or l 3 0)) ≡ number (take 4 l)
front-four [] = refl
front-four (a ∷ []) = refl
front-four (a ∷ b ∷ []) = refl
front-four (a ∷ b ∷ c ∷ []) = refl
front-four (a ∷ b ∷ c ∷ d ∷ l) = omega arith

pub four_bytes : (s : Bytes) (k : ℕ) {a b d e : ℕ} → a ≡ get_or s k 0 → b ≡ get_or s (k + 1) 0 → d ≡ get_or s (k + 2) 0 → e ≡ get_or s (k + 3) 0
    → a + 256 * (b + 256 * (d + 256 * e)) ≡ value_at s k
four_bytes s k p q r t =
    ap₂ (λ (x y : ℕ). x + 256 * y) (p ∙ ap (λ (j : ℕ). get_or s j 0) (let z : k ≡ k + 0 = omega arith in z) ∙ sym (get_or-drop k s 0 0))
    (ap₂ (λ (x y : ℕ). x + 256 * y) (q ∙ sym (get_or-drop k s 1 0)) (ap₂ (λ (x y : ℕ). x + 256 * y) (r ∙ sym (get_or-drop k s 2 0)) (t ∙ sym (get_or-drop k s 3 0))))
    ∙ front-four (drop k s)

-- a part that ends where the code ends
pub part-within : (s : Bytes) (a n : ℕ) {x y : ℕ} → x ≡ min a (length s) → y ≡ min (a + n) (length s) → take (y - x) (drop x s) ≡ take n (drop a s)
part-within s a n {x} {y} p q = go (dec_lt (length s) a) (dec_lt (length s) (a + n))
  where
    go : Dec (length s < a) → Dec (length s < a + n) → take (y - x) (drop x s) ≡ take n (drop a s)
    go (yes l) m =
        let z : y - x ≡ 0 = omega arith in
        ap (λ (k : ℕ). take k (drop x s)) z ∙ sym (take-nil n) ∙ ap (take n) (sym (drop_of_length-le s {i = a} (omega arith)))
    go (no l) (no m) =
        let z : y - x ≡ n = omega arith in
        let w : x ≡ a = omega arith in
        ap₂ (λ (k j : ℕ). take k (drop j s)) z w
    go (no l) (yes m) =
        let w : x ≡ a = omega arith in
        let d = length-drop a s in
        ap (λ (j : ℕ). take (y - x) (drop j s)) w ∙ take_all (y - x) (drop a s) (omega arith) ∙ sym (take_all n (drop a s) (omega arith))

-- ---- the space between words

-- behind no word, and behind one
pub no_gap : (word : Bool) (k : ℕ) → word ≡ false → [] ≡ gap_text word k
unfolding gap_text
no_gap false k e = refl
no_gap true k e = absurd (true≢false e)

pub gap_by : (word : Bool) (k : ℕ) {v : Bool} → word ≡ true → word_kind k ≡ v → (if v then bytes " " otherwise []) ≡ gap_text word k
unfolding gap_text
gap_by true k e q = ap (λ (x : Bool). if x then bytes " " otherwise []) (sym q)
gap_by false k e q = absurd (true≢false (sym e))

-- ---- one token: its text, and how many bytes of code it takes

module _ (book : List ℕ) (code : Bytes) (place : ℕ) where
  abbrev kind : ℕ
  kind = get_or code place 0

  abbrev as_int : Bytes
  as_int = decimal (value_at code (place + 1))

  abbrev as_str : Bytes
  as_str = quoted (code_string code place)

  abbrev as_name : Bytes
  as_name = attribute_text book (attribute_at (get_or code (place + 1) 0))

  abbrev as_plain : Bytes
  as_plain = listed_text token_words kind

  abbrev str_size : ℕ
  str_size = get_or code (place + 1) 0 + 2

  -- what stands for a kind
  of-kind : {k : ℕ} → kind ≡ k → (by_kind k as_int as_str as_name as_plain ≡ token_text book code place) × (by_kind k 5 str_size 2 1 ≡ size_at code place)
  unfolding token_text size_at
  of-kind e = (ap (λ (k : ℕ). by_kind k as_int as_str as_name as_plain) (sym e), ap (λ (k : ℕ). by_kind k 5 str_size 2 1) (sym e))

  pub int-token : kind ≡ 1 → (as_int ≡ token_text book code place) × (5 ≡ size_at code place)
  int-token e = of-kind e

  pub str-token : kind ≡ 2 → (as_str ≡ token_text book code place) × (str_size ≡ size_at code place)
  str-token e = of-kind e

  pub name-token : kind ≡ 4 → (as_name ≡ token_text book code place) × (2 ≡ size_at code place)
  name-token e = of-kind e

  pub plain-token : (kind ≡ 1 → ⊥) → (kind ≡ 2 → ⊥) → (kind ≡ 4 → ⊥) → (as_plain ≡ token_text book code place) × (1 ≡ size_at code place)
  unfolding token_text size_at
  plain-token a b d = rw (ne_eqb kind 1 a, ne_eqb kind 2 b, ne_eqb kind 4 d) (refl, refl)

-- ---- a policy

-- the tokens before a place are laid, and from there on there is code for `left` more at most
pub record PolicyLaid (book : List ℕ) (code before : Bytes) (at : ℕ) (out : Bytes) (n place : ℕ) (word : Bool) : Type 0 where
  pub left : ℕ
  pub laid : Bytes
  pub text : policy_text book code ≡ laid ++ code_text left word book code place
  pub enough : code_bytes ≤ place + left
  pub so_far : Laid before at laid out n

pub policy-start : (book : List ℕ) (code before : Bytes) (at : ℕ) → PolicyLaid book code before at before at 0 false
policy-start book code before at = record { left = code_bytes; laid = []; text = refl; enough = omega arith; so_far = laid_none before at }

-- where a byte is not 0, code goes on
pub within-code : (code : Bytes) (place : ℕ) → (get_or code place 0 ≡ 0 → ⊥) → place < length code
within-code code place h = go (dec_lt place (length code))
  where
    go : Dec (place < length code) → place < length code
    go (yes l) = l
    go (no l) = absurd (h (get_or-eq_default code 0 (omega arith)))

module _ {book : List ℕ} {code before : Bytes} {at : ℕ} {out : Bytes} {n place : ℕ} {word : Bool} (p : PolicyLaid book code before at out n place word) where
  abbrev next : Bytes
  next = gap_text word (get_or code place 0) ++ token_text book code place

  -- one token more
  policy-step : (get_or code place 0 ≡ 0 → ⊥) → length code ≤ code_bytes → 1 ≤ size_at code place → {mid : Bytes} {m : ℕ} {after : Bytes} {r : ℕ}
      → Laid out n (gap_text word (get_or code place 0)) mid m → Laid mid m (token_text book code place) after r
      → PolicyLaid book code before at after r (place + size_at code place) (word_kind (get_or code place 0))
  unfolding code_text
  policy-step some long size {after = after} {r = r} gap token = go p.left p.enough p.text
    where
      go : (f : ℕ) → code_bytes ≤ place + f → policy_text book code ≡ p.laid ++ code_text f word book code place
          → PolicyLaid book code before at after r (place + size_at code place) (word_kind (get_or code place 0))
      go zero enough text = absurd (omega (arith, within-code code place some))
      go (suc f) enough text = record {
        left = f;
        laid = p.laid ++ next;
        text = text
            ∙ ap (λ (t : Bytes). p.laid ++ t)
            (sym (passed [] (gap_text word (get_or code place 0) ++ (token_text book code place ++ code_text f (word_kind (get_or code place 0)) book code (place + size_at code place))) some)
            ∙ sym (append_assoc (gap_text word (get_or code place 0)) (token_text book code place) (code_text f (word_kind (get_or code place 0)) book code (place + size_at code place))))
            ∙ sym (append_assoc p.laid next (code_text f (word_kind (get_or code place 0)) book code (place + size_at code place)));
        enough = omega arith;
        so_far = laid_on p.so_far (laid_on gap token);
      }

  -- the same, where the next place and the word are told by others
  pub policy-next : (get_or code place 0 ≡ 0 → ⊥) → length code ≤ code_bytes → {mid : Bytes} {m : ℕ} {after : Bytes} {r kind size : ℕ} {next : Bool} → kind ≡ get_or code place 0
      → Laid out n (gap_text word kind) mid m → Laid mid m (token_text book code place) after r → next ≡ word_kind kind → size ≡ size_at code place → 1 ≤ size
      → PolicyLaid book code before at after r (place + size) next
  policy-next some long {mid} {m} {after} {r} {kind} {size} {next} k gap token w s least =
      let step = policy-step some long (subst (λ (j : ℕ). 1 ≤ j) s least) (subst (λ (j : ℕ). Laid out n (gap_text word j) mid m) k gap) token in
      subst (λ (j : ℕ). PolicyLaid book code before at after r (place + j) next) (sym s)
      (subst (λ (b : Bool). PolicyLaid book code before at after r (place + size_at code place) b) (sym (w ∙ ap word_kind k)) step)

  -- none more
  pub policy-end : get_or code place 0 ≡ 0 → Laid before at (policy_text book code) out n
  unfolding code_text
  policy-end none = laid_as (sym (p.text ∙ ap (λ (t : Bytes). p.laid ++ t) (ended p.left) ∙ append-nil p.laid)) p.so_far
    where
      ended : (f : ℕ) → code_text f word book code place ≡ []
      ended zero = refl
      ended (suc f) = sym (chosen [] (gap_text word (get_or code place 0) ++ (token_text book code place ++ code_text f (word_kind (get_or code place 0)) book code (place + size_at code place))) none)
