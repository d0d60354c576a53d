-- The lines of rules, from the rule code that a book holds: the text of code is the canonical spelling of its tokens. Assumes nothing.
use Prim.Native.Nat.{ℕ, zero, suc, ◌+◌, ◌*◌, ◌%◌, ◌≤◌, ◌<◌}
use mathlib.Core.Path.{◌≡◌, refl, sym, ap, ap₂, ◌∙◌}
use mathlib.Core.Bool.{Bool, true, false, ◌&&◌, true≢false}
use mathlib.Core.List.{List, [], ◌∷◌, ◌++◌, append_assoc}
use mathlib.Core.Option.{some}
use native.Mathlib.Omega.{arith}
use borrow.Author.Tests.{leb-true}
use lib.ListN.{length, get_or, take, drop, length-append, length-take}
use Rattle.model.specs.Notation.{if◌then◌otherwise◌, any_of, all_of, nth, map, each}
use Rattle.model.specs.Limits.{rule_limit, largest_int}
use Rattle.model.specs.Bytes.{Bytes, bytes, same}
use Rattle.model.specs.Atoms.{decimal, quoted}
use Rattle.model.specs.Truth.{Truth}
use Rattle.model.specs.Attributes.{Source, source_word, same_source}
use Rattle.model.specs.Attributes as attributes
use Rattle.model.specs.Tokens.{Token, name, int, str, truth, operator, mark, Operator, Mark, is_token, is_word, spelling, spelled_behind, spelled}
use Rattle.model.specs.Declarations.{Declarations, Rule, attribute_number, operation_number, same_source_and_name}
use Rattle.model.specs.Refusals.{unknown_name}
use Rattle.model.specs.State.{State}
use Rattle.model.specs.Standing.{Standing}
use Rattle.model.specs.FileText.{rule_line, line_text}
use Rattle.model.proofs.WordTables.{same-eq, same_word, reads-source}
use Rattle.model.proofs.Options.{parts, is-there}
use Rattle.model.proofs.Lists.{all-parts, nth-lt, place-nth}
use Rattle.model.proofs.Spelling.{int_word, name-is-word}
use Rattle.codes.specs.Codes.{kind_of}
use Rattle.codes.proofs.TokenKinds.{kind-range, truth-range, operator-range, mark-range}
use Rattle.rows.specs.Rows.{number_or}
use Rattle.tokens.specs.RuleCode.{Coded, size, encode_token}
use Rattle.tokens.proofs.RuleCode.{coded-front, coded-end, coded-long, name-number, int-value, str-length, str-text}
use Rattle.output.specs.Laid.{word_text}
use Rattle.book.specs.Sections as section
use Rattle.book.specs.Sections.{code_bytes}
use Rattle.book.specs.Held.{Holds}
use Rattle.spelling.specs.LineTexts.{listed_text, token_words, attribute_at, operation_at, name_text, attribute_text, line_end, word_kind, token_text, size_at, gap_text, code_text, rule_line_text, rules_text}
use Rattle.spelling.proofs.LaidTexts.{chosen, passed}
use Rattle.spelling.proofs.RuleTexts.{int-token, str-token, name-token, plain-token}
use Rattle.spelling.proofs.Spellings.{operator-text, mark-text, truth-text}
use Rattle.spelling.proofs.Listing.{each-listed}
use Rattle.spelling.proofs.SectionWords.{word_at}
use Rattle.spelling.proofs.BookDeclared.{count-is, attribute-text, operation-name}

-- ---- kinds

word-kind : (t : Token) → is_token t ≡ true → word_kind (kind_of t) ≡ is_word t
unfolding word_kind
word-kind (name s n) h = sym (name-is-word s n h)
word-kind (int n) h = sym (int_word n)
word-kind (str s) h = refl
word-kind (truth Truth.FALSE) h = refl
word-kind (truth Truth.UNDEF) h = refl
word-kind (truth Truth.TRUE) h = refl
word-kind (operator Operator.equal) h = refl
word-kind (operator Operator.unequal) h = refl
word-kind (operator Operator.less) h = refl
word-kind (operator Operator.at_most) h = refl
word-kind (operator Operator.greater) h = refl
word-kind (operator Operator.at_least) h = refl
word-kind (operator Operator.IN) h = refl
word-kind (operator Operator.SUBSET) h = refl
word-kind (mark Mark.AND) h = refl
word-kind (mark Mark.OR) h = refl
word-kind (mark Mark.NOT) h = refl
word-kind (mark Mark.lparen) h = refl
word-kind (mark Mark.rparen) h = refl
word-kind (mark Mark.lbrace) h = refl
word-kind (mark Mark.rbrace) h = refl
word-kind (mark Mark.comma) h = refl

-- the text and the size of a token that carries nothing: its kind is above the others
plain : (book : List ℕ) (code : Bytes) (place : ℕ) {kind : ℕ} → get_or code place 0 ≡ kind → 4 < kind → (token_text book code place ≡ listed_text token_words kind) × (size_at code place ≡ 1)
plain book code place is high =
    let (text, size) = plain-token book code place (λ e. omega arith) (λ e. omega arith) (λ e. omega arith) in
    (sym text ∙ ap (listed_text token_words) is, sym size)

token-size : {D : Declarations} {code : Bytes} {place : ℕ} (t : Token) {ts : List Token} → Coded D code place (t ∷ ts) → size_at code place ≡ size t
token-size {code = code} {place} (name s n) c = sym (name-token [] code place (coded-front c).kind).1
token-size {code = code} {place} (int n) c = sym (int-token [] code place (coded-front c).kind).1
token-size {code = code} {place} (str s) c = sym (str-token [] code place (coded-front c).kind).1 ∙ ap (λ (n : ℕ). n + 2) (str-length c)
token-size {code = code} {place} (truth t) c = (plain [] code place (coded-front c).kind (omega (arith, truth-range t))).1
token-size {code = code} {place} (operator o) c = (plain [] code place (coded-front c).kind (omega (arith, operator-range o))).1
token-size {code = code} {place} (mark m) c = (plain [] code place (coded-front c).kind (omega (arith, mark-range m))).1

-- a code has a byte for each token
code-length : (D : Declarations) (ts : List Token) → length ts ≤ length (each (encode_token D) ts)
code-length D [] = omega arith
code-length D (t ∷ ts) = omega (arith, code-length D ts, length-append (encode_token D t) (each (encode_token D) ts))

any-parts : (p : Token → Bool) (x : Token) (xs : List Token) → any_of p (x ∷ xs) ≡ false → (p x ≡ false) × (any_of p xs ≡ false)
any-parts p x xs e = go (p x) e
  where
    go : (b : Bool) → (if b then true otherwise any_of p xs) ≡ false → (b ≡ false) × (any_of p xs ≡ false)
    go true e = absurd (true≢false e)
    go false e = (refl, e)

module _ {book : List ℕ} {rules : Bytes} {S : State} (standing : Standing S) (held : Holds book rules S) where
  abbrev D : Declarations
  D = S.declared

  -- ---- one token

  -- the text of a declared attribute is the spelling of its name
  name-text : (s : Source) (n : Bytes) (k : ℕ) → attribute_number D s n ≡ some k → attribute_text book (attribute_at k) ≡ spelling (name s n)
  unfolding attribute_number
  name-text s n k e =
      let (a, f, g) = place-nth (λ a. same_source_and_name a.source a.name s n) D.attributes k e in
      let (x, y) = parts (same_source a.source s) (same a.name n) g in
      attribute-text standing held k a f
      ∙ ap₂ (λ (t : Source) (m : Bytes). source_word t ++ bytes "." ++ m) (same_word source_word attributes.sources reads-source a.source s x) (same-eq a.name n y)

  token-text : {code : Bytes} {place : ℕ} (t : Token) {ts : List Token} → Coded D code place (t ∷ ts) → is_token t ≡ true → unknown_name D t ≡ false
      → token_text book code place ≡ spelling t
  token-text {code} {place} (name s n) c h known =
      let (j, e) = is-there (attribute_number D s n) known in
      sym (name-token book code place (coded-front c).kind).0
      ∙ ap (λ (i : ℕ). attribute_text book (attribute_at i)) (name-number c ∙ ap (number_or 255) e) ∙ name-text s n j e
  token-text {code} {place} (int n) c h known = sym (int-token book code place (coded-front c).kind).0 ∙ ap decimal (int-value (leb-true n largest_int h) c)
  token-text {code} {place} (str s) c h known =
      sym (str-token book code place (coded-front c).kind).0 ∙ ap quoted (ap (λ (n : ℕ). take n (drop (place + 2) code)) (str-length c) ∙ str-text c)
  token-text {code} {place} (truth t) c h known = (plain book code place (coded-front c).kind (omega (arith, truth-range t))).0 ∙ truth-text t
  token-text {code} {place} (operator o) c h known = (plain book code place (coded-front c).kind (omega (arith, operator-range o))).0 ∙ operator-text o
  token-text {code} {place} (mark m) c h known = (plain book code place (coded-front c).kind (omega (arith, mark-range m))).0 ∙ mark-text m

  -- ---- all tokens

  code-text : {code : Bytes} (f : ℕ) (w : Bool) (place : ℕ) (ts : List Token) → Coded D code place ts → all_of is_token ts ≡ true → any_of (unknown_name D) ts ≡ false → length ts ≤ f
      → code_text f w book code place ≡ spelled_behind w ts
  unfolding code_text gap_text
  code-text zero w place [] c h known l = refl
  code-text zero w place (t ∷ ts) c h known l = absurd (omega arith)
  code-text {code} (suc f) w place [] c h known l = sym (chosen [] (gap_text w (get_or code place 0) ++ (token_text book code place ++ code_text f (word_kind (get_or code place 0)) book code (place + size_at code place))) (coded-end c).kind)
  code-text {code} (suc f) w place (t ∷ ts) c h known l =
      let (a, b) = all-parts is_token t ts h in
      let (x, y) = any-parts (unknown_name D) t ts known in
      let front = coded-front c in
      let kind : get_or code place 0 ≡ kind_of t = front.kind in
      let some' : get_or code place 0 ≡ 0 → ⊥ = λ z. omega (arith, z, kind, kind-range t) in
      let word : word_kind (get_or code place 0) ≡ is_word t = ap word_kind kind ∙ word-kind t a in
      let more : code_text f (is_word t) book code (place + size t) ≡ spelled_behind (is_word t) ts = code-text f (is_word t) (place + size t) ts front.next b y (omega arith) in
      sym (passed [] (gap_text w (get_or code place 0) ++ (token_text book code place ++ code_text f (word_kind (get_or code place 0)) book code (place + size_at code place))) some')
      ∙ ap₂ (λ (v : Bool) (m : ℕ). (if (w && v) then bytes " " otherwise []) ++ (token_text book code place ++ code_text f v book code (place + m))) word (token-size t c)
      ∙ ap₂ (λ (u v : Bytes). (if (w && is_word t) then bytes " " otherwise []) ++ (u ++ v)) (token-text t c a x) more

  -- ---- the lines

  rule-line : (k : ℕ) (r : Rule) → nth D.rules k ≡ some r → rule_line_text book rules k ≡ line_text (rule_line r)
  unfolding rule_line_text listed_text word_text spelled operation_number
  rule-line k r e =
      let l = nth-lt D.rules k e in
      let few : k < rule_limit = omega (arith, standing.declarations.rules.few) in
      let st = standing.declarations.rules.each k r e in
      let row = held.rules k r e in
      let code = take code_bytes (drop (code_bytes * k) rules) in
      let (n, f, g) = place-nth (same r.operation) D.operations row.operation row.operation-is in
      let m = nth-lt D.operations row.operation f in
      let word : get_or book ((section.rules).start + k) 0 ≡ row.operation = word_at section.rules book row.word few refl in
      let short : row.operation % 8 ≡ row.operation = omega (arith, standing.declarations.operations.few) in
      let long : length r.tokens ≤ code_bytes = omega (arith, coded-long row.tokens, code-length D r.tokens, length-append (each (encode_token D) r.tokens) (0 ∷ []), length-take code_bytes (drop (code_bytes * k) rules)) in
      ap₂ (λ (o p : Bytes). bytes "rule=" ++ (o ++ (bytes "," ++ (p ++ line_end))))
      (ap (λ (w : ℕ). name_text book (operation_at (w % 8))) word ∙ ap (λ (w : ℕ). name_text book (operation_at w)) short ∙ operation-name standing held row.operation n f ∙ sym (same-eq r.operation n g))
      (code-text code_bytes false 0 r.tokens row.tokens st.written st.names-declared long)
      ∙ simp append_assoc

  pub rules-text : rules_text book rules ≡ each line_text (map rule_line D.rules)
  rules-text =
      each-listed line_text rule_line (rule_line_text book rules) D.rules
      (count-is (word_at section.counts book held.counts.rules (omega arith) refl) standing.declarations.rules.few) rule-line
