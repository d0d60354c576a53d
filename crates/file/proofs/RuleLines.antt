-- A rule more: what its line is refused for, and that the book with it holds the state with it. Assumes nothing.
use Rattle.std.proofs.Common.{◌≡◌, refl, sym, ap, subst, ◌∙◌, ℕ, ◌+◌, ◌-◌, ◌*◌, ◌≤◌, ◌<◌, Bool, true, false, ◌&&◌, ◌||◌, not, List, [], ◌∷◌, ◌++◌, Option, Some, None, append_assoc, leb, length, get_or, take, drop, arith}
use mathlib.Core.Path.{ap₂}
use mathlib.Core.Logic.{⊎_elim}
use lib.ListN.{set, length-set}
use Rattle.std.proofs.Math.Option as math
use Rattle.std.proofs.Math.Option.{none, some, some-injective}
use lib.Seq.{get_or-set_same, get_or-set_other, sets, sets-eq, length-sets, drop-drop}
use borrow.Author.Tests.{lt-leb, le-leb, ne_eqb}
use borrow.Rule.Slice.PartMut.{put_mid}
use Rattle.model.specs.Notation.{◌>>=◌, ◌is◌, is_none, any_of, all_of, each, nth}
use Rattle.model.specs.Limits.{rule_limit}
use Rattle.model.specs.Numbers as refusal
use Rattle.model.specs.Bytes.{Bytes}
use Rattle.model.specs.Names.{is_name}
use Rattle.model.specs.Attributes.{Source}
use Rattle.model.specs.Tokens.{Token, name, int, str, truth, operator, mark, is_token, tokens_of}
use Rattle.model.specs.Grammar.{Policy, read_policy, too_large}
use Rattle.model.specs.Keys as keys
use Rattle.model.specs.Lines.{Line, rule, read_rule}
use Rattle.model.specs.Declarations.{Declarations, Rule, attribute_number, operation_number, holder_numbers_of, groups}
use Rattle.model.specs.State.{State, after, with_rule}
use Rattle.model.specs.Refusals.{◌if◌, first, unknown_name, circular}
use Rattle.model.specs.Load.{stepped}
use Rattle.model.specs.Standing.{Standing}
use Rattle.model.proofs.Options.{parts, bind-some}
use Rattle.model.proofs.Lists.{nth-lt}
use Rattle.model.proofs.Lines.{fields-said}
use Rattle.model.proofs.Tests.{none-holds}
use Rattle.model.proofs.Declared.{rule-of-line}
use Rattle.model.proofs.Growing.{nth_last}
use Rattle.rows.specs.Rows.{AttributeRows, is_pair_of}
use Rattle.tokens.specs.RuleCode.{encode_token, Coded}
use Rattle.index.specs.Index.{Indexed}
use Rattle.codes.specs.declared.Refusal.{Refusal}
use Rattle.codes.specs.Enums.{refusal_number, told}
use Rattle.policy.specs.Judgements.{Judges, policy_number}
use Rattle.program.specs.Runs.{Programmed}
use Rattle.program.proofs.Programs.{by-any-rows, more-attributes}
use Rattle.compile.specs.Compiled.{Compiled}
use Rattle.fields.specs.declared.RuleFields.{RuleFields}
use Rattle.fields.specs.Forms.{rule_of, RuleTold}
use Rattle.fields.proofs.ToldParts.{read_as}
use Rattle.text.specs.Packing.{packed_of}
use Rattle.text.proofs.LoopPlaces.{tail-part}
use Rattle.book.specs.Sections as section
use Rattle.book.specs.Sections.{Section, section_words, rule_bytes}
use Rattle.book.specs.Held.{CountsOf, OperationRows, SortRows, code_of_rule, rows_of_rule, RuleHeld, RuleRows, Holds, pair_row, holder_row}
use Rattle.book.specs.Steps.{later_tests}
use Rattle.book.specs.Finding.{OperationFound}
use Rattle.file.specs.LineSteps.{fields_refusal, FieldsRead, RuleJudged, RuleCompiled, rule_tests, rule_put}
use Rattle.book.proofs.Sections.{mid-inside, mid-before, mid-behind}
use Rattle.book.proofs.Writes.{apart, word-beside, word-inside, section-long, section-word, word_at}
use Rattle.book.proofs.Kept.{length_more, sorts-kept, groups-kept, attributes-kept}
use Rattle.tielines.proofs.TieRefusals.{refused_for}
use Rattle.tielines.proofs.TieNaming.{told-some, told-none}

-- ---- the bytes of a rule

-- the code of the first k rules stays, and rule k has what was written
pub judged-into : (s : Bytes) (rows : List ℕ) (k n : ℕ) (code ys : Bytes) → length code ≡ rule_bytes → k < rule_limit
    → Judges s rows (take (768 * k + 768 - 768 * k) (drop (768 * k) code)) ys n → length ys ≡ 768
    → RuleJudged s rows k code (put_mid (768 * k) (768 * k + 768 - 768 * k) code ys) n
judged-into s rows k n code ys long few j size =
    let d : 768 * k + 768 - 768 * k ≡ 768 = omega arith in
    subst (λ (m : ℕ). RuleJudged s rows k code (put_mid (768 * k) m code ys) n) (sym d) (record {
      number = j.number;
      before = λ i l. mid-before (768 * k) 768 code ys (omega arith) (768 * i) 768 (omega arith);
      rows_stay = λ i l. mid-behind (768 * k) 768 code ys (omega arith) (24576 + 256 * i) 256 size (omega arith);
      here = λ l D well r ts e. record {
        rest = _;
        from = mid-inside (768 * k) 768 code ys (omega arith) size ∙ j.code D well r ts e;
      };
    })

-- bytes that nobody keeps
pub judged-beyond : (s : Bytes) (rows : List ℕ) (k n : ℕ) (code before after : Bytes) → rule_limit ≤ k → Judges s rows before after n → RuleJudged s rows k code code n
judged-beyond s rows k n code before after over j = record { number = j.number; before = λ i l. refl; rows_stay = λ i l. refl; here = λ l. absurd (omega arith) }

-- rows laid over the bytes of all rules are in the place of those that were there
rows-put : (code : Bytes) (at : ℕ) (rows : Bytes) → at + length rows ≤ length code → sets code at rows ≡ put_mid at (length rows) code rows
rows-put code at rows fits =
    sets-eq rows code at fits ∙ append_assoc (take at code) rows (drop (at + length rows) code)
    ∙ ap (λ (l : Bytes). take at code ++ (rows ++ l)) (sym (drop-drop (length rows) at code))

pub compiled-into : (attributes : List ℕ) (k : ℕ) (code rows : Bytes) → length code ≡ rule_bytes → k < rule_limit → length rows ≡ 256
    → Compiled (take (768 * k + 768 - 768 * k) (drop (768 * k) code)) attributes rows → (code' : Bytes) → code' ≡ sets code (24576 + 256 * k) rows → RuleCompiled attributes k code code'
compiled-into attributes k code rows long few size c code' e =
    let at : ℕ = 24576 + 256 * k in
    let d : 768 * k + 768 - 768 * k ≡ 768 = omega arith in
    let mid : code' ≡ put_mid at 256 code rows = e ∙ rows-put code at rows (omega arith) ∙ ap (λ (n : ℕ). put_mid at n code rows) size in
    let inside : rows_of_rule code' k ≡ rows = ap (λ (l : Bytes). rows_of_rule l k) mid ∙ mid-inside at 256 code rows (omega arith) size in
    record {
      codes-stay = λ i l. ap (λ (x : Bytes). code_of_rule x i) mid ∙ mid-before at 256 code rows (omega arith) (768 * i) 768 (omega arith);
      before = λ i l. ap (λ (x : Bytes). rows_of_rule x i) mid ∙ mid-before at 256 code rows (omega arith) (24576 + 256 * i) 256 (omega arith);
      here = subst (Compiled (code_of_rule code k) attributes) (sym inside) (subst (λ (n : ℕ). Compiled (take n (drop (768 * k) code)) attributes rows) d c);
      rows_long = ap length inside ∙ size;
      long = ap length e ∙ length-sets code at rows;
    }

-- ---- what a rule is refused for

-- the tests of the policy alone, of the operation and of the number of rules are those of the line, in their order
in_order_lem : (large unknown absent over circle : Bool) (policy : ℕ) (missing : Bool) (rules : ℕ) → policy ≡ first (refusal.over_limits if large ∷ refusal.undeclared if unknown ∷ [])
    → missing ≡ absent → leb rule_limit rules ≡ over → circle ≡ false
    → first (rule_tests policy missing rules) ≡ first (refusal.over_limits if large ∷ refusal.undeclared if (absent || unknown) ∷ refusal.wrong_sort if false ∷ refusal.repeated if false ∷ refusal.full if over ∷ refusal.circular if circle ∷ [])
in_order_lem true unknown absent over circle policy missing rules e f g h = rw e
in_order_lem false true true over circle policy missing rules e f g h = rw e
in_order_lem false true false over circle policy missing rules e f g h = rw e
in_order_lem false false true over circle policy missing rules e f g h = rw (e, f)
in_order_lem false false false true circle policy missing rules e f g h = rw (e, f, g)
in_order_lem false false false false circle policy missing rules e f g h = rw (e, f, g, h)

module _ (S : State) (standing : Standing S) (o p : Bytes) (policy : ℕ) (missing : Bool) (rules : ℕ) (judge : policy ≡ policy_number S.declared p) (counted : rules ≡ length S.declared.rules)
    (found : (ts : List Token) → rule_of o p ≡ some (rule o ts) → missing ≡ is_none (operation_number S.declared o)) where
  pub rule-refusal : first (rule_tests policy missing rules) ≡ fields_refusal S (rule_of o p)
  unfolding policy_number circular
  rule-refusal = go (tokens_of p) refl
    where
      D : Declarations
      D = S.declared

      read : (ts : List Token) → tokens_of p ≡ some ts → (q : math.Option Policy) → read_policy ts ≡ q → first (rule_tests policy missing rules) ≡ fields_refusal S (rule_of o p)
      read ts e none f =
          let six : policy ≡ refusal.malformed = judge ∙ rw (e, f) in
          let not-read : rule_of o p ≡ none = rw (e, f) in
          rw (six, not-read)
      read ts e (some q) f =
          let is_read_lem : rule_of o p ≡ some (rule o ts) = rw (e, f) in
          in_order_lem (read_policy ts is too_large) (any_of (unknown_name D) ts) (is_none (operation_number D o)) (leb rule_limit (length D.rules)) false policy missing rules
          (judge ∙ rw (e, f)) (found ts is_read_lem) (ap (leb rule_limit) counted) refl
          ∙ ap (fields_refusal S) (sym is_read_lem)

      go : (t : math.Option (List Token)) → tokens_of p ≡ t → first (rule_tests policy missing rules) ≡ fields_refusal S (rule_of o p)
      go none e =
          let six : policy ≡ refusal.malformed = judge ∙ rw e in
          let not-read : rule_of o p ≡ none = rw e in
          rw (six, not-read)
      go (some ts) e = read ts e (read_policy ts) refl

-- ---- the book with a rule more

-- the code of tokens, with the same attributes
module _ (D E : Declarations) (alike : (s : Source) (n : Bytes) → attribute_number E s n ≡ attribute_number D s n) where
  token-same : (t : Token) → encode_token E t ≡ encode_token D t
  token-same (name s n) = rw (alike s n)
  token-same (int n) = refl
  token-same (str s) = refl
  token-same (truth t) = refl
  token-same (operator o) = refl
  token-same (mark m) = refl

  code_same : (ts : List Token) → each (encode_token E) ts ≡ each (encode_token D) ts
  code_same [] = refl
  code_same (t ∷ ts) = ap₂ (λ (b c : Bytes). b ++ c) (token-same t) (code_same ts)

  coded-same : (code : Bytes) (at : ℕ) (ts : List Token) → Coded D code at ts → Coded E code at ts
  coded-same code at ts c = record { rest = c.rest; from = c.from ∙ ap (λ (b : Bytes). b ++ (0 ∷ []) ++ c.rest) (sym (code_same ts)) }

module _ (book : List ℕ) (k operation : ℕ) (few : k < rule_limit) where
  abbrev word : List ℕ
  word = set book ((section.rules).start + k) operation

  put-beside : (s : Section) → apart s section.rules ≡ true → apart s section.counts ≡ true → section_words s (rule_put book k operation) ≡ section_words s book
  unfolding rule_put
  put-beside s a b =
      word-beside s section.counts word b 5 (k + 1) (omega arith) (omega arith)
      ∙ word-beside s section.rules book a ((section.rules).start + k) operation (omega arith) (omega arith)

  put-rows : section_words section.rules (rule_put book k operation) ≡ set (section_words section.rules book) k operation
  unfolding rule_put
  put-rows = word-beside section.rules section.counts word refl 5 (k + 1) (omega arith) (omega arith) ∙ word-inside section.rules book k operation few

  put_count : section_words section.counts (rule_put book k operation) ≡ set (section_words section.counts book) 5 (k + 1)
  unfolding rule_put
  put_count =
      word-inside section.counts word 5 (k + 1) (omega arith)
      ∙ ap (λ (l : List ℕ). set l 5 (k + 1)) (word-beside section.counts section.rules book refl ((section.rules).start + k) operation (omega arith) (omega arith))

  pub put-long : length (rule_put book k operation) ≡ length book
  unfolding rule_put
  put-long = simp length-set

counts-more : (D : Declarations) (r : Rule) (k : ℕ) (words : List ℕ) → 5 < length words → k ≡ length D.rules → CountsOf words D → CountsOf (set words 5 (k + 1)) (with_rule r D)
unfolding holder_numbers_of groups
counts-more D r k words long at c = record {
  attributes = word_at words 5 (k + 1) 0 long ∙ c.attributes;
  operations = word_at words 5 (k + 1) 1 long ∙ c.operations;
  pairs = word_at words 5 (k + 1) 2 long ∙ c.pairs;
  holders = word_at words 5 (k + 1) 3 long ∙ c.holders;
  groups-are = word_at words 5 (k + 1) 4 long ∙ c.groups-are;
  rules = word_at words 5 (k + 1) 5 long ∙ omega (arith, at, length_more D.rules r);
}

rows_more : (D : Declarations) (r : Rule) (k operation : ℕ) (words : List ℕ) (code code' : Bytes) → length words ≡ (section.rules).size → k ≡ length D.rules → k < rule_limit
    → operation_number D r.operation ≡ some operation → ((i : ℕ) → i < k → code_of_rule code' i ≡ code_of_rule code i) → ((i : ℕ) → i < k → rows_of_rule code' i ≡ rows_of_rule code i)
    → Coded D (code_of_rule code' k) 0 r.tokens → Programmed D (code_of_rule code' k) (rows_of_rule code' k) r.tokens
    → RuleRows words code D → RuleRows (set words k operation) code' (with_rule r D)
unfolding attribute_number operation_number
rows_more D r k operation words code code' long at few known kept rows-kept here program rows i q e = ⊎_elim old new (nth_last D.rules r i e)
  where
    E : Declarations
    E = with_rule r D

    more : (c s : Bytes) (ts : List Token) → Programmed D c s ts → Programmed (with_rule r D) c s ts
    more = more-attributes D (with_rule r D) (λ j a x. x) (λ s n j x. x)

    old : nth D.rules i ≡ some q → RuleHeld (set words k operation) code' (with_rule r D) i q
    old f =
        let l = nth-lt D.rules i f in
        let h = rows i q f in
        record {
          operation = h.operation;
          operation-is = h.operation-is;
          word = get_or-set_other words k i operation 0 (λ z. omega arith) ∙ h.word;
          tokens = coded-same D (with_rule r D) (λ s n. refl) (code_of_rule code' i) 0 q.tokens (subst (λ (c : Bytes). Coded D c 0 q.tokens) (sym (kept i (omega arith))) h.tokens);
          program = more (code_of_rule code' i) (rows_of_rule code' i) q.tokens
              (subst (λ (c : Bytes). Programmed D c (rows_of_rule code' i) q.tokens) (sym (kept i (omega arith)))
              (subst (λ (c : Bytes). Programmed D (code_of_rule code i) c q.tokens) (sym (rows-kept i (omega arith))) h.program));
        }

    new : (i ≡ length D.rules) × (r ≡ q) → RuleHeld (set words k operation) code' (with_rule r D) i q
    new (f, g) =
        let z : i ≡ k = f ∙ sym at in
        record {
          operation = operation;
          operation-is = ap (λ (x : Rule). operation_number D x.operation) (sym g) ∙ known;
          word = ap (λ (j : ℕ). get_or (set words k operation) j 0) z ∙ get_or-set_same words k operation 0 (omega arith);
          tokens = coded-same D (with_rule r D) (λ s n. refl) (code_of_rule code' i) 0 q.tokens
              (subst (λ (j : ℕ). Coded D (code_of_rule code' j) 0 q.tokens) (sym z) (subst (λ (x : Rule). Coded D (code_of_rule code' k) 0 x.tokens) g here));
          program = more (code_of_rule code' i) (rows_of_rule code' i) q.tokens
              (subst (λ (j : ℕ). Programmed D (code_of_rule code' j) (rows_of_rule code' j) q.tokens) (sym z)
              (subst (λ (x : Rule). Programmed D (code_of_rule code' k) (rows_of_rule code' k) x.tokens) g program));
        }

pub rule-held : (book : List ℕ) (code code' : Bytes) (S : State) (o : Bytes) (ts : List Token) (k operation : ℕ) → Holds book code S → length code' ≡ rule_bytes
    → k ≡ length S.declared.rules → k < rule_limit → operation_number S.declared o ≡ some operation → ((i : ℕ) → i < k → code_of_rule code' i ≡ code_of_rule code i)
    → ((i : ℕ) → i < k → rows_of_rule code' i ≡ rows_of_rule code i) → Coded S.declared (code_of_rule code' k) 0 ts → Programmed S.declared (code_of_rule code' k) (rows_of_rule code' k) ts
    → Holds (rule_put book k operation) code' (after (rule o ts) S)
unfolding after attribute_number operation_number is_pair_of
rule-held book code code' S o ts k operation held size at few known kept rows-kept here program =
    let D = S.declared in
    let r : Rule = record { operation = o; tokens = ts } in
    let E = with_rule r D in
    let long = held.long in
    let beside = put-beside book k operation few in
    record {
      edition = held.edition;
      long = put-long book k operation few ∙ held.long;
      code-long = size;
      counts =
          subst (λ (w : List ℕ). CountsOf w E) (sym (put_count book k operation few))
          (counts-more D r k (section_words section.counts book) (omega (arith, section-long section.counts book (omega arith))) at held.counts);
      attributes = subst (λ (w : List ℕ). AttributeRows w E) (sym (beside section.attributes refl refl)) (attributes-kept D E refl (λ i p. refl) _ held.attributes);
      operations = subst (λ (w : List ℕ). OperationRows w E.operations) (sym (beside section.operations refl refl)) held.operations;
      pairs = subst (λ (w : List ℕ). Indexed w 256 (pair_row E)) (sym (beside section.pairs refl refl)) held.pairs;
      holders = subst (λ (w : List ℕ). Indexed w 256 (holder_row E)) (sym (beside section.holders refl refl)) held.holders;
      sorts = subst (λ (w : List ℕ). SortRows w E) (sym (beside section.sorts refl refl)) (sorts-kept D E refl (section_words section.sorts book) held.sorts);
      groups = rw (beside section.slots refl refl, beside section.slot_of refl refl) (groups-kept D E refl _ _ held.groups);
      ties = rw (beside section.ups refl refl, beside section.own refl refl, beside section.slots refl refl) held.ties;
      rules =
          subst (λ (w : List ℕ). RuleRows w code' E) (sym (put-rows book k operation few))
          (rows_more D r k operation (section_words section.rules book) code code' (section-long section.rules book (omega arith)) at few known kept rows-kept here program held.rules);
    }

-- ---- the ways of the step

rule-read : (f : Bytes) (v : RuleFields) → RuleTold f (Some v) → (o : Bytes) × (read_rule f ≡ rule_of o (drop v.start f)) × (packed_of o ≡ v.operation)
rule-read f v told =
    let ((o, start), e, g) = read_as told.fields in
    (o, e ∙ ap (λ (z : RuleFields). rule_of o (drop z.start f)) (sym g), ap (λ (z : RuleFields). z.operation) (sym g))

-- the tokens of a rule that is read
rule-tokens : (o p : Bytes) (l : Line) → rule_of o p ≡ some l → (ts : List Token) × (tokens_of p ≡ some ts) × (l ≡ rule o ts)
rule-tokens o p l e =
    let (ts, a, b) = bind-some (tokens_of p) (λ ts. read_policy ts >>= λ q. some (rule o ts)) e in
    let (q, c, d) = bind-some (read_policy ts) (λ q. some (rule o ts)) b in
    (ts, a, sym (some-injective _ _ d))

accepted-read : (S : State) (x : math.Option Line) → fields_refusal S x ≡ 0 → (l : Line) × (x ≡ some l)
accepted-read S none e = absurd (omega arith)
accepted-read S (some l) e = (l, refl)

module _ (f : Bytes) (v : RuleFields) (read-as : RuleTold f (Some v)) (book : List ℕ) (code code' : Bytes) (k policy : ℕ) (count : k ≡ get_or book 5 0)
    (judge-part : RuleJudged (take (length f - v.start) (drop v.start f)) (section_words section.attributes book) k code code' policy) where
  judge : RuleJudged (drop v.start f) (section_words section.attributes book) k code code' policy
  judge = subst (λ (s : Bytes). RuleJudged s (section_words section.attributes book) k code code' policy) (tail-part v.start f) judge-part

  counted : (S : State) → Holds book code S → k ≡ length S.declared.rules
  counted S held = count ∙ sym (section-word section.counts book 5 (omega arith)) ∙ held.counts.rules

  -- the name of the operation
  abbrev name_of : Bytes
  name_of = (rule-read f v read-as).0

  named : (S : State) → Standing S → Holds book code S → (ts : List Token) → read_rule f ≡ some (rule name_of ts) → {r : Option ℕ}
      → OperationFound (section_words section.operations book) v.operation r → r ≡ told (operation_number S.declared name_of)
  named S standing held ts e found =
      let formed = (fields-said keys.Key.rule f (rule name_of ts) e).0 in
      let (front, _) = parts (is_name name_of && all_of is_token ts) (not (is_none (read_policy ts))) formed in
      found S.declared standing.declarations held.operations name_of (parts (is_name name_of) (all_of is_token ts) front).0 (rule-read f v read-as).2

  number-is-first : (S : State) → Standing S → Holds book code S → (missing : Bool)
      → ((ts : List Token) → read_rule f ≡ some (rule name_of ts) → missing ≡ is_none (operation_number S.declared name_of))
      → first (rule_tests policy missing k) ≡ fields_refusal S (read_rule f)
  number-is-first S standing held missing found =
      let e = (rule-read f v read-as).1 in
      rule-refusal S standing name_of (drop v.start f) policy missing k (judge.number S.declared standing.declarations held.attributes) (counted S held) (λ ts g. found ts (e ∙ g))
      ∙ ap (fields_refusal S) (sym e)

  pub rule-misjudged : (e : Refusal) → policy ≡ refusal_number e → {n : ℕ} → n ≡ refusal_number e → FieldsRead book code (read_rule f) book code' n
  rule-misjudged e z w S standing held =
      let other : policy ≡ 0 → ⊥ = λ y. refused_for e (sym z ∙ y) in
      let absent = is_none (operation_number S.declared name_of) in
      let tests : policy ≡ first (rule_tests policy absent k) = rw (ne_eqb policy 0 other) in
      (w ∙ sym z ∙ tests ∙ number-is-first S standing held absent (λ ts g. refl), λ y. absurd (refused_for e (sym w ∙ y)))

  module _ (right : policy ≡ 0) where
    pub rule-unknown : OperationFound (section_words section.operations book) v.operation None → {n : ℕ} → n ≡ refusal.undeclared → FieldsRead book code (read_rule f) book code' n
    rule-unknown found w S standing held =
        let tests : refusal.undeclared ≡ first (rule_tests policy true k) = rw right in (
          w ∙ tests ∙ number-is-first S standing held true (λ ts g. sym (ap is_none (told-none (operation_number S.declared name_of) (named S standing held ts g found)))),
          λ y. absurd (omega arith),
        )

    module _ {operation : ℕ} (found : OperationFound (section_words section.operations book) v.operation (Some operation)) where
      known : (S : State) → Standing S → Holds book code S → (ts : List Token) → read_rule f ≡ some (rule name_of ts) → operation_number S.declared name_of ≡ some operation
      known S standing held ts e = told-some (operation_number S.declared name_of) (named S standing held ts e found)

      there : (S : State) → Standing S → Holds book code S → first (rule_tests policy false k) ≡ fields_refusal S (read_rule f)
      there S standing held = number-is-first S standing held false (λ ts g. sym (ap is_none (known S standing held ts g)))

      pub rule-full : rule_limit ≤ k → FieldsRead book code (read_rule f) book code' refusal.full
      rule-full far S standing held =
          let tests : refusal.full ≡ first (rule_tests policy false k) = rw (right, le-leb rule_limit k far) in
          (tests ∙ there S standing held, λ y. absurd (omega arith))

      pub rule-accepted : k < rule_limit → length code' ≡ rule_bytes → (code'' : Bytes) → RuleCompiled (section_words section.attributes book) k code' code''
          → (book' : List ℕ) → book' ≡ rule_put book k operation → FieldsRead book code (read_rule f) book' code'' 0
      rule-accepted few size code'' compiled book' written S standing held =
          let D = S.declared in
          let tests : 0 ≡ first (rule_tests policy false k) = rw (right, lt-leb rule_limit k few) in
          let number : 0 ≡ fields_refusal S (read_rule f) = tests ∙ there S standing held in
          let g = (rule-read f v read-as).1 in
          let (l, x) = accepted-read S (read_rule f) (sym number) in
          let (ts, spelled, is-rule) = rule-tokens name_of (drop v.start f) l (sym g ∙ x) in
          let read : read_rule f ≡ some (rule name_of ts) = x ∙ ap (λ (m : Line). some m) is-rule in
          let passed = none-holds (later_tests S (rule name_of ts)) refl (sym (number ∙ ap (fields_refusal S) read)) in
          let stands = rule-of-line D name_of ts (fields-said keys.Key.rule f (rule name_of ts) read).0 passed.0 passed.1.0 in
          let coded = judge.here few D standing.declarations held.attributes ts spelled in
          let programmed = by-any-rows D (section_words section.attributes book) held.attributes.row (code_of_rule code' k) (rows_of_rule code'' k) ts
          (compiled.here D ts stands.policy coded stands.written stands.names-declared stands.reads stands.within (omega (arith, compiled.rows_long))) in
          let same = compiled.codes-stay k few in (
            number,
            λ z.
                subst (λ (y : math.Option Line). Holds book' code'' (stepped S y)) (sym read)
                (subst (λ (w : List ℕ). Holds w code'' (after (rule name_of ts) S)) (sym written)
                (rule-held book code code'' S name_of ts k operation held (compiled.long ∙ size) (counted S held) few
                (known S standing held ts read)
                (λ i l. compiled.codes-stay i (omega arith) ∙ judge.before i l) (λ i l. compiled.before i l ∙ judge.rows_stay i (omega arith))
                (subst (λ (c : Bytes). Coded D c 0 ts) (sym same) coded) (subst (λ (c : Bytes). Programmed D c (rows_of_rule code'' k) ts) (sym same) programmed))),
          )
