-- Laws of a whole policy: whether one is read of its tokens, and the order of the refusals.
use Prim.Native.Nat.{ℕ, suc, ◌+◌, ◌-◌, ◌*◌, ◌<◌, min}
use mathlib.Core.Path.{◌≡◌, refl, sym, ap, ap₂, subst, ◌∙◌}
use mathlib.Core.Bool.{Bool, true, false, ◌||◌}
use mathlib.Core.List.{List, [], ◌∷◌, ◌++◌}
use mathlib.Core.Option.{Option, none, some}
use native.Mathlib.Omega.{arith}
use Rattle.std.specs.Prelude as std
use Rattle.std.specs.Prelude.{Some, None, Ok, Err}
use native.Mathlib.Decide.{dec_lt}
use lib.Dec.{ltb}
use lib.ListN.{length, get_or, drop}
use lib.Seq.{drop-drop}
use borrow.Author.Tests.{lt-ltb, le-ltb}
use Rattle.model.specs.Notation.{◌>>=◌, is_none, any_of}
use Rattle.model.specs.Numbers as refusal
use Rattle.model.specs.Bytes.{Bytes}
use Rattle.model.specs.Declarations.{Declarations}
use Rattle.model.specs.Tokens.{Token, tokens_of}
use Rattle.model.specs.Grammar as grammar
use Rattle.model.specs.Grammar.{Policy, policy_within, wholly, read_policy, too_large, terms, depth, largest_set}
use Rattle.model.specs.Refusals.{◌if◌, first, unknown_name}
use Rattle.model.proofs.WordTables.{false-is-true}
use Rattle.model.specs.Standing.{WellDeclared}
use Rattle.rows.specs.Rows.{AttributeRows}
use Rattle.tokens.specs.declared.Encoded.{Encoded}
use Rattle.tokens.specs.declared.BadToken.{BadToken}
use Rattle.tokens.specs.RuleCode.{rule_code, code_length, CodeOf, Encodes}
use Rattle.tokens.proofs.RuleCode.{code-coded}
use Rattle.policy.specs.declared.scan.Reached.{Reached}
use Rattle.policy.specs.declared.scan.Stand.{Stand}
use Rattle.policy.specs.declared.scan.Stand.TheVariants.{Before, Behind, Whole, Failed}
use Rattle.policy.specs.Readers.{Asked, From, Answers, Policies}
use Rattle.policy.specs.Judgements.{Counted, policy_tests, policy_number, Refuses, Judges}
use Rattle.policy.specs.Scans.{Scans}
use Rattle.policy.proofs.CodeFronts.{ended}

-- ---- nothing behind a policy

module _ (code : Bytes) where
  ends-none : (A : Asked) (o : grammar.Reading) → Answers code A None o → is_none (o >>= wholly) ≡ true
  ends-none A none a = refl
  ends-none A (some y) a = absurd a

  ends_read : (n : ℕ) → (get_or code n 0 ≡ 0 → ⊥) → (A : Asked) (o : grammar.Reading) → Answers code A (Some n) o → is_none (o >>= wholly) ≡ true
  ends_read n k A none a = absurd a
  ends_read n k A (some (p, [])) a = absurd (k (ended a))
  ends_read n k A (some (p, t ∷ ts)) a = refl

-- ---- the limits

-- counts that go no further than a limit
ltb-min : (k a : ℕ) → ltb k (min (suc k) a) ≡ ltb k a
ltb-min k a = go (dec_lt k a)
  where
    go : Dec (k < a) → ltb k (min (suc k) a) ≡ ltb k a
    go (yes l) = lt-ltb k (min (suc k) a) (omega arith) ∙ sym (lt-ltb k a l)
    go (no n) = le-ltb k (min (suc k) a) (omega arith) ∙ sym (le-ltb k a (omega arith))

-- the tests of the limits, one after another
module _ (x : Reached) where
  abbrev over : Bool → Bool → Bool → Bool
  over a b c = a || b || c

  large : (p : Policy) → Counted (Whole x) (some p)
      → over (ltb 16 x.terms) (ltb 8 x.depth) (ltb 8 x.largest) ≡ too_large p
  unfolding too_large
  large p a =
      ap₂ (λ (b c : Bool). b || c)
      (ap₂ (λ (b c : Bool). b || c) (ap (ltb 16) a.0 ∙ ltb-min 16 (terms p)) (ap (ltb 8) a.1 ∙ ltb-min 8 (depth p)))
      (ap (ltb 8) a.2 ∙ ltb-min 8 (largest_set p))

-- ---- the order of the refusals

module _ (s : Stand) (unknown : Bool) where
  -- the loop does not end before or behind a term
  refuse-by : ((p : Policy) → Counted s (some p) → ⊥) → Refuses s unknown refusal.malformed
  refuse-by f none D ts a u = refl
  refuse-by f (some p) D ts a u = absurd (f p a)

  pub refuse-before : (x : Reached) → s ≡ Before x → Refuses s unknown refusal.malformed
  refuse-before x e = refuse-by λ p a. subst (λ (r : Stand). Counted r (some p)) e a

  pub refuse-behind : (x : Reached) → s ≡ Behind x → Refuses s unknown refusal.malformed
  refuse-behind x e = refuse-by λ p a. subst (λ (r : Stand). Counted r (some p)) e a

  pub refuse-none : s ≡ Failed → Refuses s unknown refusal.malformed
  refuse-none e = refuse-by λ p a. subst (λ (r : Stand). Counted r (some p)) e a

  module _ (x : Reached) (e : s ≡ Whole x) (b : Bool) (l : b ≡ over x (ltb 16 x.terms) (ltb 8 x.depth) (ltb 8 x.largest)) where
    refuse-read : (n : ℕ) → n ≡ first (refusal.over_limits if b ∷ refusal.undeclared if unknown ∷ []) → Refuses s unknown n
    refuse-read n f o D ts a u = go o (subst (λ (r : Stand). Counted r o) e a)
      where
        go : (o : Option Policy) → Counted (Whole x) o → n ≡ first (policy_tests D (some ts) o)
        go none a = absurd a
        go (some p) a = f ∙ ap₂ (λ (c d : Bool). first (refusal.over_limits if c ∷ refusal.undeclared if d ∷ [])) (l ∙ large x p a) u

    pub refuse-large : b ≡ true → Refuses s unknown refusal.over_limits
    refuse-large z = refuse-read refusal.over_limits (sym (ap (λ (c : Bool). first (refusal.over_limits if c ∷ refusal.undeclared if unknown ∷ [])) z))

    pub refuse-unknown : b ≡ false → unknown ≡ true → Refuses s unknown refusal.undeclared
    refuse-unknown z u = refuse-read refusal.undeclared (sym (ap₂ (λ (c d : Bool). first (refusal.over_limits if c ∷ refusal.undeclared if d ∷ [])) z u))

    pub accept : b ≡ false → unknown ≡ false → Refuses s unknown 0
    accept z u = refuse-read 0 (sym (ap₂ (λ (c d : Bool). first (refusal.over_limits if c ∷ refusal.undeclared if d ∷ [])) z u))

-- ---- judging

module _ (s : Bytes) (rows : List ℕ) (before after : Bytes) (c : std.Result Encoded BadToken) (E : Encodes s rows before after c) where
  judges-by : (n : ℕ) → ((D : Declarations) → WellDeclared D → AttributeRows rows D → n ≡ policy_number D s) → Judges s rows before after n
  judges-by n f = record {
    number = f;
    code = λ D ord ar ts e. written D c E.bad ts e (E.tokens D ord ar ts e);
    long = E.long;
    behind =
        let l = code_length c in
        let m : l + (3 * length s + 3 - l) ≡ 3 * length s + 3 = omega (arith, E.within) in
        ap (λ (k : ℕ). drop k after) (sym m) ∙ sym (drop-drop (3 * length s + 3 - l) l after) ∙ ap (drop (3 * length s + 3 - l)) E.behind
        ∙ drop-drop (3 * length s + 3 - l) l before ∙ ap (λ (k : ℕ). drop k before) m;
  }
    where
      written : (D : Declarations) (r : std.Result Encoded BadToken) → std.is_err r ≡ is_none (tokens_of s) → (ts : List Token) → tokens_of s ≡ some ts
          → std.IfOk r (λ x. CodeOf D ts before after x) → after ≡ rule_code D ts ++ drop (length (rule_code D ts)) before
      written D (Ok x) b ts e t = t.code
      written D (Err x) b ts e t = false-is-true (sym (b ∙ ap is_none e))

  pub judge-bad : (x : BadToken) → c ≡ Err x → Judges s rows before after refusal.malformed
  unfolding policy_number
  judge-bad x e = judges-by 6 (λ D ord ar. go D (tokens_of s) (sym E.bad ∙ ap std.is_err e))
    where
      go : (D : Declarations) (o : Option (List Token)) → is_none o ≡ true → refusal.malformed ≡ first (policy_tests D o (o >>= read_policy))
      go D none f = refl
      go D (some ts) f = false-is-true f

  module _ (x : Encoded) (e : c ≡ Ok x) where
    -- where it has tokens, by what is known of them
    judge-coded : (n : ℕ)
        → ((D : Declarations) (A : Asked) (ts : List Token) → From after A 0 ts → x.unknown ≡ any_of (unknown_name D) ts → n ≡ first (policy_tests D (some ts) (read_policy ts)))
        → Judges s rows before after n
    unfolding policy_number
    judge-coded n f = judges-by n (λ D ord ar. go D ord ar (tokens_of s) refl (sym E.bad ∙ ap std.is_err e))
      where
        go : (D : Declarations) → WellDeclared D → AttributeRows rows D → (o : Option (List Token)) → tokens_of s ≡ o → is_none o ≡ false
            → n ≡ first (policy_tests D o (o >>= read_policy))
        go D ord ar none g b = false-is-true (sym b)
        go D ord ar (some ts) g b =
            let t : CodeOf D ts before after x = subst (λ (r : std.Result Encoded BadToken). std.IfOk r (λ y. CodeOf D ts before after y)) e (E.tokens D ord ar ts g) in
            f D (record { declared = D; valued = false }) ts (record { coded = code-coded t; written = λ v. false-is-true v; known = λ v. false-is-true v }) t.unknown

    pub judge-scanned : (q : Stand) → Scans after q → (n : ℕ) → Refuses q x.unknown n → Judges s rows before after n
    judge-scanned q S n R = judge-coded n λ D A ts h u. R (read_policy ts) D ts (S A ts h) u

    -- what is read of a policy, where it is none
    judge-by : (r : std.Option ℕ) → Policies after 0 r → ((A : Asked) (o : grammar.Reading) → Answers after A r o → is_none (o >>= wholly) ≡ true)
        → Judges s rows before after refusal.malformed
    unfolding read_policy
    judge-by r P f = judge-coded refusal.malformed λ D A ts h u.
        go D ts (read_policy ts) (f A (policy_within (3 * length ts + 3) ts) (P.answers A ts h (3 * length ts + 3) (omega arith)))
      where
        go : (D : Declarations) (ts : List Token) (o : Option Policy) → is_none o ≡ true → refusal.malformed ≡ first (policy_tests D (some ts) o)
        go D ts none e = refl
        go D ts (some p) e = false-is-true e

    pub judge-unread : Policies after 0 None → Judges s rows before after refusal.malformed
    judge-unread P = judge-by None P (ends-none after)

    pub judge-more : (n k : ℕ) → Policies after 0 (Some n) → k ≡ get_or after n 0 → (k ≡ 0 → ⊥) → Judges s rows before after refusal.malformed
    judge-more n k P h z = judge-by (Some n) P (ends_read after n (λ y. z (h ∙ y)))
