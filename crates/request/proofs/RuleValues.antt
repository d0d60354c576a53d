-- The rules of a request: the verdict on each, and what they come to. Assumes nothing.
use Prim.Native.Nat.{ℕ, ◌+◌, ◌-◌, ◌*◌, ◌≤◌, ◌<◌}
use native.Mathlib.Omega.{arith}
use native.Mathlib.Decide.{dec_lt}
use mathlib.Core.Path.{◌≡◌, refl, sym, ap, ap₂, subst, ◌∙◌}
use mathlib.Core.Bool.{Bool, true, false, ◌||◌, true≢false}
use mathlib.Core.List.{List}
use mathlib.Core.Option.{Option, none, some}
use lib.ListN.{length, get_or, take, drop}
use Rattle.model.specs.Notation.{if◌then◌otherwise◌, ◌is◌, nth}
use Rattle.model.specs.Bytes.{Bytes, same}
use Rattle.model.specs.Truth.{Truth, TRUE, UNDEF, FALSE, is_true, is_undef}
use Rattle.model.specs.Declarations.{Declarations, Rule, operation_number}
use Rattle.model.specs.State.{State}
use Rattle.model.specs.Block.{Block}
use Rattle.model.specs.Causes.{absent, unlike, absent_of}
use Rattle.model.specs.Session.{read_by}
use Rattle.model.specs.Decision.{permit, deny, undefined, verdicts, cause, decision_by}
use Rattle.model.proofs.WordTables.{false-is-true, same-eq, same_refl}
use Rattle.model.proofs.Options.{is_some}
use Rattle.model.proofs.Lists.{place-nth, nth-lt, lt-nth}
use Rattle.model.proofs.Causes.{undef-is, absent-of-undef}
use Rattle.model.proofs.Decision.{Verdict, verdicts-rise, verdict-exact, decided-permit, decided-undefined, decided-deny, absent-rule, unlike-rules}
use Rattle.bits.specs.Bits.{any_below}
use Rattle.bits.proofs.Counts.{any-more, any_none, any-find}
use denote.Enum.Bare.{sameb}
use Rattle.truth.specs.contracts.Truth.{the_type}
use Rattle.truth.specs.declared.Truth as code
use Rattle.truth.specs.declared.Truth.TheVariants as variant
use Rattle.truth.specs.Truths.{truth_of}
use Rattle.truth.specs.declared.verdict.Verdict as truth
use Rattle.truth.specs.Verdicts as told
use Rattle.truth.specs.Verdicts.{verdict, verdict_of, rule_verdict}
use Rattle.session.proofs.NamedOperands.{reads-number}
use Rattle.values.specs.Operands.{lent}
use Rattle.program.specs.Runs.{Ran}
use Rattle.book.specs.Held.{code_of_rule, rows_of_rule, RuleHeld}
use Rattle.request.specs.Requests.{verdict_on, RulesOf}

-- ---- the verdict on a rule

module _ (S : State) (b : Block) where
  abbrev D : Declarations
  D = S.declared

  abbrev nothing : told.Verdict
  nothing = verdict FALSE false

  abbrev of_rule : Option Rule → told.Verdict
  of_rule o = elim o as (λ _. told.Verdict) [ none ↦ nothing | some r ↦ if nth D.operations b.operation is same r.operation then rule_verdict (read_by S b) r.tokens otherwise nothing ]

  told-by : (k : ℕ) (r : Rule) → nth D.rules k ≡ some r → (t : Bool) → (nth D.operations b.operation is same r.operation) ≡ t
      → verdict_on S b k ≡ (if t then rule_verdict (read_by S b) r.tokens otherwise nothing)
  unfolding verdict_on
  told-by k r at t e = ap of_rule at ∙ ap (λ (u : Bool). if u then rule_verdict (read_by S b) r.tokens otherwise nothing) e

  -- a verdict other than FALSE is that on a rule of the operation
  record ToldOn (k : ℕ) : Type 0 where
    rule : Rule
    place_is : nth D.rules k ≡ some rule
    operation-is : nth D.operations b.operation ≡ some rule.operation
    told_is : verdict_on S b k ≡ rule_verdict (read_by S b) rule.tokens

  told-on : (k : ℕ) → (verdict_on S b k ≡ nothing → ⊥) → ToldOn k
  unfolding verdict_on
  told-on k some-other = go (nth D.rules k) refl
    where
      by : (r : Rule) → nth D.rules k ≡ some r → (u : Bool) → (nth D.operations b.operation is same r.operation) ≡ u → ToldOn k
      by r at true q =
          let o = is_some (nth D.operations b.operation) (same r.operation) q in
          record {
            rule = r;
            place_is = at;
            operation-is = o.1 ∙ ap some (sym (same-eq r.operation o.0 o.2));
            told_is = told-by k r at true q;
          }
      by r at false q = absurd (some-other (told-by k r at false q))

      go : (o : Option Rule) → nth D.rules k ≡ o → ToldOn k
      go none q = absurd (some-other (ap of_rule q))
      go (some r) q = by r q (nth D.operations b.operation is same r.operation) refl

  value-verdict : (k : ℕ) (t : Truth) → (t ≡ FALSE → ⊥) → (verdict_on S b k).value ≡ t → Verdict S b k t
  value-verdict k t some-value e =
      let r = told-on k (λ q. some-value (sym e ∙ ap (λ (v : told.Verdict). v.value) q)) in
      record { rule = r.rule; place_is = r.place_is; operation-is = r.operation-is; value-is = sym (ap (λ (v : told.Verdict). v.value) r.told_is) ∙ e }

  verdict-told : (k : ℕ) (t : Truth) (v : Verdict S b k t) → verdict_on S b k ≡ rule_verdict (read_by S b) v.rule.tokens
  verdict-told k t v =
      told-by k v.rule v.place_is true
      (ap (λ (x : Option Bytes). x is same v.rule.operation) v.operation-is ∙ same_refl v.rule.operation)

  verdict-value : (k : ℕ) (t : Truth) → Verdict S b k t → (verdict_on S b k).value ≡ t
  verdict-value k t v = ap (λ (x : told.Verdict). x.value) (verdict-told k t v) ∙ v.value-is

  -- an absent one is that on an UNDEF rule
  absent-verdict : (k : ℕ) → (verdict_on S b k).absent ≡ true → (v : Verdict S b k UNDEF) × (absent_of (read_by S b) v.rule.tokens ≡ true)
  absent-verdict k e =
      let r = told-on k (λ q. false-is-true (sym (ap (λ (v : told.Verdict). v.absent) q) ∙ e)) in
      let a : absent_of (read_by S b) r.rule.tokens ≡ true = sym (ap (λ (v : told.Verdict). v.absent) r.told_is) ∙ e in
      (record { rule = r.rule; place_is = r.place_is; operation-is = r.operation-is; value-is = absent-of-undef (read_by S b) r.rule.tokens a }, a)

  verdict-lt : (k : ℕ) (t : Truth) → Verdict S b k t → k < length D.rules
  verdict-lt k t v = nth-lt D.rules k v.place_is

-- ---- the rule of a number

module _ {S : State} {b : Block} {targets : List ℕ} {code : Bytes} {attributes pairs session : List ℕ} {entries : Bytes} {operation : ℕ}
    (of : RulesOf S b targets code attributes pairs session entries operation) (k : ℕ) (known : k < length S.declared.rules) where
  abbrev decls : Declarations
  decls = S.declared

  rule-there : (r : Rule) × (nth decls.rules k ≡ some r)
  rule-there = lt-nth decls.rules k known

  abbrev rule : Rule
  rule = rule-there.0

  held : RuleHeld targets code decls k rule
  held = of.rule-rows k rule rule-there.1

  -- the operation that the rule's word names
  named : (n : Bytes) × (nth decls.operations held.operation ≡ some n) × (same rule.operation n ≡ true)
  unfolding operation_number
  named = place-nth (same rule.operation) decls.operations held.operation held.operation-is

  pub other-operation : (get_or targets k 0 ≡ operation → ⊥) → verdict FALSE false ≡ verdict_on S b k
  other-operation h = sym (told-by S b k rule rule-there.1 false (go (nth decls.operations b.operation is same rule.operation) refl))
    where
      go : (t : Bool) → (nth decls.operations b.operation is same rule.operation) ≡ t → (nth decls.operations b.operation is same rule.operation) ≡ false
      go false e = e
      go true e =
          let (m, at, eq) = is_some (nth decls.operations b.operation) (same rule.operation) e in
          let one : same named.0 m ≡ true = ap (λ (x : Bytes). same x m) (sym (same-eq rule.operation named.0 named.2)) ∙ eq in
          let z : held.operation ≡ b.operation = of.session-of.declarations.operations.unique held.operation b.operation named.0 m named.1 at one in
          absurd (h (held.word ∙ z ∙ of.operation-is))

  pub its-operation : get_or targets k 0 ≡ operation → (t : truth.Verdict)
      → Ran (lent (take (768 * k + 768 - 768 * k) (drop (768 * k) code)) pairs session entries) (take (24576 + 256 * k + 256 - (24576 + 256 * k)) (drop (24576 + 256 * k) code)) t
      → verdict_of t ≡ verdict_on S b k
  its-operation h t ran =
      let size : 768 * k + 768 - 768 * k ≡ 768 = omega arith in
      let rows-size : 24576 + 256 * k + 256 - (24576 + 256 * k) ≡ 256 = omega arith in
      let on : held.operation ≡ b.operation = sym held.word ∙ h ∙ sym of.operation-is in
      let same-one : (nth decls.operations b.operation is same rule.operation) ≡ true =
      ap (λ (i : ℕ). nth decls.operations i is same rule.operation) (sym on)
      ∙ ap (λ (o : Option Bytes). o is same rule.operation) named.1 ∙ named.2 in
      let on-parts : Ran (lent (code_of_rule code k) pairs session entries) (rows_of_rule code k) t =
      subst (λ (n : ℕ). Ran (lent (take n (drop (768 * k) code)) pairs session entries) (rows_of_rule code k) t) size
      (subst (λ (n : ℕ). Ran (lent (take (768 * k + 768 - 768 * k) (drop (768 * k) code)) pairs session entries) (take n (drop (24576 + 256 * k) code)) t) rows-size ran) in
      on-parts (rule_verdict (read_by S b) rule.tokens)
      (held.program attributes of.session-of.attribute-rows.row pairs session entries (read_by S b)
      (reads-number S b attributes pairs session entries of.session-of (code_of_rule code k)))
      ∙ sym (told-by S b k rule rule-there.1 true same-one)

-- ---- a value is compared with a variant

pub true-told : (t : code.Truth) → sameb the_type t variant.True ≡ is_true (truth_of t)
true-told variant.False = refl
true-told variant.Undef = refl
true-told variant.True = refl

pub undef-told : (t : code.Truth) → sameb the_type t variant.Undef ≡ is_undef (truth_of t)
undef-told variant.False = refl
undef-told variant.Undef = refl
undef-told variant.True = refl

-- ---- what the rules come to

-- the first k rules: none is TRUE, `undef` tells whether some is UNDEF, and `lacking` whether some is absent
pub record NoneTrue (S : State) (b : Block) (k : ℕ) (undef lacking : Bool) : Type 0 where
  pub none_true : (j : ℕ) → j < k → is_true (verdict_on S b j).value ≡ false
  pub some-undef : undef ≡ any_below k (λ j. is_undef (verdict_on S b j).value)
  pub some-absent : lacking ≡ any_below k (λ j. (verdict_on S b j).absent)

true-is : (t : Truth) → is_true t ≡ true → t ≡ TRUE
true-is Truth.TRUE e = refl
true-is Truth.UNDEF e = false-is-true e
true-is Truth.FALSE e = false-is-true e

true-not-false : TRUE ≡ FALSE → ⊥
true-not-false e = let z : ◌≡◌ {A = ℕ} 0 1 = cc in omega (arith, z)

undef-not-false : UNDEF ≡ FALSE → ⊥
undef-not-false e = let z : ◌≡◌ {A = ℕ} 0 1 = cc in omega (arith, z)

module _ (S : State) (b : Block) where
  pub none_yet : NoneTrue S b 0 false false
  unfolding any_below
  none_yet = record { none_true = λ j h. absurd (omega arith); some-undef = refl; some-absent = refl }

  pub one_more : (k : ℕ) (u a : Bool) (t : told.Verdict) (r s : Bool) → NoneTrue S b k u a → t ≡ verdict_on S b k → is_true t.value ≡ false
      → r ≡ (u || is_undef t.value) → s ≡ (a || t.absent) → NoneTrue S b (k + 1) r s
  one_more k u a t r s before e untrue f g = record {
    none_true = λ j h. go j h (dec_lt j k);
    some-undef =
        f ∙ ap₂ (λ (x y : Bool). x || y) before.some-undef (ap (λ (v : told.Verdict). is_undef v.value) e) ∙ sym (any-more k (λ j. is_undef (verdict_on S b j).value));
    some-absent = g ∙ ap₂ (λ (x y : Bool). x || y) before.some-absent (ap (λ (v : told.Verdict). v.absent) e) ∙ sym (any-more k (λ j. (verdict_on S b j).absent));
  }
    where
      go : (j : ℕ) → j < k + 1 → Dec (j < k) → is_true (verdict_on S b j).value ≡ false
      go j h (yes l) = before.none_true j l
      go j h (no l) =
          let d : j ≡ k = omega arith in
          ap (λ (i : ℕ). is_true (verdict_on S b i).value) d ∙ ap (λ (v : told.Verdict). is_true v.value) (sym e) ∙ untrue

  -- the first that is TRUE
  pub permits : (k : ℕ) (u a : Bool) (t : told.Verdict) → NoneTrue S b k u a → t ≡ verdict_on S b k → is_true t.value ≡ true → permit k ≡ decision_by (cause S b) (verdicts S b)
  permits k u a t before e yes_true =
      sym ((decided-permit (cause S b) (verdicts S b) (verdicts-rise S b) k).1 (
        (verdict-exact S b k TRUE).1 (value-verdict S b k TRUE true-not-false (sym (ap (λ (v : told.Verdict). v.value) e) ∙ true-is t.value yes_true)),
        λ j m. least j (verdict-value S b j TRUE ((verdict-exact S b j TRUE).0 m)) (dec_lt j k),
      ))
    where
      least : (j : ℕ) → (verdict_on S b j).value ≡ TRUE → Dec (j < k) → k ≤ j
      least j v (yes l) = absurd (true≢false (sym (ap is_true v) ∙ before.none_true j l))
      least j v (no l) = omega arith

  module _ (n : ℕ) (whole : length S.declared.rules ≡ n) (u a : Bool) (all_seen : NoneTrue S b n u a) where
    no_true : (j : ℕ) → Verdict S b j TRUE → ⊥
    no_true j v = let l = verdict-lt S b j TRUE v in true≢false (sym (ap is_true (verdict-value S b j TRUE v)) ∙ all_seen.none_true j (omega arith))

    pub undefines-absent : a ≡ true → undefined absent ≡ decision_by (cause S b) (verdicts S b)
    undefines-absent e =
        let (j, l, q) = any-find n (λ j. (verdict_on S b j).absent) (sym all_seen.some-absent ∙ e) in
        let (v, lacking) = absent-verdict S b j q in
        sym ((decided-undefined (cause S b) (verdicts S b) absent).1 (
          (λ i m. no_true i ((verdict-exact S b i TRUE).0 m)),
          (j, (verdict-exact S b j UNDEF).1 v),
          absent-rule S b j v lacking,
        ))

    pub undefines-unlike : a ≡ false → u ≡ true → undefined unlike ≡ decision_by (cause S b) (verdicts S b)
    undefines-unlike none-absent e =
        let (j, l, q) = any-find n (λ j. is_undef (verdict_on S b j).value) (sym all_seen.some-undef ∙ e) in
        sym ((decided-undefined (cause S b) (verdicts S b) unlike).1 (
          (λ i m. no_true i ((verdict-exact S b i TRUE).0 m)),
          (j, (verdict-exact S b j UNDEF).1 (value-verdict S b j UNDEF undef-not-false (undef-is (verdict_on S b j).value q))),
          unlike-rules S b λ i v. let k = verdict-lt S b i UNDEF v in
              sym (ap (λ (x : told.Verdict). x.absent) (verdict-told S b i UNDEF v)) ∙ any_none n (λ j. (verdict_on S b j).absent) (sym all_seen.some-absent ∙ none-absent) i (omega arith),
        ))

    pub denies : u ≡ false → deny ≡ decision_by (cause S b) (verdicts S b)
    denies e =
        sym ((decided-deny (cause S b) (verdicts S b)).1
        ((λ i m. no_true i ((verdict-exact S b i TRUE).0 m)), λ i m. no-undef i ((verdict-exact S b i UNDEF).0 m)))
      where
        no-undef : (i : ℕ) → Verdict S b i UNDEF → ⊥
        no-undef i v =
            let l = verdict-lt S b i UNDEF v in
            true≢false (sym (ap is_undef (verdict-value S b i UNDEF v))
            ∙ any_none n (λ j. is_undef (verdict_on S b j).value) (sym all_seen.some-undef ∙ e) i (omega arith))
