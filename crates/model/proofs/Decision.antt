-- The decision: permit is given with the lowest TRUE rule of the operation, undefined where none is TRUE and some is UNDEF, absent if one of these is, deny
-- where none is either. A rule's number is its place in the file. Assumes nothing.
use Prim.Native.Nat.{ℕ, suc, ◌≤◌, ◌<◌}
use mathlib.Core.Path.{◌≡◌, refl, sym, ap, subst, ◌∙◌}
use mathlib.Core.Logic.{◌↔◌}
use mathlib.Core.Bool.{Bool, true, false}
use mathlib.Core.List.Memᴰ.{head as here}
use mathlib.Core.List.Memᴰ.{tail as there}
use mathlib.Core.List.{List, [], ◌∷◌}
use mathlib.Core.Option.{Option, none, some, some-injective}
use native.Mathlib.Nat.{zero-add}
use native.Mathlib.Omega.{arith}
use lib.Dec.{eqb}
use borrow.Author.Tests.{eqb-true, eqb-false}
use Rattle.model.specs.Notation.{if◌then◌otherwise◌, ◌is◌, is_none, any_of, map, filter, nth, numbered, numbered_from}
use Rattle.model.specs.Truth.{Truth, TRUE, UNDEF, is_true, is_undef}
use Rattle.model.specs.Bytes.{Bytes, same}
use Rattle.model.specs.Declarations.{Rule}
use Rattle.model.specs.State.{State}
use Rattle.model.specs.Meaning.{meaning_of}
use Rattle.model.specs.Causes.{Cause, absent, unlike, cause_by, cause_number, absent_of}
use Rattle.model.specs.Block.{Block, read_block}
use Rattle.model.specs.Session.{read_by}
use Rattle.model.specs.Refusals.{request_refusal}
use Rattle.model.specs.Decision.{Decision, permit, deny, undefined, refused, rules_for, verdicts, cause, without_permit, permit_by, decision_by, judged, decide}
use Rattle.model.proofs.WordTables.{false-is-true, same-eq, same_refl}
use Rattle.model.proofs.Options.{is_some}
use Rattle.model.proofs.Lists.{◌∈◌, any-in, in-any, in-filter, filter-in, in_map, map-in, in-numbered, numbered-in}
use Rattle.model.proofs.Refusals.{unread}
use Rattle.model.proofs.Causes.{undef-is, absent-of-undef}

-- the numbers rise: each is below those behind it
abbrev pub Rising : {A : Type 0} → List (ℕ × A) → Type 0
Rising [] = Unit {0}
Rising {A} (v ∷ vs) = ((w : ℕ × A) → w ∈ vs → v.0 < w.0) × Rising vs

-- some rule has a value, and none has
abbrev pub SomeIs : Truth → List (ℕ × Truth) → Type 0
SomeIs t vs = (j : ℕ) × ((j, t) ∈ vs)

abbrev pub NoneIs : Truth → List (ℕ × Truth) → Type 0
NoneIs t vs = (j : ℕ) → (j, t) ∈ vs → ⊥

apart : {C : Type 0} → ◌≡◌ {A = ℕ} 0 1 → C
apart e = absurd (omega (arith, e))

is_true_lem : (t : Truth) → is_true t ≡ true → t ≡ TRUE
is_true_lem Truth.TRUE e = refl
is_true_lem Truth.UNDEF e = false-is-true e
is_true_lem Truth.FALSE e = false-is-true e

undefined-same : (c d : Cause) → undefined c ≡ undefined d → c ≡ d
undefined-same c d e = cc

causes-differ : absent ≡ unlike → ⊥
causes-differ e = let z : ◌≡◌ {A = ℕ} 1 2 = ap cause_number e in omega (arith, z)

rising-filter : {A : Type 0} (p : ℕ × A → Bool) (vs : List (ℕ × A)) → Rising vs → Rising (filter p vs)
rising-filter p [] r = tt
rising-filter {A} p (v ∷ vs) r = go (p v) (rising-filter p vs r.1)
  where
    go : (b : Bool) → Rising (filter p vs) → Rising {A = A} (elim b as (λ _. List (ℕ × A)) [ true ↦ v ∷ filter p vs | false ↦ filter p vs ])
    go true s = ((λ w m. r.0 w (in-filter p vs m).0), s)
    go false s = s

rising-map : {A B : Type 0} (f : ℕ × A → ℕ × B) → ((v : ℕ × A) → (f v).0 ≡ v.0) → (vs : List (ℕ × A)) → Rising vs → Rising (map f vs)
rising-map f keeps [] r = tt
rising-map {A} {B} f keeps (v ∷ vs) r =
    ((λ w m. let x = in_map f vs m in omega (arith, r.0 x.0 x.1, keeps v, keeps x.0, ap (λ (u : ℕ × B). u.0) x.2)), rising-map f keeps vs r.1)

rising-numbered : {A : Type 0} (k : ℕ) (xs : List A) → Rising (numbered_from k xs)
rising-numbered k [] = tt
rising-numbered k (x ∷ xs) = ((λ w m. let r = in-numbered (suc k) xs m in omega (arith, r.1)), rising-numbered (suc k) xs)

-- ---- the decision on rising verdicts

module _ (c : Cause) (vs : List (ℕ × Truth)) where
  abbrev trues : List (ℕ × Truth)
  trues = filter (λ v. is_true v.1) vs

  true-in : (v : ℕ × Truth) → v ∈ trues → (v.0, TRUE) ∈ vs
  true-in v m =
      let r = in-filter (λ v. is_true v.1) vs m in
      subst (λ (t : Truth). (v.0, t) ∈ vs) (is_true_lem v.1 r.1) r.0

  in-true : (j : ℕ) → (j, TRUE) ∈ vs → (j, TRUE) ∈ trues
  in-true j m = filter-in (λ v. is_true v.1) m refl

  decided-cases : (P : Decision → Type 0)
      → (NoneIs TRUE vs → SomeIs UNDEF vs → P (undefined c))
      → (NoneIs TRUE vs → NoneIs UNDEF vs → P deny)
      → ((v : ℕ × Truth) (rest : List (ℕ × Truth)) → trues ≡ v ∷ rest → P (permit_by (v ∷ rest) (without_permit c vs)))
      → P (decision_by c vs)
  unfolding decision_by
  decided-cases P on-undef on-deny on-permit = go trues refl
    where
      without : NoneIs TRUE vs → (b : Bool) → any_of (λ v. is_undef v.1) vs ≡ b → P (if b then undefined c otherwise deny)
      without n true e =
          let r = any-in (λ v. is_undef v.1) vs e in
          on-undef n (r.0.0, subst (λ (t : Truth). (r.0.0, t) ∈ vs) (undef-is r.0.1 r.2) r.1)
      without n false e = on-deny n (λ j m. false-is-true (sym e ∙ in-any (λ v. is_undef v.1) m refl))

      go : (l : List (ℕ × Truth)) → trues ≡ l → P (permit_by l (without_permit c vs))
      go [] e = without (λ j m. elim (subst (λ (l : List (ℕ × Truth)). (j, TRUE) ∈ l) e (in-true j m)) [ ]) (any_of (λ v. is_undef v.1) vs) refl
      go (v ∷ rest) e = on-permit v rest e

  first-true : (v : ℕ × Truth) (rest : List (ℕ × Truth)) → trues ≡ v ∷ rest → (v.0, TRUE) ∈ vs
  first-true v rest e = true-in v (subst (λ (l : List (ℕ × Truth)). v ∈ l) (sym e) (here refl))

  module _ (rise : Rising vs) where
    -- the first TRUE is the lowest
    first-least : (v : ℕ × Truth) (rest : List (ℕ × Truth)) → trues ≡ v ∷ rest → (j : ℕ) → (j, TRUE) ∈ vs → v.0 ≤ j
    first-least v rest e j m = go (subst (λ (l : List (ℕ × Truth)). (j, TRUE) ∈ l) e (in-true j m))
      where
        sorted : Rising (v ∷ rest)
        sorted = subst (λ (l : List (ℕ × Truth)). Rising l) e (rising-filter (λ v. is_true v.1) vs rise)

        go : (j, TRUE) ∈ (v ∷ rest) → v.0 ≤ j
        go (here q) = omega (arith, ap (λ (u : ℕ × Truth). u.0) q)
        go (there n) = omega (arith, sorted.0 (j, TRUE) n)

    -- "Permit, with the lowest TRUE rule number"
    pub decided-permit : (k : ℕ) → (decision_by c vs ≡ permit k) ↔ (((k, TRUE) ∈ vs) × ((j : ℕ) → (j, TRUE) ∈ vs → k ≤ j))
    decided-permit k = (
      decided-cases (λ d. d ≡ permit k → ((k, TRUE) ∈ vs) × ((j : ℕ) → (j, TRUE) ∈ vs → k ≤ j)) (λ n s e. apart cc) (λ n m e. apart cc)
          (λ v rest e q.
          let z : v.0 ≡ k = cc in
          subst (λ (i : ℕ). ((i, TRUE) ∈ vs) × ((j : ℕ) → (j, TRUE) ∈ vs → i ≤ j)) z (first-true v rest e, first-least v rest e)),
      λ h. decided-cases (λ d. d ≡ permit k) (λ n s. absurd (n k h.0)) (λ n m. absurd (n k h.0))
          (λ v rest e. let z : v.0 ≡ k = omega (arith, first-least v rest e k h.0, h.1 v.0 (first-true v rest e)) in ap permit z),
    )

  -- "else undefined if some is UNDEF"
  pub decided-undefined : (d : Cause) → (decision_by c vs ≡ undefined d) ↔ (NoneIs TRUE vs × SomeIs UNDEF vs × (c ≡ d))
  decided-undefined d = (
    decided-cases (λ x. x ≡ undefined d → NoneIs TRUE vs × SomeIs UNDEF vs × (c ≡ d)) (λ n s e. (n, s, undefined-same c d e)) (λ n m e. apart cc)
        (λ v rest e q. apart cc),
    λ h. decided-cases (λ x. x ≡ undefined d) (λ n s. ap undefined h.2) (λ n m. absurd (m h.1.0 h.1.1))
        (λ v rest e. absurd (h.0 v.0 (first-true v rest e))),
  )

  -- "else deny"
  pub decided-deny : (decision_by c vs ≡ deny) ↔ (NoneIs TRUE vs × NoneIs UNDEF vs)
  decided-deny = (
    decided-cases (λ d. d ≡ deny → NoneIs TRUE vs × NoneIs UNDEF vs) (λ n s e. apart cc) (λ n m e. (n, m)) (λ v rest e q. apart cc),
    λ h. decided-cases (λ d. d ≡ deny) (λ n s. absurd (h.1 s.0 s.1)) (λ n m. refl) (λ v rest e. absurd (h.0 v.0 (first-true v rest e))),
  )

  never-refused : (n : ℕ) → decision_by c vs ≡ refused n → ⊥
  never-refused n = decided-cases (λ d. d ≡ refused n → ⊥) (λ m s e. apart cc) (λ m s e. apart cc) (λ v rest e q. apart cc)

-- ---- the rules of a request

is-absent : (a : Bool) → cause_by a ≡ absent → a ≡ true
is-absent true e = refl
is-absent false e = absurd (causes-differ (sym e))

-- rule k of the file is one of the block's operation, and its value is t
pub record Verdict (S : State) (b : Block) (k : ℕ) (t : Truth) : Type 0 where
  pub rule : Rule
  pub place_is : nth S.declared.rules k ≡ some rule
  pub operation-is : nth S.declared.operations b.operation ≡ some rule.operation
  pub value-is : meaning_of (read_by S b) rule.tokens ≡ t

module _ (S : State) (b : Block) where
  abbrev is_rule : ℕ × Rule → Bool
  is_rule v = nth S.declared.operations b.operation is same v.1.operation

  abbrev valued : ℕ × Rule → ℕ × Truth
  valued v = (v.0, meaning_of (read_by S b) v.1.tokens)

  pub verdicts-rise : Rising (verdicts S b)
  unfolding verdicts rules_for
  verdicts-rise =
      rising-map valued (λ v. refl) (filter is_rule (numbered S.declared.rules))
      (rising-filter is_rule (numbered S.declared.rules) (rising-numbered 0 S.declared.rules))

  -- a rule of the operation, at its place in the file
  rule-sound : (v : ℕ × Rule) → v ∈ rules_for S b → (nth S.declared.rules v.0 ≡ some v.1) × (nth S.declared.operations b.operation ≡ some v.1.operation)
  unfolding rules_for
  rule-sound v m =
      let f = in-filter is_rule (numbered S.declared.rules) m in
      let n = in-numbered 0 S.declared.rules f.0 in
      let o = is_some (nth S.declared.operations b.operation) (same v.1.operation) f.1 in
      let at : n.0 ≡ v.0 = omega (arith, n.1) in
      (subst (λ (i : ℕ). nth S.declared.rules i ≡ some v.1) at n.2, o.1 ∙ ap some (sym (same-eq v.1.operation o.0 o.2)))

  rule-complete : (k : ℕ) (t : Truth) (v : Verdict S b k t) → (k, v.rule) ∈ rules_for S b
  unfolding rules_for
  rule-complete k t v =
      let n = subst (λ (i : ℕ). (i, v.rule) ∈ numbered S.declared.rules) (zero-add k) (numbered-in 0 S.declared.rules k v.place_is) in
      let o = ap (λ (x : Option Bytes). x is same v.rule.operation) v.operation-is ∙ same_refl v.rule.operation in
      filter-in is_rule n o

  verdict-sound : (k : ℕ) (t : Truth) → (k, t) ∈ verdicts S b → Verdict S b k t
  unfolding verdicts
  verdict-sound k t m =
      let (v, n, e) = in_map valued (rules_for S b) m in
      let (place, operation) = rule-sound v n in
      subst (λ (u : ℕ × Truth). Verdict S b u.0 u.1) (sym e) (record { rule = v.1; place_is = place; operation-is = operation; value-is = refl })

  verdict-complete : (k : ℕ) (t : Truth) → Verdict S b k t → (k, t) ∈ verdicts S b
  unfolding verdicts
  verdict-complete k t v =
      subst (λ (u : Truth). (k, u) ∈ map valued (rules_for S b)) v.value-is (map-in valued (rule-complete k t v))

  -- ---- the cause

  abbrev absent_rule : ℕ × Rule → Bool
  absent_rule v = absent_of (read_by S b) v.1.tokens

  -- "if one of its UNDEF rules is absent"
  pub absent-cause : cause S b ≡ absent → (j : ℕ) × (v : Verdict S b j UNDEF) × (absent_of (read_by S b) v.rule.tokens ≡ true)
  unfolding cause
  absent-cause e =
      let (v, m, a) = any-in absent_rule (rules_for S b) (is-absent (any_of absent_rule (rules_for S b)) e) in
      let (place, operation) = rule-sound v m in
      (v.0, record { rule = v.1; place_is = place; operation-is = operation; value-is = absent-of-undef (read_by S b) v.1.tokens a }, a)

  pub absent-rule : (j : ℕ) (v : Verdict S b j UNDEF) → absent_of (read_by S b) v.rule.tokens ≡ true → cause S b ≡ absent
  unfolding cause
  absent-rule j v a = ap cause_by (in-any absent_rule (rule-complete j UNDEF v) a)

  pub unlike-cause : cause S b ≡ unlike → (j : ℕ) (v : Verdict S b j UNDEF) → absent_of (read_by S b) v.rule.tokens ≡ false
  unlike-cause e j v = not-absent (absent_of (read_by S b) v.rule.tokens) refl
    where
      not-absent : (a : Bool) → absent_of (read_by S b) v.rule.tokens ≡ a → a ≡ false
      not-absent true q = absurd (causes-differ (sym (absent-rule j v q) ∙ e))
      not-absent false q = refl

  pub unlike-rules : ((j : ℕ) (v : Verdict S b j UNDEF) → absent_of (read_by S b) v.rule.tokens ≡ false) → cause S b ≡ unlike
  unlike-rules none-absent = go (cause S b) refl
    where
      go : (c : Cause) → cause S b ≡ c → c ≡ unlike
      go absent e = let (j, v, a) = absent-cause e in false-is-true (sym (none-absent j v) ∙ a)
      go unlike e = refl

  -- "The rules of the operation are evaluated"
  pub verdict-exact : (k : ℕ) (t : Truth) → ((k, t) ∈ verdicts S b) ↔ Verdict S b k t
  verdict-exact k t = (verdict-sound k t, verdict-complete k t)

-- ---- a request

-- the request is not refused, and b is its block
pub record Accepted (S : State) (block : Bytes) (b : Block) : Type 0 where
  pub not-refused : request_refusal S block ≡ 0
  pub block-is : read_block block ≡ some b

module _ (S : State) (block : Bytes) where
  -- a request is refused, or its block is read and its rules are evaluated
  decide-cases : (P : Decision → Type 0)
      → ((n : ℕ) → request_refusal S block ≡ n → (n ≡ 0 → ⊥) → P (refused n))
      → ((b : Block) → Accepted S block b → P (decision_by (cause S b) (verdicts S b)))
      → P (decide S block)
  unfolding decide
  decide-cases P on-refused on-block = go (read_block block) refl (eqb (request_refusal S block) 0) refl
    where
      go : (o : Option Block) → read_block block ≡ o → (t : Bool) → eqb (request_refusal S block) 0 ≡ t → P (judged S (request_refusal S block) o)
      go none q t e = on-refused (request_refusal S block) refl (unread S block (ap is_none q))
      go (some b) q true e = rw e (on-block b (record { not-refused = eqb-true (request_refusal S block) 0 e; block-is = q }))
      go (some b) q false e = rw e (on-refused (request_refusal S block) refl (eqb-false (request_refusal S block) 0 e))

  decide-accepted : (b : Block) → Accepted S block b → decide S block ≡ decision_by (cause S b) (verdicts S b)
  decide-accepted b a =
      decide-cases (λ d. d ≡ decision_by (cause S b) (verdicts S b)) (λ n e z. absurd (z (sym e ∙ a.not-refused)))
      (λ c q. ap (λ (x : Block). decision_by (cause S x) (verdicts S x)) (some-injective c b (sym q.block-is ∙ a.block-is)))

  -- what is answered is a refusal, or comes of the rules
  decide-judged : (d : Decision) → ((n : ℕ) → refused n ≡ d → ⊥) → decide S block ≡ d
      → (b : Block) × Accepted S block b × (decision_by (cause S b) (verdicts S b) ≡ d)
  decide-judged d other =
      decide-cases (λ x. x ≡ d → (b : Block) × Accepted S block b × (decision_by (cause S b) (verdicts S b) ≡ d)) (λ n e z q. absurd (other n q)) (λ b a q. (b, a, q))

  -- "Permit, with the lowest TRUE rule number"
  pub permit-exact : (k : ℕ)
      → (decide S block ≡ permit k) ↔ ((b : Block) × Accepted S block b × Verdict S b k TRUE × ((j : ℕ) → Verdict S b j TRUE → k ≤ j))
  permit-exact k = (
    λ e.
        let (b, a, q) = decide-judged (permit k) (λ n e. apart cc) e in
        let (m, least) = (decided-permit (cause S b) (verdicts S b) (verdicts-rise S b) k).0 q in
        (b, a, verdict-sound S b k TRUE m, λ j v. least j (verdict-complete S b j TRUE v)),
    λ (b, a, v, least).
        decide-accepted b a ∙ (decided-permit (cause S b) (verdicts S b) (verdicts-rise S b) k).1 (verdict-complete S b k TRUE v, λ j m. least j (verdict-sound S b j TRUE m)),
  )

  -- "else undefined if some is UNDEF"
  pub undefined-exact : (c : Cause) → (decide S block ≡ undefined c)
      ↔ ((b : Block) × Accepted S block b × ((j : ℕ) → Verdict S b j TRUE → ⊥) × ((j : ℕ) × Verdict S b j UNDEF) × (cause S b ≡ c))
  undefined-exact c = (
    λ e.
        let (b, a, q) = decide-judged (undefined c) (λ n e. apart cc) e in
        let (n, s, same-cause) = (decided-undefined (cause S b) (verdicts S b) c).0 q in
        (b, a, (λ j v. n j (verdict-complete S b j TRUE v)), (s.0, verdict-sound S b s.0 UNDEF s.1), same-cause),
    λ (b, a, n, s, same-cause).
        decide-accepted b a
        ∙ (decided-undefined (cause S b) (verdicts S b) c).1 ((λ j m. n j (verdict-sound S b j TRUE m)), (s.0, verdict-complete S b s.0 UNDEF s.1), same-cause),
  )

  -- "A decision is undefined-absent if one of its UNDEF rules is absent"
  pub absent-exact : (decide S block ≡ undefined absent)
      ↔ ((b : Block) × Accepted S block b × ((j : ℕ) → Verdict S b j TRUE → ⊥) × ((j : ℕ) × (v : Verdict S b j UNDEF) × (absent_of (read_by S b) v.rule.tokens ≡ true)))
  absent-exact = (
    λ e. let (b, a, n, s, same-cause) = (undefined-exact absent).0 e in (b, a, n, absent-cause S b same-cause),
    λ (b, a, n, (j, v, lacking)). (undefined-exact absent).1 (b, a, n, (j, v), absent-rule S b j v lacking),
  )

  -- "or unlike (all other UNDEF …)"
  pub unlike-exact : (decide S block ≡ undefined unlike)
      ↔ ((b : Block) × Accepted S block b × ((j : ℕ) → Verdict S b j TRUE → ⊥) × ((j : ℕ) × Verdict S b j UNDEF)
      × ((j : ℕ) (v : Verdict S b j UNDEF) → absent_of (read_by S b) v.rule.tokens ≡ false))
  unlike-exact = (
    λ e. let (b, a, n, s, same-cause) = (undefined-exact unlike).0 e in (b, a, n, s, unlike-cause S b same-cause),
    λ (b, a, n, s, none-absent). (undefined-exact unlike).1 (b, a, n, s, unlike-rules S b none-absent),
  )

  -- "else deny"
  pub deny-exact : (decide S block ≡ deny)
      ↔ ((b : Block) × Accepted S block b × ((j : ℕ) → Verdict S b j TRUE → ⊥) × ((j : ℕ) → Verdict S b j UNDEF → ⊥))
  deny-exact = (
    λ e.
        let (b, a, q) = decide-judged deny (λ n e. apart cc) e in
        let (n, u) = (decided-deny (cause S b) (verdicts S b)).0 q in
        (b, a, (λ j v. n j (verdict-complete S b j TRUE v)), λ j v. u j (verdict-complete S b j UNDEF v)),
    λ (b, a, n, u).
        decide-accepted b a ∙ (decided-deny (cause S b) (verdicts S b)).1 ((λ j m. n j (verdict-sound S b j TRUE m)), λ j m. u j (verdict-sound S b j UNDEF m)),
  )

  -- a number other than 0 is answered exactly where it is the refusal
  pub refused-exact : (n : ℕ) → (decide S block ≡ refused n) ↔ ((n ≡ 0 → ⊥) × (request_refusal S block ≡ n))
  refused-exact n = (
    decide-cases (λ d. d ≡ refused n → (n ≡ 0 → ⊥) × (request_refusal S block ≡ n))
        (λ m e z q. let s : m ≡ n = cc in ((λ r. z (s ∙ r)), e ∙ s)) (λ b a q. absurd (never-refused (cause S b) (verdicts S b) n q)),
    λ h. decide-cases (λ d. d ≡ refused n) (λ m e z. ap refused (sym e ∙ h.1)) (λ b a. absurd (h.0 (sym h.1 ∙ a.not-refused))),
  )
