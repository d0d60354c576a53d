-- Which number a line, an edit or a request meets: that of the first condition listed that holds. Assumes nothing.
use Prim.Native.Nat.{ℕ, ◌<◌}
use mathlib.Core.Path.{◌≡◌, refl, sym, ap, ◌∙◌}
use mathlib.Core.Logic.{◌↔◌}
use mathlib.Core.Bool.{Bool, true, false, ◌&&◌, ◌||◌, not, true≢false}
use mathlib.Core.List.{List, [], ◌∷◌, ◌++◌}
use mathlib.Core.Option.{Option, none, some}
use native.Mathlib.Omega.{arith}
use lib.Dec.{eqb, ltb}
use borrow.Author.Tests.{ltb-true, eqb-true, eqb-false, eq-eqb, ne_eqb, not-true}
use Rattle.model.specs.Notation.{if◌then◌otherwise◌, is_none, any_of, filter}
use Rattle.model.specs.Bytes.{Bytes}
use Rattle.model.specs.Truth.{Truth, is_true, is_undef}
use Rattle.model.specs.Keys.{Key}
use Rattle.model.specs.Block.{Block, read_block}
use Rattle.model.specs.State.{State}
use Rattle.model.specs.Refusals.{Test, ◌if◌, first, line_tests, line_refusal, edit_tests, edit_refusal, bad_block, request_tests, request_refusal}
use Rattle.model.specs.Edits.{edit}
use Rattle.model.specs.Causes.{Cause}
use Rattle.model.specs.Decision.{deny, undefined, refused, permit_by, decision_by, judged, cause, verdicts, decide}
use Rattle.model.proofs.Options.{parts, is-there}
use Rattle.model.proofs.Lists.{or_left, or_right}
use Rattle.model.proofs.Tests.{NoneHolds, all_numbered, none-holds, accepted}
use Rattle.model.proofs.Ledger.{edit-number}

-- n wins among these tests: its condition holds, and none listed before it does
pub record Wins (tests : List Test) (n : ℕ) : Type 0 where
  pub before : List Test
  pub after : List Test
  pub listed : tests ≡ before ++ ((n if true) ∷ after)
  pub none_before : NoneHolds before

-- ---- lists of tests

first-wins : (tests : List Test) (n : ℕ) → first tests ≡ n → (n ≡ 0 → ⊥) → Wins tests n
first-wins [] n e z = absurd (z (sym e))
first-wins ((m if true) ∷ tests) n e z =
    record { before = []; after = tests; listed = ap (λ (k : ℕ). (k if true) ∷ tests) e; none_before = tt }
first-wins ((m if false) ∷ tests) n e z =
    let w = first-wins tests n e z in
    record {
      before = (m if false) ∷ w.before;
      after = w.after;
      listed = ap (λ (l : List Test). (m if false) ∷ l) w.listed;
      none_before = (refl, w.none_before);
    }

first-behind : (before after : List Test) (n : ℕ) → NoneHolds before → first (before ++ ((n if true) ∷ after)) ≡ n
first-behind [] after n h = refl
first-behind ((m if true) ∷ before) after n h = absurd (true≢false h.0)
first-behind ((m if false) ∷ before) after n h = first-behind before after n h.1

numbered-behind : (before after : List Test) (n : ℕ) → all_numbered (before ++ ((n if true) ∷ after)) ≡ true → n ≡ 0 → ⊥
numbered-behind [] after n p e = omega (arith, ltb-true 0 n (parts (ltb 0 n) (all_numbered after) p).0)
numbered-behind ((m if b) ∷ before) after n p e =
    numbered-behind before after n (parts (ltb 0 m) (all_numbered (before ++ ((n if true) ∷ after))) p).1 e

-- an answer other than 0 is the number that wins, and the number that wins is the answer
pub answer-wins : (tests : List Test) → all_numbered tests ≡ true → (n : ℕ) → ((first tests ≡ n) × (n ≡ 0 → ⊥)) ↔ Wins tests n
answer-wins tests p n = (
  λ a. first-wins tests n a.0 a.1,
  λ w. (
    ap first w.listed ∙ first-behind w.before w.after n w.none_before,
    numbered-behind w.before w.after n (ap all_numbered (sym w.listed) ∙ p),
  ),
)

-- ---- the condition of one number

-- the condition of a number, where it is listed
abbrev pub condition_of : ℕ → List Test → Bool
condition_of n [] = false
condition_of n ((m if b) ∷ tests) = if eqb m n then b otherwise condition_of n tests

abbrev is_listed : ℕ → List Test → Bool
is_listed n [] = false
is_listed n ((m if b) ∷ tests) = eqb m n || is_listed n tests

-- each number is listed once
abbrev listed_once : List Test → Bool
listed_once [] = true
listed_once ((m if b) ∷ tests) = not (is_listed m tests) && listed_once tests

first-listed : (tests : List Test) (n : ℕ) → first tests ≡ n → (n ≡ 0 → ⊥) → is_listed n tests ≡ true
first-listed [] n e z = absurd (z (sym e))
first-listed ((m if true) ∷ tests) n e z = or_left (eqb m n) (is_listed n tests) (eq-eqb m n e)
first-listed ((m if false) ∷ tests) n e z = or_right (eqb m n) (is_listed n tests) (first-listed tests n e z)

condition-holds : (tests : List Test) → listed_once tests ≡ true → (n : ℕ) → first tests ≡ n → (n ≡ 0 → ⊥) → condition_of n tests ≡ true
condition-holds [] o n e z = absurd (z (sym e))
condition-holds ((m if true) ∷ tests) o n e z = rw (eq-eqb m n e)
condition-holds ((m if false) ∷ tests) o n e z =
    let (once, rest) = parts (not (is_listed m tests)) (listed_once tests) o in
    let later : is_listed n tests ≡ true = first-listed tests n e z in
    let other : m ≡ n → ⊥ = λ q. true≢false (sym later ∙ ap (λ (k : ℕ). is_listed k tests) (sym q) ∙ not-true (is_listed m tests) once) in
    rw (ne_eqb m n other) (condition-holds tests rest n e z)

condition-fails : (tests : List Test) → NoneHolds tests → (n : ℕ) → condition_of n tests ≡ false
condition-fails [] h n = refl
condition-fails ((m if b) ∷ tests) h n = go (eqb m n) (condition-fails tests h.1 n)
  where
    go : (c : Bool) → condition_of n tests ≡ false → (if c then b otherwise condition_of n tests) ≡ false
    go true e = h.0
    go false e = e

-- ---- the order of numbers

-- tests listed in the order that `order` gives their numbers
module _ (order : ℕ → ℕ) where
  abbrev all_after : ℕ → List Test → Bool
  all_after k [] = true
  all_after k ((m if b) ∷ tests) = ltb (order k) (order m) && all_after k tests

  abbrev in_order : List Test → Bool
  in_order [] = true
  in_order ((m if b) ∷ tests) = all_after m tests && in_order tests

  -- what comes earlier than k is not listed behind it
  earlier-unlisted : (tests : List Test) (k m : ℕ) → all_after k tests ≡ true → order m < order k → condition_of m tests ≡ false
  earlier-unlisted [] k m a l = refl
  earlier-unlisted ((j if b) ∷ tests) k m a l =
      let (after-k, rest) = parts (ltb (order k) (order j)) (all_after k tests) a in
      let other : j ≡ m → ⊥ = λ q. omega (arith, ltb-true (order k) (order j) after-k, ap order q) in
      rw (ne_eqb j m other) (earlier-unlisted tests k m rest l)

  earlier-fails : (tests : List Test) → in_order tests ≡ true → (n : ℕ) → first tests ≡ n → (n ≡ 0 → ⊥) → (m : ℕ) → order m < order n
      → condition_of m tests ≡ false
  earlier-fails [] o n e z m l = absurd (z (sym e))
  earlier-fails ((k if true) ∷ tests) o n e z m l =
      let other : k ≡ m → ⊥ = λ q. omega (arith, ap order e, ap order q) in
      rw (ne_eqb k m other) (earlier-unlisted tests k m (parts (all_after k tests) (in_order tests) o).0 (omega (arith, ap order e)))
  earlier-fails ((k if false) ∷ tests) o n e z m l = go (eqb k m) (earlier-fails tests (parts (all_after k tests) (in_order tests) o).1 n e z m l)
    where
      go : (c : Bool) → condition_of m tests ≡ false → (if c then false otherwise condition_of m tests) ≡ false
      go true e = refl
      go false e = e

-- ---- lines of a file, edits and requests

pub line_refused : (S : State) (previous : Option Key) (line : Bytes) (n : ℕ)
    → ((line_refusal S previous line ≡ n) × (n ≡ 0 → ⊥)) ↔ Wins (line_tests S previous line) n
unfolding line_refusal
line_refused S previous line n = answer-wins (line_tests S previous line) refl n

pub line-accepted : (S : State) (previous : Option Key) (line : Bytes) → (line_refusal S previous line ≡ 0) ↔ NoneHolds (line_tests S previous line)
unfolding line_refusal
line-accepted S previous line = (none-holds (line_tests S previous line) refl, accepted (line_tests S previous line))

-- the condition of the number that is answered holds
pub line-met : (S : State) (previous : Option Key) (line : Bytes) (n : ℕ) → line_refusal S previous line ≡ n → (n ≡ 0 → ⊥)
    → condition_of n (line_tests S previous line) ≡ true
unfolding line_refusal
line-met S previous line n e z = condition-holds (line_tests S previous line) refl n e z

-- "Lower numbers win within a line or call"
pub line-lower-wins : (S : State) (previous : Option Key) (line : Bytes) (n : ℕ) → line_refusal S previous line ≡ n → (n ≡ 0 → ⊥)
    → (m : ℕ) → m < n → condition_of m (line_tests S previous line) ≡ false
unfolding line_refusal
line-lower-wins S previous line n e z m l = earlier-fails (λ k. k) (line_tests S previous line) refl n e z m l

-- an accepted line meets no condition
pub line-unmet : (S : State) (previous : Option Key) (line : Bytes) → line_refusal S previous line ≡ 0 → (n : ℕ)
    → condition_of n (line_tests S previous line) ≡ false
line-unmet S previous line e n = condition-fails (line_tests S previous line) ((line-accepted S previous line).0 e) n

pub edit-refused : (S : State) (line : Bytes) (n : ℕ) → (((edit S line).number ≡ n) × (n ≡ 0 → ⊥)) ↔ Wins (edit_tests S line) n
unfolding edit_refusal
edit-refused S line n =
    let w = answer-wins (edit_tests S line) refl n in
    (λ a. w.0 (sym (edit-number S line) ∙ a.0, a.1), λ v. (edit-number S line ∙ (w.1 v).0, (w.1 v).1))

pub edit-accepted : (S : State) (line : Bytes) → ((edit S line).number ≡ 0) ↔ NoneHolds (edit_tests S line)
unfolding edit_refusal
edit-accepted S line = (
  λ e. none-holds (edit_tests S line) refl (sym (edit-number S line) ∙ e),
  λ h. edit-number S line ∙ accepted (edit_tests S line) h,
)

pub edit-met : (S : State) (line : Bytes) (n : ℕ) → (edit S line).number ≡ n → (n ≡ 0 → ⊥) → condition_of n (edit_tests S line) ≡ true
unfolding edit_refusal
edit-met S line n e z = condition-holds (edit_tests S line) refl n (sym (edit-number S line) ∙ e) z

-- "13: … comes after 4, before the rest": as if it were 5, which no edit meets
abbrev pub edit_order : ℕ → ℕ
edit_order n = if eqb n 13 then 5 otherwise n

pub edit-lower-wins : (S : State) (line : Bytes) (n : ℕ) → (edit S line).number ≡ n → (n ≡ 0 → ⊥)
    → (m : ℕ) → edit_order m < edit_order n → condition_of m (edit_tests S line) ≡ false
unfolding edit_refusal
edit-lower-wins S line n e z m l = earlier-fails edit_order (edit_tests S line) refl n (sym (edit-number S line) ∙ e) z m l

pub edit-unmet : (S : State) (line : Bytes) → (edit S line).number ≡ 0 → (n : ℕ) → condition_of n (edit_tests S line) ≡ false
edit-unmet S line e n = condition-fails (edit_tests S line) ((edit-accepted S line).0 e) n

-- the rules' verdicts never refuse
decided-not : {C : Type 0} (c : Cause) (vs : List (ℕ × Truth)) (n : ℕ) → decision_by c vs ≡ refused n → C
unfolding decision_by
decided-not c vs n e = go (filter (λ (k, t). is_true t) vs) (any_of (λ (k, t). is_undef t) vs) e
  where
    go : {C : Type 0} (found : List (ℕ × Truth)) (undef : Bool)
        → permit_by found (if undef then undefined c otherwise deny) ≡ refused n → C
    go [] true e = let z : ◌≡◌ {A = ℕ} 0 1 = cc in absurd (omega (arith, z))
    go [] false e = let z : ◌≡◌ {A = ℕ} 0 1 = cc in absurd (omega (arith, z))
    go (v ∷ rest) undef e = let z : ◌≡◌ {A = ℕ} 0 1 = cc in absurd (omega (arith, z))

-- what a number and what was read give is refused exactly where the number is one
judged-refused : (S : State) (r : ℕ) (o : Option Block) (n : ℕ) → (is_none o ≡ true → r ≡ 0 → ⊥) → (judged S r o ≡ refused n) ↔ ((r ≡ n) × (n ≡ 0 → ⊥))
judged-refused S r none n f = (λ e. let s : r ≡ n = cc in (s, λ z. f refl (s ∙ z)), λ a. ap refused a.0)
judged-refused S r (some b) n f = (out (eqb r 0) refl, λ a. rw (ne_eqb r 0 (λ z. a.1 (sym a.0 ∙ z))) (ap refused a.0))
  where
    out : (c : Bool) → eqb r 0 ≡ c → (if c then decision_by (cause S b) (verdicts S b) otherwise refused r) ≡ refused n → (r ≡ n) × (n ≡ 0 → ⊥)
    out true q e = decided-not (cause S b) (verdicts S b) n e
    out false q e = let s : r ≡ n = cc in (s, λ z. eqb-false r 0 q (s ∙ z))

-- what is no block is refused
pub unread : (S : State) (block : Bytes) → is_none (read_block block) ≡ true → request_refusal S block ≡ 0 → ⊥
unfolding request_refusal bad_block
unread S block e z = true≢false (sym e ∙ (none-holds (request_tests S block) refl z).0)

pub request-refused : (S : State) (block : Bytes) (n : ℕ) → (decide S block ≡ refused n) ↔ Wins (request_tests S block) n
unfolding decide request_refusal
request-refused S block n =
    let w = answer-wins (request_tests S block) refl n in
    let j = judged-refused S (request_refusal S block) (read_block block) n (unread S block) in
    (λ e. w.0 (j.0 e), λ v. j.1 (w.1 v))

pub request-met : (S : State) (block : Bytes) (n : ℕ) → decide S block ≡ refused n → condition_of n (request_tests S block) ≡ true
request-met S block n e =
    let (f, z) = (answer-wins (request_tests S block) refl n).1 ((request-refused S block n).0 e) in
    condition-holds (request_tests S block) refl n f z

pub request-lower-wins : (S : State) (block : Bytes) (n : ℕ) → decide S block ≡ refused n
    → (m : ℕ) → m < n → condition_of m (request_tests S block) ≡ false
request-lower-wins S block n e m l =
    let (f, z) = (answer-wins (request_tests S block) refl n).1 ((request-refused S block n).0 e) in
    earlier-fails (λ k. k) (request_tests S block) refl n f z m l

-- a request that meets none of them gets the decision of the rules
pub request-accepted : (S : State) (block : Bytes)
    → NoneHolds (request_tests S block) ↔ ((b : Block) × (read_block block ≡ some b) × (decide S block ≡ decision_by (cause S b) (verdicts S b)))
unfolding decide request_refusal bad_block
request-accepted S block = (into, λ (b, q, e). out (eqb r 0) refl b (sym (ap (judged S r) q) ∙ e))
  where
    r : ℕ
    r = request_refusal S block

    into : NoneHolds (request_tests S block) → (b : Block) × (read_block block ≡ some b) × (decide S block ≡ decision_by (cause S b) (verdicts S b))
    into h =
        let (b, q) = is-there (read_block block) h.0 in
        let zero' = eq-eqb r 0 (accepted (request_tests S block) h) in
        (b, q, ap (judged S r) q ∙ ap (λ (c : Bool). if c then decision_by (cause S b) (verdicts S b) otherwise refused r) zero')

    out : (c : Bool) → eqb r 0 ≡ c → (b : Block) → (if c then decision_by (cause S b) (verdicts S b) otherwise refused r) ≡ decision_by (cause S b) (verdicts S b)
        → NoneHolds (request_tests S block)
    out true z b e = none-holds (request_tests S block) refl (eqb-true r 0 z)
    out false z b e = decided-not (cause S b) (verdicts S b) r (sym e)
