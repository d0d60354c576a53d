-- The turns of the loop over a policy: what is left to read comes to the same after each.
use Prim.Native.Nat.{ℕ, zero, suc, ◌+◌, ◌-◌, ◌≤◌, ◌<◌, min, max}
use mathlib.Core.Path.{◌≡◌, refl, sym, ap, subst, ◌∙◌}
use mathlib.Core.Bool.{false}
use mathlib.Core.List.{List, [], ◌∷◌}
use mathlib.Core.Option.{Option, none, some, some-injective}
use native.Mathlib.Omega.{arith}
use Rattle.std.specs.Prelude as std
use Rattle.std.specs.Prelude.{Some, None}
use native.Mathlib.Decide.{dec_lt}
use native.Mathlib.Numerals.{add-one}
use lib.ListN.{length, get_or}
use Rattle.model.specs.Notation.{◌>>=◌}
use Rattle.model.specs.Bytes.{Bytes}
use Rattle.model.specs.Tokens.{Token, Mark}
use Rattle.model.specs.Grammar.{Policy, terms, depth, largest_set, behind_mark, read_policy}
use Rattle.model.proofs.WordTables.{false-is-true, none-is-some}
use Rattle.codes.specs.Codes.{mark_code}
use Rattle.codes.proofs.TokenKinds.{kind-range}
use Rattle.policy.specs.declared.Head.{Head}
use Rattle.policy.specs.declared.Head.TheVariants.{Leaf, Open}
use Rattle.policy.specs.declared.scan.Reached.{Reached}
use Rattle.policy.specs.declared.scan.Stand.{Stand}
use Rattle.policy.specs.declared.scan.Stand.TheVariants.{Before, Behind, Whole, Failed}
use Rattle.policy.specs.Starts.{Start, whole, opened, neither, term_start}
use Rattle.policy.specs.Readers.{Asked, From, Starts, Further, Heads}
use Rattle.policy.specs.Judgements.{Counted}
use Rattle.policy.specs.Scans.{Counts, counts_of, after_conjunction, after_policy, before_term, behind_term}
use Rattle.policy.specs.Scans.{counts_at, Left, goes, OpenWithin, OpenBefore, turns_left, Turns, moved_to, stand_by, Scans}
use Rattle.policy.proofs.CodeFronts.{inside, told, ended, mark_on, mark-off}
use Rattle.policy.proofs.ScannedTokens.{same-counts, by-start, before-opened, Flat, start-flat, scanned, all_left}

-- ---- a turn where a term is expected: all that is used of its head

module _ (code : Bytes) (x : Reached) (h : std.Option Head) (H : Heads (λ ts. term_start ts) code x.at h) (w : x.unclosed ≤ x.at) where
  pub head-open : OpenBefore x h
  head-open = go h H.further
    where
      go : (h : std.Option Head) → Further code x.at h → OpenBefore x h
      go (Some (Leaf n l)) f = tt
      go (Some (Open n)) f = omega (arith, f.0)
      go None f = tt

  pub head-turn : Turns code (Before x) (stand_by x h)
  head-turn = record {
    left = λ A o (ts, f, e). left h A o ts e (term_start ts) refl (start-flat ts) (H.starts A ts f);
    within = within h H.further;
    fewer = λ _. fewer h H.further;
  }
    where
      left : (h : std.Option Head) (A : Asked) (o : Option Counts) (ts : List Token) → before_term x.unclosed (counts_at x) ts ≡ o
          → (y : Start) → term_start ts ≡ y → Flat y → Starts code A h y → Left code A (stand_by x h) o
      left (Some (Leaf n l)) A o ts e (whole p rest) s f r = (
        rest,
        r.0,
        ap (λ (c : Counts). behind_term x.unclosed c rest) (same-counts (omega (arith, f.0)) (omega (arith, f.1)) (ap (max x.largest) r.1))
            ∙ sym (by-start x.unclosed (counts_at x) ts (whole p rest) s) ∙ e,
      )
      left (Some (Leaf n l)) A o ts e (opened b rest) s f r = absurd r
      left (Some (Leaf n l)) A o ts e neither s f r = absurd r
      left (Some (Open n)) A o ts e (whole p rest) s f r = absurd r
      left (Some (Open n)) A o ts e (opened b rest) s f r = (
        rest,
        r,
        ap (λ (d : ℕ). before_term d (counts_at x) rest) (add-one x.unclosed) ∙ sym (before-opened x.unclosed (counts_at x) ts b rest s) ∙ e,
      )
      left (Some (Open n)) A o ts e neither s f r = absurd r
      left None A o ts e (whole p rest) s f r = absurd r
      left None A o ts e (opened b rest) s f r = absurd r
      left None A o ts e neither s f r = sym (by-start x.unclosed (counts_at x) ts neither s) ∙ e

      within : (h : std.Option Head) → Further code x.at h → OpenWithin (stand_by x h)
      within (Some (Leaf n l)) f = omega arith
      within (Some (Open n)) f = omega (arith, f.0)
      within None f = tt

      fewer : (h : std.Option Head) → Further code x.at h → turns_left code (stand_by x h) < turns_left code (Before x)
      fewer (Some (Leaf n l)) f = omega arith
      fewer (Some (Open n)) f = omega (arith, f.0, f.1)
      fewer None f = omega arith

-- ---- a turn behind a term, by the kind of the token there

module _ (code : Bytes) (x : Reached) (w : x.unclosed ≤ x.at) (k : ℕ) (h : k ≡ get_or code x.at 0) where
  pub token-within : 0 < k → x.at < length code
  token-within z = inside code x.at (omega arith)

  -- AND or OR: a term is expected
  pub joined-turn : (r : Reached) → r ≡ moved_to x (x.at + 1) x.unclosed → 10 ≤ k → k < 12 → Turns code (Behind x) (Before r)
  unfolding before_term behind_term
  joined-turn r e lo hi = subst (λ (y : Reached). Turns code (Behind x) (Before y)) (sym e) (record {
    left = λ A o (ts, f, g). go A o ts f g (dec_lt k 11);
    within = omega arith;
    fewer = λ _. let l = token-within (omega arith) in omega arith;
  })
    where
      on : (m : Mark) (A : Asked) (o : Option Counts) (ts : List Token) → From code A x.at ts → k ≡ mark_code m
          → ((rest : List Token) → behind_term x.unclosed (counts_at x) (Token.mark m ∷ rest) ≡ before_term x.unclosed (counts_at x) rest)
          → behind_term x.unclosed (counts_at x) ts ≡ o → Left code A (Before (moved_to x (x.at + 1) x.unclosed)) o
      on m A o ts f z j g =
          let y = mark_on m code A x.at ts f (sym h ∙ z) in
          (y.rest, y.behind, sym (j y.rest) ∙ ap (behind_term x.unclosed (counts_at x)) (sym y.split) ∙ g)

      go : (A : Asked) (o : Option Counts) (ts : List Token) → From code A x.at ts → behind_term x.unclosed (counts_at x) ts ≡ o → Dec (k < 11)
          → Left code A (Before (moved_to x (x.at + 1) x.unclosed)) o
      go A o ts f g (yes l) = on Mark.AND A o ts f (omega arith) (λ rest. refl) g
      go A o ts f g (no l) = on Mark.OR A o ts f (omega arith) (λ rest. refl) g

  -- the end of a parenthesis
  closing : (A : Asked) (o : Option Counts) (ts : List Token) → From code A x.at ts → behind_term x.unclosed (counts_at x) ts ≡ o → k ≡ 6
      → (rest : List Token) × From code A (x.at + 1) rest × (after_policy x.unclosed (counts_at x) (Token.mark Mark.rparen ∷ rest) ≡ o)
  unfolding behind_term
  closing A o ts f g z =
      let y = mark_on Mark.rparen code A x.at ts f (sym h ∙ z) in
      (y.rest, y.behind, ap (behind_term x.unclosed (counts_at x)) (sym y.split) ∙ g)

  pub closed-turn : (r : Reached) → r ≡ moved_to x (x.at + 1) (x.unclosed - 1) → k ≡ 6 → (x.unclosed ≡ 0 → ⊥) → Turns code (Behind x) (Behind r)
  unfolding behind_term after_policy
  closed-turn r e z n = subst (λ (y : Reached). Turns code (Behind x) (Behind y)) (sym e) (record {
    left = left;
    within = omega arith;
    fewer = λ _. let l = token-within (omega arith) in omega arith;
  })
    where
      step : (d : ℕ) (c : Counts) (rest : List Token) → (d ≡ 0 → ⊥) → behind_term (d - 1) c rest ≡ after_policy d c (Token.mark Mark.rparen ∷ rest)
      step zero c rest n = absurd (n refl)
      step (suc d) c rest n = let e : suc d - 1 ≡ d = omega arith in ap (λ (b : ℕ). behind_term b c rest) e

      left : (A : Asked) (o : Option Counts) → Left code A (Behind x) o → Left code A (Behind (moved_to x (x.at + 1) (x.unclosed - 1))) o
      left A o (ts, f, g) =
          let (rest, b, c) = closing A o ts f g z in
          (rest, b, step x.unclosed (counts_at x) rest n ∙ c)

  none_left : ((A : Asked) (o : Option Counts) (ts : List Token) → From code A x.at ts → behind_term x.unclosed (counts_at x) ts ≡ o → none ≡ o) → Turns code (Behind x) Failed
  none_left f = record { left = λ A o (ts, g, e). f A o ts g e; within = tt; fewer = λ _. omega arith }

  pub closed_none : k ≡ 6 → x.unclosed ≡ 0 → Turns code (Behind x) Failed
  unfolding after_policy
  closed_none z n = none_left λ A o ts f g.
      let (rest, b, c) = closing A o ts f g z in
      ap (λ (d : ℕ). after_policy d (counts_at x) (Token.mark Mark.rparen ∷ rest)) (sym n) ∙ c

  -- the end of all
  nothing : (A : Asked) (ts : List Token) → From code A x.at ts → k ≡ 0 → [] ≡ ts
  nothing A [] f z = refl
  nothing A (t ∷ ts) f z = absurd (omega (arith, z, h, (told f).kind-is, kind-range t))

  ending : (A : Asked) (o : Option Counts) (ts : List Token) → From code A x.at ts → behind_term x.unclosed (counts_at x) ts ≡ o → k ≡ 0
      → after_policy x.unclosed (counts_at x) [] ≡ o
  unfolding behind_term
  ending A o ts f g z = ap (behind_term x.unclosed (counts_at x)) (nothing A ts f z) ∙ g

  pub ended-turn : k ≡ 0 → x.unclosed ≡ 0 → Turns code (Behind x) (Whole x)
  unfolding after_policy
  ended-turn z n = record {
    left = λ A o (ts, f, g). ap (λ (d : ℕ). after_policy d (counts_at x) []) (sym n) ∙ ending A o ts f g z;
    within = tt;
    fewer = λ _. omega arith;
  }

  pub ended-none : k ≡ 0 → (x.unclosed ≡ 0 → ⊥) → Turns code (Behind x) Failed
  unfolding after_policy
  ended-none z n = none_left λ A o ts f g. go x.unclosed (counts_at x) n ∙ ending A o ts f g z
    where
      go : (d : ℕ) (c : Counts) → (d ≡ 0 → ⊥) → none ≡ after_policy d c []
      go zero c n = absurd (n refl)
      go (suc d) c n = refl

  -- anything else
  pub other_none : (k ≡ 0 → ⊥) → (k ≡ 6 → ⊥) → (k ≡ 10 → ⊥) → (k ≡ 11 → ⊥) → Turns code (Behind x) Failed
  unfolding before_term behind_term after_policy
  other_none e r a b = none_left λ A o ts f g.
      go x.unclosed (counts_at x) ts (λ z. e (h ∙ ended (subst (From code A x.at) z f))) (mark-off Mark.rparen code A x.at ts f (λ z. r (h ∙ z)))
      ∙ sym (stays x.unclosed (counts_at x) ts (mark-off Mark.AND code A x.at ts f (λ z. a (h ∙ z))) (mark-off Mark.OR code A x.at ts f (λ z. b (h ∙ z))))
      ∙ g
    where
      stays : (d : ℕ) (c : Counts) (ts : List Token) → behind_mark Mark.AND ts ≡ none → behind_mark Mark.OR ts ≡ none → behind_term d c ts ≡ after_policy d c ts
      stays d c ts m n =
          ap (λ (v : Option (List Token)). elim v as (λ _. Option Counts) [ some left ↦ before_term d c left | none ↦ after_conjunction (λ e us. after_policy d e us) d c ts ]) m
          ∙ ap (λ (v : Option (List Token)). elim v as (λ _. Option Counts) [ some left ↦ before_term d c left | none ↦ after_policy d c ts ]) n

      go : (d : ℕ) (c : Counts) (ts : List Token) → (ts ≡ [] → ⊥) → behind_mark Mark.rparen ts ≡ none → none ≡ after_policy d c ts
      go zero c [] n m = absurd (n refl)
      go zero c (t ∷ ts) n m = refl
      go (suc d) c ts n m = sym (ap (λ v. v >>= λ left. behind_term d c left) m)

-- ---- a turn, by what stands at the place

pub turned : (code : Bytes) (s t r : Stand) → s ≡ t → Turns code t r → Turns code s r
turned code s t r e n = subst (λ (u : Stand). Turns code u r) (sym e) n

pub whole-turn : (code : Bytes) (x : Reached) → Turns code (Whole x) (Whole x)
whole-turn code x = record { left = λ A o e. e; within = tt; fewer = λ e. false-is-true e }

pub failed-turn : (code : Bytes) → Turns code Failed Failed
failed-turn code = record { left = λ A o e. e; within = tt; fewer = λ e. false-is-true e }

-- ---- the whole loop

-- all tokens are left at first
pub scan_begins : (code : Bytes) (A : Asked) (ts : List Token) → From code A 0 ts
    → Left code A (Before (record { at = 0; unclosed = 0; terms = 0; depth = 0; largest = 0 })) (scanned ts)
scan_begins code A ts f = (ts, f, all_left ts)

-- and none at last
pub scan-ends : (code : Bytes) (s : Stand) → goes s ≡ false → ((A : Asked) (ts : List Token) → From code A 0 ts → Left code A s (scanned ts)) → Scans code s
scan-ends code (Before x) g f A ts h = false-is-true (sym g)
scan-ends code (Behind x) g f A ts h = false-is-true (sym g)
scan-ends code (Whole x) g f A ts h = go (read_policy ts) (f A ts h)
  where
    go : (o : Option Policy) → some (counts_at x) ≡ (o >>= λ p. some (counts_of p)) → Counted (Whole x) o
    go none e = none-is-some (sym e)
    go (some p) e =
        let q = some-injective (counts_at x) (counts_of p) e in
        let t : x.terms ≡ min 17 (0 + terms p) = ap (λ (c : Counts). c.terms) q in
        let d : x.depth ≡ max 0 (min 9 (0 + depth p)) = ap (λ (c : Counts). c.depth) q in
        let l : x.largest ≡ max 0 (min 9 (largest_set p)) = ap (λ (c : Counts). c.largest) q in
        (omega arith, omega arith, omega arith)
scan-ends code Failed g f A ts h = go (read_policy ts) (f A ts h)
  where
    go : (o : Option Policy) → none ≡ (o >>= λ p. some (counts_of p)) → Counted Failed o
    go none e = tt
    go (some p) e = none-is-some e
