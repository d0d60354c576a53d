-- How a term begins: the code's heads, and what a term is from its head.
use Prim.Native.Nat.{ℕ, ◌+◌, ◌*◌, ◌≤◌, ◌<◌, max}
use mathlib.Core.Path.{◌≡◌, refl, sym, ap, subst, ◌∙◌}
use mathlib.Core.Bool.{Bool, true, false}
use mathlib.Core.List.{List, [], ◌∷◌}
use mathlib.Core.Option.{Option, none, some, some-injective}
use native.Mathlib.Omega.{arith}
use mir.Val.{bool_byte}
use Rattle.std.specs.Prelude as std
use Rattle.std.specs.Prelude.{Some, None}
use native.Mathlib.Decide.{dec_lt}
use lib.Dec.{eqb}
use lib.ListN.{length, get_or}
use borrow.Author.Tests.{eqb-true, eqb-false}
use Rattle.model.specs.Notation.{◌>>=◌, ◌or_else◌, only_if}
use Rattle.model.specs.Bytes.{Bytes}
use Rattle.model.specs.Atoms.{Atom}
use Rattle.model.specs.Tokens as model
use Rattle.model.specs.Tokens.{Mark, Operator}
use Rattle.model.specs.Grammar as grammar
use Rattle.model.specs.Grammar.{compare, constants, attribute, one_type, is_mark, behind_mark, read_operator, read_items, read_set, read_var, read_comparison, read_simple, read_term, closed, term_within, policy_within}
use Rattle.model.proofs.Results.{case-so}
use Rattle.model.proofs.WordTables.{none-is-some}
use Rattle.model.proofs.Options.{bind-some}
use Rattle.model.proofs.Complete.{above}
use Rattle.codes.proofs.TokenKinds.{truth-range}
use Rattle.tokens.proofs.RuleCode.{truth-here}
use Rattle.policy.specs.declared.Head.{Head}
use Rattle.policy.specs.declared.Head.TheVariants.{Leaf, Open}
use Rattle.policy.specs.declared.Var.{Var}
use Rattle.policy.specs.Starts.{Start, whole, opened, neither, simple_start, negated_start, read_or, plain_start, signed_start, term_start, alone_start, closed_by}
use Rattle.policy.specs.Readers.{lending, Lending, Asked, From, Answers, Ahead, Terms, Policies, Closes, Starts, Further, Heads, VarReads, VarAnswers, Vars, Alone, SecondVars, VarHeads}
use Rattle.policy.proofs.CodeFronts.{inside, told, is-mark, isnt-mark, mark_on, mark-off, operator-on, operator-off}
use Rattle.policy.proofs.Shorter.{mark-fewer}

-- ---- a var alone

module _ (v : Var) where
  pub alone-none : (v.atoms ≡ 0 → ⊥) → Alone v None
  alone-none n = record { further = λ code at l. tt; starts = go }
    where
      go : (code : Bytes) (L : Lending) (A : Asked) (w : grammar.Var) (rest : List model.Token) → VarReads code L A v w rest → Starts code A None (alone_start w rest)
      go code L A (constants l) rest r = tt
      go code L A (attribute s m) rest r = n r.atom-count

  pub alone-on : v.atoms ≡ 0 → Alone v (Some (Leaf v.next 0))
  alone-on z = record { further = λ code at l. l; starts = go }
    where
      go : (code : Bytes) (L : Lending) (A : Asked) (w : grammar.Var) (rest : List model.Token) → VarReads code L A v w rest
          → Starts code A (Some (Leaf v.next 0)) (alone_start w rest)
      go code L A (constants l) rest r = absurd (omega (arith, r.atom-count, r.some-atoms, z))
      go code L A (attribute s m) rest r = (r.behind, refl)

-- what a var is that was read, as a simple term
set-constants : (ts : List model.Token) (y : grammar.Var × List model.Token) → read_set ts ≡ some y → neither ≡ alone_start y.0 y.1
unfolding read_set
set-constants ts y e =
    let (x, f, g) = bind-some (read_items ts) (λ x. only_if (one_type x.0) (constants x.0, x.1)) e in
    go x (one_type x.0) g
  where
    go : (x : List Atom × List model.Token) (b : Bool) → only_if b (constants x.0, x.1) ≡ some y → neither ≡ alone_start y.0 y.1
    go x true g = ap (λ (z : grammar.Var × List model.Token). alone_start z.0 z.1) (some-injective _ _ g)
    go x false g = none-is-some g

alone-start : (ts : List model.Token) (y : grammar.Var × List model.Token) → read_var ts ≡ some y → simple_start ts ≡ alone_start y.0 y.1
alone-start [] y e = none-is-some e
alone-start (model.Token.name s n ∷ ts) y e = ap (λ (z : grammar.Var × List model.Token). alone_start z.0 z.1) (some-injective _ _ e)
alone-start (model.Token.int n ∷ ts) y e = ap (λ (z : grammar.Var × List model.Token). alone_start z.0 z.1) (some-injective _ _ e)
alone-start (model.Token.str n ∷ ts) y e = ap (λ (z : grammar.Var × List model.Token). alone_start z.0 z.1) (some-injective _ _ e)
alone-start (model.Token.truth n ∷ ts) y e = none-is-some e
alone-start (model.Token.operator n ∷ ts) y e = none-is-some e
alone-start (model.Token.mark m ∷ ts) y e = go (is_mark Mark.lbrace m) refl e
  where
    go : (b : Bool) → is_mark Mark.lbrace m ≡ b → (only_if b ts >>= read_set) ≡ some y → simple_start (model.Token.mark m ∷ ts) ≡ alone_start y.0 y.1
    go true f g =
        subst (λ (k : Mark). simple_start (model.Token.mark k ∷ ts) ≡ alone_start y.0 y.1) (is-mark Mark.lbrace m f) (set-constants ts y g)
    go false f g = none-is-some g

-- ---- simple terms

module _ (code : Bytes) (at k : ℕ) (e : k ≡ get_or code at 0) where
  here : 0 < k → at < length code
  here h = inside code at (omega arith)

  pub simple-open : k ≡ 5 → Heads (λ ts. simple_start ts) code at (Some (Open (at + 1)))
  simple-open z = record {
    further = let w = here (omega arith) in omega arith;
    starts = λ A ts f.
        let m = mark_on Mark.lparen code A at ts f (sym e ∙ z) in
        subst (λ us. Starts code A (Some (Open (at + 1))) (simple_start us)) (sym m.split) m.behind;
  }

  pub simple-truth : 13 ≤ k → k ≤ 15 → Heads (λ ts. simple_start ts) code at (Some (Leaf (at + 1) 0))
  simple-truth lo hi = record {
    further = omega arith;
    starts = λ A ts f.
        let (t, us, c, s, g) = truth-here f.coded (omega arith) (omega arith) in
        subst (λ us. Starts code A (Some (Leaf (at + 1) 0)) (simple_start us)) (sym s) ((told (subst (From code A at) s f)).behind, refl);
  }

  -- where no var begins either
  module _ (X : Vars code at None) where
    other-starts : (k ≡ 5 → ⊥) → (13 ≤ k → k ≤ 15 → ⊥) → (A : Asked) (ts : List model.Token) → From code A at ts → Starts code A None (simple_start ts)
    other-starts a b A [] f = tt
    other-starts a b A (model.Token.name x n ∷ ts) f = absurd (X.answers (lending [] [] [] []) A (model.Token.name x n ∷ ts) f)
    other-starts a b A (model.Token.int n ∷ ts) f = tt
    other-starts a b A (model.Token.str n ∷ ts) f = tt
    other-starts a b A (model.Token.truth w ∷ ts) f = b (omega (arith, e, (told f).kind-is, truth-range w)) (omega (arith, e, (told f).kind-is, truth-range w))
    other-starts a b A (model.Token.operator o ∷ ts) f = tt
    other-starts a b A (model.Token.mark m ∷ ts) f =
        subst (λ (k : Bool). Starts code A None (elim k as (λ _. Start) [ true ↦ opened false ts | false ↦ neither ]))
        (sym (isnt-mark Mark.lparen m (λ q. a (e ∙ (told f).kind-is ∙ q)))) tt

    pub simple-neither : (k ≡ 5 → ⊥) → (13 ≤ k → k ≤ 15 → ⊥) → Heads (λ ts. simple_start ts) code at None
    simple-neither a b = record { further = tt; starts = λ A ts f. other-starts a b A ts f }

-- ---- after NOT

-- NOT changes neither where a term ends nor its sets
not-starts : (code : Bytes) (A : Asked) (h : std.Option Head) (x : Start) → Starts code A h x → Starts code A h (negated_start x)
not-starts code A (Some (Leaf n l)) (whole p ts) s = s
not-starts code A (Some (Leaf n l)) (opened b ts) s = absurd s
not-starts code A (Some (Leaf n l)) neither s = absurd s
not-starts code A (Some (Open n)) (whole p ts) s = absurd s
not-starts code A (Some (Open n)) (opened b ts) s = s
not-starts code A (Some (Open n)) neither s = absurd s
not-starts code A None (whole p ts) s = absurd s
not-starts code A None (opened b ts) s = absurd s
not-starts code A None neither s = tt

-- ---- what begins with a var

-- what follows the first var, and what follows the operator
abbrev pub behind_operator : grammar.Var → Operator → Option (grammar.Var × List model.Token) → grammar.Reading
behind_operator v o r = r >>= λ (w, rest). some (compare o v w, rest)

abbrev pub behind_var : grammar.Var → Option (Operator × List model.Token) → grammar.Reading
behind_var v r = r >>= λ (o, rest). behind_operator v o (read_var rest)

abbrev from_var : Option (grammar.Var × List model.Token) → grammar.Reading
from_var r = r >>= λ (v, rest). behind_var v (read_operator rest)

module _ (code : Bytes) (v : Var) where
  -- values are not asked for
  abbrev nothing : Lending
  nothing = lending [] [] [] []

  -- a head that fits what is read behind the var fits what begins with it
  var-heads : (h : std.Option Head) → ((at : ℕ) → at ≤ v.next → Further code at h)
      → ((A : Asked) (w : grammar.Var) (rest : List model.Token) → VarReads code nothing A v w rest → Starts code A h (read_or (alone_start w rest) (behind_var w (read_operator rest))))
      → VarHeads code false v h
  unfolding plain_start read_comparison
  var-heads h a f at X =
      record { further = a at (omega (arith, X.past)); starts = λ A ts g. go A ts (read_var ts) refl (X.answers nothing A ts g) }
    where
      go : (A : Asked) (ts : List model.Token) (r : Option (grammar.Var × List model.Token)) → read_var ts ≡ r → VarAnswers code nothing A (Some v) r
          → Starts code A h (read_or (simple_start ts) (from_var r))
      go A ts none q b = absurd b
      go A ts (some y) q b =
          subst (λ (x : Start). Starts code A h (read_or x (behind_var y.0 (read_operator y.1)))) (sym (alone-start ts y q)) (f A y.0 y.1 b)

  -- after NOT a var stands alone
  not-alone : (h : std.Option Head) → Alone v h → VarHeads code true v h
  not-alone h O at X = record {
    further = O.further code at (omega (arith, X.past));
    starts = λ A ts g. not-starts code A h (simple_start ts) (go A ts (read_var ts) refl (X.answers nothing A ts g));
  }
    where
      go : (A : Asked) (ts : List model.Token) (q : Option (grammar.Var × List model.Token)) → read_var ts ≡ q → VarAnswers code nothing A (Some v) q → Starts code A h (simple_start ts)
      go A ts none q b = absurd b
      go A ts (some y) q b = subst (Starts code A h) (sym (alone-start ts y q)) (O.starts code nothing A y.0 y.1 b)

  -- no operator and var behind it: it stands alone
  pub not-second : (negated : Bool) → SecondVars code negated v.next None → (h : std.Option Head) → Alone v h → VarHeads code negated v h
  not-second negated second h O = go negated refl
    where
      off : (16 ≤ get_or code v.next 0 → get_or code v.next 0 ≤ 23 → ⊥) → VarHeads code false v h
      off n = var-heads h (O.further code) λ A x rest r.
          subst (λ o. Starts code A h (read_or (alone_start x rest) (behind_var x o)))
          (sym (operator-off code A v.next rest r.behind n)) (O.starts code nothing A x rest r)

      last : (A : Asked) (x : grammar.Var) (rest : List model.Token) → VarReads code nothing A v x rest → (o : Operator)
          (q : Option (grammar.Var × List model.Token)) → VarAnswers code nothing A None q → Starts code A h (read_or (alone_start x rest) (behind_operator x o q))
      last A x rest r o none b = O.starts code nothing A x rest r
      last A x rest r o (some y) b = absurd b

      on : 16 ≤ get_or code v.next 0 → Vars code (v.next + 1) None → VarHeads code false v h
      on lo W = var-heads h (O.further code) λ A x rest r.
          let (o, left, c, s, g) = operator-on code A v.next rest r.behind lo in
          subst (λ us. Starts code A h (read_or (alone_start x rest) (behind_var x (read_operator us)))) (sym s)
          (last A x rest r o (read_var left) (W.answers nothing A left g))

      plain : negated ≡ false → Dec (get_or code v.next 0 < 16) → Dec (23 < get_or code v.next 0) → VarHeads code false v h
      plain f (yes a) d = off (λ x y. omega arith)
      plain f (no a) (yes b) = off (λ x y. omega arith)
      plain f (no a) (no b) = on (omega arith) (second f (omega arith) (omega arith))

      go : (b : Bool) → negated ≡ b → VarHeads code b v h
      go true f = not-alone h O
      go false f = plain f (dec_lt (get_or code v.next 0) 16) (dec_lt 23 (get_or code v.next 0))

  -- a comparison
  pub compared : (negated : Bool) (w : Var) → SecondVars code negated v.next (Some w) → (l : ℕ) → l ≡ max v.atoms w.atoms
      → VarHeads code negated v (Some (Leaf w.next l))
  compared negated w (f, lo, W) l m =
      subst (λ (b : Bool). VarHeads code b v (Some (Leaf w.next l))) (sym f)
      (var-heads (Some (Leaf w.next l)) (λ at a. let g = W.past in omega arith) λ A y rest r.
      let (o, left, c, s, g) = operator-on code A v.next rest r.behind lo in
      subst (λ us. Starts code A (Some (Leaf w.next l)) (read_or (alone_start y rest) (behind_var y (read_operator us)))) (sym s)
      (last A y rest r o (read_var left) (W.answers nothing A left g)))
    where
      last : (A : Asked) (y : grammar.Var) (rest : List model.Token) → VarReads code nothing A v y rest → (o : Operator)
          (q : Option (grammar.Var × List model.Token)) → VarAnswers code nothing A (Some w) q
          → Starts code A (Some (Leaf w.next l)) (read_or (alone_start y rest) (behind_operator y o q))
      last A y rest r o none b = absurd b
      last A y rest r o (some (z, more)) b = (b.behind, omega (arith, m, r.atom-count, b.atom-count))

-- the var behind an operator, by what was found of it
module _ (code : Bytes) (at : ℕ) (negated : Bool) where
  pub no-second-var : (negated ≡ false → 16 ≤ get_or code at 0 → get_or code at 0 ≤ 23 → ⊥) → SecondVars code negated at None
  no-second-var n = λ f a b. absurd (n f a b)

  pub second-var : (w : std.Option Var) → negated ≡ false → 16 ≤ get_or code at 0 → Vars code (at + 1) w → SecondVars code negated at w
  second-var (Some w) f a W = (f, a, W)
  second-var None f a W = λ g b c. W

-- ---- terms

further-later : (code : Bytes) (at n : ℕ) (h : std.Option Head) → at ≤ n → Further code n h → Further code at h
further-later code at n (Some (Leaf k m)) l a = omega arith
further-later code at n (Some (Open m)) l a = omega arith
further-later code at n None l a = tt

module _ (code : Bytes) (at : ℕ) where
  -- without a var, after NOT or not
  pub signed-simple : (negated : Bool) → Vars code at None → (h : std.Option Head) → Heads (λ ts. simple_start ts) code at h
      → Heads (signed_start negated) code at h
  unfolding plain_start read_comparison
  signed-simple true X h H = record { further = H.further; starts = λ A ts f. not-starts code A h (simple_start ts) (H.starts A ts f) }
  signed-simple false X h H =
      record { further = H.further; starts = λ A ts f. go A ts (H.starts A ts f) (read_var ts) (X.answers (lending [] [] [] []) A ts f) }
    where
      go : (A : Asked) (ts : List model.Token) → Starts code A h (simple_start ts) → (q : Option (grammar.Var × List model.Token))
          → VarAnswers code (lending [] [] [] []) A None q → Starts code A h (read_or (simple_start ts) (from_var q))
      go A ts s none a = s
      go A ts s (some y) a = absurd a

  -- a term: what stands behind its NOT, if it has one
  pub term-signed : (k n : ℕ) → k ≡ get_or code at 0 → n ≡ bool_byte (eqb k 12) → (h : std.Option Head)
      → Heads (signed_start (eqb k 12)) code (at + n) h → Heads (λ ts. term_start ts) code at h
  unfolding term_start
  term-signed k n e f h H = go (eqb k 12) refl f H
    where
      go : (b : Bool) → eqb k 12 ≡ b → n ≡ bool_byte b → Heads (signed_start b) code (at + n) h → Heads (λ ts. term_start ts) code at h
      go true z f H = record {
        further = further-later code at (at + n) h (omega arith) H.further;
        starts = λ A ts g.
            let m = mark_on Mark.NOT code A at ts g (sym e ∙ eqb-true k 12 z) in
            subst (λ us. Starts code A h (term_start us)) (sym m.split) (H.starts A m.rest (subst (λ (i : ℕ). From code A (at + i) m.rest) (sym f) m.behind));
      }
      go false z f H =
          let there : at + n ≡ at = omega arith in
          record {
            further = further-later code at (at + n) h (omega arith) H.further;
            starts = λ A ts g.
                subst (λ w. Starts code A h (elim w as (λ _. Start) [ some rest ↦ negated_start (simple_start rest) | none ↦ plain_start ts ]))
                (sym (mark-off Mark.NOT code A at ts g (λ y. eqb-false k 12 z (e ∙ y))))
                (H.starts A ts (subst (λ (i : ℕ). From code A i ts) (sym there) g));
          }

-- what is read from a start: `inner` reads the policy in parentheses
abbrev pub finished : (List model.Token → grammar.Reading) → Start → grammar.Reading
finished inner (whole p ts) = some (p, ts)
finished inner (opened b ts) = closed_by b (inner ts)
finished inner neither = none

module _ (inner : List model.Token → grammar.Reading) where
  -- a policy in parentheses needs no other form without NOT
  same-reading : (o : grammar.Reading) → (o >>= λ (p, rest). some (p, rest)) ≡ o
  same-reading none = refl
  same-reading (some y) = refl

  twice : {A : Type 0} (o : Option A) (f : A → grammar.Reading) → (o >>= f >>= λ (p, rest). some (p, rest)) ≡ (o >>= f)
  twice o f = same-reading (o >>= f)

  simple-finished : (ts : List model.Token) → read_simple inner ts ≡ finished inner (simple_start ts)
  simple-finished [] = refl
  simple-finished (model.Token.name s n ∷ ts) = refl
  simple-finished (model.Token.int n ∷ ts) = refl
  simple-finished (model.Token.str s ∷ ts) = refl
  simple-finished (model.Token.truth t ∷ ts) = refl
  simple-finished (model.Token.operator o ∷ ts) = refl
  simple-finished (model.Token.mark m ∷ ts) = go (is_mark Mark.lparen m)
    where
      go : (b : Bool) → (only_if b ts >>= inner >>= closed)
          ≡ finished inner (elim b as (λ _. Start) [ true ↦ opened false ts | false ↦ neither ])
      go true = sym (same-reading (inner ts >>= closed))
      go false = refl

  negated-finished : (ts : List model.Token) → (read_simple inner ts >>= λ (p, rest). some (grammar.not p, rest)) ≡ finished inner (negated_start (simple_start ts))
  negated-finished [] = refl
  negated-finished (model.Token.name s n ∷ ts) = refl
  negated-finished (model.Token.int n ∷ ts) = refl
  negated-finished (model.Token.str s ∷ ts) = refl
  negated-finished (model.Token.truth t ∷ ts) = refl
  negated-finished (model.Token.operator o ∷ ts) = refl
  negated-finished (model.Token.mark m ∷ ts) = go (is_mark Mark.lparen m)
    where
      go : (b : Bool) → (only_if b ts >>= inner >>= closed >>= λ (p, rest). some (grammar.not p, rest))
          ≡ finished inner (negated_start (elim b as (λ _. Start) [ true ↦ opened false ts | false ↦ neither ]))
      go true = refl
      go false = refl

  pub term-finished : (ts : List model.Token) → read_term inner ts ≡ finished inner (term_start ts)
  unfolding read_term term_start plain_start
  term-finished ts = go (behind_mark Mark.NOT ts) (read_comparison ts)
    where
      go : (w : Option (List model.Token)) (r : grammar.Reading)
          → elim w as (λ _. grammar.Reading) [ some rest ↦ read_simple inner rest >>= λ (p, rest). some (grammar.not p, rest) | none ↦ r or_else read_simple inner ts ]
          ≡ finished inner (elim w as (λ _. Start) [ some rest ↦ negated_start (simple_start rest) | none ↦ read_or (simple_start ts) r ])
      go none none = simple-finished ts
      go none (some y) = refl
      go (some rest) r = negated-finished rest

-- the tokens of a policy in parentheses are fewer
abbrev pub FewerIn : List model.Token → Start → Type 0
FewerIn ts (whole p rest) = Unit {0}
FewerIn ts (opened b rest) = length rest < length ts
FewerIn ts neither = Unit {0}

simple-fewer : (ts : List model.Token) → FewerIn ts (simple_start ts)
simple-fewer [] = tt
simple-fewer (model.Token.name s n ∷ ts) = tt
simple-fewer (model.Token.int n ∷ ts) = tt
simple-fewer (model.Token.str s ∷ ts) = tt
simple-fewer (model.Token.truth t ∷ ts) = tt
simple-fewer (model.Token.operator o ∷ ts) = tt
simple-fewer (model.Token.mark m ∷ ts) = go (is_mark Mark.lparen m)
  where
    go : (b : Bool) → FewerIn (model.Token.mark m ∷ ts) (elim b as (λ _. Start) [ true ↦ opened false ts | false ↦ neither ])
    go true = omega arith
    go false = tt

not-fewer : (ts us : List model.Token) (x : Start) → length us < length ts → FewerIn us x → FewerIn ts (negated_start x)
not-fewer ts us (whole p rest) l a = tt
not-fewer ts us (opened b rest) l a = omega arith
not-fewer ts us neither l a = tt

pub start-fewer : (ts : List model.Token) → FewerIn ts (term_start ts)
unfolding term_start plain_start
start-fewer ts =
    case-so (λ rest. length rest < length ts) (FewerIn ts) (λ rest. negated_start (simple_start rest)) (read_or (simple_start ts) (read_comparison ts))
    (behind_mark Mark.NOT ts) (mark-fewer Mark.NOT ts)
    (λ rest l. not-fewer ts rest (simple_start rest) l (simple-fewer rest)) (other (read_comparison ts))
  where
    other : (r : grammar.Reading) → FewerIn ts (read_or (simple_start ts) r)
    other none = simple-fewer ts
    other (some y) = tt

-- A term, from its head
module _ (code : Bytes) (at : ℕ) (h : std.Option Head) (H : Heads (λ ts. term_start ts) code at h) where
  -- an answer that fits what is read from each start fits the term
  term-from : (r : std.Option ℕ) → Ahead at r
      → ((A : Asked) (ts : List model.Token) (n : ℕ) → 3 * length ts ≤ n → (x : Start) → FewerIn ts x → Starts code A h x → Answers code A r (finished (λ rest. policy_within n rest) x))
      → Terms code at r
  unfolding policy_within
  term-from r a f = record {
    ahead = a;
    answers = λ A ts g n l.
        above (λ (k : ℕ). Answers code A r (term_within k ts)) (3 * length ts) n (omega arith)
        (λ k m. subst (Answers code A r) (sym (term-finished (λ rest. policy_within k rest) ts)) (f A ts k m (term_start ts) (start-fewer ts) (H.starts A ts g)));
  }

  pub head-none : h ≡ None → Terms code at None
  head-none e = term-from None tt λ A ts n l x a b. go A n x (subst (λ (k : std.Option Head). Starts code A k x) e b)
    where
      go : (A : Asked) (n : ℕ) (x : Start) → Starts code A None x → Answers code A None (finished (λ rest. policy_within n rest) x)
      go A n (whole p rest) b = absurd b
      go A n (opened c rest) b = absurd b
      go A n neither b = tt

  pub head-leaf : (k s : ℕ) → h ≡ Some (Leaf k s) → Terms code at (Some k)
  head-leaf k s e =
      term-from (Some k) (subst (Further code at) e H.further) λ A ts n l y a b. go A n y (subst (λ (k : std.Option Head). Starts code A k y) e b)
    where
      go : (A : Asked) (n : ℕ) (y : Start) → Starts code A (Some (Leaf k s)) y → Answers code A (Some k) (finished (λ rest. policy_within n rest) y)
      go A n (whole p rest) b = b.0
      go A n (opened c rest) b = absurd b
      go A n neither b = absurd b

  module _ (n : ℕ) (e : h ≡ Some (Open n)) where
    pub head-falls : (at < n) × (at < length code)
    head-falls = subst (Further code at) e H.further

    -- what is read in the parenthesis, and what closes it
    open-by : (q r : std.Option ℕ) → Policies code n q → Ahead at r
        → ((c : Bool) (A : Asked) (o : grammar.Reading) → Answers code A q o → Answers code A r (closed_by c o)) → Terms code at r
    open-by q r P a f = term-from r a λ A ts k l x b d. go A ts k l x b (subst (λ (k : std.Option Head). Starts code A k x) e d)
      where
        go : (A : Asked) (ts : List model.Token) (k : ℕ) → 3 * length ts ≤ k → (x : Start) → FewerIn ts x → Starts code A (Some (Open n)) x
            → Answers code A r (finished (λ rest. policy_within k rest) x)
        go A ts k l (whole p rest) b d = absurd d
        go A ts k l (opened c rest) b d = f c A (policy_within k rest) (P.answers A rest d k (omega arith))
        go A ts k l neither b d = absurd d

    pub open-none : Policies code n None → Terms code at None
    open-none P = open-by None None P tt go
      where
        go : (c : Bool) (A : Asked) (o : grammar.Reading) → Answers code A None o → Answers code A None (closed_by c o)
        go c A none a = tt
        go c A (some y) a = absurd a

    pub open-closed : (y : ℕ) → Policies code n (Some y) → (r : std.Option ℕ) → Closes code y r → Terms code at r
    open-closed y P r C = open-by (Some y) r P (later r C.ahead) C.answers
      where
        later : (r : std.Option ℕ) → Ahead y r → Ahead at r
        later (Some z) a = let w = head-falls in let v = P.ahead in omega (arith, w.0)
        later None a = tt
