-- A term without parentheses at the front of the tokens: what begins with a var, and what does not.
use Prim.Native.Nat.{ℕ, ◌+◌, ◌≤◌, ◌<◌}
use mathlib.Core.Path.{◌≡◌, refl, sym, ap, subst, ◌∙◌}
use mathlib.Core.Logic.{inl, inr}
use mathlib.Core.Bool.{true, false}
use mathlib.Core.List.{List, [], ◌∷◌}
use mathlib.Core.Option.{Option, none, some, some-injective}
use native.Mathlib.Omega.{arith}
use Rattle.std.specs.Prelude.{Some, None}
use native.Mathlib.Decide.{dec_lt}
use lib.ListN.{length, get_or}
use Rattle.model.specs.Bytes.{Bytes}
use Rattle.model.specs.Truth as model
use Rattle.model.specs.Tokens.{Token, Mark, Operator}
use Rattle.model.specs.Grammar as grammar
use Rattle.model.specs.Grammar.{Policy, constant, lone, compare, attribute, read_operator, read_var, read_comparison}
use Rattle.model.specs.Meaning.{Values, values_of}
use Rattle.model.proofs.WordTables.{none-is-some}
use Rattle.values.specs.declared.Operand.{Operand}
use Rattle.values.specs.Operands.{lent, no_values, Stands}
use Rattle.program.specs.Walks.{is_passed, read_bare, read_leaf}
use Rattle.program.specs.TermRows as rows
use Rattle.program.specs.Runs.{Reads}
use Rattle.policy.specs.declared.Var.{Var}
use Rattle.policy.specs.Readers.{Lending, lending, operand_of, Asked, From, VarReads, VarAnswers, Vars, SecondVars}
use Rattle.policy.proofs.CodeFronts.{told, mark_on, operator-on, operator-off}
use Rattle.policy.proofs.Heads.{behind_operator, behind_var}
use Rattle.compile.specs.declared.Term.{Term}
use Rattle.compile.specs.Compiled.{IsTerm, TermRead, RowRead}

-- ---- by its first token

-- where a term begins, neither a mark is passed nor do the tokens end
pub leaf-kind : (code : Bytes) (A : Asked) (at : ℕ) (us : List Token) (x : Policy × List Token) → From code A at us → read_leaf us ≡ some x
    → (get_or code at 0 ≡ 0 → ⊥) × (is_passed (get_or code at 0) ≡ false)
unfolding read_leaf read_comparison is_passed
leaf-kind code A at [] x f e = none-is-some e
leaf-kind code A at (Token.name s n ∷ ts) x f e = ((λ z. omega (arith, (told f).kind-is)), ap is_passed (told f).kind-is)
leaf-kind code A at (Token.int n ∷ ts) x f e = ((λ z. omega (arith, (told f).kind-is)), ap is_passed (told f).kind-is)
leaf-kind code A at (Token.str s ∷ ts) x f e = ((λ z. omega (arith, (told f).kind-is)), ap is_passed (told f).kind-is)
leaf-kind code A at (Token.truth model.FALSE ∷ ts) x f e = ((λ z. omega (arith, (told f).kind-is)), ap is_passed (told f).kind-is)
leaf-kind code A at (Token.truth model.UNDEF ∷ ts) x f e = ((λ z. omega (arith, (told f).kind-is)), ap is_passed (told f).kind-is)
leaf-kind code A at (Token.truth model.TRUE ∷ ts) x f e = ((λ z. omega (arith, (told f).kind-is)), ap is_passed (told f).kind-is)
leaf-kind code A at (Token.operator o ∷ ts) x f e = none-is-some e
leaf-kind code A at (Token.mark Mark.lbrace ∷ ts) x f e = ((λ z. omega (arith, (told f).kind-is)), ap is_passed (told f).kind-is)
leaf-kind code A at (Token.mark Mark.AND ∷ ts) x f e = none-is-some e
leaf-kind code A at (Token.mark Mark.OR ∷ ts) x f e = none-is-some e
leaf-kind code A at (Token.mark Mark.NOT ∷ ts) x f e = none-is-some e
leaf-kind code A at (Token.mark Mark.lparen ∷ ts) x f e = none-is-some e
leaf-kind code A at (Token.mark Mark.rparen ∷ ts) x f e = none-is-some e
leaf-kind code A at (Token.mark Mark.rbrace ∷ ts) x f e = none-is-some e
leaf-kind code A at (Token.mark Mark.comma ∷ ts) x f e = none-is-some e

-- ---- what is read, by the vars

module _ (us : List Token) where
  -- no var, no comparison
  leaf-bare : read_var us ≡ none → read_leaf us ≡ read_bare us
  unfolding read_leaf read_comparison
  leaf-bare e = rw e refl

  module _ (v : grammar.Var) (rest : List Token) (e : read_var us ≡ some (v, rest)) where
    -- a var without an operator and a var behind it
    leaf-alone : behind_var v (read_operator rest) ≡ none → read_leaf us ≡ read_bare us
    unfolding read_leaf read_comparison
    leaf-alone f = rw (e, f) refl

    leaf-compared : (o : Operator) (left : List Token) → rest ≡ Token.operator o ∷ left → (w : grammar.Var) (more : List Token) → read_var left ≡ some (w, more)
        → read_leaf us ≡ some (compare o v w, more)
    unfolding read_leaf read_comparison
    leaf-compared o left f w more g = rw (e, f, g) refl

-- ---- the term at a place

module _ (code : Bytes) (attributes : List ℕ) where
  abbrev nothing : Lending
  nothing = lending attributes [] [] []

  -- a var that is not there was not read
  no-var-read : (at : ℕ) → Vars code at None → (A : Asked) (us : List Token) → From code A at us → read_var us ≡ none
  no-var-read at X A us f = go (read_var us) (X.answers nothing A us f)
    where
      go : (r : Option (grammar.Var × List Token)) → VarAnswers code nothing A None r → r ≡ none
      go none a = refl
      go (some y) a = absurd a

  pub bare-term : (at k : ℕ) → k ≡ get_or code at 0 → Vars code at None
      → TermRead code attributes at (record { kind = k; left = no_values; right = no_values; next = at + 1 })
  bare-term at k h X A us x valued f e = go us f (no-var-read at X A us f) (sym (leaf-bare us (no-var-read at X A us f)) ∙ e)
    where
      go : (us : List Token) → From code A at us → read_var us ≡ none → read_bare us ≡ some x
          → IsTerm code attributes A at (record { kind = k; left = no_values; right = no_values; next = at + 1 }) x
      go [] f n e = none-is-some e
      go (Token.name s m ∷ ts) f n e = none-is-some (sym n)
      go (Token.int m ∷ ts) f n e = none-is-some e
      go (Token.str s ∷ ts) f n e = none-is-some e
      go (Token.truth t ∷ ts) f n e =
          subst (IsTerm code attributes A at (record { kind = k; left = no_values; right = no_values; next = at + 1 })) (some-injective (constant t, ts) x e) (record {
            behind = (told f).behind;
            ahead = omega arith;
            left_near = (omega arith, omega arith);
            right_near = (omega arith, omega arith);
            value = λ pairs session entries read g. rows.constant (h ∙ (told f).kind-is);
          })
      go (Token.operator o ∷ ts) f n e = none-is-some e
      go (Token.mark m ∷ ts) f n e = none-is-some e

  module _ (at : ℕ) (v : Var) (X : Vars code at (Some v)) where
    -- a var that is there was read
    record VarAt (A : Asked) (us : List Token) : Type 0 where
      var : grammar.Var
      rest : List Token
      is_read_lem : read_var us ≡ some (var, rest)
      reads : VarReads code nothing A v var rest

    var-read : (A : Asked) (us : List Token) → From code A at us → VarAt A us
    var-read A us f = go (read_var us) refl (X.answers nothing A us f)
      where
        go : (r : Option (grammar.Var × List Token)) → read_var us ≡ r → VarAnswers code nothing A (Some v) r → VarAt A us
        go none e a = absurd a
        go (some y) e a = record { var = y.0; rest = y.1; is_read_lem = e; reads = a }

    -- and its operand stands for its values, whatever is lent
    var-stands : (A : Asked) (us : List Token) → A.valued ≡ true → From code A at us → (y : grammar.Var × List Token) → read_var us ≡ some y
        → (pairs session : List ℕ) (entries : Bytes) (read : Values) → Reads (lent code pairs session entries) attributes A.declared read
        → Stands (lent code pairs session entries) (operand_of attributes v.meant) (values_of read y.0)
    var-stands A us valued f y e pairs session entries read g =
        let L = lending attributes pairs session entries in
        (subst (VarAnswers code L A (Some v)) e (X.answers L A us f)).stands valued read g

  module _ (at : ℕ) (few : length code ≤ 1024) (v : Var) (X : Vars code at (Some v)) where
    -- no operator and var behind the var
    not-compared : SecondVars code false v.next None → (A : Asked) (x : grammar.Var) (rest : List Token) → From code A v.next rest
        → behind_var x (read_operator rest) ≡ none
    not-compared S A x rest f = go (dec_lt (get_or code v.next 0) 16) (dec_lt 23 (get_or code v.next 0))
      where
        second : (o : Operator) (r : Option (grammar.Var × List Token)) → VarAnswers code nothing A None r → behind_operator x o r ≡ none
        second o none a = refl
        second o (some y) a = absurd a

        off : (16 ≤ get_or code v.next 0 → get_or code v.next 0 ≤ 23 → ⊥) → behind_var x (read_operator rest) ≡ none
        off n = ap (behind_var x) (operator-off code A v.next rest f n)

        go : Dec (get_or code v.next 0 < 16) → Dec (23 < get_or code v.next 0) → behind_var x (read_operator rest) ≡ none
        go (yes a) d = off (λ lo hi. omega arith)
        go (no a) (yes b) = off (λ lo hi. omega arith)
        go (no a) (no b) =
            let (o, left, c, s, g) = operator-on code A v.next rest f (omega arith) in
            let W = S refl (omega arith) (omega arith) in
            ap (λ (us : List Token). behind_var x (read_operator us)) s ∙ second o (read_var left) (W.answers nothing A left g)

    pub alone-term : SecondVars code false v.next None → TermRead code attributes at (record { kind = 4; left = operand_of attributes v.meant; right = no_values; next = v.next })
    alone-term S A us x valued f e =
        let y = var-read at v X A us f in
        go us f (sym (leaf-alone us y.var y.rest y.is_read_lem (not-compared S A y.var y.rest y.reads.behind)) ∙ e)
      where
        go : (us : List Token) → From code A at us → read_bare us ≡ some x → IsTerm code attributes A at (record { kind = 4; left = operand_of attributes v.meant; right = no_values; next = v.next }) x
        go [] f e = none-is-some e
        go (Token.name s m ∷ ts) f e =
            let r = X.answers nothing A (Token.name s m ∷ ts) f in
            subst (IsTerm code attributes A at (record { kind = 4; left = operand_of attributes v.meant; right = no_values; next = v.next })) (some-injective (lone s m, ts) x e) (record {
              behind = r.behind;
              ahead = X.past;
              left_near = (omega (arith, (r.near attributes).0), omega (arith, (r.near attributes).1));
              right_near = (omega arith, omega arith);
              value = λ pairs session entries read g. rows.lone refl (var-stands at v X A (Token.name s m ∷ ts) valued f (attribute s m, ts) refl pairs session entries read g);
            })
        go (Token.int m ∷ ts) f e = none-is-some e
        go (Token.str s ∷ ts) f e = none-is-some e
        go (Token.truth t ∷ ts) f e = absurd (X.answers nothing A (Token.truth t ∷ ts) f)
        go (Token.operator o ∷ ts) f e = none-is-some e
        go (Token.mark m ∷ ts) f e = none-is-some e

    pub compared-term : (w : Var) → SecondVars code false v.next (Some w) → (k : ℕ) → k ≡ get_or code v.next 0
        → TermRead code attributes at (record { kind = k; left = operand_of attributes v.meant; right = operand_of attributes w.meant; next = w.next })
    compared-term w (_, lo, W) k h A us x valued f e =
        let y = var-read at v X A us f in
        let (o, left, c, s, g) = operator-on code A v.next y.rest y.reads.behind lo in
        let z = var-read (v.next + 1) w W A left g in
        let q = leaf-compared us y.var y.rest y.is_read_lem o left s z.var z.rest z.is_read_lem in
        subst (IsTerm code attributes A at (record { kind = k; left = operand_of attributes v.meant; right = operand_of attributes w.meant; next = w.next }))
        (some-injective (compare o y.var z.var, z.rest) x (sym q ∙ e)) (record {
          behind = z.reads.behind;
          ahead = omega (arith, X.past, W.past);
          left_near = (omega (arith, (y.reads.near attributes).0), omega (arith, (y.reads.near attributes).1));
          right_near = (omega (arith, (z.reads.near attributes).0), omega (arith, (z.reads.near attributes).1));
          value = λ pairs session entries read r.
              rows.compare o (h ∙ c) (var-stands at v X A us valued f (y.var, y.rest) y.is_read_lem pairs session entries read r)
              (var-stands (v.next + 1) w W A left valued g (z.var, z.rest) z.is_read_lem pairs session entries read r);
        })

-- a term of operands that are equal
pub with-operands : (code : Bytes) (attributes : List ℕ) (at kind next : ℕ) {l m r s : Operand} → l ≡ m → r ≡ s
    → TermRead code attributes at (record { kind = kind; left = m; right = s; next = next })
    → TermRead code attributes at (record { kind = kind; left = l; right = r; next = next })
with-operands code attributes at kind next e f =
    subst (λ (t : Term). TermRead code attributes at t) (λ i. record { kind = kind; left = sym e i; right = sym f i; next = next })

-- ---- an AND behind a term

module _ (code : Bytes) (attributes : List ℕ) (at : ℕ) (t : Term) (R : TermRead code attributes at t) where
  pub row-alone : RowRead code attributes at t
  row-alone A us x valued f e =
      let T = R A us x valued f e in
      record {
        left_over = x.1;
        behind = T.behind;
        are = inl refl;
        ahead = T.ahead;
        left_near = T.left_near;
        right_near = T.right_near;
        value = T.value;
      }

  pub row-with-and : get_or code t.next 0 ≡ 10 → RowRead code attributes at (record { kind = t.kind; left = t.left; right = t.right; next = t.next + 1 })
  row-with-and z A us x valued f e =
      let T = R A us x valued f e in
      let m = mark_on Mark.AND code A t.next x.1 T.behind z in
      record {
        left_over = m.rest;
        behind = m.behind;
        are = inr m.split;
        ahead = omega (arith, T.ahead);
        left_near = T.left_near;
        right_near = T.right_near;
        value = T.value;
      }
