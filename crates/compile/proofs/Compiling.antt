-- The rows of a rule, as far as its code was passed.
use Prim.Native.Nat.{ℕ, ◌+◌, ◌*◌, ◌≤◌, ◌<◌, max}
use mathlib.Core.Path.{◌≡◌, refl, sym, ap, subst, ◌∙◌}
use mathlib.Core.Logic.{⊎_elim}
use mathlib.Core.Bool.{Bool, true, false, ◌||◌}
use mathlib.Core.List.{List, [], ◌∷◌}
use native.Mathlib.Omega.{arith}
use lib.Dec.{ltb}
use lib.ListN.{length, get_or, take}
use lib.Seq.{sets, length-sets}
use borrow.Author.Tests.{ltb-false}
use Rattle.model.specs.Notation.{if◌then◌otherwise◌}
use Rattle.model.specs.Limits.{term_limit, depth_limit, set_limit}
use Rattle.model.specs.Bytes.{Bytes}
use Rattle.truth.specs.Verdicts.{Verdict, policy_verdict}
use Rattle.truth.proofs.Verdicts.{rule-read}
use Rattle.model.specs.Tokens.{Token, Mark}
use Rattle.model.specs.Grammar as grammar
use Rattle.model.specs.Grammar.{Policy, Obeys, read_comparison, terms, depth, largest_set, read_policy, too_large}
use Rattle.model.specs.Meaning.{Values}
use Rattle.model.proofs.WordTables.{false-is-true, none-is-some}
use Rattle.model.proofs.Lists.{or-none}
use Rattle.model.proofs.Sound.{sound}
use Rattle.codes.specs.Codes.{mark_code}
use Rattle.codes.proofs.TokenKinds.{mark-range}
use Rattle.tokens.proofs.RuleCode.{coded-within}
use Rattle.values.specs.Operands.{Lent, lent}
use Rattle.program.specs.Walks as walks
use Rattle.program.specs.Walks.{Walk, walk, fresh, termed, passed, is_passed, read_leaf, Ends}
use Rattle.program.specs.TermRows.{row_bytes}
use Rattle.program.specs.Runs as runs
use Rattle.program.specs.Runs.{Runs, Reads, ProgrammedBy, next_row}
use Rattle.program.proofs.Walked.{walks-over}
use Rattle.policy.specs.Readers.{Asked, From}
use Rattle.policy.proofs.CodeFronts.{told, ended}
use Rattle.compile.specs.declared.Term.{Term}
use Rattle.compile.specs.Compiled.{RowRead, row_of, TokenDone, Compiled}
use Rattle.compile.proofs.Leaves.{leaf-kind}
use Rattle.compile.proofs.RowBytes.{row-front, row_before, row_next_lem, row-value}

-- at a place of the code, with the rows before a byte written: the walk from here over the tokens that are left comes to t, there is room for the rows of
-- their terms, and with any rows that begin as these do, a run that goes on from here is one from the start
pub record Here (L : Lent) (rows : Bytes) (row at : ℕ) (A : Asked) (read : Values) (t : Verdict) : Type 0 where
  pub reached : Walk
  pub left : List Token
  pub count : ℕ
  pub from : From L.code A at left
  pub ends : Ends read reached left count t
  pub room : row + row_bytes * count ≤ length rows
  pub goes_on : (other : Bytes) → length other ≡ length rows → take row other ≡ take row rows → Runs L other reached row at t → Runs L other (walk fresh []) 0 0 t

-- of whatever policy the code is that of, whatever is lent and read
abbrev pub Compiling : Bytes → List ℕ → Bytes → ℕ → ℕ → Type 0
Compiling code attributes rows row at =
    (A : Asked) (ts : List Token) (p : Policy) → A.valued ≡ true → From code A 0 ts → Obeys grammar.policy ts p → depth p ≤ depth_limit → row_bytes * terms p ≤ length rows
    → (pairs session : List ℕ) (entries : Bytes) (read : Values) → Reads (lent code pairs session entries) attributes A.declared read
    → Here (lent code pairs session entries) rows row at A read (policy_verdict read p)

-- AND changes nothing
and-passed : (read : Values) (w : Walk) (us : List Token) (n : ℕ) (t : Verdict) → Ends read w (Token.mark Mark.AND ∷ us) n t → Ends read w us n t
unfolding passed read_leaf read_comparison
and-passed read w us n t (walks.past q few e) = e
and-passed read w us n t (walks.term x q e) = none-is-some q

-- what the limits of a policy say of its terms and its parentheses
limits : (p : Policy) → too_large p ≡ false → (terms p ≤ term_limit) × (depth p ≤ depth_limit)
unfolding too_large
limits p e =
    let (ab, c) = or-none (ltb term_limit (terms p) || ltb depth_limit (depth p)) (ltb set_limit (largest_set p)) e in
    let (a, b) = or-none (ltb term_limit (terms p)) (ltb depth_limit (depth p)) ab in
    (ltb-false term_limit (terms p) a, ltb-false depth_limit (depth p) b)

module _ (code : Bytes) (attributes : List ℕ) where
  pub compile-starts : (rows : Bytes) → Compiling code attributes rows 0 0
  compile-starts rows A ts p valued f o deep room pairs session entries read g = record {
    reached = walk fresh [];
    left = ts;
    count = terms p;
    from = f;
    ends = walks-over read o deep;
    room = omega arith;
    goes_on = λ other l a r. r;
  }

  module _ (rows : Bytes) (row at : ℕ) (C : Compiling code attributes rows row at) where
    -- what a run from here comes to, if it does, a run from the start does
    from-here : ((pairs session : List ℕ) (entries : Bytes) (A : Asked) (read : Values) (w : Walk) (us : List Token) (k : ℕ) (t : Verdict)
        → From code A at us → Ends read w us k t → Runs (lent code pairs session entries) rows w row at t)
        → Compiled code attributes rows
    from-here run D ts p coded written known reads within room pairs session entries read g =
        let A : Asked = record { declared = D; valued = true } in
        let f : From code A 0 ts = record { coded = coded; written = λ _. written; known = λ _. known } in
        let (few, deep) = limits p within in
        let H = C A ts p refl f (sound ts p reads) deep (omega arith) pairs session entries read g in
        subst (Runs (lent code pairs session entries) rows (walk fresh []) 0 0) (sym (rule-read read ts p reads))
        (H.goes_on rows refl refl (run pairs session entries A read H.reached H.left H.count (policy_verdict read p) H.from H.ends))

    -- the end of the tokens
    pub compile-ends : get_or code at 0 ≡ 0 → Compiled code attributes rows
    compile-ends z = from-here go
      where
        go : (pairs session : List ℕ) (entries : Bytes) (A : Asked) (read : Values) (w : Walk) (us : List Token) (k : ℕ) (t : Verdict)
            → From code A at us → Ends read w us k t → Runs (lent code pairs session entries) rows w row at t
        go pairs session entries A read w us k t f (walks.done) = runs.done (coded-within f.coded) z
        go pairs session entries A read w us k t f (walks.past {m = m} q few s) = absurd (omega (arith, mark-range m, (told f).kind-is))
        go pairs session entries A read w us k t f (walks.term x q s) = absurd ((leaf-kind code A at us x f q).0 z)

    -- the code ends nowhere else
    pub compile-out : length code ≤ at → Compiled code attributes rows
    compile-out l = from-here λ pairs session entries A read w us k t f s. absurd (omega (arith, coded-within f.coded))

    -- a mark
    pub compile-passes : is_passed (get_or code at 0) ≡ true → (get_or code at 0 ≡ 0 → ⊥) → Compiling code attributes rows row (at + 1)
    compile-passes y n A ts p valued f o deep room pairs session entries read g =
        let H = C A ts p valued f o deep room pairs session entries read g in
        go H.reached H.left H.count (policy_verdict read p) H.from H.ends H.room H.goes_on
      where
        L : Lent
        L = lent code pairs session entries

        go : (w : Walk) (us : List Token) (k : ℕ) (t : Verdict) → From code A at us → Ends read w us k t → row + row_bytes * k ≤ length rows
            → ((other : Bytes) → length other ≡ length rows → take row other ≡ take row rows → Runs L other w row at t → Runs L other (walk fresh []) 0 0 t)
            → Here L rows row (at + 1) A read t
        go w us k t f (walks.done) space on = absurd (n (ended f))
        go w us k t f (walks.past {m = m} q few e) space on = record {
          reached = passed (mark_code m) w;
          left = _;
          count = k;
          from = (told f).behind;
          ends = e;
          room = space;
          goes_on = λ other l a r.
              on other l a
              (runs.past (coded-within f.coded) y (rw (told f).kind-is few) (subst (λ (i : ℕ). Runs L other (passed i w) row (at + 1) t) (sym (told f).kind-is) r));
        }
        go w us k t f (walks.term x q e) space on = false-is-true (sym (leaf-kind code A at us x f q).1 ∙ y)

    -- a term, and an AND behind it
    pub compile-puts : is_passed (get_or code at 0) ≡ false → (get_or code at 0 ≡ 0 → ⊥) → (t : Term) → RowRead code attributes at t → (next : ℕ) → next ≡ max (at + 1) t.next
        → length code ≤ 1024 → Compiling code attributes (sets rows row (row_of t)) (row + row_bytes) next
    compile-puts y n v X next m short A ts p valued f o deep room pairs session entries read g =
        let H = C A ts p valued f o deep (omega (arith, length-sets rows row (row_of v))) pairs session entries read g in
        go H.reached H.left H.count (policy_verdict read p) H.from H.ends H.room H.goes_on
      where
        L : Lent
        L = lent code pairs session entries

        go : (w : Walk) (us : List Token) (k : ℕ) (t : Verdict) → From code A at us → Ends read w us k t → row + row_bytes * k ≤ length rows
            → ((other : Bytes) → length other ≡ length rows → take row other ≡ take row rows → Runs L other w row at t → Runs L other (walk fresh []) 0 0 t)
            → Here L (sets rows row (row_of v)) (row + row_bytes) next A read t
        go w us k t f (walks.done) space on = absurd (n (ended f))
        go w us k t f (walks.past {m = m} q few e) space on = false-is-true (sym y ∙ ap is_passed (told f).kind-is ∙ q)
        go w us k t f (walks.term {n = rest} x q e) space on =
            let T = X A us x valued f q in
            let K = leaf-kind code A at us x f q in
            let fits : row + row_bytes ≤ length rows = omega arith in
            let same_next : next ≡ v.next = omega (arith, T.ahead) in
            let near : v.next < 65536 = omega (arith, coded-within T.behind.coded) in
            record {
              reached = termed (policy_verdict read x.0) w;
              left = T.left_over;
              count = rest;
              from = subst (λ (i : ℕ). From code A i T.left_over) (sym same_next) T.behind;
              ends = ⊎_elim (λ q. subst (λ (us : List Token). Ends read (termed (policy_verdict read x.0) w) us rest t) q e)
                  (λ q. and-passed read (termed (policy_verdict read x.0) w) T.left_over rest t (subst (λ (us : List Token). Ends read (termed (policy_verdict read x.0) w) us rest t) q e)) T.are;
              room = omega (arith, length-sets rows row (row_of v));
              goes_on = λ other l a r.
                  let front = a ∙ row-front rows row v fits in
                  let there = row_next_lem rows row v fits other front near in
                  on other (l ∙ length-sets rows row (row_of v)) (row_before rows row v fits other front)
                  (runs.term (coded-within f.coded) K.0 K.1 (omega (arith, l, length-sets rows row (row_of v)))
                  (row-value rows row v fits other front L T.left_near T.right_near (policy_verdict read x.0) (T.value pairs session entries read g))
                  (omega (arith, there, T.ahead)) (subst (λ (i : ℕ). Runs L other (termed (policy_verdict read x.0) w) (row + row_bytes) i t) (same_next ∙ sym there) r));
            }

    -- either
    pub compile-goes-on : length code ≤ 1024 → (get_or code at 0 ≡ 0 → ⊥) → (rows' : Bytes) (next : ℕ) → TokenDone code attributes (get_or code at 0) at row rows rows' next
        → (m : ℕ) → m ≡ next_row (get_or code at 0) row → Compiling code attributes rows' m next
    compile-goes-on short n rows' next T m e = go (is_passed (get_or code at 0)) refl
      where
        go : (b : Bool) → is_passed (get_or code at 0) ≡ b → Compiling code attributes rows' m next
        go true y =
            let (same_rows, further) = T.mark y in
            let same_row : m ≡ row = e ∙ ap (λ (b : Bool). if b then row otherwise row + row_bytes) y in
            rw (same_rows, further, same_row) (compile-passes y n)
        go false y =
            let (t, X, written, further) = T.a-term y in
            let same_row : m ≡ row + row_bytes = e ∙ ap (λ (b : Bool). if b then row otherwise row + row_bytes) y in
            rw (written, same_row) (compile-puts y n t X next further short)
