-- What a file leaves: each line that is accepted keeps what `SoFar` says, so every state in a ledger is loadable. Assumes nothing.
use Prim.Native.Nat.{ℕ, zero, suc, ◌≤◌, ◌<◌}
use mathlib.Core.Path.{◌≡◌, refl, sym, ap, subst, ◌∙◌}
use mathlib.Core.Logic.{◌⊎◌, inl, inr, ⊎_elim}
use mathlib.Core.Bool.{Bool, true, false, ◌&&◌, not, true≢false}
use mathlib.Core.List.Memᴰ.{head as here}
use mathlib.Core.List.Memᴰ.{tail as there}
use mathlib.Core.List.{List, [], ◌∷◌, ◌++◌}
use mathlib.Core.Option.{Option, none, some, some-injective}
use native.Mathlib.Omega.{arith}
use lib.ListN.{length, length-append}
use lib.Dec.{eqb, leb, ltb}
use borrow.Author.Tests.{eqb-true, eqb-false, leb-true, le-leb, ltb-true, ltb-false}
use Rattle.model.specs.Notation.{if◌then◌otherwise◌, ◌>>=◌, ◌is◌, is_none, nth, all_of}
use Rattle.model.specs.Limits.{Edition, line_bytes}
use Rattle.model.specs.Bytes.{Bytes}
use Rattle.model.specs.Keys.{Key, rank}
use Rattle.model.specs.Names.{read_name, is_name}
use Rattle.model.specs.Tokens.{is_token, spelled, tokens_of}
use Rattle.model.specs.Grammar.{read_policy}
use Rattle.model.specs.Attributes.{read_source}
use Rattle.model.specs.Atoms.{read_atom}
use Rattle.model.specs.Declarations.{Declarations, Holder, Rule, nothing_declared, holder_of}
use Rattle.model.specs.Lines.{is_read, named_edition, Line, attr, op, atom, holder, parent, member, value, rule, read_attr, read_op, read_pair, read_holder, read_two, read_value, read_rule, read_fields, framed, read_line, write_line, is_line, Writes}
use Rattle.model.specs.Ties.{Tie, Ties}
use Rattle.model.specs.State.{State, empty, after, with_holder}
use Rattle.model.specs.Refusals.{out_of_order, line_refusal, wrong_table}
use Rattle.model.specs.Load
use Rattle.model.specs.Load.{Loaded, key_of}
use Rattle.model.specs.Ledger.{Call, edition_for, step, with_table, without_table, Outcome, outcome, ledger_from, ledger}
use Rattle.model.specs.Standing.{Each, WellDeclared, Standing}
use Rattle.model.proofs.Lines.{line_key, sort_key}
use Rattle.model.proofs.WordTables.{false-is-true, none-is-some}
use Rattle.model.proofs.Options.{parts, bound, is_some, some-not}
use Rattle.model.proofs.Lists.{◌∈◌, true-or-false}
use Rattle.model.proofs.Cuts.{cut-bound}
use Rattle.model.proofs.Fields.{name_field, atom_field, source_field, type_field, both-fields, three-fields}
use Rattle.model.proofs.Growing.{each_more}
use Rattle.model.proofs.Spelled.{spelled-shortest}
use Rattle.model.proofs.Lines.{line-exact}
use Rattle.model.proofs.Declared.{alone, next-free, holder-cases}
use Rattle.model.proofs.Standing.{empty-standing, after-standing}
use Rattle.model.proofs.Ledger.{accepted-line}
use Rattle.model.proofs.Refusals.{line-unmet}
use Rattle.model.proofs.Accepted.{ReadAs, edit-declared}
use Rattle.model.proofs.Editions.{named-read}
use Rattle.model.proofs.Loads.{AcceptedLines, end, next, load-accepted, load-refused, refused-load}
use Rattle.model.proofs.Reached.{Reached}

-- ---- what holds of a state while a file is read, and of what a file leaves declared: "keys in this order" and the limit of a line make sure of it

-- behind a line with the key `previous`: whether a key is reached, so that no line of a key before it can come
abbrev pub is_reached : Key → Option Key → Bool
is_reached key previous = previous is λ p. leb (rank key) (rank p)

-- what a file leaves declared: its edition is one that files have, the numbers of holders rise with their keys, and each rule, as it was read from a line,
-- fits one
pub record Loadable (D : Declarations) : Type 0 where
  pub edition-read : is_read D.edition ≡ true
  pub by_key : (j k : ℕ) (g h : Holder) → holder_of D j ≡ some g → holder_of D k ≡ some h → j < k → rank (sort_key g.sort) ≤ rank (sort_key h.sort)
  pub short : Each (λ r. length (write_line (rule r.operation r.tokens)) ≤ line_bytes) D.rules

-- the state behind the lines that were read so far, the last of them with the key `previous`: the key of each holder is reached, and no tie stands before
-- `parent` is
pub record SoFar (S : State) (previous : Option Key) : Type 0 where
  pub loadable : Loadable S.declared
  pub holders-reached : (k : ℕ) (h : Holder) → holder_of S.declared (suc k) ≡ some h → is_reached (sort_key h.sort) previous ≡ true
  pub ties-reached : (t : Tie) → S.ties t ≡ true → is_reached Key.parent previous ≡ true

-- ---- the key of a line that is read

key-said : (k : Key) (f : Bytes) (l : Line) → read_fields k f ≡ some l → line_key l ≡ k
unfolding read_attr read_op read_pair read_holder read_two read_value read_rule
key-said Key.attr f l e = three-fields source_field name_field type_field attr f l e λ a b c m n o j z. ap line_key (sym z)
key-said Key.op f l e = bound {o = read_name f} e λ n p q. ap line_key (sym (some-injective _ _ q))
key-said Key.atom f l e =
    cut-bound 44 f e λ c p i e₁. cut-bound 46 c.0 e₁ λ d q j e₂. bound {o = read_source d.0} e₂ λ s g e₃. bound {o = read_name d.1} e₃ λ n h e₄.
    bound {o = read_atom c.1} e₄ λ a r e₅. let z : atom s n a ≡ l = some-injective _ _ e₅ in ap line_key (sym z)
key-said Key.ugroup f l e = bound {o = read_name f} e λ n p q. ap line_key (sym (some-injective _ _ q))
key-said Key.ogroup f l e = bound {o = read_name f} e λ n p q. ap line_key (sym (some-injective _ _ q))
key-said Key.user f l e = bound {o = read_name f} e λ n p q. ap line_key (sym (some-injective _ _ q))
key-said Key.object f l e = bound {o = read_name f} e λ n p q. ap line_key (sym (some-injective _ _ q))
key-said Key.parent f l e = both-fields name_field name_field parent f l e λ a b m n j z. ap line_key (sym z)
key-said Key.member f l e = both-fields name_field name_field member f l e λ a b m n j z. ap line_key (sym z)
key-said Key.value f l e = three-fields name_field name_field atom_field value f l e λ a b c m n o j z. ap line_key (sym z)
key-said Key.rule f l e =
    cut-bound 44 f e λ c p j e₁. bound {o = read_name c.0} e₁ λ o q e₂. bound {o = tokens_of c.1} e₂ λ ts r e₃. bound {o = read_policy ts} e₃ λ y g e₄.
    let z : rule o ts ≡ l = some-injective _ _ e₄ in ap line_key (sym z)

read-key : (line : Bytes) (key : Key) (l : Line) → ReadAs line key l → line_key l ≡ key
unfolding read_line
read-key line key l a =
    bound {o = framed line} a.line-is λ (k, f) p q.
    key-said k f l q ∙ some-injective k key (sym (ap (λ (o : Option (Key × Bytes)). o >>= λ (key, fields). some key) p) ∙ a.key-is)

-- ---- a rule's line

-- no writing of a line is shorter than the canonical one
pub writes-shortest : {l : Line} {b : Bytes} → Writes l b → is_line l ≡ true → length (write_line l) ≤ length b
writes-shortest (Writes.as_written l) h = omega arith
writes-shortest (Writes.any-spelling o {ts = ts} {p = p} d) h =
    let (ab, c) = parts (is_name o && all_of is_token ts) (not (is_none (read_policy ts))) h in
    let short = spelled-shortest d (parts (is_name o) (all_of is_token ts) ab).1 in
    omega (arith, length-append (o ++ 44 ∷ []) (spelled ts), length-append (o ++ 44 ∷ []) p)

line-short : (line : Bytes) (l : Line) → read_line line ≡ some l → length (write_line l) ≤ line_bytes
line-short line l e = let (h, b, w, short, j) = (line-exact line l).0 e in omega (arith, writes-shortest w h)

-- ---- a line more

pub nothing-so-far : (e : Edition) → is_read e ≡ true → SoFar (empty e) none
nothing-so-far edition read = record {
  loadable = record { edition-read = read; by_key = one_only; short = λ i r e. none-is-some e };
  holders-reached = λ k h e. none-is-some (sym (alone edition k) ∙ e);
  ties-reached = λ t e. false-is-true e;
}
  where
    one_only : (j k : ℕ) (g h : Holder) → holder_of (nothing_declared edition) j ≡ some g → holder_of (nothing_declared edition) k ≡ some h → j < k → rank (sort_key g.sort) ≤ rank (sort_key h.sort)
    one_only j zero g h e f l = absurd (omega arith)
    one_only j (suc k) g h e f l = none-is-some (sym (alone edition k) ∙ f)

-- no tie stands before `parent` is reached
pub untied : {S : State} {previous : Option Key} → SoFar S previous → is_reached Key.parent previous ≡ false → (t : Tie) → S.ties t ≡ false
untied {S} so_far e t = ⊎_elim (λ on. absurd (true≢false (sym (so_far.ties-reached t on) ∙ e))) (λ off. off) (true-or-false (S.ties t))

-- a key that is reached stays so
still-reached : (k key : Key) (previous : Option Key) → ((p : Key) → previous ≡ some p → rank p ≤ rank key) → is_reached k previous ≡ true → is_reached k (some key) ≡ true
still-reached k key previous order e =
    let (p, q, l) = is_some previous (λ p. leb (rank k) (rank p)) e in
    le-leb (rank k) (rank key) (omega (arith, order p q, leb-true (rank k) (rank p) l))

module _ {S : State} (previous : Option Key) (well : WellDeclared S.declared) (so_far : SoFar S previous) (key : Key) (order : (p : Key) → previous ≡ some p → rank p ≤ rank key) where
  -- lines that declare no holder
  same-holders : {E : Declarations} {T : Ties} → E.edition ≡ S.declared.edition → E.holders ≡ S.declared.holders → ((i : ℕ) (r : Rule) → nth E.rules i ≡ some r → length (write_line (rule r.operation r.tokens)) ≤ line_bytes)
      → ((t : Tie) → T t ≡ true → is_reached Key.parent (some key) ≡ true) → SoFar (record { declared = E; ties = T }) (some key)
  same-holders d e short tied = record {
    loadable = record { edition-read = ap is_read d ∙ so_far.loadable.edition-read; by_key = rw e so_far.loadable.by_key; short = short };
    holders-reached = λ k h f. still-reached (sort_key h.sort) key previous order (so_far.holders-reached k h (rw e at f));
    ties-reached = tied;
  }

  kept : (t : Tie) → S.ties t ≡ true → is_reached Key.parent (some key) ≡ true
  kept t e = still-reached Key.parent key previous order (so_far.ties-reached t e)

  -- a holder more, with the next number
  one-holder : (h : Holder) → h.number ≡ length S.declared.holders → sort_key h.sort ≡ key → SoFar (record { declared = with_holder h S.declared; ties = S.ties }) (some key)
  one-holder h at its-key = record {
    loadable = record { edition-read = so_far.loadable.edition-read; by_key = λ i j f g p q l. rises i j f g l (cases i f p) (cases j g q); short = so_far.loadable.short };
    holders-reached = λ k g e. ⊎_elim (λ old. still-reached (sort_key g.sort) key previous order (so_far.holders-reached k g old))
        (λ (a, b). le-leb (rank (sort_key g.sort)) (rank key) (omega (arith, ap (λ (x : Holder). rank (sort_key x.sort)) b, ap rank its-key))) (cases (suc k) g e);
    ties-reached = kept;
  }
    where
      cases : (k : ℕ) (g : Holder) → holder_of (with_holder h S.declared) k ≡ some g → (holder_of S.declared k ≡ some g) ⊎ ((h.number ≡ k) × (h ≡ g))
      cases = holder-cases S.declared h (ap (holder_of S.declared) at ∙ next-free well)

      -- those that were there have smaller numbers
      below' : (k : ℕ) (g : Holder) → holder_of S.declared k ≡ some g → k < h.number
      below' k g e = omega (arith, at, ltb-true k (length S.declared.holders) (sym (well.holders.gapless k) ∙ ap (λ (o : Option Holder). not (is_none o)) e))

      low : (k : ℕ) (g : Holder) → holder_of S.declared k ≡ some g → rank (sort_key g.sort) ≤ rank key
      low zero g e = omega (arith, ap (λ (x : Holder). rank (sort_key x.sort)) (some-injective _ g (sym well.holders.admin-first ∙ e)))
      low (suc k) g e = leb-true (rank (sort_key g.sort)) (rank key) (still-reached (sort_key g.sort) key previous order (so_far.holders-reached k g e))

      rises : (i j : ℕ) (f g : Holder) → i < j → (holder_of S.declared i ≡ some f) ⊎ ((h.number ≡ i) × (h ≡ f)) → (holder_of S.declared j ≡ some g) ⊎ ((h.number ≡ j) × (h ≡ g))
          → rank (sort_key f.sort) ≤ rank (sort_key g.sort)
      rises i j f g l (inl a) (inl b) = so_far.loadable.by_key i j f g a b l
      rises i j f g l (inl a) (inr (b, c)) = omega (arith, low i f a, ap rank its-key, ap (λ (x : Holder). rank (sort_key x.sort)) c)
      rises i j f g l (inr (a, c)) (inl b) = absurd (omega (arith, below' j g b))
      rises i j f g l (inr (a, c)) (inr (b, d)) = absurd (omega arith)

  -- a tie's line comes behind its key
  tie-key : {k : Key} → k ≡ key → leb (rank Key.parent) (rank k) ≡ true → is_reached Key.parent (some key) ≡ true
  tie-key e l = ap (λ (x : Key). leb (rank Key.parent) (rank x)) (sym e) ∙ l

  pub after-so-far : (l : Line) → line_key l ≡ key → length (write_line l) ≤ line_bytes → SoFar (after l S) (some key)
  unfolding after
  after-so-far (attr s n t) k short = same-holders refl refl so_far.loadable.short kept
  after-so-far (op n) k short = same-holders refl refl so_far.loadable.short kept
  after-so-far (atom s n v) k short = same-holders refl refl so_far.loadable.short kept
  after-so-far (holder s n) k short = one-holder (record { number = length S.declared.holders; sort = s; name = n }) refl k
  after-so-far (parent c g) k short = same-holders refl refl so_far.loadable.short (λ t e. tie-key k refl)
  after-so-far (member p g) k short = same-holders refl refl so_far.loadable.short (λ t e. tie-key k refl)
  after-so-far (value h n v) k short = same-holders refl refl so_far.loadable.short (λ t e. tie-key k refl)
  after-so-far (rule o ts) k short = same-holders refl refl (each_more S.declared.rules (record { operation = o; tokens = ts }) so_far.loadable.short short) kept

-- ---- lines that are accepted

-- "keys in this order": a line that does not meet 5
in_order_lem : (S : State) (previous : Option Key) (line : Bytes) (key : Key) → line_refusal S previous line ≡ 0 → key_of line ≡ some key → (p : Key) → previous ≡ some p → rank p ≤ rank key
unfolding out_of_order
in_order_lem S previous line key e r p q =
    bound {o = framed line} r λ (k, f) a b.
    let t = line-unmet S previous line e 5 in
    let u = some-not (framed line) (λ (key, fields). previous is λ p. ltb (rank key) (rank p)) t (k, f) a in
    omega (arith, ltb-false (rank k) (rank p) (some-not previous (λ p. ltb (rank k) (rank p)) u p q), ap rank (some-injective k key b))

pub line-so-far : (S : State) (previous : Option Key) (line : Bytes) (key : Key) (l : Line) → Standing S → SoFar S previous → line_refusal S previous line ≡ 0 → ReadAs line key l
    → SoFar (after l S) (some key)
line-so-far S previous line key l standing so_far e r =
    after-so-far previous standing.declarations so_far key (in_order_lem S previous line key e r.key-is) l (read-key line key l r) (line-short line l r.line-is)

pub lines-so-far : {S T : State} {previous last : Option Key} {lines : List Bytes} → AcceptedLines S previous lines T last → Standing S → SoFar S previous → SoFar T last
lines-so-far end standing so_far = so_far
lines-so-far {S} {previous = previous} (next {line = line} {key = key} {l = l} e r more) standing so_far =
    let (a, c) = accepted-line S previous line l e r.line-is in
    lines-so-far more (after-standing l standing a c) (line-so-far S previous line key l standing so_far e r)

-- ---- loads and calls

-- the last key of a file that is accepted, and none where it is refused
pub load-so-far : (file : Bytes) → (last : Option Key) × SoFar (Load.load file).state last
load-so-far file = go (eqb (Load.load file).number 0) refl
  where
    go : (b : Bool) → eqb (Load.load file).number 0 ≡ b → (last : Option Key) × SoFar (Load.load file).state last
    go true e = let a = load-accepted file (eqb-true _ 0 e) in (a.last, lines-so-far a.read (empty-standing (named_edition file)) (nothing-so-far (named_edition file) (named-read file)))
    go false e = (none, subst (λ (r : Loaded). SoFar r.state none) (sym (refused-load file (load-refused file (eqb-false _ 0 e)))) (nothing-so-far (named_edition file) (named-read file)))

pub step-loadable : (words : ℕ) (S : State) (c : Call) → Loadable S.declared → Loadable (step words S c).state.declared
unfolding step
step-loadable words S c loadable = go (wrong_table (edition_for S c) words) c
  where
    go : (b : Bool) (c : Call) → Loadable (if b then without_table S c otherwise with_table S c).state.declared
    go true (Call.load file) = (nothing-so-far (named_edition file) (named-read file)).loadable
    go true (Call.edit line) = loadable
    go true (Call.request block) = loadable
    go false (Call.load file) = (load-so-far file).1.loadable
    go false (Call.edit line) = subst Loadable (sym (edit-declared S line)) loadable
    go false (Call.request block) = loadable

from-loadable : (S : State) (words : List ℕ) (calls : List Call) → Loadable S.declared → (o : Outcome) → o ∈ ledger_from S words calls → Loadable o.state.declared
from-loadable S words [] loadable o m = elim m [ ]
from-loadable S words (c ∷ calls) loadable o (here e) = subst (λ (x : Outcome). Loadable x.state.declared) (sym e) (step-loadable (length words) S c loadable)
from-loadable S words (c ∷ calls) loadable o (there m) =
    from-loadable (outcome S words c).state (outcome S words c).words calls (step-loadable (length words) S c loadable) o m

pub ledger-loadable : (words : List ℕ) (file : Bytes) (calls : List Call) (o : Outcome) → o ∈ ledger words file calls → Loadable o.state.declared
unfolding ledger
ledger-loadable words file calls = from-loadable (empty Edition.first) words (Call.load file ∷ calls) (nothing-so-far Edition.first refl).loadable

-- every state that a list of calls leaves is loadable
pub reached-loadable : {S : State} → Reached S → Loadable S.declared
reached-loadable r = subst (λ (S : State). Loadable S.declared) r.state-is (ledger-loadable r.words r.file r.calls r.last r.in-ledger)
