-- What is accepted: a line of a file reads as a line, and an edit changes exactly one tie. Assumes nothing.
use mathlib.Core.Path.{◌≡◌, refl, sym, ap, subst, ◌∙◌}
use mathlib.Core.Logic.{⊎_elim, ◌↔◌}
use mathlib.Core.Bool.{Bool, true, false, ◌&&◌, ◌||◌, not, true≢false}
use mathlib.Core.List.{◌++◌}
use mathlib.Core.Option.{Option, none, some, some-injective}
use lib.Dec.{eqb}
use borrow.Author.Tests.{eq-eqb, not-false}
use Rattle.model.specs.Notation.{if◌then◌otherwise◌, ◌>>=◌, ◌or_else◌, ◌is◌, is_none}
use Rattle.model.specs.Bytes.{Bytes, bytes}
use Rattle.model.specs.Names.{read_name}
use Rattle.model.specs.Attributes.{read_source}
use Rattle.model.specs.Atoms.{read_atom}
use Rattle.model.specs.Tokens.{tokens_of}
use Rattle.model.specs.Grammar.{read_policy}
use Rattle.model.specs.Keys.{Key, is_tie_key}
use Rattle.model.specs.Lines.{Line, attr, op, atom, holder, parent, member, value, rule, read_attr, read_op, read_pair, read_holder, read_two, read_value, read_rule, read_fields, framed, read_line}
use Rattle.model.specs.Declarations.{Declarations, Sort}
use Rattle.model.specs.Ties.{Tie, same_tie, added, removed}
use Rattle.model.specs.State.{State, tie_of, declare, after}
use Rattle.model.specs.Refusals.{unframed, malformed, undeclared, stands, repeated, other_key, not_standing, plus_line, minus_line, signed_line, line_refusal, edit_refusal}
use Rattle.model.specs.Load.{key_of}
use Rattle.model.specs.Edits.{edit, edited_tie, edited_ties, accepting, refusing}
use Rattle.model.proofs.WordTables.{false-is-true, none-is-some}
use Rattle.model.proofs.Options.{bound, is-there, some-not}
use Rattle.model.proofs.Lists.{true-or-false, or_left}
use Rattle.model.proofs.Cuts.{cut-bound}
use Rattle.model.proofs.Fields.{name_field, atom_field, source_field, type_field, both-fields, three-fields}
use Rattle.model.proofs.Ties.{same-tie, tie-refl}
use Rattle.model.proofs.Ledger.{edit-number}
use Rattle.model.proofs.Refusals.{line-unmet, edit-accepted, edit-unmet}

-- ---- a line of a file

-- bytes that read as a line, with the key that they begin with
pub record ReadAs (line : Bytes) (key : Key) (l : Line) : Type 0 where
  pub key-is : key_of line ≡ some key
  pub line-is : read_line line ≡ some l

-- neither 4 nor 6: a key, its fields, and the line that they read as
read-framed : (line : Bytes) → unframed line ≡ false → malformed line ≡ false
    → (c : Key × Bytes) × (l : Line) × (framed line ≡ some c) × (read_fields c.0 c.1 ≡ some l)
unfolding unframed malformed
read-framed line u m =
    let (c, p) = is-there (framed line) u in
    let (l, q) = is-there (read_fields c.0 c.1) (some-not (framed line) (λ (key, fields). is_none (read_fields key fields)) m c p) in
    (c, l, p, q)

framed-read : (line : Bytes) (c : Key × Bytes) (l : Line) → framed line ≡ some c → read_fields c.0 c.1 ≡ some l → ReadAs line c.0 l
unfolding read_line
framed-read line c l p q = record {
  key-is = ap (λ (o : Option (Key × Bytes)). o >>= λ (key, fields). some key) p;
  line-is = ap (λ (o : Option (Key × Bytes)). o >>= λ (key, fields). read_fields key fields) p ∙ q;
}

-- an accepted line has a key and reads as a line
pub line_reads : (S : State) (previous : Option Key) (line : Bytes) → line_refusal S previous line ≡ 0 → (key : Key) × (l : Line) × ReadAs line key l
line_reads S previous line e =
    let unmet = line-unmet S previous line e in
    let (c, l, p, q) = read-framed line (unmet 4) (unmet 6) in
    (c.0, l, framed-read line c l p q)

-- so the clause of `stepped` for bytes that read as no line is never met by an accepted one
pub line-never-unread : (S : State) (previous : Option Key) (line : Bytes) → line_refusal S previous line ≡ 0 → read_line line ≡ none → ⊥
line-never-unread S previous line e n = none-is-some (sym n ∙ (line_reads S previous line e).2.line-is)

-- "parent, member and value lines are ties"
abbrev pub is_tie_line : Line → Bool
is_tie_line (attr s n t) = false
is_tie_line (op n) = false
is_tie_line (atom s n a) = false
is_tie_line (holder s n) = false
is_tie_line (parent c g) = true
is_tie_line (member p g) = true
is_tie_line (value h n a) = true
is_tie_line (rule o ts) = false

-- not 8: such a line has its tie
declared-tie : (D : Declarations) (l : Line) → is_tie_line l ≡ true → undeclared D l ≡ false → (t : Tie) × (tie_of D l ≡ some t)
declared-tie D (attr s n t) i u = false-is-true i
declared-tie D (op n) i u = false-is-true i
declared-tie D (atom s n a) i u = false-is-true i
declared-tie D (holder s n) i u = false-is-true i
declared-tie D (parent c g) i u = is-there (tie_of D (parent c g)) u
declared-tie D (member p g) i u = is-there (tie_of D (member p g)) u
declared-tie D (value h n a) i u = is-there (tie_of D (value h n a)) u
declared-tie D (rule o ts) i u = false-is-true i

pub line-tie : (S : State) (previous : Option Key) (line : Bytes) (l : Line) → line_refusal S previous line ≡ 0 → read_line line ≡ some l
    → is_tie_line l ≡ true → (t : Tie) × (tie_of S.declared l ≡ some t)
line-tie S previous line l e r i =
    declared-tie S.declared l i (some-not (read_line line) (undeclared S.declared) (line-unmet S previous line e 8) l r)

-- ---- an edit

-- the key of a tie reads fields as a line that is a tie
tie-key : (key : Key) (fields : Bytes) (l : Line) → is_tie_key key ≡ true → read_fields key fields ≡ some l → is_tie_line l ≡ true
unfolding read_two read_value
tie-key Key.attr f l i e = false-is-true i
tie-key Key.op f l i e = false-is-true i
tie-key Key.atom f l i e = false-is-true i
tie-key Key.ugroup f l i e = false-is-true i
tie-key Key.ogroup f l i e = false-is-true i
tie-key Key.user f l i e = false-is-true i
tie-key Key.object f l i e = false-is-true i
tie-key Key.parent f l i e = both-fields name_field name_field parent f l e λ a b m n j z. ap is_tie_line (sym z)
tie-key Key.member f l i e = both-fields name_field name_field member f l e λ a b m n j z. ap is_tie_line (sym z)
tie-key Key.value f l i e = three-fields name_field name_field atom_field value f l e λ a b c m n o j z. ap is_tie_line (sym z)
tie-key Key.rule f l i e = false-is-true i

-- neither 4, 13, 6 nor 8: the line behind the sign has its tie
signed-tie : (D : Declarations) (line : Bytes) → unframed line ≡ false → other_key line ≡ false → malformed line ≡ false
    → (read_line line is undeclared D) ≡ false → (l : Line) × (t : Tie) × (read_line line ≡ some l) × (is_tie_line l ≡ true) × (tie_of D l ≡ some t)
unfolding other_key
signed-tie D line u k m d =
    let (c, l, p, q) = read-framed line u m in
    let r = (framed-read line c l p q).line-is in
    let i = tie-key c.0 c.1 l (not-false (is_tie_key c.0) (some-not (framed line) (λ (key, fields). not (is_tie_key key)) k c p)) q in
    let (t, s) = declared-tie D l i (some-not (read_line line) (undeclared D) d l r) in
    (l, t, r, i, s)

-- 10 of a tie line is that its tie stands
repeated-stands : (S : State) (l : Line) → is_tie_line l ≡ true → repeated S l ≡ stands S l
repeated-stands S (attr s n t) i = false-is-true i
repeated-stands S (op n) i = false-is-true i
repeated-stands S (atom s n a) i = false-is-true i
repeated-stands S (holder s n) i = false-is-true i
repeated-stands S (parent c g) i = refl
repeated-stands S (member p g) i = refl
repeated-stands S (value h n a) i = refl
repeated-stands S (rule o ts) i = false-is-true i

stands-tie : (S : State) (l : Line) (t : Tie) → tie_of S.declared l ≡ some t → stands S l ≡ S.ties t
unfolding stands
stands-tie S l t e = ap (λ (o : Option Tie). o is S.ties) e

-- "`+t` accepted adds t to T, `-t` removes it": t is the tie of the line behind the sign, and did not stand or stood. What is declared stays
pub data Changes (S : State) (line : Bytes) : State → Type 0 where
  plus : {t : Tie} → (plus_line line >>= read_line >>= tie_of S.declared) ≡ some t → S.ties t ≡ false
      → Changes S line (record { declared = S.declared; ties = added t S.ties })
  minus : {t : Tie} → (minus_line line >>= read_line >>= tie_of S.declared) ≡ some t → S.ties t ≡ true
      → Changes S line (record { declared = S.declared; ties = removed t S.ties })

module _ (S : State) (line : Bytes) where
  -- the state of an accepted edit, whose lines behind the signs are p and m
  signed-changes : (p m : Option Bytes) → plus_line line ≡ p → minus_line line ≡ m
      → (is_none (p or_else m) || ((p or_else m) is unframed)) ≡ false
      → ((p or_else m) is other_key) ≡ false
      → ((p or_else m) is malformed) ≡ false
      → (((p or_else m) >>= read_line) is undeclared S.declared) ≡ false
      → ((p >>= read_line) is repeated S) ≡ false
      → ((m >>= read_line) is not_standing S) ≡ false
      → Changes S line (record {
        declared = S.declared;
        ties = edited_ties (not (is_none p)) ((p or_else m) >>= read_line >>= tie_of S.declared) S.ties;
      })
  unfolding not_standing
  signed-changes none none a b h₄ h₁₃ h₆ h₈ h₁₀ h₁₄ = absurd (true≢false h₄)
  signed-changes none (some y) a b h₄ h₁₃ h₆ h₈ h₁₀ h₁₄ =
      let (l, t, r, i, e) = signed-tie S.declared y h₄ h₁₃ h₆ h₈ in
      let there : (read_line y >>= tie_of S.declared) ≡ some t = ap (λ (o : Option Line). o >>= tie_of S.declared) r ∙ e in
      subst (λ (o : Option Tie). Changes S line (record { declared = S.declared; ties = edited_ties false o S.ties })) (sym there)
      (minus (ap (λ (o : Option Bytes). o >>= read_line >>= tie_of S.declared) b ∙ there)
      (sym (stands-tie S l t e) ∙ not-false (stands S l) (some-not (read_line y) (not_standing S) h₁₄ l r)))
  signed-changes (some x) m a b h₄ h₁₃ h₆ h₈ h₁₀ h₁₄ =
      let (l, t, r, i, e) = signed-tie S.declared x h₄ h₁₃ h₆ h₈ in
      let there : (read_line x >>= tie_of S.declared) ≡ some t = ap (λ (o : Option Line). o >>= tie_of S.declared) r ∙ e in
      subst (λ (o : Option Tie). Changes S line (record { declared = S.declared; ties = edited_ties true o S.ties })) (sym there)
      (plus (ap (λ (o : Option Bytes). o >>= read_line >>= tie_of S.declared) a ∙ there)
      (sym (stands-tie S l t e) ∙ sym (repeated-stands S l i) ∙ some-not (read_line x) (repeated S) h₁₀ l r))

  accepts : edit_refusal S line ≡ 0 → edit S line ≡ accepting S line
  unfolding edit
  accepts e = ap (λ (b : Bool). if b then accepting S line otherwise refusing S line) (eq-eqb (edit_refusal S line) 0 e)

  -- an accepted edit adds or removes its tie, and does no more
  pub edit-changes : (edit S line).number ≡ 0 → Changes S line (edit S line).state
  unfolding edited_tie
  edit-changes e =
      let unmet = edit-unmet S line e in
      rw (accepts (sym (edit-number S line) ∙ e))
      (signed-changes (plus_line line) (minus_line line) refl refl (unmet 4) (unmet 13) (unmet 6) (unmet 8) (unmet 10) (unmet 14))

  -- an accepted edit has its tie
  pub edit-tie : (edit S line).number ≡ 0 → (t : Tie) × (edited_tie S line ≡ some t)
  unfolding edited_tie
  edit-tie e =
      let unmet = edit-unmet S line e in
      go (signed_line line) (unmet 4) (unmet 13) (unmet 6) (unmet 8)
    where
      go : (o : Option Bytes) → (is_none o || (o is unframed)) ≡ false → (o is other_key) ≡ false → (o is malformed) ≡ false
          → ((o >>= read_line) is undeclared S.declared) ≡ false → (t : Tie) × ((o >>= read_line >>= tie_of S.declared) ≡ some t)
      go none u k m d = absurd (true≢false u)
      go (some y) u k m d =
          let (l, t, r, i, q) = signed-tie S.declared y u k m d in
          (t, ap (λ (o : Option Line). o >>= tie_of S.declared) r ∙ q)

  -- so the clause of `edited_ties` for no tie is never met by an accepted one
  pub edit-never-without-tie : (edit S line).number ≡ 0 → edited_tie S line ≡ none → ⊥
  edit-never-without-tie e n = none-is-some (sym n ∙ (edit-tie e).1)

  -- no edit changes what is declared
  pub edit-declared : (edit S line).state.declared ≡ S.declared
  unfolding edit
  edit-declared = go (eqb (edit_refusal S line) 0)
    where
      go : (b : Bool) → (if b then accepting S line otherwise refusing S line).state.declared ≡ S.declared
      go true = refl
      go false = refl

  one-differs : {U : State} → Changes S line U → (t : Tie) × ((u : Tie) → (U.ties u ≡ S.ties u → ⊥) ↔ (u ≡ t))
  one-differs (plus {t = t} e off) = (
    t,
    λ u. (
      λ n. ⊎_elim (λ s. sym (same-tie t u s)) (λ s. absurd (n (ap (λ (b : Bool). b || S.ties u) s))) (true-or-false (same_tie t u)),
      λ q n.
          let same : added t S.ties t ≡ S.ties t = subst (λ (v : Tie). added t S.ties v ≡ S.ties v) q n in
          true≢false (sym (or_left (same_tie t t) (S.ties t) (tie-refl t)) ∙ same ∙ off),
    ),
  )
  one-differs (minus {t = t} e on) = (
    t,
    λ u. (
      λ n. ⊎_elim (λ s. sym (same-tie t u s)) (λ s. absurd (n (ap (λ (b : Bool). not b && S.ties u) s))) (true-or-false (same_tie t u)),
      λ q n.
          let same : removed t S.ties t ≡ S.ties t = subst (λ (v : Tie). removed t S.ties v ≡ S.ties v) q n in
          true≢false (sym on ∙ sym same ∙ ap (λ (b : Bool). not b && S.ties t) (tie-refl t)),
    ),
  )

  -- an accepted edit changes exactly one tie
  pub edit-one-tie : (edit S line).number ≡ 0 → (t : Tie) × ((u : Tie) → ((edit S line).state.ties u ≡ S.ties u → ⊥) ↔ (u ≡ t))
  edit-one-tie e = one-differs (edit-changes e)

-- ---- a tie line of a file, and the same line as an edit

named-no-tie : {C : Type 0} (line : Bytes → Line) (f : Bytes) (l : Line) → ((n : Bytes) → is_tie_line (line n) ≡ false) → is_tie_line l ≡ true
    → (read_name f >>= λ n. some (line n)) ≡ some l → C
named-no-tie line f l none_is i e = bound {o = read_name f} e λ n p q. false-is-true (sym (none_is n) ∙ ap is_tie_line (some-injective _ _ q) ∙ i)

-- only the key of a tie reads fields as a line that is one
tie-line-key : (key : Key) (f : Bytes) (l : Line) → is_tie_line l ≡ true → read_fields key f ≡ some l → is_tie_key key ≡ true
unfolding read_attr read_op read_pair read_holder read_rule
tie-line-key Key.attr f l i e = three-fields source_field name_field type_field attr f l e λ a b c m n o j z. false-is-true (ap is_tie_line z ∙ i)
tie-line-key Key.op f l i e = named-no-tie op f l (λ n. refl) i e
tie-line-key Key.atom f l i e =
    cut-bound 44 f e λ c p j e₁.
    cut-bound 46 c.0 e₁ λ d q k e₂.
    bound {o = read_source d.0} e₂ λ s g e₃.
    bound {o = read_name d.1} e₃ λ n h e₄.
    bound {o = read_atom c.1} e₄ λ a r e₅.
    false-is-true (ap is_tie_line (some-injective _ _ e₅) ∙ i)
tie-line-key Key.ugroup f l i e = named-no-tie (holder Sort.ugroup) f l (λ n. refl) i e
tie-line-key Key.ogroup f l i e = named-no-tie (holder Sort.ogroup) f l (λ n. refl) i e
tie-line-key Key.user f l i e = named-no-tie (holder Sort.user) f l (λ n. refl) i e
tie-line-key Key.object f l i e = named-no-tie (holder Sort.object) f l (λ n. refl) i e
tie-line-key Key.parent f l i e = refl
tie-line-key Key.member f l i e = refl
tie-line-key Key.value f l i e = refl
tie-line-key Key.rule f l i e =
    cut-bound 44 f e λ c p j e₁.
    bound {o = read_name c.0} e₁ λ o q e₂.
    bound {o = tokens_of c.1} e₂ λ ts r e₃.
    bound {o = read_policy ts} e₃ λ y g e₄.
    false-is-true (ap is_tie_line (some-injective _ _ e₄) ∙ i)

no-other-key : (line : Bytes) (l : Line) → read_line line ≡ some l → is_tie_line l ≡ true → other_key line ≡ false
unfolding read_line other_key
no-other-key line l r i =
    bound {o = framed line} r λ c p q.
    ap (λ (o : Option (Key × Bytes)). o is λ (key, fields). not (is_tie_key key)) p ∙ ap not (tie-line-key c.0 c.1 l i q)

-- a tie line declares nothing
ties-declare-nothing : (D : Declarations) (l : Line) → is_tie_line l ≡ true → declare l D ≡ D
ties-declare-nothing D (attr s n t) i = false-is-true i
ties-declare-nothing D (op n) i = false-is-true i
ties-declare-nothing D (atom s n a) i = false-is-true i
ties-declare-nothing D (holder s n) i = false-is-true i
ties-declare-nothing D (parent c g) i = refl
ties-declare-nothing D (member p g) i = refl
ties-declare-nothing D (value h n a) i = refl
ties-declare-nothing D (rule o ts) i = false-is-true i

-- an accepted parent, member or value line of a file does what it does as an edit, behind `+`
pub line-as-edit : (S : State) (previous : Option Key) (line : Bytes) (l : Line) → line_refusal S previous line ≡ 0 → read_line line ≡ some l
    → is_tie_line l ≡ true → ((edit S (bytes "+" ++ line)).number ≡ 0) × ((edit S (bytes "+" ++ line)).state ≡ after l S)
unfolding after edited_tie
line-as-edit S previous line l e r i =
    let unmet = line-unmet S previous line e in
    let (t, q) = line-tie S previous line l e r i in
    let zero' : (edit S (bytes "+" ++ line)).number ≡ 0 =
    (edit-accepted S (bytes "+" ++ line)).1
    (unmet 4, (no-other-key line l r i, (unmet 6, (unmet 8, (unmet 9, (unmet 10, (unmet 12, (refl, tt)))))))) in
    (zero', rw (accepts S (bytes "+" ++ line) (sym (edit-number S (bytes "+" ++ line)) ∙ zero'), r, q, ties-declare-nothing S.declared l i))
