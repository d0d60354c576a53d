-- How the length told beforehand moves with edits: an accepted edit makes the text longer or shorter by just its line. Assumes nothing.
use Prim.Native.Nat.{ℕ, ◌+◌}
use mathlib.Core.Path.{◌≡◌, refl, sym, ap, ap₂, subst, ◌∙◌}
use mathlib.Core.Logic.{⊎_elim}
use mathlib.Core.Bool.{Bool, true, false, ◌&&◌, ◌||◌, not}
use mathlib.Core.List.Memᴰ.{head as here}
use mathlib.Core.List.Memᴰ.{tail as there}
use mathlib.Core.List.{List, [], ◌∷◌, ◌++◌}
use mathlib.Core.Option.{Option, some, some-injective}
use native.Mathlib.Omega.{arith}
use lib.ListN.{length, length-append}
use Rattle.model.specs.Notation.{if◌then◌otherwise◌, ◌>>=◌, map, each, filter, nth, listed}
use Rattle.model.specs.Bytes.{Bytes, same, newline}
use Rattle.model.specs.Attributes.{Source, same_source}
use Rattle.model.specs.Atoms.{Atom, same_atom}
use Rattle.model.specs.Declarations.{Declarations, Pair, Holder, holder_number, pair_number, same_source_and_name, source_for, sort_of, holder_of}
use Rattle.model.specs.Lines.{first_line, Line, attr, op, atom, holder, parent, member, value, rule, read_line, write_line, Writes, as_written, any-spelling}
use Rattle.model.specs.Ties.{Tie, Ties, same_tie, added, removed}
use Rattle.model.specs.State.{State, tie_of}
use Rattle.model.specs.Refusals.{plus_line, minus_line}
use Rattle.model.specs.Edits.{edit}
use Rattle.model.specs.Standing.{WellDeclared, Standing}
use Rattle.model.specs.FileText.{attribute_line, pair_line, rule_line, holder_lines, ties_in_order, tie_line, tie_lines, file_lines, line_text, file_text, written_length}
use Rattle.model.proofs.WordTables.{none-is-some, same-eq}
use Rattle.model.proofs.Options.{parts, bind-some}
use Rattle.model.proofs.Lists.{◌∈◌, true-or-false, or_left, filter-ext, place-nth, each_append, each-each}
use Rattle.model.proofs.Ties.{same-tie, tie-refl}
use Rattle.model.proofs.Lines.{line-exact}
use Rattle.model.proofs.Declared.{same-atom-eq}
use Rattle.model.proofs.Standing.{named-holder}
use Rattle.model.proofs.Ledger.{edit-standing}
use Rattle.model.proofs.Accepted.{Changes, plus, minus, edit-changes}
use Rattle.model.proofs.RoundTripTies.{NoRepeat, tie-listed, listed-once}

-- ---- one element more among those that pass

module _ {A : Type 0} (text : A → Bytes) (p q : A → Bool) (a : A) (off : p a ≡ false) (on : q a ≡ true) (else_same : (x : A) → (x ≡ a → ⊥) → q x ≡ p x) where
  one_more : (xs : List A) → NoRepeat xs → a ∈ xs → length (each text (filter q xs)) ≡ length (text a) + length (each text (filter p xs))
  one_more [] once m = elim m [ ]
  one_more (x ∷ xs) once (here e) =
      ap (λ (b : Bool). length (each text (if b then x ∷ filter q xs otherwise filter q xs))) (ap q (sym e) ∙ on)
      ∙ length-append (text x) (each text (filter q xs))
      ∙ ap₂ (λ (y : A) (ys : List A). length (text y) + length (each text ys)) (sym e)
      (filter-ext q p xs (λ y m. else_same y (λ i. once.0 (subst (λ (z : A). z ∈ xs) (i ∙ e) m))))
      ∙ ap (λ (b : Bool). length (text a) + length (each text (if b then x ∷ filter p xs otherwise filter p xs))) (sym (ap p (sym e) ∙ off))
  one_more (x ∷ xs) once (there m) =
      ap (λ (b : Bool). length (each text (if b then x ∷ filter q xs otherwise filter q xs))) (else_same x (λ i. once.0 (subst (λ (z : A). z ∈ xs) (sym i) m)))
      ∙ go (p x) (one_more xs once.1 m)
    where
      go : (b : Bool) → length (each text (filter q xs)) ≡ length (text a) + length (each text (filter p xs))
          → length (each text (if b then x ∷ filter q xs otherwise filter q xs)) ≡ length (text a) + length (each text (if b then x ∷ filter p xs otherwise filter p xs))
      go true h = omega (arith, h, length-append (text x) (each text (filter q xs)), length-append (text x) (each text (filter p xs)))
      go false h = h

-- ---- the text by its lines

-- the text of some lines has n bytes more than that of others
record Longer (n : ℕ) (xs ys : List Line) : Type 0 where
  by : length (each line_text ys) ≡ n + length (each line_text xs)

lines-length : (xs ys : List Line) → length (each line_text (xs ++ ys)) ≡ length (each line_text xs) + length (each line_text ys)
lines-length xs ys = ap length (each_append line_text xs ys) ∙ length-append (each line_text xs) (each line_text ys)

behind : (zs : List Line) {n : ℕ} {xs ys : List Line} → Longer n xs ys → Longer n (zs ++ xs) (zs ++ ys)
behind zs {n} {xs} {ys} h = record { by = omega (arith, h.by, lines-length zs xs, lines-length zs ys) }

before : (zs : List Line) {n : ℕ} {xs ys : List Line} → Longer n xs ys → Longer n (xs ++ zs) (ys ++ zs)
before zs {n} {xs} {ys} h = record { by = omega (arith, h.by, lines-length xs zs, lines-length ys zs) }

module _ (D : Declarations) (well : WellDeclared D) where
  abbrev with-ties : Ties → State
  with-ties T = record { declared = D; ties = T }

  -- with the same declarations, a text is longer by what the lines of its ties are longer by
  by-ties : (T U : Ties) {n : ℕ} → Longer n (tie_lines (with-ties T)) (tie_lines (with-ties U)) → written_length (with-ties U) ≡ n + written_length (with-ties T)
  unfolding file_text file_lines
  by-ties T U {n} h =
      let all : Longer n (file_lines (with-ties T)) (file_lines (with-ties U)) =
      behind (map attribute_line D.attributes) (behind (map op D.operations) (behind (map pair_line D.pairs) (behind (holder_lines D) (before (map rule_line D.rules) h)))) in
      omega (arith, all.by, length-append (first_line D.edition) (each line_text (file_lines (with-ties T))), length-append (first_line D.edition) (each line_text (file_lines (with-ties U))))

  -- the text of a tie's line
  tie_text : Tie → Bytes
  tie_text t = each line_text (listed (tie_line D t))

  ties-length : (T : Ties) → length (each line_text (tie_lines (with-ties T))) ≡ length (each tie_text (filter T (ties_in_order D)))
  unfolding tie_text
  ties-length T = ap length (each-each line_text (λ t. listed (tie_line D t)) (filter T (ties_in_order D)))

  tie-length : (t : Tie) {l : Line} → tie_line D t ≡ some l → length (tie_text t) ≡ length (line_text l)
  unfolding tie_text
  tie-length t {l} e = ap (λ (o : Option Line). length (each line_text (listed o))) e ∙ length-append (line_text l) [] ∙ omega arith

  -- ties of which one is not among others, which are the same else
  with-one : (T U : Ties) (t : Tie) {l : Line} → T t ≡ false → U t ≡ true → ((u : Tie) → (u ≡ t → ⊥) → U u ≡ T u) → t ∈ ties_in_order D → tie_line D t ≡ some l
      → written_length (with-ties U) ≡ length (line_text l) + written_length (with-ties T)
  with-one T U t off on else_same listed-there e =
      by-ties T U (record {
        by = ties-length U ∙ one_more tie_text T U t off on else_same (ties_in_order D) (listed-once D well) listed-there
            ∙ ap₂ (λ (m n : ℕ). m + n) (tie-length t e) (sym (ties-length T));
      })

  -- ---- the line of a tie is the one that named it

  holder-again : (n : Bytes) (k : ℕ) → holder_number D n ≡ some k → (h : Holder) × (holder_of D k ≡ some h) × (h.name ≡ n)
  holder-again n k e = let (h, f, g) = named-holder well n k e in (h, f, same-eq h.name n g)

  two-again : (make : Bytes → Bytes → Line) (lower upper : Bytes) (h g : ℕ) → holder_number D lower ≡ some h → holder_number D upper ≡ some g
      → (holder_of D h >>= λ x. holder_of D g >>= λ y. some (make x.name y.name)) ≡ some (make lower upper)
  two-again make lower upper h g p q =
      let (x, a, b) = holder-again lower h p in
      let (y, c, d) = holder-again upper g q in
      ap₂ (λ (o r : Option Holder). o >>= λ x. r >>= λ y. some (make x.name y.name)) a c ∙ ap₂ (λ (m n : Bytes). some (make m n)) b d

  pair-again : (s : Source) (n : Bytes) (a : Atom) (p : ℕ) → pair_number D s n a ≡ some p → (q : Pair) × (nth D.pairs p ≡ some q) × (q.name ≡ n) × (q.atom ≡ a)
  unfolding pair_number
  pair-again s n a p e =
      let (q, f, g) = place-nth (λ r. same_source_and_name r.source r.name s n && same_atom r.atom a) D.pairs p e in
      let (named, alike) = parts (same_source_and_name q.source q.name s n) (same_atom q.atom a) g in
      (q, f, same-eq q.name n (parts (same_source q.source s) (same q.name n) named).1, same-atom-eq q.atom a alike)

  line-again : (l : Line) (t : Tie) → tie_of D l ≡ some t → tie_line D t ≡ some l
  line-again (attr s n y) t e = none-is-some e
  line-again (op n) t e = none-is-some e
  line-again (atom s n a) t e = none-is-some e
  line-again (holder s n) t e = none-is-some e
  line-again (parent c g) t e =
      let (h, p, r) = bind-some (holder_number D c) (λ child. holder_number D g >>= λ group. some (Tie.parent child group)) e in
      let (k, q, z) = bind-some (holder_number D g) (λ group. some (Tie.parent h group)) r in
      subst (λ (u : Tie). tie_line D u ≡ some (parent c g)) (some-injective _ _ z) (two-again parent c g h k p q)
  line-again (member c g) t e =
      let (h, p, r) = bind-some (holder_number D c) (λ party. holder_number D g >>= λ group. some (Tie.member party group)) e in
      let (k, q, z) = bind-some (holder_number D g) (λ group. some (Tie.member h group)) r in
      subst (λ (u : Tie). tie_line D u ≡ some (member c g)) (some-injective _ _ z) (two-again member c g h k p q)
  line-again (value h n a) t e =
      let (k, p, r) = bind-some (holder_number D h) (λ k. sort_of D k >>= λ s. pair_number D (source_for s) n a >>= λ j. some (Tie.value k j)) e in
      let (s, i, w) = bind-some (sort_of D k) (λ s. pair_number D (source_for s) n a >>= λ j. some (Tie.value k j)) r in
      let (j, q, z) = bind-some (pair_number D (source_for s) n a) (λ j. some (Tie.value k j)) w in
      let (x, b, c) = holder-again h k p in
      let (y, d, f, g) = pair-again (source_for s) n a j q in
      subst (λ (u : Tie). tie_line D u ≡ some (value h n a)) (some-injective _ _ z)
      (ap₂ (λ (o : Option Holder) (r : Option Pair). o >>= λ x. r >>= λ y. some (value x.name y.name y.atom)) b d
      ∙ ap (λ (m : Bytes). some (value m y.name y.atom)) c ∙ ap₂ (λ (m : Bytes) (v : Atom). some (value h m v)) f g)
  line-again (rule o ts) t e = none-is-some e

  -- a line that has a tie is written in one way
  written_once : {l : Line} {b : Bytes} {t : Tie} → Writes l b → tie_of D l ≡ some t → b ≡ write_line l
  written_once (as_written l) e = refl
  written_once (any-spelling o s) e = none-is-some e

  -- bytes that read as a line with a tie are that line's text
  text-again : (x : Bytes) (l : Line) (t : Tie) → read_line x ≡ some l → tie_of D l ≡ some t → x ≡ line_text l
  text-again x l t r e =
      let (formed, b, w, short, j) = (line-exact x l).0 r in
      j ∙ ap (λ (y : Bytes). y ++ newline ∷ []) (written_once w e)

-- ---- edits

-- a length before an edit and one after it: the line behind the sign, its byte 10 among it, is what came or went
pub data Moves (line : Bytes) (before after : ℕ) : Type 0 where
  longer : {x : Bytes} → plus_line line ≡ some x → after ≡ length x + before → Moves line before after
  shorter : {x : Bytes} → minus_line line ≡ some x → before ≡ length x + after → Moves line before after

other-false : (t u : Tie) → (u ≡ t → ⊥) → same_tie t u ≡ false
other-false t u n = ⊎_elim (λ e. absurd (n (sym (same-tie t u e)))) (λ e. e) (true-or-false (same_tie t u))

module _ {S : State} (standing : Standing S) (line : Bytes) where
  abbrev D : Declarations
  D = S.declared

  abbrev T : Ties
  T = S.ties

  abbrev well : WellDeclared D
  well = standing.declarations

  changes-move : {U : State} → Standing U → Changes S line U → Moves line (written_length S) (written_length U)
  changes-move after (plus {t = t} e off) =
      let (l, p, q) = bind-some (plus_line line >>= read_line) (tie_of D) e in
      let (x, a, r) = bind-some (plus_line line) read_line p in
      let on : added t T t ≡ true = or_left (same_tie t t) (T t) (tie-refl t) in
      let by = with-one D well T (added t T) t off on (λ u n. ap (λ (b : Bool). b || T u) (other-false t u n)) (tie-listed after t on) (line-again D well l t q) in
      longer a (by ∙ ap (λ (y : Bytes). length y + written_length S) (sym (text-again D well x l t r q)))
  changes-move {U} after (minus {t = t} e on) =
      let (l, p, q) = bind-some (minus_line line >>= read_line) (tie_of D) e in
      let (x, a, r) = bind-some (minus_line line) read_line p in
      let off : removed t T t ≡ false = ap (λ (b : Bool). not b && T t) (tie-refl t) in
      let by = with-one D well (removed t T) T t off on (λ u n. sym (ap (λ (b : Bool). not b && T u) (other-false t u n))) (tie-listed standing t on) (line-again D well l t q) in
      shorter a (by ∙ ap (λ (y : Bytes). length y + written_length U) (sym (text-again D well x l t r q)))

  -- an accepted edit makes the text longer or shorter by just its line
  pub edit-moves : (edit S line).number ≡ 0 → Moves line (written_length S) (written_length (edit S line).state)
  edit-moves accepted = changes-move (edit-standing S line standing) (edit-changes S line accepted)
