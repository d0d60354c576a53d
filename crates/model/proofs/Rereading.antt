-- Lines that are written are accepted one after another, where each is acceptable in its state. Assumes nothing.
use Prim.Native.Nat.{ℕ, ◌≤◌}
use mathlib.Core.Path.{◌≡◌, refl, sym, ap, subst, ◌∙◌}
use mathlib.Core.Bool.{Bool, true, false}
use mathlib.Core.List.{List, [], ◌∷◌, ◌++◌, append_assoc}
use mathlib.Core.Option.{Option, none, some, some-injective}
use native.Mathlib.Omega.{arith}
use lib.ListN.{length}
use lib.Dec.{eqb, ltb}
use borrow.Author.Tests.{not-true, le-ltb}
use Rattle.model.specs.Notation.{if◌then◌otherwise◌, ◌>>=◌, ◌is◌, is_none, map, each}
use Rattle.model.specs.Limits.{line_bytes}
use Rattle.model.specs.Bytes.{Bytes, newline, lines_of, begun}
use Rattle.model.specs.Keys.{Key, key_word, rank}
use Rattle.model.specs.Lines.{Line, framed, read_fields, read_line, write_line, is_line, Writes}
use Rattle.model.specs.State.{State, after}
use Rattle.model.specs.Refusals.{unframed, out_of_order, malformed, over_limits, undeclared, wrong_sort, repeated, full, circular, line_refusal}
use Rattle.model.specs.FileText.{line_text}
use Rattle.model.proofs.Lines.{line_key}
use Rattle.model.proofs.Lists.{all-parts, map-append}
use Rattle.model.proofs.Cuts.{isnt, lacks}
use Rattle.model.proofs.Lines.{fields_read, writes-lack, framed-exact}
use Rattle.model.proofs.Declared.{Acceptable}
use Rattle.model.proofs.Refusals.{line-accepted}
use Rattle.model.proofs.Accepted.{ReadAs}
use Rattle.model.proofs.Loads.{AcceptedLines, end, next}

-- ---- the lines of a text

one_line : (w rest : Bytes) → lacks newline w ≡ true → lines_of (w ++ newline ∷ rest) ≡ (w ++ newline ∷ []) ∷ lines_of rest
one_line [] rest h = refl
one_line (x ∷ w) rest h =
    let (a, b) = all-parts (isnt newline) x w h in
    ap (λ (t : Bool). if t then (x ∷ []) ∷ lines_of (w ++ newline ∷ rest) otherwise begun x (lines_of (w ++ newline ∷ rest))) (not-true (eqb x newline) a)
    ∙ ap (begun x) (one_line w rest b)

-- a line that can be written within the limit
pub record Writable (l : Line) : Type 0 where
  pub formed : is_line l ≡ true
  pub short : length (write_line l) ≤ line_bytes

abbrev pub AllWritable : List Line → Type 0
AllWritable [] = Unit {0}
AllWritable (l ∷ ls) = Writable l × AllWritable ls

pub text-lines : (ls : List Line) → AllWritable ls → lines_of (each line_text ls) ≡ map line_text ls
text-lines [] w = refl
text-lines (l ∷ ls) (w, ws) =
    ap lines_of (append_assoc (write_line l) (newline ∷ []) (each line_text ls))
    ∙ one_line (write_line l) (each line_text ls) (writes-lack (Writes.as_written l) w.formed)
    ∙ ap (λ (m : List Bytes). line_text l ∷ m) (text-lines ls ws)

-- ---- a line that is written

module _ (l : Line) (w : Writable l) where
  framed-line : (f : Bytes) × (framed (line_text l) ≡ some (line_key l, f)) × (read_fields (line_key l) f ≡ some l)
  framed-line =
      let (f, u, v) = fields_read (Writes.as_written l) w.formed in
      let free = writes-lack (Writes.as_written l) w.formed in
      (f, (framed-exact (line_text l) (line_key l) f).1 (tail (key_word (line_key l)) f (rw u at free), rw u at w.short, ap (λ (x : Bytes). x ++ newline ∷ []) u), v)
    where
      tail : (k f : Bytes) → lacks newline (k ++ 61 ∷ f) ≡ true → lacks newline f ≡ true
      tail [] f h = h
      tail (x ∷ k) f h = tail k f (all-parts (isnt newline) x (k ++ 61 ∷ f) h).1

  pub written_as : ReadAs (line_text l) (line_key l) l
  unfolding read_line
  written_as =
      let (f, a, b) = framed-line in
      record {
        key-is = ap (λ (o : Option (Key × Bytes)). o >>= λ (key, fields). some key) a;
        line-is = ap (λ (o : Option (Key × Bytes)). o >>= λ (key, fields). read_fields key fields) a ∙ b;
      }

  -- behind a line of no later key, in a state in which it is acceptable
  pub written-accepted : (S : State) (previous : Option Key) → ((p : Key) → previous ≡ some p → rank p ≤ rank (line_key l)) → Acceptable S l → circular S l ≡ false
      → line_refusal S previous (line_text l) ≡ 0
  unfolding unframed out_of_order malformed
  written-accepted S previous order a c =
      let (f, p, q) = framed-line in
      let r = written_as.line-is in
      (line-accepted S previous (line_text l)).1 (
        ap is_none p,
        (
          ap (λ (o : Option (Key × Bytes)). o is λ (key, fields). previous is λ p. ltb (rank key) (rank p)) p ∙ in_order_lem previous order,
          (
            ap (λ (o : Option (Key × Bytes)). o is λ (key, fields). is_none (read_fields key fields)) p ∙ ap is_none q,
            (
              ap (λ (o : Option Line). o is over_limits) r ∙ a.within,
              (
                ap (λ (o : Option Line). o is undeclared S.declared) r ∙ a.known,
                (
                  ap (λ (o : Option Line). o is wrong_sort S.declared) r ∙ a.sorted,
                  (
                    ap (λ (o : Option Line). o is repeated S) r ∙ a.new,
                    (
                      ap (λ (o : Option Line). o is full S.declared) r ∙ a.room,
                      (ap (λ (o : Option Line). o is circular S) r ∙ c, tt),
                    ),
                  ),
                ),
              ),
            ),
          ),
        ),
      )
    where
      in_order_lem : (previous : Option Key) → ((p : Key) → previous ≡ some p → rank p ≤ rank (line_key l)) → (previous is λ p. ltb (rank (line_key l)) (rank p)) ≡ false
      in_order_lem none o = refl
      in_order_lem (some p) o = le-ltb (rank (line_key l)) (rank p) (o p refl)

-- ---- lines one after another

-- the key of the line before, if there is one, has a rank of at most k
abbrev pub Behind : ℕ → Option Key → Type 0
Behind k previous = (p : Key) → previous ≡ some p → rank p ≤ k

-- from the state S, behind a line whose key has a rank of at most k, the lines are accepted and lead to T, and the last key has a rank of at most m
pub record Goes (S : State) (k : ℕ) (ls : List Line) (T : State) (m : ℕ) : Type 0 where
  pub writable : AllWritable ls
  pub goes : (previous : Option Key) → Behind k previous → (last : Option Key) × Behind m last × AcceptedLines S previous (map line_text ls) T last

pub goes_end : {S : State} {k : ℕ} → Goes S k [] S k
goes_end = record { writable = tt; goes = λ previous b. (previous, b, end) }

some_key : (k p : Key) → some k ≡ some p → rank p ≤ rank k
some_key k p e = omega (arith, ap rank (some-injective k p e))

pub goes-next : {S T : State} {k m : ℕ} {ls : List Line} (l : Line) → Writable l → k ≤ rank (line_key l) → Acceptable S l → circular S l ≡ false
    → Goes (after l S) (rank (line_key l)) ls T m → Goes S k (l ∷ ls) T m
goes-next {S} l w h a c g = record {
  writable = (w, g.writable);
  goes = λ previous b.
      let (last, d, r) = g.goes (some (line_key l)) (λ p e. some_key (line_key l) p e) in
      (last, d, next (written-accepted l w S previous (λ p e. omega (arith, b p e)) a c) (written_as l w) r);
}

accepted-append : {S T U : State} {previous middle last : Option Key} {ls ms : List Bytes} → AcceptedLines S previous ls T middle → AcceptedLines T middle ms U last
    → AcceptedLines S previous (ls ++ ms) U last
accepted-append end b = b
accepted-append (next e r a) b = next e r (accepted-append a b)

all-writable : (ls ms : List Line) → AllWritable ls → AllWritable ms → AllWritable (ls ++ ms)
all-writable [] ms a b = b
all-writable (l ∷ ls) ms a b = (a.0, all-writable ls ms a.1 b)

pub goes-append : {S T U : State} {k m n : ℕ} (ls ms : List Line) → Goes S k ls T m → Goes T m ms U n → Goes S k (ls ++ ms) U n
goes-append {S} {U = U} ls ms g h = record {
  writable = all-writable ls ms g.writable h.writable;
  goes = λ previous b.
      let (middle, c, r) = g.goes previous b in
      let (last, d, s) = h.goes middle c in
      (last, d, subst (λ (x : List Bytes). AcceptedLines S previous x U last) (sym (map-append line_text ls ms)) (accepted-append r s));
}

pub goes_later : {S T : State} {k m n : ℕ} {ls : List Line} → m ≤ n → Goes S k ls T m → Goes S k ls T n
goes_later h g = record { writable = g.writable; goes = λ previous b. let (last, c, r) = g.goes previous b in (last, λ p e. omega (arith, c p e), r) }

pub goes-earlier : {S T : State} {j k m : ℕ} {ls : List Line} → j ≤ k → Goes S k ls T m → Goes S j ls T m
goes-earlier h g = record { writable = g.writable; goes = λ previous b. g.goes previous (λ p e. omega (arith, b p e)) }
