-- Loads: which files are accepted, and with which number and at which line the others are refused. Assumes nothing.
use Prim.Native.Nat.{ℕ, suc, ◌+◌}
use mathlib.Core.Path.{◌≡◌, refl, sym, ap, ◌∙◌}
use mathlib.Core.Bool.{Bool, true, false}
use mathlib.Core.List.{List, [], ◌∷◌, ◌++◌, append-nil}
use mathlib.Core.Option.{Option, none, some}
use native.Mathlib.Omega.{arith}
use lib.ListN.{length}
use lib.Dec.{eqb}
use borrow.Author.Tests.{eqb-true, eqb-false, eq-eqb, ne_eqb}
use Rattle.model.specs.Notation.{if◌then◌otherwise◌, is_none, each}
use Rattle.model.specs.Limits.{Edition}
use Rattle.model.specs.Numbers as refusal
use Rattle.model.specs.Bytes.{Bytes, newline, behind, begun, lines_of}
use Rattle.model.specs.Keys.{Key}
use Rattle.model.specs.Lines.{first_line, named_edition, Line, read_line}
use Rattle.model.specs.State.{State, empty, after}
use Rattle.model.specs.Refusals.{too_long, wrong_first_line, line_tests, line_refusal}
use Rattle.model.specs.Load.{Loaded, refused_at, key_of, stepped, read_on, other_lines, load}
use Rattle.model.proofs.Options.{is-there}
use Rattle.model.proofs.Cuts.{behind-parts, behind-joined}
use Rattle.model.proofs.Refusals.{Wins, line_refused}
use Rattle.model.proofs.Accepted.{ReadAs, line_reads}

-- "A file is read as its lines one after another": lines that are all accepted, the first of them in a state and behind a line with a key, and the
-- state and the key that the last one leaves
pub data AcceptedLines : State → Option Key → List Bytes → State → Option Key → Type 0 where
  end : {S : State} {previous : Option Key} → AcceptedLines S previous [] S previous
  next : {S T : State} {previous last : Option Key} {line : Bytes} {lines : List Bytes} {key : Key} {l : Line}
      → line_refusal S previous line ≡ 0 → ReadAs line key l → AcceptedLines (after l S) (some key) lines T last → AcceptedLines S previous (line ∷ lines) T last

-- a file that is accepted: how many lines it has, and the state that they leave
pub record AcceptedFile (file : Bytes) (count : ℕ) (S : State) : Type 0 where
  pub not-too-long : too_long file ≡ false
  pub others : List Bytes
  pub last : Option Key
  pub lines_are : lines_of file ≡ first_line (named_edition file) ∷ others
  pub read : AcceptedLines (empty (named_edition file)) none others S last
  pub counted : count ≡ length (lines_of file)

-- "the first offending line of a file decides": those before it are accepted, n wins among its tests, and its place is counted from 1
pub record Offending (file : Bytes) (n place : ℕ) : Type 0 where
  pub not-too-long : too_long file ≡ false
  pub before : List Bytes
  pub line : Bytes
  pub others : List Bytes
  pub lines_are : lines_of file ≡ first_line (named_edition file) ∷ (before ++ (line ∷ others))
  pub state : State
  pub previous : Option Key
  pub read : AcceptedLines (empty (named_edition file)) none before state previous
  pub wins : Wins (line_tests state previous line) n
  pub placed : place ≡ length (first_line (named_edition file) ∷ before) + 1

-- a file that is refused: its number and its line
pub data RefusedFile (file : Bytes) : ℕ → ℕ → Type 0 where
  too_long_lem : too_long file ≡ true → RefusedFile file refusal.too_long 0
  wrong_first : too_long file ≡ false → wrong_first_line file ≡ true → RefusedFile file refusal.wrong_first_line 1
  offending : {n place : ℕ} → Offending file n place → RefusedFile file n place

-- ---- lines read on

-- what reading on answers, behind n lines
data ReadingOn (e : Edition) (S : State) (previous : Option Key) (n : ℕ) (lines : List Bytes) : Loaded → Type 0 where
  all : {T : State} {last : Option Key} {count : ℕ} → AcceptedLines S previous lines T last → count ≡ n + length lines
      → ReadingOn e S previous n lines (record { number = 0; line = count; state = T })
  stopped : (before : List Bytes) (line : Bytes) (others : List Bytes) {T : State} {last : Option Key} {m place : ℕ}
      → lines ≡ before ++ (line ∷ others) → AcceptedLines S previous before T last → Wins (line_tests T last line) m → place ≡ n + length before + 1
      → ReadingOn e S previous n lines (refused_at e m place)

-- an accepted line more in front
one_more : {edition : Edition} {S : State} {previous : Option Key} {n : ℕ} {line : Bytes} {lines : List Bytes} {key : Key} {l : Line} {r : Loaded}
    → line_refusal S previous line ≡ 0 → ReadAs line key l → ReadingOn edition (after l S) (some key) (suc n) lines r → ReadingOn edition S previous n (line ∷ lines) r
one_more e a (all {count = count} r c) = all {count = count} (next e a r) (omega arith)
one_more {line = l} e a (stopped before line others {place = place} p r w c) =
    stopped (l ∷ before) line others {place = place} (ap (λ (ls : List Bytes). l ∷ ls) p) (next e a r) w (omega arith)

read-on : (edition : Edition) (S : State) (previous : Option Key) (n : ℕ) (lines : List Bytes) → ReadingOn edition S previous n lines (read_on edition S previous n lines)
unfolding read_on
read-on edition S previous n [] = all {count = n} end (omega arith)
read-on edition S previous n (l ∷ ls) = go (eqb (line_refusal S previous l) 0) refl (λ T p. read-on edition T p (suc n) ls)
  where
    go : (b : Bool) → eqb (line_refusal S previous l) 0 ≡ b → ((T : State) (p : Option Key) → ReadingOn edition T p (suc n) ls (read_on edition T p (suc n) ls))
        → ReadingOn edition S previous n (l ∷ ls) (if b then read_on edition (stepped S (read_line l)) (key_of l) (suc n) ls otherwise refused_at edition (line_refusal S previous l) (suc n))
    go true e more =
        let r = eqb-true (line_refusal S previous l) 0 e in
        let (key, line, a) = line_reads S previous l r in
        rw (a.line-is, a.key-is) (one_more r a (more (after line S) (some key)))
    go false e more =
        stopped [] l ls {place = suc n} refl end ((line_refused S previous l (line_refusal S previous l)).0 (refl, eqb-false _ 0 e)) (omega arith)

-- lines that are accepted are passed over
read_through : (edition : Edition) {S T : State} {previous last : Option Key} {lines : List Bytes} → AcceptedLines S previous lines T last
    → (n k : ℕ) → k ≡ n + length lines → (rest : List Bytes) → read_on edition S previous n (lines ++ rest) ≡ read_on edition T last k rest
unfolding read_on
read_through edition {S} {previous = previous} end n k c rest = ap (λ (i : ℕ). read_on edition S previous i rest) (omega arith)
read_through edition {S} {previous = previous} (next {line = line} e a r) n k c rest =
    rw (eq-eqb (line_refusal S previous line) 0 e, a.line-is, a.key-is) (read_through edition r (suc n) k (omega arith) rest)

-- and a line that is not ends the reading
stops : (edition : Edition) (S : State) (previous : Option Key) (line : Bytes) (n k : ℕ) (rest : List Bytes) → line_refusal S previous line ≡ n → (n ≡ 0 → ⊥)
    → read_on edition S previous k (line ∷ rest) ≡ refused_at edition n (suc k)
unfolding read_on
stops edition S previous line n k rest e z = rw (e, ne_eqb n 0 z)

-- ---- the first line

joined : (s : Bytes) → each (λ l. l) (lines_of s) ≡ s
joined [] = refl
joined (x ∷ xs) = go (eqb x newline) (joined xs)
  where
    front : (ls : List Bytes) → each (λ l. l) (begun x ls) ≡ x ∷ each (λ l. l) ls
    front [] = refl
    front (l ∷ ls) = refl

    go : (b : Bool) → each (λ l. l) (lines_of xs) ≡ xs → each (λ l. l) (if b then (x ∷ []) ∷ lines_of xs otherwise begun x (lines_of xs)) ≡ x ∷ xs
    go true e = ap (λ (s : Bytes). x ∷ s) e
    go false e = front (lines_of xs) ∙ ap (λ (s : Bytes). x ∷ s) e

-- the first line is a line of its own, and it is not wrong exactly when it is that of the edition which it names
pub first_alone : (e : Edition) (rest : Bytes) → lines_of (first_line e ++ rest) ≡ first_line e ∷ lines_of rest
first_alone Edition.first rest = refl
first_alone Edition.second rest = refl

right-first : (file : Bytes) → wrong_first_line file ≡ false → lines_of file ≡ first_line (named_edition file) ∷ other_lines (lines_of file)
unfolding wrong_first_line
right-first file e =
    let (r, p) = is-there (behind (first_line (named_edition file)) file) e in
    let whole = ap lines_of (behind-parts (first_line (named_edition file)) file p) ∙ first_alone (named_edition file) r in
    whole ∙ ap (λ (ls : List Bytes). first_line (named_edition file) ∷ other_lines ls) (sym whole)

first-right : (file : Bytes) (others : List Bytes) → lines_of file ≡ first_line (named_edition file) ∷ others → wrong_first_line file ≡ false
unfolding wrong_first_line
first-right file others e =
    let p : file ≡ first_line (named_edition file) ++ each (λ l. l) others = sym (joined file) ∙ ap (each (λ l. l)) e in
    ap (λ (s : Bytes). is_none (behind (first_line (named_edition file)) s)) p
    ∙ ap is_none (behind-joined (first_line (named_edition file)) (each (λ l. l) others))

-- ---- loads

module _ (file : Bytes) where
  load-cases : (P : Loaded → Type 0)
      → (too_long file ≡ true → P (refused_at (named_edition file) refusal.too_long 0))
      → (too_long file ≡ false → wrong_first_line file ≡ true → P (refused_at (named_edition file) refusal.wrong_first_line 1))
      → (too_long file ≡ false → wrong_first_line file ≡ false → P (read_on (named_edition file) (empty (named_edition file)) none 1 (other_lines (lines_of file))))
      → P (load file)
  unfolding load
  load-cases P long first rest = go (too_long file) refl (wrong_first_line file) refl
    where
      go : (b : Bool) → too_long file ≡ b → (c : Bool) → wrong_first_line file ≡ c
          → P (if b then refused_at (named_edition file) refusal.too_long 0 otherwise (if c then refused_at (named_edition file) refusal.wrong_first_line 1 otherwise read_on (named_edition file) (empty (named_edition file)) none 1 (other_lines (lines_of file))))
      go true p c q = long p
      go false p true q = first p q
      go false p false q = rest p q

  -- where neither 2 nor 3 is answered, the other lines are read
  others-read : {others : List Bytes} → too_long file ≡ false → lines_of file ≡ first_line (named_edition file) ∷ others → load file ≡ read_on (named_edition file) (empty (named_edition file)) none 1 others
  unfolding load
  others-read {others} p e = rw (p, first-right file others e, e)

  -- an answer of 0
  pub load-accepted : (load file).number ≡ 0 → AcceptedFile file (load file).line (load file).state
  load-accepted =
      load-cases (λ r. r.number ≡ 0 → AcceptedFile file r.line r.state)
      (λ p e. absurd (omega arith))
      (λ p q e. absurd (omega arith))
      (λ p q. go p (right-first file q) (read-on (named_edition file) (empty (named_edition file)) none 1 (other_lines (lines_of file))))
    where
      go : {r : Loaded} → too_long file ≡ false → lines_of file ≡ first_line (named_edition file) ∷ other_lines (lines_of file) → ReadingOn (named_edition file) (empty (named_edition file)) none 1 (other_lines (lines_of file)) r
          → r.number ≡ 0 → AcceptedFile file r.line r.state
      go p q (all {last = last} a c) e = record {
        not-too-long = p;
        others = other_lines (lines_of file);
        last = last;
        lines_are = q;
        read = a;
        counted = omega (arith, ap length q);
      }
      go p q (stopped before line others {T = T} {last = last} {m = m} s a w c) e = absurd (((line_refused T last line m).1 w).1 e)

  pub accepted-load : {count : ℕ} {S : State} → AcceptedFile file count S → load file ≡ record { number = 0; line = count; state = S }
  unfolding read_on
  accepted-load {count} {S} a =
      others-read a.not-too-long a.lines_are
      ∙ ap (read_on (named_edition file) (empty (named_edition file)) none 1) (sym (append-nil a.others))
      ∙ read_through (named_edition file) a.read 1 count (a.counted ∙ omega (arith, ap length a.lines_are)) []

  -- and any other answer
  pub load-refused : ((load file).number ≡ 0 → ⊥) → RefusedFile file (load file).number (load file).line
  load-refused =
      load-cases (λ r. (r.number ≡ 0 → ⊥) → RefusedFile file r.number r.line)
      (λ p n. too_long_lem p)
      (λ p q n. wrong_first p q)
      (λ p q. go p (right-first file q) (read-on (named_edition file) (empty (named_edition file)) none 1 (other_lines (lines_of file))))
    where
      go : {r : Loaded} → too_long file ≡ false → lines_of file ≡ first_line (named_edition file) ∷ other_lines (lines_of file) → ReadingOn (named_edition file) (empty (named_edition file)) none 1 (other_lines (lines_of file)) r
          → (r.number ≡ 0 → ⊥) → RefusedFile file r.number r.line
      go p q (all a c) n = absurd (n refl)
      go p q (stopped before line others {T = T} {last = last} {place = place} s a w c) n =
          offending {place = place} (record {
            not-too-long = p;
            before = before;
            line = line;
            others = others;
            lines_are = q ∙ ap (λ (ls : List Bytes). first_line (named_edition file) ∷ ls) s;
            state = T;
            previous = last;
            read = a;
            wins = w;
            placed = omega arith;
          })

  pub refused-load : {n place : ℕ} → RefusedFile file n place → load file ≡ refused_at (named_edition file) n place
  unfolding load
  refused-load (too_long_lem p) = rw p
  refused-load (wrong_first p q) = rw (p, q)
  refused-load (offending {n = n} {place = place} o) =
      let (e, z) = (line_refused o.state o.previous o.line n).1 o.wins in
      others-read o.not-too-long o.lines_are
      ∙ read_through (named_edition file) o.read 1 (1 + length o.before) refl (o.line ∷ o.others)
      ∙ stops (named_edition file) o.state o.previous o.line n (1 + length o.before) o.others e z
      ∙ ap (refused_at (named_edition file) n) (omega (arith, o.placed))
