-- A file as its lines one after another: the first line, and a turn of reading on. Assumes nothing.
use Rattle.std.proofs.Common.{◌≡◌, refl, sym, ap, subst, ◌∙◌, ℕ, suc, ◌+◌, ◌-◌, ◌≤◌, ◌<◌, Bool, true, false, ◌&&◌, not, List, [], ◌∷◌, ◌++◌, Option, Some, None, Result, Ok, Err, eqb, length, take, drop, append_assoc, arith}
use mathlib.Core.Path.{ap₂}
use lib.ListN.{length-append, length-drop}
use lib.Pointwise.{pointwise}
use lib.Seq.{take_at, length-take-le}
use borrow.Author.Tests.{eqb-true, eqb-false, eq-eqb, ne_eqb, lt-ltb, le-ltb}
use Rattle.std.proofs.Math.Option as math
use Rattle.std.proofs.Math.Option.{none, some}
use Rattle.model.specs.Notation.{if◌then◌otherwise◌, ◌>>=◌, is_none}
use Rattle.model.specs.Limits.{Edition, file_bytes}
use Rattle.model.specs.Numbers as refusal
use Rattle.model.specs.Bytes.{Bytes, newline, cut, begun, lines_of, behind}
use Rattle.model.specs.Keys as keys
use Rattle.model.specs.Lines.{first_line, named_edition, Line, read_line}
use Rattle.model.specs.State.{State, empty}
use Rattle.model.specs.Refusals.{too_long, wrong_first_line, line_refusal}
use Rattle.model.specs.Load.{Loaded, refused_at, stepped, key_of, read_on, other_lines, load}
use Rattle.model.specs.Standing.{Standing}
use Rattle.model.proofs.WordTables.{none-is-some}
use Rattle.model.proofs.Options.{is-there, bind-some, fields}
use Rattle.model.proofs.Cuts.{lacks, behind-parts, cut-joined, cut_parts}
use Rattle.model.proofs.Ledger.{accepted-line}
use Rattle.model.proofs.Standing.{empty-standing, after-standing}
use Rattle.codes.specs.declared.Key.{Key}
use Rattle.codes.specs.declared.Refusal.{Refusal}
use Rattle.codes.specs.declared.Refusal.TheVariants.{TooLong, WrongFirstLine}
use Rattle.codes.specs.Codes.{coded, key_code}
use Rattle.codes.specs.Enums.{key_number, refusal_number, number_in}
use Rattle.text.specs.Parts.{FirstAt}
use Rattle.text.proofs.LoopPlaces.{tail-part, done}
use Rattle.book.specs.Held.{Holds}
use Rattle.tielines.proofs.TieRefusals.{refused_for}
use Rattle.file.specs.declared.Refused.{Refused}
use Rattle.file.specs.LineSteps.{LineRead, FirstLine, LoadedAs, OthersRead}

-- ---- the first line

-- whether bytes stand at the front, as the code compares them
starts : (t s : Bytes) → pointwise eqb t (take (length t) s) ≡ not (is_none (behind t s))
starts [] s = refl
starts (x ∷ t) [] = refl
starts (x ∷ t) (y ∷ s) = go (eqb x y) refl (starts t s)
  where
    go : (b : Bool) → eqb x y ≡ b → pointwise eqb t (take (length t) s) ≡ not (is_none (behind t s))
        → (eqb x y && pointwise eqb t (take (length t) s)) ≡ not (is_none (if eqb y x then behind t s otherwise none))
    go true e more = rw (e, eq-eqb y x (sym (eqb-true x y e))) more
    go false e more = rw (e, ne_eqb y x (λ z. eqb-false x y e (sym z)))

pub begun-so : (file : Bytes) → pointwise eqb (first_line Edition.first) (take 9 file) ≡ not (wrong_first_line file)
unfolding wrong_first_line named_edition
begun-so file = starts (first_line Edition.first) file

pub first-long : (file : Bytes) → wrong_first_line file ≡ false → 9 ≤ length file
unfolding wrong_first_line named_edition
first-long file e =
    let (r, p) = is-there (behind (first_line Edition.first) file) e in
    omega (arith, ap length (behind-parts (first_line Edition.first) file p))

-- behind it stand the other lines
pub other-lines : (file : Bytes) → wrong_first_line file ≡ false → other_lines (lines_of file) ≡ lines_of (drop 9 file)
unfolding wrong_first_line named_edition
other-lines file e =
    let (r, p) = is-there (behind (first_line Edition.first) file) e in
    subst (λ (s : Bytes). other_lines (lines_of s) ≡ lines_of (drop 9 s)) (sym (behind-parts (first_line Edition.first) file p)) refl

-- ---- the length of a line

cut-lines : (s l r : Bytes) → cut newline s ≡ some (l, r) → lines_of s ≡ (l ++ newline ∷ []) ∷ lines_of r
cut-lines [] l r e = none-is-some e
cut-lines (x ∷ xs) l r e = go (eqb x newline) refl (λ m k. cut-lines xs m k) e
  where
    go : (b : Bool) → eqb x newline ≡ b → ((m k : Bytes) → cut newline xs ≡ some (m, k) → lines_of xs ≡ (m ++ newline ∷ []) ∷ lines_of k)
        → if◌then◌otherwise◌ {A = math.Option (Bytes × Bytes)} b (some ([], xs)) (cut newline xs >>= λ (l, r). some (x ∷ l, r)) ≡ some (l, r)
        → (if b then (x ∷ []) ∷ lines_of xs otherwise begun x (lines_of xs)) ≡ (l ++ newline ∷ []) ∷ lines_of r
    go true f more g =
        let (p, q) = fields g in
        let z = eqb-true x newline f in
        ap (λ (y : ℕ). (y ∷ []) ∷ lines_of xs) z ∙ ap (λ (m : Bytes). (m ++ newline ∷ []) ∷ lines_of xs) p ∙ ap (λ (m : Bytes). (l ++ newline ∷ []) ∷ lines_of m) q
    go false f more g =
        let ((m, k), p, q) = bind-some (cut newline xs) (λ (l, r). some (x ∷ l, r)) g in
        let (u, v) = fields q in
        ap (begun x) (more m k p) ∙ ap (λ (n : Bytes). (n ++ newline ∷ []) ∷ lines_of k) u ∙ ap (λ (n : Bytes). (l ++ newline ∷ []) ∷ lines_of n) v

-- no line but the last lacks byte 10
uncut-behind : (x : ℕ) (xs : Bytes) → cut newline (x ∷ xs) ≡ none → (eqb x newline ≡ false) × (cut newline xs ≡ none)
uncut-behind x xs e = go (eqb x newline) e
  where
    left : (o : math.Option (Bytes × Bytes)) → ◌>>=◌ {B = Bytes × Bytes} o (λ (l, r). some (x ∷ l, r)) ≡ none → o ≡ none
    left none f = refl
    left (some c) f = none-is-some (sym f)

    go : (b : Bool) → if◌then◌otherwise◌ {A = math.Option (Bytes × Bytes)} b (some ([], xs)) (cut newline xs >>= λ (l, r). some (x ∷ l, r)) ≡ none → (b ≡ false) × (cut newline xs ≡ none)
    go true g = none-is-some (sym g)
    go false g = (refl, left (cut newline xs) g)

uncut-lines : (x : ℕ) (xs : Bytes) → cut newline (x ∷ xs) ≡ none → lines_of (x ∷ xs) ≡ (x ∷ xs) ∷ []
uncut-lines x [] e = rw (uncut-behind x [] e).0
uncut-lines x (y ∷ ys) e =
    let (p, q) = uncut-behind x (y ∷ ys) e in
    first_of (eqb x newline) p ∙ ap (begun x) (uncut-lines y ys q)
  where
    first_of : (b : Bool) → b ≡ false → (if b then (x ∷ []) ∷ lines_of (y ∷ ys) otherwise begun x (lines_of (y ∷ ys))) ≡ begun x (lines_of (y ∷ ys))
    first_of b f = rw f

-- byte 10 behind bytes without it
ended-first : (l : Bytes) (i : ℕ) → length l ≡ i → lacks newline l ≡ true → FirstAt newline (l ++ newline ∷ []) (Some i)
ended-first l i size free =
    let long : length (l ++ newline ∷ []) ≡ i + 1 = length-append l (newline ∷ []) ∙ omega arith in
    record {
      found = λ j e.
          let same : i ≡ j = cc in
          subst (λ (k : ℕ). (k < length (l ++ newline ∷ [])) × (cut newline (l ++ newline ∷ []) ≡ some (take k (l ++ newline ∷ []), drop (k + 1) (l ++ newline ∷ [])))) same (
            omega arith,
            cut-joined newline l [] free
                ∙ ap₂ (λ (a b : Bytes). some (a, b)) (sym (take_at l (newline ∷ []) i size)) (sym (done (l ++ newline ∷ []) (i + 1) (omega arith))),
          );
      absent = λ e. absurd (cc);
    }

module _ (s : Bytes) where
  pub line-ended : (i : ℕ) → (i < length s) × (cut newline s ≡ some (take i s, drop (i + 1) s)) → FirstLine s (take (i + 1) s) (Some i) (drop (i + 1) s)
  line-ended i (h, found) =
      let (free, whole) = cut_parts newline s found in
      let fore : length (take i s) ≡ i = length-take-le i s (omega arith) in
      let size : length (take i s ++ newline ∷ []) ≡ i + 1 = length-append (take i s) (newline ∷ []) ∙ omega arith in
      let split : s ≡ (take i s ++ newline ∷ []) ++ drop (i + 1) s = whole ∙ sym (append_assoc (take i s) (newline ∷ []) (drop (i + 1) s)) in
      let front : take (i + 1) s ≡ take i s ++ newline ∷ [] = ap (take (i + 1)) split ∙ take_at (take i s ++ newline ∷ []) (drop (i + 1) s) (i + 1) size in
      record {
        ended = subst (λ (l : Bytes). FirstAt newline l (Some i)) (sym front) (ended-first (take i s) i fore free);
        lines = λ l. cut-lines s (take i s) (drop (i + 1) s) found ∙ ap (λ (m : Bytes). m ∷ lines_of (drop (i + 1) s)) (sym front);
        shorter = λ l. omega (arith, length-drop (i + 1) s);
      }

  pub line-unended : FirstAt newline s None → FirstLine s s None []
  line-unended first = record { ended = first; lines = go s (first.absent refl); shorter = λ l. l }
    where
      go : (t : Bytes) → cut newline t ≡ none → 0 < length t → lines_of t ≡ t ∷ []
      go [] e l = absurd (omega arith)
      go (x ∷ xs) e l = uncut-lines x xs e

-- ---- a turn of reading on

-- what the book holds behind the lines that were read, and that the answer from there on is the answer
pub record Onward (answer : Loaded) (book : List ℕ) (code : Bytes) (previous n : ℕ) (rest : Bytes) : Type 0 where
  pub state : State
  pub key : math.Option keys.Key
  pub standing : Standing state
  pub held : Holds book code state
  pub key-is : previous ≡ coded key_code key
  pub goes_on : answer ≡ read_on Edition.first state key n (lines_of rest)

pub onward-starts : (book : List ℕ) (code rest : Bytes) → Holds book code (empty Edition.first) → Onward (read_on Edition.first (empty Edition.first) none 1 (lines_of rest)) book code 0 1 rest
onward-starts book code rest held = record { state = empty Edition.first; key = none; standing = empty-standing Edition.first; held = held; key-is = refl; goes_on = refl }

-- the state behind an accepted line stands
stands_on : (S : State) (p : math.Option keys.Key) (line : Bytes) → Standing S → line_refusal S p line ≡ 0 → (o : math.Option Line) → read_line line ≡ o → Standing (stepped S o)
stands_on S p line standing e none f = standing
stands_on S p line standing e (some l) f = let (a, c) = accepted-line S p line l e f in after-standing l standing a c

module _ {answer : Loaded} {book : List ℕ} {code : Bytes} {previous n : ℕ} {rest : Bytes} (on : Onward answer book code previous n rest) where
  pub onward-ends : rest ≡ [] → LoadedAs answer book code (Ok n)
  unfolding read_on
  onward-ends e =
      let last : answer ≡ record { number = 0; line = n; state = on.state } = on.goes_on ∙ ap (λ (s : Bytes). read_on Edition.first on.state on.key n (lines_of s)) e in
      record {
        number_is = ap (λ (a : Loaded). a.number) (sym last);
        line-is = ap (λ (a : Loaded). a.line) (sym last);
        holds = λ z. subst (λ (a : Loaded). Holds book code a.state) (sym last) on.held;
      }

  module _ {line behind : Bytes} {end : Option ℕ} (first : FirstLine rest line end behind) (some_left : 0 < length rest) {book' : List ℕ} {code' : Bytes} {r : Result Key Refusal}
      (read : LineRead book code line previous book' code' r) where
    told : (number_in r ≡ line_refusal on.state on.key line)
        × ((key : Key) → r ≡ Ok key → Holds book' code' (stepped on.state (read_line line)) × (key_number key ≡ coded key_code (key_of line)))
    told = read on.state on.standing on.held on.key on.key-is

    begins-with : answer ≡ read_on Edition.first on.state on.key n (line ∷ lines_of behind)
    begins-with = on.goes_on ∙ ap (read_on Edition.first on.state on.key n) (first.lines some_left)

    pub onward-refused : {e : Refusal} → r ≡ Err e → LoadedAs answer book' code' (Err (record { refusal = e; line = n + 1 }))
    unfolding read_on
    onward-refused {e} z =
        let number : refusal_number e ≡ line_refusal on.state on.key line = sym (ap number_in z) ∙ told.0 in
        let refused : answer ≡ refused_at Edition.first (refusal_number e) (suc n) = begins-with ∙ rw (sym number, ne_eqb (refusal_number e) 0 (refused_for e)) in
        record {
          number_is = ap (λ (a : Loaded). a.number) (sym refused);
          line-is = omega (arith, ap (λ (a : Loaded). a.line) refused);
          holds = λ w. absurd (refused_for e w);
        }

    pub onward-next : {key : Key} → r ≡ Ok key → Onward answer book' code' (key_number key) (n + 1) behind
    unfolding read_on
    onward-next {key} e =
        let zero_is : line_refusal on.state on.key line ≡ 0 = sym told.0 ∙ ap number_in e in
        let z : n + 1 ≡ suc n = omega arith in
        record {
          state = stepped on.state (read_line line);
          key = key_of line;
          standing = stands_on on.state on.key line on.standing zero_is (read_line line) refl;
          held = (told.1 key e).0;
          key-is = (told.1 key e).1;
          goes_on =
              begins-with ∙ (rw (eq-eqb (line_refusal on.state on.key line) 0 zero_is))
              ∙ ap (λ (m : ℕ). read_on Edition.first (stepped on.state (read_line line)) (key_of line) m (lines_of behind)) (sym z);
        }

-- ---- the whole file

module _ {book : List ℕ} {code : Bytes} (file : Bytes) where
  pub file-long : file_bytes < length file → LoadedAs (load file) book code (Err (record { refusal = TooLong; line = 0 }))
  unfolding load too_long named_edition
  file-long l =
      let e : load file ≡ refused_at Edition.first refusal.too_long 0 = rw (lt-ltb file_bytes (length file) l) in
      record { number_is = ap (λ (a : Loaded). a.number) (sym e); line-is = ap (λ (a : Loaded). a.line) (sym e); holds = λ z. absurd (omega arith) }

  module _ (l : length file ≤ file_bytes) where
    pub file-begun-wrong : wrong_first_line file ≡ true → LoadedAs (load file) book code (Err (record { refusal = WrongFirstLine; line = 1 }))
    unfolding load too_long named_edition
    file-begun-wrong w =
        let e : load file ≡ refused_at Edition.first refusal.wrong_first_line 1 = rw (le-ltb file_bytes (length file) l, w) in
        record { number_is = ap (λ (a : Loaded). a.number) (sym e); line-is = ap (λ (a : Loaded). a.line) (sym e); holds = λ z. absurd (omega arith) }

    pub file-read : {book' : List ℕ} {code' : Bytes} {r : Result ℕ Refused} → wrong_first_line file ≡ false → Holds book code (empty Edition.first)
        → OthersRead book code (take (length file - 9) (drop 9 file)) book' code' r → LoadedAs (load file) book' code' r
    unfolding load too_long named_edition
    file-read {book'} {code'} {r} w held others =
        let e : load file ≡ read_on Edition.first (empty Edition.first) none 1 (lines_of (take (length file - 9) (drop 9 file))) =
        rw (le-ltb file_bytes (length file) l, w) (ap (read_on Edition.first (empty Edition.first) none 1) (other-lines file w ∙ ap lines_of (sym (tail-part 9 file)))) in
        subst (λ (a : Loaded). LoadedAs a book' code' r) (sym e) (others held)
