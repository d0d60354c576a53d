-- What is written loads back: attributes, operations, pairs and holders. Assumes nothing.
use Prim.Native.Nat.{ℕ, zero, suc, ◌+◌, ◌*◌, ◌/◌, ◌%◌, ◌^◌, ◌≤◌, ◌<◌}
use mathlib.Core.Path.{◌≡◌, refl, sym, ap, ap₂, subst, ◌∙◌}
use mathlib.Core.Logic.{⊎_elim}
use mathlib.Core.Bool.{Bool, true, false, ◌&&◌, ◌||◌, not, true≢false}
use mathlib.Core.List.Memᴰ
use mathlib.Core.List.Memᴰ.{head as here}
use mathlib.Core.List.Memᴰ.{tail as there}
use mathlib.Core.List.{List, [], ◌∷◌, ◌++◌, append_assoc, append-nil}
use mathlib.Core.Option.{Option, none, some, some-injective}
use native.Mathlib.Omega.{arith}
use lib.ListN.{length, length-append}
use lib.Dec.{eqb, leb, ltb}
use borrow.Author.Tests.{leb-true, lt-leb, ltb-true, ltb-false}
use native.Mathlib.Nat.{pow-suc}
use Rattle.model.specs.Notation.{if◌then◌otherwise◌, ◌>>=◌, ◌is◌, is_none, all_of, map, each, filter, count_of, place, nth, find, inserted}
use Rattle.model.specs.Limits.{Edition, name_bytes, text_bytes, largest_int, attribute_limit, operation_limit, pair_limit, holder_numbers, group_limit}
use Rattle.model.specs.Bytes.{Bytes, bytes, same}
use Rattle.model.specs.Names.{is_name, name_byte}
use Rattle.model.specs.Attributes.{Source, source_word, AtomType, type_word, same_type, same_source}
use Rattle.model.specs.Atoms.{Atom, is_atom, write_atom, type_of, same_atom, decimal, is_text, text_byte}
use Rattle.model.specs.Keys.{rank}
use Rattle.model.specs.Declarations.{Declarations, Attribute, Pair, Holder, Rule, Sort, sort_word, is_sort, is_group, groups, same_source_and_name, attribute_number, attribute_of, operation_number, pair_number, holder_number, holder_of, holder_numbers_of}
use Rattle.model.specs.Lines.{Line, op}
use Rattle.model.specs.Ties.{Ties, no_ties}
use Rattle.model.specs.State.{State, after}
use Rattle.model.specs.Refusals.{circular}
use Rattle.model.specs.Standing.{rising, Unique, AttributesStand, OperationsStand, PairStands, PairsStand, HoldersStand}
use Rattle.model.specs.FileText.{attribute_line, pair_line, holder_line, holder_sorts}
use Rattle.model.proofs.Lines.{line_key, sort_key}
use Rattle.model.proofs.WordTables.{none-is-some, same-eq, same_refl, same_word, reads-sort, sorts}
use Rattle.model.proofs.Options.{parts, both, no_result, bind-some}
use Rattle.model.proofs.Lists.{◌∈◌, true-or-false, nth-lt, nth-append, place-nth, all_in, map-append}
use Rattle.model.proofs.Decimals.{decimal-last, decimal-more}
use Rattle.model.proofs.Numbered.{find-in, number-found, length-map, rising-apart, number-place, inserted-last}
use Rattle.model.proofs.Declared.{Acceptable}
use Rattle.model.proofs.Standing.{numbers-length}
use Rattle.model.proofs.Rereading.{Writable, Goes, goes_end, goes-next, goes-earlier}

-- ---- how long lines are

pub name-short : (n : Bytes) → is_name n ≡ true → length n ≤ name_bytes
unfolding is_name
name-short n e = leb-true (length n) name_bytes (parts (leb 1 (length n)) (leb (length n) name_bytes) (parts (leb 1 (length n) && leb (length n) name_bytes) (all_of name_byte n) e).0).1

text-short : (s : Bytes) → is_text s ≡ true → length s ≤ text_bytes
unfolding is_text
text-short s e = leb-true (length s) text_bytes (parts (leb (length s) text_bytes) (all_of text_byte s) e).0

source-short : (s : Source) → length (source_word s) ≤ 7
source-short Source.user = omega arith
source-short Source.object = omega arith
source-short Source.admin = omega arith
source-short Source.env = omega arith
source-short Source.connect = omega arith

type-short : (t : AtomType) → length (type_word t) ≤ 4
type-short AtomType.int = omega arith
type-short AtomType.str = omega arith
type-short AtomType.bool = omega arith

sort-short : (s : Sort) → length (sort_word s) ≤ 6
sort-short Sort.admin = omega arith
sort-short Sort.ugroup = omega arith
sort-short Sort.ogroup = omega arith
sort-short Sort.user = omega arith
sort-short Sort.object = omega arith

-- a number below a power of ten
decimal-short : (k n : ℕ) → n < 10 ^ suc k → length (decimal n) ≤ suc k
decimal-short zero n h = rw (decimal-last n (omega (arith, pow-suc 10 0))) (omega arith)
decimal-short (suc k) n h = go (ltb n 10) refl (decimal-short k (n / 10))
  where
    go : (t : Bool) → ltb n 10 ≡ t → (n / 10 < 10 ^ suc k → length (decimal (n / 10)) ≤ suc k) → length (decimal n) ≤ suc (suc k)
    go true e f = rw (decimal-last n (ltb-true n 10 e)) (omega arith)
    go false e f =
        let l = f (omega (arith, pow-suc 10 (suc k))) in
        let m = ltb-false n 10 e in
        let z : n ≡ n / 10 * 10 + n % 10 = omega arith in
        rw (ap decimal z ∙ decimal-more (n / 10) (n % 10) (omega arith) (omega arith), length-append) (omega arith)

pub atom-short : (a : Atom) → is_atom a ≡ true → length (write_atom a) ≤ 14
atom-short (Atom.int n) e = omega (arith, decimal-short 9 n (omega (arith, leb-true n largest_int e)))
atom-short (Atom.str s) e = omega (arith, text-short s e, length-append (34 ∷ s) (34 ∷ []))
atom-short (Atom.bool true) e = omega arith
atom-short (Atom.bool false) e = omega arith

attribute-writable : (a : Attribute) → is_name a.name ≡ true → Writable (attribute_line a)
attribute-writable a h = record { formed = h; short = simp length-append (omega (arith, source-short a.source, type-short a.type, name-short a.name h)) }

operation-writable : (n : Bytes) → is_name n ≡ true → Writable (op n)
operation-writable n h = record { formed = h; short = omega (arith, name-short n h) }

pair-writable : (p : Pair) → is_name p.name ≡ true → is_atom p.atom ≡ true → Writable (pair_line p)
pair-writable p h k = record { formed = both h k; short = simp length-append (omega (arith, source-short p.source, name-short p.name h, atom-short p.atom k)) }

holder-writable : (h : Holder) → is_sort h.sort Sort.admin ≡ false → is_name h.name ≡ true → Writable (holder_line h)
holder-writable h a n = record { formed = both (ap not a) n; short = simp length-append (omega (arith, sort-short h.sort, name-short h.name n)) }

-- ---- one thing of a list behind others

module _ {A : Type 0} where
  pub nth-at : (pre : List A) (x : A) (rest : List A) → nth (pre ++ x ∷ rest) (length pre) ≡ some x
  nth-at [] x rest = refl
  nth-at (y ∷ pre) x rest = nth-at pre x rest

  -- what no two have alike is not yet there
  not_yet : (alike : A → A → Bool) (pre : List A) (x : A) (rest : List A) → Unique alike (pre ++ x ∷ rest) → place (λ y. alike y x) pre ≡ none
  not_yet alike pre x rest unique = no_result (place (λ y. alike y x) pre) λ k e.
      let (y, f, g) = place-nth (λ y. alike y x) pre k e in
      omega (arith, unique k (length pre) y x (nth-append pre (x ∷ rest) k f) (nth-at pre x rest) g, nth-lt pre k f)

  pub room-left : (limit : ℕ) (pre : List A) (x : A) (rest : List A) → length (pre ++ x ∷ rest) ≤ limit → leb limit (length pre) ≡ false
  room-left limit pre x rest h = lt-leb limit (length pre) (omega (arith, length-append pre (x ∷ rest)))

  shift : (pre : List A) (x : A) (rest : List A) → (pre ++ x ∷ []) ++ rest ≡ pre ++ x ∷ rest
  shift pre x rest = append_assoc pre (x ∷ []) rest

-- a state by its parts
abbrev pub parts-of : Edition → List Attribute → List Bytes → List Pair → List Holder → List Rule → Ties → State
parts-of e A O P H R T = record { declared = record { edition = e; attributes = A; operations = O; pairs = P; holders = H; rules = R }; ties = T }

abbrev pub admin : Holder
admin = record { number = 0; sort = Sort.admin; name = bytes "admin" }

abbrev pub admin-alone : List Holder
admin-alone = admin ∷ []

-- a line that is accepted in S and leads to T, behind keys of ranks up to k, and of a rank up to m
pub record Leads (S T : State) (k m : ℕ) (l : Line) : Type 0 where
  pub writable : Writable l
  pub behind : k ≤ rank (line_key l)
  pub before : rank (line_key l) ≤ m
  pub acceptable : Acceptable S l
  pub no-circle : circular S l ≡ false
  pub to : after l S ≡ T

pub leads-on : {S T U : State} {k m n : ℕ} {l : Line} {ls : List Line} → Leads S T k m l → Goes T m ls U n → Goes S k (l ∷ ls) U n
leads-on {U = U} {n = n} {l = l} {ls = ls} a g =
    goes-next l a.writable a.behind a.acceptable a.no-circle (subst (λ (X : State). Goes X (rank (line_key l)) ls U n) (sym a.to) (goes-earlier a.before g))

-- the lines of a list's things, one after another
module _ {A : Type 0} (xs : List A) (S : List A → State) (low : List A → ℕ) (line : A → Line)
    (leads : (pre : List A) (x : A) (rest : List A) → pre ++ x ∷ rest ≡ xs → Leads (S pre) (S (pre ++ x ∷ [])) (low pre) (low (pre ++ x ∷ [])) (line x)) where
  rest-go : (pre rest : List A) → pre ++ rest ≡ xs → Goes (S pre) (low pre) (map line rest) (S xs) (low xs)
  rest-go pre [] e = subst (λ (l : List A). Goes (S pre) (low pre) [] (S l) (low l)) (sym (append-nil pre) ∙ e) goes_end
  rest-go pre (x ∷ rest) e = leads-on (leads pre x rest e) (rest-go (pre ++ x ∷ []) rest (shift pre x rest ∙ e))

  pub list-go : Goes (S []) (low []) (map line xs) (S xs) (low xs)
  list-go = rest-go [] xs refl

-- ---- attributes, operations and pairs

pub attributes-go : (edition : Edition) (A : List Attribute) → AttributesStand A → Goes (parts-of edition [] [] [] admin-alone [] no_ties) 0 (map attribute_line A) (parts-of edition A [] [] admin-alone [] no_ties) 0
unfolding after circular attribute_number
attributes-go edition A stand = list-go A (λ l. parts-of edition l [] [] admin-alone [] no_ties) (λ _. 0) attribute_line λ pre a rest e.
    let all_of : AttributesStand (pre ++ a ∷ rest) = subst AttributesStand (sym e) stand in
    let here = nth-at pre a rest in
    record {
      writable = attribute-writable a (all_of.named (length pre) a here);
      behind = omega arith;
      before = omega arith;
      acceptable = record {
        formed = all_of.named (length pre) a here;
        within = refl;
        known = refl;
        sorted = all_of.typed (length pre) a here;
        new = ap (λ (o : Option ℕ). not (is_none o)) (not_yet (λ a b. same_source_and_name a.source a.name b.source b.name) pre a rest all_of.unique);
        room = room-left attribute_limit pre a rest all_of.few;
      };
      no-circle = refl;
      to = refl;
    }

pub operations-go : (edition : Edition) (A : List Attribute) (O : List Bytes) → OperationsStand O → Goes (parts-of edition A [] [] admin-alone [] no_ties) 1 (map op O) (parts-of edition A O [] admin-alone [] no_ties) 1
unfolding after circular operation_number
operations-go edition A O stand = list-go O (λ l. parts-of edition A l [] admin-alone [] no_ties) (λ _. 1) op λ pre n rest e.
    let all_of : OperationsStand (pre ++ n ∷ rest) = subst OperationsStand (sym e) stand in
    let here = nth-at pre n rest in
    record {
      writable = operation-writable n (all_of.named (length pre) n here);
      behind = omega arith;
      before = omega arith;
      acceptable = record {
        formed = all_of.named (length pre) n here;
        within = refl;
        known = refl;
        sorted = refl;
        new = ap (λ (o : Option ℕ). not (is_none o)) (not_yet (λ a b. same b a) pre n rest (λ i j x y p q r. sym (all_of.unique j i y x q p r)));
        room = room-left operation_limit pre n rest all_of.few;
      };
      no-circle = refl;
      to = refl;
    }

-- the name of a pair is that of a declared attribute
pub pair-named : (D : Declarations) → AttributesStand D.attributes → (p : Pair) → PairStands D p
    → (k : ℕ) × (attribute_number D p.source p.name ≡ some k) × (is_name p.name ≡ true)
unfolding attribute_of attribute_number
pair-named D named p st =
    let (k, q, r) = bind-some (attribute_number D p.source p.name) (nth D.attributes) st.declared in
    let (b, f, g) = place-nth (λ a. same_source_and_name a.source a.name p.source p.name) D.attributes k q in
    (k, q, ap is_name (sym (same-eq b.name p.name (parts (same_source b.source p.source) (same b.name p.name) g).1)) ∙ named.named k b f)

pub pairs-go : (D : Declarations) → AttributesStand D.attributes → PairsStand D
    → Goes (parts-of D.edition D.attributes D.operations [] admin-alone [] no_ties) 2 (map pair_line D.pairs) (parts-of D.edition D.attributes D.operations D.pairs admin-alone [] no_ties) 2
unfolding after circular pair_number attribute_of attribute_number
pairs-go D named stand = list-go D.pairs (λ l. parts-of D.edition D.attributes D.operations l admin-alone [] no_ties) (λ _. 2) pair_line λ pre p rest e.
    let here : nth D.pairs (length pre) ≡ some p = subst (λ (l : List Pair). nth l (length pre) ≡ some p) e (nth-at pre p rest) in
    let st = stand.each (length pre) p here in
    let (k, q, formed) = pair-named D named p st in
    record {
      writable = pair-writable p formed st.written;
      behind = omega arith;
      before = omega arith;
      acceptable = record {
        formed = both formed st.written;
        within = refl;
        known = ap is_none q;
        sorted = ap₂ (λ (x : Bool) (o : Option Attribute). x || (o is λ b. not (same_type b.type (type_of p.atom)))) st.of-holders st.declared
            ∙ ap (λ (t : AtomType). not (same_type t (type_of p.atom))) st.typed ∙ ap not (same_refl (type_word (type_of p.atom)));
        new = ap (λ (o : Option ℕ). not (is_none o))
            (not_yet (λ p q. same_source_and_name p.source p.name q.source q.name && same_atom p.atom q.atom) pre p rest
            (subst (Unique (λ p q. same_source_and_name p.source p.name q.source q.name && same_atom p.atom q.atom)) (sym e) stand.unique));
        room = room-left pair_limit pre p rest (subst (λ (l : List Pair). length l ≤ pair_limit) (sym e) stand.few);
      };
      no-circle = refl;
      to = refl;
    }

-- ---- holders

-- "Holder 0 is `admin`": it leads, and every number is its holder's place
module _ {D : Declarations} (stand : HoldersStand D) where
  pub holder-found : {h : Holder} → h ∈ D.holders → holder_of D h.number ≡ some h
  holder-found m = number-found (λ g. g.number) D.holders stand.ordered m

  number-below : (h : Holder) → h ∈ D.holders → h.number < length D.holders
  number-below h m = ltb-true h.number (length D.holders) (sym (stand.gapless h.number) ∙ ap (λ (o : Option Holder). not (is_none o)) (holder-found m))

  pub holder-at : (pre : List Holder) (h : Holder) (rest : List Holder) → D.holders ≡ pre ++ h ∷ rest → h.number ≡ length pre
  holder-at pre h rest e =
      number-place (λ g. g.number) pre h rest (subst (λ (hs : List Holder). rising (λ g. g.number) hs ≡ true) e stand.ordered)
      (subst (λ (hs : List Holder). (g : Holder) → g ∈ hs → g.number < length hs) e number-below)

  pub admin-leads : (others : List Holder) × (D.holders ≡ admin ∷ others)
  admin-leads = go D.holders refl
    where
      go : (hs : List Holder) → D.holders ≡ hs → (others : List Holder) × (D.holders ≡ admin ∷ others)
      go [] e = none-is-some (sym (ap (find (λ h. eqb h.number 0)) e) ∙ stand.admin-first)
      go (h ∷ hs) e =
          let here' : holder_of D h.number ≡ some h = holder-found (subst (λ (l : List Holder). h ∈ l) (sym e) (here refl)) in
          let z : h ≡ admin = some-injective h admin (sym here' ∙ ap (holder_of D) (holder-at [] h hs e) ∙ stand.admin-first) in
          (hs, e ∙ ap (λ (x : Holder). x ∷ hs) z)

-- the ranks of keys rise along the holders, from k on
abbrev pub Rising : ℕ → List Holder → Type 0
Rising k [] = Unit {0}
Rising k (h ∷ hs) = (k ≤ rank (sort_key h.sort)) × Rising (rank (sort_key h.sort)) hs

abbrev pub last_rank : ℕ → List Holder → ℕ
last_rank k [] = k
last_rank k (h ∷ hs) = last_rank (rank (sort_key h.sort)) hs

-- so they do where they rise with the numbers
pub by-numbers : (k : ℕ) (hs : List Holder) → rising (λ h. h.number) hs ≡ true → ((h : Holder) → h ∈ hs → k ≤ rank (sort_key h.sort))
    → ((g h : Holder) → g ∈ hs → h ∈ hs → g.number < h.number → rank (sort_key g.sort) ≤ rank (sort_key h.sort)) → Rising k hs
by-numbers k [] r low with_number = tt
by-numbers k (h ∷ hs) r low with_number =
    let (above, more) = parts (all_of (λ g. ltb h.number g.number) hs) (rising (λ g. g.number) hs) r in (
      low h (here refl),
      by-numbers (rank (sort_key h.sort)) hs more
          (λ g m. with_number h g (here refl) (there m) (ltb-true h.number g.number (all_in (λ g. ltb h.number g.number) hs above m)))
          (λ f g m n. with_number f g (there m) (there n)),
    )

rising-at : (k : ℕ) (pre : List Holder) (h : Holder) (rest : List Holder) → Rising k (pre ++ h ∷ rest) → last_rank k pre ≤ rank (sort_key h.sort)
rising-at k [] h rest r = r.0
rising-at k (g ∷ pre) h rest r = rising-at (rank (sort_key g.sort)) pre h rest r.1

last-rank : (k : ℕ) (pre : List Holder) (h : Holder) → last_rank k (pre ++ h ∷ []) ≡ rank (sort_key h.sort)
last-rank k [] h = refl
last-rank k (g ∷ pre) h = last-rank (rank (sort_key g.sort)) pre h

rising-weaker : (j k : ℕ) (hs : List Holder) → j ≤ k → Rising k hs → Rising j hs
rising-weaker j k [] l r = tt
rising-weaker j k (h ∷ hs) l r = (omega (arith, r.0), r.1)

abbrev pub of_sort : Sort → List Holder → List Holder
of_sort s hs = filter (λ h. is_sort h.sort s) hs

-- no holder of an earlier key is left
none-earlier : (s : Sort) (k : ℕ) (hs : List Holder) → Rising k hs → rank (sort_key s) < k → of_sort s hs ≡ []
none-earlier s k [] r l = refl
none-earlier s k (h ∷ hs) r l =
    let off : is_sort h.sort s ≡ false = ⊎_elim (λ e. absurd (omega (arith, r.0, ap (λ (x : Sort). rank (sort_key x)) (same_word sort_word sorts reads-sort h.sort s e)))) (λ e. e) (true-or-false (is_sort h.sort s)) in
    ap (λ (b : Bool). if b then h ∷ of_sort s hs otherwise of_sort s hs) off ∙ none-earlier s (rank (sort_key h.sort)) hs r.1 (omega (arith, r.0))

-- holders of the four keys, key by key, are the holders in their order
pub by-keys : (hs : List Holder) (k : ℕ) → Rising k hs → ((i : ℕ) (h : Holder) → nth hs i ≡ some h → is_sort h.sort Sort.admin ≡ false)
    → of_sort Sort.ugroup hs ++ (of_sort Sort.ogroup hs ++ (of_sort Sort.user hs ++ of_sort Sort.object hs)) ≡ hs
by-keys [] k r o = refl
by-keys (h ∷ hs) k r o = go h.sort refl (by-keys hs (rank (sort_key h.sort)) r.1 (λ i g e. o (suc i) g e))
  where
    F : Sort → List Holder
    F s = of_sort s hs

    none' : (s : Sort) → rank (sort_key s) < rank (sort_key h.sort) → F s ≡ []
    none' s l = none-earlier s (rank (sort_key h.sort)) hs r.1 l

    by_rank : {s : Sort} {j : ℕ} → h.sort ≡ s → j < rank (sort_key s) → j < rank (sort_key h.sort)
    by_rank {j = j} e l = subst (λ (s : Sort). j < rank (sort_key s)) (sym e) l

    pull : {u : List Holder} (x : List Holder) → u ≡ [] → u ++ x ≡ hs → u ++ h ∷ x ≡ h ∷ hs
    pull x e m = ap (λ (l : List Holder). l ++ h ∷ x) e ∙ ap (λ (l : List Holder). h ∷ l) (sym (ap (λ (l : List Holder). l ++ x) e) ∙ m)

    pull₂ : {u v : List Holder} (x : List Holder) → u ≡ [] → v ≡ [] → u ++ (v ++ x) ≡ hs → u ++ (v ++ h ∷ x) ≡ h ∷ hs
    pull₂ {v = v} x e f m = ap (λ (l : List Holder). l ++ (v ++ h ∷ x)) e ∙ pull x f (sym (ap (λ (l : List Holder). l ++ (v ++ x)) e) ∙ m)

    pull₃ : {u v w : List Holder} (x : List Holder) → u ≡ [] → v ≡ [] → w ≡ [] → u ++ (v ++ (w ++ x)) ≡ hs → u ++ (v ++ (w ++ h ∷ x)) ≡ h ∷ hs
    pull₃ {v = v} {w} x e f g m = ap (λ (l : List Holder). l ++ (v ++ (w ++ h ∷ x))) e ∙ pull₂ x f g (sym (ap (λ (l : List Holder). l ++ (v ++ (w ++ x))) e) ∙ m)

    go : (s : Sort) → h.sort ≡ s → F Sort.ugroup ++ (F Sort.ogroup ++ (F Sort.user ++ F Sort.object)) ≡ hs
        → (if is_sort s Sort.ugroup then h ∷ F Sort.ugroup otherwise F Sort.ugroup)
        ++ ((if is_sort s Sort.ogroup then h ∷ F Sort.ogroup otherwise F Sort.ogroup)
        ++ ((if is_sort s Sort.user then h ∷ F Sort.user otherwise F Sort.user) ++ (if is_sort s Sort.object then h ∷ F Sort.object otherwise F Sort.object)))
        ≡ h ∷ hs
    go Sort.admin e more = absurd (true≢false (ap (λ (s : Sort). is_sort s Sort.admin) (sym e) ∙ o 0 h refl))
    go Sort.ugroup e more = ap (λ (l : List Holder). h ∷ l) more
    go Sort.ogroup e more = pull (F Sort.ogroup ++ (F Sort.user ++ F Sort.object)) (none' Sort.ugroup (by_rank e (omega arith))) more
    go Sort.user e more = pull₂ (F Sort.user ++ F Sort.object) (none' Sort.ugroup (by_rank e (omega arith))) (none' Sort.ogroup (by_rank e (omega arith))) more
    go Sort.object e more = pull₃ (F Sort.object) (none' Sort.ugroup (by_rank e (omega arith))) (none' Sort.ogroup (by_rank e (omega arith))) (none' Sort.user (by_rank e (omega arith))) more

pub each-sorts : (hs : List Holder) → each (λ s. map holder_line (of_sort s hs)) holder_sorts ≡ map holder_line (of_sort Sort.ugroup hs ++ (of_sort Sort.ogroup hs ++ (of_sort Sort.user hs ++ of_sort Sort.object hs)))
each-sorts hs =
    let m : Sort → List Line = λ s. map holder_line (of_sort s hs) in
    ap (λ (l : List Line). m Sort.ugroup ++ (m Sort.ogroup ++ (m Sort.user ++ l))) (append-nil (m Sort.object))
    ∙ sym (map-append holder_line (of_sort Sort.ugroup hs) _ ∙ ap (λ (l : List Line). m Sort.ugroup ++ l) (map-append holder_line (of_sort Sort.ogroup hs) _ ∙ ap (λ (l : List Line). m Sort.ogroup ++ l) (map-append holder_line (of_sort Sort.user hs) (of_sort Sort.object hs))))

pub other-rank : (s : Sort) → is_sort s Sort.admin ≡ false → 3 ≤ rank (sort_key s)
other-rank Sort.admin e = absurd (true≢false e)
other-rank Sort.ugroup e = omega arith
other-rank Sort.ogroup e = omega arith
other-rank Sort.user e = omega arith
other-rank Sort.object e = omega arith

count-front : {A : Type 0} (p : A → Bool) (pre : List A) (x : A) (rest : List A) → count_of p pre + (if p x then 1 otherwise 0) ≤ count_of p (pre ++ x ∷ rest)
count-front p [] x rest = go (p x)
  where
    go : (b : Bool) → 0 + (if b then 1 otherwise 0) ≤ (if b then suc (count_of p rest) otherwise count_of p rest)
    go true = omega arith
    go false = omega arith
count-front p (y ∷ pre) x rest = go (p y) (count-front p pre x rest)
  where
    go : (b : Bool) → count_of p pre + (if p x then 1 otherwise 0) ≤ count_of p (pre ++ x ∷ rest)
        → (if b then suc (count_of p pre) otherwise count_of p pre) + (if p x then 1 otherwise 0) ≤ (if b then suc (count_of p (pre ++ x ∷ rest)) otherwise count_of p (pre ++ x ∷ rest))
    go true h = omega arith
    go false h = h

-- holders behind admin
pub holders-go : (D : Declarations) (others : List Holder) → D.holders ≡ admin ∷ others → HoldersStand D → Rising 3 others
    → Goes (parts-of D.edition D.attributes D.operations D.pairs admin-alone [] no_ties) 3 (map holder_line others)
    (parts-of D.edition D.attributes D.operations D.pairs (admin ∷ others) [] no_ties) (last_rank 3 others)
unfolding after circular holder_number holder_numbers_of groups
holders-go D others e stand rises = list-go others (λ l. parts-of D.edition D.attributes D.operations D.pairs (admin ∷ l) [] no_ties) (last_rank 3) holder_line λ pre h rest f.
    let split : D.holders ≡ (admin ∷ pre) ++ h ∷ rest = e ∙ ap (λ (l : List Holder). admin ∷ l) (sym f) in
    let at : h.number ≡ suc (length pre) = holder-at stand (admin ∷ pre) h rest split in
    let found : holder_of D h.number ≡ some h = holder-found stand (subst (λ (l : List Holder). h ∈ l) (sym split) (Memᴰ.append_right (admin ∷ pre) (here refl))) in
    let sorted = stand.others (length pre) h (ap (holder_of D) (sym at) ∙ found) in
    let named = stand.named h.number h found in
    let before : (g : Holder) → g ∈ admin ∷ pre → g.number < h.number = λ g m. rising-apart (λ g. g.number) (admin ∷ pre) (h ∷ rest) (subst (λ (l : List Holder). rising (λ g. g.number) l ≡ true) split stand.ordered) m (here refl) in
    record {
      writable = holder-writable h sorted named;
      behind = rising-at 3 pre h rest (subst (Rising 3) (sym f) rises);
      before = omega (arith, last-rank 3 pre h);
      acceptable = record {
        formed = both (ap not sorted) named;
        within = refl;
        known = refl;
        sorted = refl;
        new = ap (λ (o : Option Holder). not (is_none (o >>= λ g. some g.number))) (no_result (find (λ g. same g.name h.name) (admin ∷ pre)) λ g q.
            let (m, s) = find-in (λ g. same g.name h.name) (admin ∷ pre) g q in
            omega (arith, before g m, stand.unique g.number h.number g h (holder-found stand (subst (λ (l : List Holder). g ∈ l) (sym split) (Memᴰ.append_left (h ∷ rest) m))) found s));
        room = ap₂ (λ (x y : Bool). x || y)
            (ap (leb (holder_numbers D.edition)) (length-map (λ g. g.number) (admin ∷ pre)) ∙ room-left (holder_numbers D.edition) (admin ∷ pre) h rest (subst (λ (l : List Holder). length l ≤ holder_numbers D.edition) split (few stand.few)))
            (group-room (is_group h.sort) (count_of (λ g. is_group g.sort) (admin ∷ pre)) (groups-few (admin ∷ pre) h rest split));
      };
      no-circle = refl;
      to = ap (λ (l : List Holder). parts-of D.edition D.attributes D.operations D.pairs l [] no_ties)
          (ap (λ (n : ℕ). inserted (λ g. g.number) (record { number = n; sort = h.sort; name = h.name }) (admin ∷ pre)) (sym at) ∙ inserted-last (λ g. g.number) h (admin ∷ pre) before);
    }
  where
    few : length (holder_numbers_of D) ≤ holder_numbers D.edition → length D.holders ≤ holder_numbers D.edition
    few l = omega (arith, numbers-length D)

    groups-few : (pre : List Holder) (h : Holder) (rest : List Holder) → D.holders ≡ pre ++ h ∷ rest
        → count_of (λ g. is_group g.sort) pre + (if is_group h.sort then 1 otherwise 0) ≤ group_limit
    groups-few pre h rest split =
        omega (arith, count-front (λ g. is_group g.sort) pre h rest, stand.few-groups, ap (count_of (λ g. is_group g.sort)) split)

    group-room : (b : Bool) (n : ℕ) → n + (if b then 1 otherwise 0) ≤ group_limit → (b && leb group_limit n) ≡ false
    group-room true n h = lt-leb group_limit n (omega arith)
    group-room false n h = refl
