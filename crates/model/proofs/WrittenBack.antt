-- What is written loads back: rules, and the whole file. Assumes nothing.
use Prim.Native.Nat.{ℕ, zero, suc, ◌≤◌, ◌<◌}
use mathlib.Core.Path.{◌≡◌, refl, sym, ap, ap₂, subst, ◌∙◌}
use mathlib.Core.Bool.{Bool, true, false, ◌&&◌, ◌||◌, not}
use mathlib.Core.List.Memᴰ.{head as here}
use mathlib.Core.List.Memᴰ.{tail as there}
use mathlib.Core.List.{List, [], ◌∷◌}
use mathlib.Core.Option.{Option, none, some}
use native.Mathlib.Omega.{arith}
use lib.ListN.{length}
use borrow.Author.Tests.{le-ltb}
use Rattle.model.specs.Notation.{◌is◌, is_none, all_of, map, each, filter, nth, listed}
use Rattle.model.specs.Limits.{Edition, file_bytes, rule_limit}
use Rattle.model.specs.Bytes.{Bytes, lines_of, same}
use Rattle.model.specs.Names.{is_name}
use Rattle.model.specs.Keys.{rank}
use Rattle.model.specs.Tokens.{is_token}
use Rattle.model.specs.Grammar.{Policy, read_policy, too_large}
use Rattle.model.specs.Declarations.{Declarations, Holder, Rule, Sort, is_sort, holder_of, sort_of, holder_numbers_of, groups, operation_number, attribute_number, attribute_of}
use Rattle.model.specs.Lines.{first_line, named_edition, Line, op}
use Rattle.model.specs.Ties.{Tie, Ties, no_ties}
use Rattle.model.specs.State.{State, empty, after}
use Rattle.model.specs.Refusals.{too_long, circular}
use Rattle.model.specs.Load.{load}
use Rattle.model.specs.Standing.{rising, WellDeclared, TieFits, Standing}
use Rattle.model.specs.FileText.{attribute_line, pair_line, holder_line, rule_line, holder_sorts, holder_lines, ties_in_order, tie_line, tie_lines, file_lines, line_text, file_text}
use Rattle.model.proofs.Lines.{sort_key}
use Rattle.model.proofs.WordTables.{none-is-some, same-eq}
use Rattle.model.proofs.Options.{both, is-there}
use Rattle.model.proofs.Lists.{◌∈◌, place-nth, nth_in}
use Rattle.model.proofs.Numbered.{length-map, rising-back, rising-apart, numbers-listed}
use Rattle.model.proofs.Editions.{named_by}
use Rattle.model.proofs.Loads.{AcceptedLines, first_alone, accepted-load}
use Rattle.model.proofs.SoFar.{Loadable}
use Rattle.model.proofs.Rereading.{text-lines, Goes, goes-append, goes-earlier, goes_later}
use Rattle.model.proofs.RoundTrip.{list-go, parts-of, admin, admin-alone, attributes-go, operations-go, pairs-go, holder-found, admin-leads, holders-go, Rising, by-numbers, other-rank, last_rank, of_sort, by-keys, each-sorts, nth-at, room-left}
use Rattle.model.proofs.RoundTripTies.{add_all, all-ties, all-ties-go}

-- ---- rules

operation-named : (D : Declarations) → WellDeclared D → (n : Bytes) → is_none (operation_number D n) ≡ false → is_name n ≡ true
unfolding operation_number
operation-named D well n e =
    let (k, q) = is-there (operation_number D n) e in
    let (m, f, g) = place-nth (same n) D.operations k q in
    ap is_name (same-eq n m g) ∙ well.operations.named k m f

rules-go : (D : Declarations) (T : Ties) → WellDeclared D → Loadable D
    → Goes (parts-of D.edition D.attributes D.operations D.pairs D.holders [] T) 10 (map rule_line D.rules) (parts-of D.edition D.attributes D.operations D.pairs D.holders D.rules T) 10
unfolding after circular operation_number attribute_number
rules-go D T well loadable = list-go D.rules (λ l. parts-of D.edition D.attributes D.operations D.pairs D.holders l T) (λ _. 10) rule_line λ pre r rest e.
    let here : nth D.rules (length pre) ≡ some r = subst (λ (l : List Rule). nth l (length pre) ≡ some r) e (nth-at pre r rest) in
    let st = well.rules.each (length pre) r here in
    let formed : (is_name r.operation && all_of is_token r.tokens && not (is_none (read_policy r.tokens))) ≡ true =
    both (both (operation-named D well r.operation st.operation-declared) st.written) (ap (λ (o : Option Policy). not (is_none o)) st.reads) in
    record {
      writable = record { formed = formed; short = loadable.short (length pre) r here };
      behind = omega arith;
      before = omega arith;
      acceptable = record {
        formed = formed;
        within = ap (λ (o : Option Policy). o is too_large) st.reads ∙ st.within;
        known = ap₂ (λ (x y : Bool). x || y) st.operation-declared st.names-declared;
        sorted = refl;
        new = refl;
        room = room-left rule_limit pre r rest (subst (λ (l : List Rule). length l ≤ rule_limit) (sym e) well.rules.few);
      };
      no-circle = refl;
      to = refl;
    }

-- ---- the whole

-- the declarations without rules
abbrev unruled : Declarations → Declarations
unruled D = record { edition = D.edition; attributes = D.attributes; operations = D.operations; pairs = D.pairs; holders = D.holders; rules = [] }

unruled-well : {D : Declarations} → WellDeclared D → WellDeclared (unruled D)
unfolding attribute_of attribute_number holder_numbers_of groups
unruled-well well = record {
  attributes = well.attributes;
  operations = well.operations;
  pairs = record {
    each = λ i p e. let s = well.pairs.each i p e in record { attribute = s.attribute; declared = s.declared; typed = s.typed; of-holders = s.of-holders; written = s.written };
    unique = well.pairs.unique;
    few = well.pairs.few;
  };
  holders = record {
    ordered = well.holders.ordered;
    gapless = well.holders.gapless;
    admin-first = well.holders.admin-first;
    others = well.holders.others;
    named = well.holders.named;
    unique = well.holders.unique;
    few = well.holders.few;
    few-groups = well.holders.few-groups;
  };
  rules = record { each = λ i r e. none-is-some e; few = omega arith };
}

unruled-fits : (D : Declarations) (t : Tie) → TieFits D t → TieFits (unruled D) t
unfolding sort_of
unruled-fits D (Tie.parent c g) f = record { lower-sort = f.lower-sort; upper-sort = f.upper-sort; lower-is = f.lower-is; upper_is = f.upper_is; one-above = f.one-above }
unruled-fits D (Tie.member c g) f = record { lower-sort = f.lower-sort; upper-sort = f.upper-sort; lower-is = f.lower-is; upper_is = f.upper_is; one-above = f.one-above }
unruled-fits D (Tie.value h p) f = record { sort = f.sort; pair = f.pair; sort-is = f.sort-is; pair_is = f.pair_is; source_is = f.source_is }

same_lines : (D : Declarations) (t : Tie) → listed (tie_line (unruled D) t) ≡ listed (tie_line D t)
same_lines D (Tie.parent c g) = refl
same_lines D (Tie.member p g) = refl
same_lines D (Tie.value h p) = refl

sort-rank : (s : Sort) → rank (sort_key s) ≤ 6
sort-rank Sort.admin = omega arith
sort-rank Sort.ugroup = omega arith
sort-rank Sort.ogroup = omega arith
sort-rank Sort.user = omega arith
sort-rank Sort.object = omega arith

last-rank-low : (k : ℕ) (hs : List Holder) → k ≤ 6 → last_rank k hs ≤ 6
last-rank-low k [] l = l
last-rank-low k (h ∷ hs) l = last-rank-low (rank (sort_key h.sort)) hs (sort-rank h.sort)

module _ {S : State} (standing : Standing S) (loadable : Loadable S.declared) where
  abbrev D : Declarations
  D = S.declared

  abbrev well : WellDeclared D
  well = standing.declarations

  abbrev others : List Holder
  others = (admin-leads well.holders).0

  holders-are : D.holders ≡ admin ∷ others
  holders-are = (admin-leads well.holders).1

  other-sort : (h : Holder) → h ∈ others → is_sort h.sort Sort.admin ≡ false
  other-sort h m =
      let above = rising-apart (λ g. g.number) admin-alone others (subst (λ (hs : List Holder). rising (λ g. g.number) hs ≡ true) holders-are well.holders.ordered) (here refl) m in
      let found = holder-found well.holders (subst (λ (hs : List Holder). h ∈ hs) (sym holders-are) (there m)) in
      later h.number above found
    where
      later : (k : ℕ) → 0 < k → holder_of D k ≡ some h → is_sort h.sort Sort.admin ≡ false
      later zero l e = absurd (omega arith)
      later (suc k) l e = well.holders.others k h e

  -- the keys of holders rise with their numbers, so those of the four keys, key by key, are in the order of numbers
  rises : Rising 3 others
  rises =
      by-numbers 3 others (rising-back (λ g. g.number) admin-alone others (subst (λ (hs : List Holder). rising (λ g. g.number) hs ≡ true) holders-are well.holders.ordered))
      (λ h m. other-rank h.sort (other-sort h m))
      (λ g h m n l. loadable.by_key g.number h.number g h (holder-found well.holders (subst (λ (hs : List Holder). g ∈ hs) (sym holders-are) (there m)))
      (holder-found well.holders (subst (λ (hs : List Holder). h ∈ hs) (sym holders-are) (there n))) l)

  holder-lines : holder_lines D ≡ map holder_line others
  unfolding holder_numbers_of
  holder-lines =
      ap (λ (hs : List Holder). each (λ s. map holder_line (of_sort s hs)) holder_sorts) (numbers-listed (λ g. g.number) D.holders well.holders.ordered ∙ holders-are)
      ∙ each-sorts others
      ∙ ap (map holder_line) (by-keys others 3 rises (λ i h e. other-sort h (nth_in others i e)))

  ties_part : Goes (parts-of D.edition D.attributes D.operations D.pairs D.holders [] no_ties) 7 (tie_lines S) (parts-of D.edition D.attributes D.operations D.pairs D.holders [] S.ties) 9
  unfolding holder_numbers_of
  ties_part =
      subst (λ (U : Ties). Goes (record { declared = unruled D; ties = no_ties }) 7 (tie_lines S) (record { declared = unruled D; ties = U }) 9) (all-ties standing)
      (subst (λ (f : Tie → List Line). Goes (record { declared = unruled D; ties = no_ties }) 7 (each f (filter S.ties (ties_in_order D))) (record { declared = unruled D; ties = add_all (filter S.ties (ties_in_order D)) no_ties }) 9)
      (λ i. λ t. same_lines D t i)
      (all-ties-go (unruled D) (unruled-well well) S.ties (λ t e. unruled-fits D t (standing.ties-fit t e)) standing.acyclic))

  holders-part : Goes (parts-of D.edition D.attributes D.operations D.pairs admin-alone [] no_ties) 3 (holder_lines D) (parts-of D.edition D.attributes D.operations D.pairs D.holders [] no_ties) 6
  holders-part =
      subst (λ (hs : List Holder). Goes (parts-of D.edition D.attributes D.operations D.pairs admin-alone [] no_ties) 3 (holder_lines D) (parts-of D.edition D.attributes D.operations D.pairs hs [] no_ties) 6) (sym holders-are)
      (subst (λ (ls : List Line). Goes (parts-of D.edition D.attributes D.operations D.pairs admin-alone [] no_ties) 3 ls (parts-of D.edition D.attributes D.operations D.pairs (admin ∷ others) [] no_ties) 6) (sym holder-lines)
      (goes_later (last-rank-low 3 others (omega arith)) (holders-go D others holders-are well.holders rises)))

  whole-go : Goes (empty D.edition) 0 (file_lines S) S 10
  unfolding file_lines
  whole-go =
      goes-append (map attribute_line D.attributes) _ (attributes-go D.edition D.attributes well.attributes)
      (goes-earlier (omega arith) (goes-append (map op D.operations) _ (operations-go D.edition D.attributes D.operations well.operations)
      (goes-earlier (omega arith) (goes-append (map pair_line D.pairs) _ (pairs-go D well.attributes well.pairs)
      (goes-earlier (omega arith) (goes-append (holder_lines D) _ holders-part
      (goes-earlier (omega arith) (goes-append (tie_lines S) (map rule_line D.rules) ties_part
      (goes-earlier (omega arith) (rules-go D S.ties well loadable))))))))))

  -- the text of a state loads as that state; counted are the first line and those of the state
  pub written_back : length (file_text S) ≤ file_bytes → load (file_text S) ≡ record { number = 0; line = suc (length (file_lines S)); state = S }
  unfolding file_text too_long
  written_back short =
      let (last, b, read) = whole-go.goes none (λ p e. none-is-some e) in
      let named : named_edition (file_text S) ≡ D.edition = named_by D.edition (each line_text (file_lines S)) loadable.edition-read in
      let lines : lines_of (file_text S) ≡ first_line D.edition ∷ map line_text (file_lines S) =
      first_alone D.edition (each line_text (file_lines S)) ∙ ap (λ (ls : List Bytes). first_line D.edition ∷ ls) (text-lines (file_lines S) whole-go.writable) in
      accepted-load (file_text S) (record {
        not-too-long = le-ltb file_bytes (length (file_text S)) short;
        others = map line_text (file_lines S);
        last = last;
        lines_are = lines ∙ ap (λ (e : Edition). first_line e ∷ map line_text (file_lines S)) (sym named);
        read = subst (λ (e : Edition). AcceptedLines (empty e) none (map line_text (file_lines S)) S last) (sym named) read;
        counted = ap suc (sym (length-map line_text (file_lines S))) ∙ sym (ap length lines);
      })
