-- What sections say of declarations stays true of declarations that have more of another kind. Assumes nothing.
use Prim.Native.Nat.{ℕ, ◌+◌}
use mathlib.Core.Path.{◌≡◌, refl, sym, ap, ap₂, ◌∙◌}
use mathlib.Core.Logic.{⊎_elim}
use mathlib.Core.Bool.{Bool, true, false, true≢false}
use mathlib.Core.List.{List, [], ◌∷◌, ◌++◌}
use mathlib.Core.Option.{Option, none, some}
use lib.ListN.{length, length-append}
use Rattle.model.specs.Notation.{any_of, each, nth}
use Rattle.model.specs.Bytes.{Bytes}
use Rattle.model.specs.Attributes.{Source}
use Rattle.model.specs.Tokens.{Token, name, int, str, truth, operator, mark}
use Rattle.model.specs.Declarations.{Declarations, Attribute, Rule, attribute_number, operation_number, sort_of, groups}
use Rattle.model.specs.Refusals.{unknown_name}
use Rattle.model.specs.Standing.{Each}
use Rattle.model.proofs.WordTables.{none-is-some}
use Rattle.model.proofs.Options.{is-there, no_result}
use Rattle.model.proofs.Lists.{nth-append}
use Rattle.model.proofs.Growing.{nth_last}
use Rattle.codes.specs.Codes.{kind_of}
use Rattle.rows.specs.Rows.{AttributeRows, is_pair_of, number_or}
use Rattle.tokens.specs.RuleCode.{unknown_number, carried_bytes, encode_token}
use Rattle.program.proofs.Programs.{more-attributes}
use Rattle.book.specs.Held.{SortRows, GroupSlots, code_of_rule, rows_of_rule, RuleRows}

-- one more at the end: the others are as they were
module _ {A : Type 0} (xs : List A) (x : A) where
  pub nth-new : nth (xs ++ x ∷ []) (length xs) ≡ some x
  nth-new = go xs
    where
      go : (l : List A) → nth (l ++ x ∷ []) (length l) ≡ some x
      go [] = refl
      go (y ∷ l) = go l

  pub nth-old : (k : ℕ) → (k ≡ length xs → ⊥) → nth (xs ++ x ∷ []) k ≡ nth xs k
  nth-old k other = go (nth xs k) refl
    where
      go : (o : Option A) → nth xs k ≡ o → nth (xs ++ x ∷ []) k ≡ o
      go none e = no_result (nth (xs ++ x ∷ []) k) (λ y f. ⊎_elim (λ g. none-is-some (sym e ∙ g)) (λ g. other g.0) (nth_last xs x k f))
      go (some y) e = nth-append xs (x ∷ []) k e

  pub length_more : length (xs ++ x ∷ []) ≡ length xs + 1
  length_more = length-append xs (x ∷ [])

-- what is found by SRC and NAME, or by an operation's name, stays found
abbrev pub AttributesStay : Declarations → Declarations → Type 0
AttributesStay D E = (s : Source) (n : Bytes) (k : ℕ) → attribute_number D s n ≡ some k → attribute_number E s n ≡ some k

-- and so does what has a number
abbrev pub RowsStay : Declarations → Declarations → Type 0
RowsStay D E = (i : ℕ) (a : Attribute) → nth D.attributes i ≡ some a → nth E.attributes i ≡ some a

abbrev pub OperationsStay : Declarations → Declarations → Type 0
OperationsStay D E = (o : Bytes) (k : ℕ) → operation_number D o ≡ some k → operation_number E o ≡ some k

-- the names in rules are declared
abbrev pub NamesKnown : Declarations → Type 0
NamesKnown D = Each (λ r. any_of (unknown_name D) r.tokens ≡ false) D.rules

-- the code of declared names is the same
module _ (D E : Declarations) (stay : AttributesStay D E) where
  carried_same : (t : Token) → unknown_name D t ≡ false → carried_bytes E t ≡ carried_bytes D t
  carried_same (name s n) e =
      let (k, f) = is-there (attribute_number D s n) e in ap (λ (o : Option ℕ). number_or unknown_number o ∷ []) (stay s n k f ∙ sym f)
  carried_same (int n) e = refl
  carried_same (str s) e = refl
  carried_same (truth t) e = refl
  carried_same (operator o) e = refl
  carried_same (mark m) e = refl

  code_same : (ts : List Token) → any_of (unknown_name D) ts ≡ false → each (encode_token E) ts ≡ each (encode_token D) ts
  code_same [] e = refl
  code_same (t ∷ ts) e = go (unknown_name D t) refl e (code_same ts)
    where
      go : (b : Bool) → unknown_name D t ≡ b → (elim b as (λ _. Bool) [ true ↦ true | false ↦ any_of (unknown_name D) ts ]) ≡ false
          → (any_of (unknown_name D) ts ≡ false → each (encode_token E) ts ≡ each (encode_token D) ts)
          → each (encode_token E) (t ∷ ts) ≡ each (encode_token D) (t ∷ ts)
      go true f g more = absurd (true≢false g)
      go false f g more = ap₂ (λ (b c : Bytes). (kind_of t ∷ b) ++ c) (carried_same t f) (more g)

  pub rules-kept : RowsStay D E → OperationsStay D E → E.rules ≡ D.rules → NamesKnown D → (words : List ℕ) (code : Bytes) → RuleRows words code D → RuleRows words code E
  rules-kept rows_stay operations same known words code rows i r e =
      let old = ap (λ (l : List Rule). nth l i) (sym same) ∙ e in
      let h = rows i r old in
      record {
        operation = h.operation;
        operation-is = operations r.operation h.operation h.operation-is;
        word = h.word;
        tokens = record {
          rest = h.tokens.rest;
          from = h.tokens.from ∙ ap (λ (c : Bytes). c ++ (0 ∷ []) ++ h.tokens.rest) (sym (code_same r.tokens (known i r old)));
        };
        program = more-attributes D E rows_stay stay (code_of_rule code i) (rows_of_rule code i) r.tokens h.program;
      }

-- sorts and slots, with the same holders
module _ (D E : Declarations) (same : E.holders ≡ D.holders) where
  pub sorts-kept : (words : List ℕ) → SortRows words D → SortRows words E
  unfolding sort_of
  sorts-kept words rows k h = rw same (rows k h)

  pub groups-kept : (slots slot_of : List ℕ) → GroupSlots slots slot_of D → GroupSlots slots slot_of E
  unfolding sort_of groups
  groups-kept slots slot_of g = record {
    in-slot = rw same g.in-slot;
    no_slot = rw same g.no_slot;
    taken = rw same g.taken;
    free = rw same g.free;
  }

-- the rows of attributes, with the same attributes and pairs of the same attributes
pub attributes-kept : (D E : Declarations) → E.attributes ≡ D.attributes → ((i p : ℕ) → is_pair_of E i p ≡ is_pair_of D i p) → (rows : List ℕ) → AttributeRows rows D
    → AttributeRows rows E
attributes-kept D E same pairs rows a = record {
  within = rw same a.within;
  row = rw same a.row;
  other = rw same a.other;
  mask = λ i p h l. a.mask i p h l ∙ sym (pairs i p);
}
