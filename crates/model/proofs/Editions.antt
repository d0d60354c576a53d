-- The edition: which one a file names, that a load leaves a state of it, refused or not, and that an edit keeps it. Assumes nothing.
use Prim.Native.Nat.{ℕ, suc}
use mathlib.Core.Path.{◌≡◌, refl, ap, ◌∙◌}
use mathlib.Core.Bool.{Bool, true, false, ◌&&◌, not}
use mathlib.Core.List.{List, [], ◌∷◌, ◌++◌}
use mathlib.Core.Option.{Option, none, some}
use lib.Dec.{eqb}
use Rattle.model.specs.Notation.{if◌then◌otherwise◌, is_none}
use Rattle.model.specs.Limits.{Edition}
use Rattle.model.specs.Numbers as refusal
use Rattle.model.specs.Bytes.{Bytes, behind, lines_of}
use Rattle.model.specs.Keys.{Key}
use Rattle.model.specs.Lines.{first_line, is_read, named_edition, Line, attr, op, atom, holder, parent, member, value, rule, read_line}
use Rattle.model.specs.Declarations.{Declarations}
use Rattle.model.specs.State.{State, empty, declare, after}
use Rattle.model.specs.Refusals.{too_long, wrong_first_line, wrong_table, line_refusal}
use Rattle.model.specs.Load
use Rattle.model.specs.Load.{read_on, stepped, key_of, refused_at, other_lines}
use Rattle.model.specs.Edits
use Rattle.model.specs.Ledger.{Call, edition_for, step, with_table, without_table}
use Rattle.model.proofs.Options.{parts}
use Rattle.model.proofs.Accepted.{edit-declared}

-- ---- the edition that a file names

-- it is one that is read
pub named-read : (file : Bytes) → is_read (named_edition file) ≡ true
unfolding named_edition
named-read file = go (is_read Edition.second && begun) refl
  where
    begun : Bool
    begun = not (is_none (behind (first_line Edition.second) file))

    go : (b : Bool) → (is_read Edition.second && begun) ≡ b → is_read (if b then Edition.second otherwise Edition.first) ≡ true
    go true e = (parts (is_read Edition.second) begun e).0
    go false e = refl

-- a file that begins with the first line of an edition that is read names that edition
pub named_by : (e : Edition) (rest : Bytes) → is_read e ≡ true → named_edition (first_line e ++ rest) ≡ e
unfolding named_edition
named_by Edition.first rest h = refl
named_by Edition.second rest h =
    ap (λ (b : Bool). if b && not (is_none (behind (first_line Edition.second) (first_line Edition.second ++ rest))) then Edition.second otherwise Edition.first) h

-- so far that is the first edition alone
pub names-first : (file : Bytes) → named_edition file ≡ Edition.first
unfolding named_edition
names-first file = refl

-- ---- loads, edits and calls

declare-edition : (l : Line) (D : Declarations) → (declare l D).edition ≡ D.edition
declare-edition (attr s n t) D = refl
declare-edition (op n) D = refl
declare-edition (atom s n a) D = refl
declare-edition (holder s n) D = refl
declare-edition (parent c g) D = refl
declare-edition (member p g) D = refl
declare-edition (value h n a) D = refl
declare-edition (rule o ts) D = refl

stepped-edition : (S : State) (o : Option Line) → (stepped S o).declared.edition ≡ S.declared.edition
unfolding after
stepped-edition S none = refl
stepped-edition S (some l) = declare-edition l S.declared

read-edition : (edition : Edition) (S : State) (previous : Option Key) (n : ℕ) (ls : List Bytes) → S.declared.edition ≡ edition
    → (read_on edition S previous n ls).state.declared.edition ≡ edition
unfolding read_on
read-edition edition S previous n [] same = same
read-edition edition S previous n (l ∷ ls) same = go (eqb (line_refusal S previous l) 0) (λ T key e. read-edition edition T key (suc n) ls e)
  where
    go : (b : Bool) → ((T : State) (key : Option Key) → T.declared.edition ≡ edition → (read_on edition T key (suc n) ls).state.declared.edition ≡ edition)
        → (if b then read_on edition (stepped S (read_line l)) (key_of l) (suc n) ls otherwise refused_at edition (line_refusal S previous l) (suc n)).state.declared.edition ≡ edition
    go true more = more (stepped S (read_line l)) (key_of l) (stepped-edition S (read_line l) ∙ same)
    go false more = refl

-- "A refused load leaves an empty book of the edition that its first line names, else edition 1"; an accepted one leaves that edition too
pub load-edition : (file : Bytes) → (Load.load file).state.declared.edition ≡ named_edition file
unfolding Load.load
load-edition file = go (too_long file) (wrong_first_line file)
  where
    go : (b c : Bool)
        → (if b then refused_at (named_edition file) refusal.too_long 0 otherwise (if c then refused_at (named_edition file) refusal.wrong_first_line 1
        otherwise read_on (named_edition file) (empty (named_edition file)) none 1 (other_lines (lines_of file)))).state.declared.edition ≡ named_edition file
    go true c = refl
    go false true = refl
    go false false = read-edition (named_edition file) (empty (named_edition file)) none 1 (other_lines (lines_of file)) refl

pub edit-edition : (S : State) (line : Bytes) → (Edits.edit S line).state.declared.edition ≡ S.declared.edition
edit-edition S line = ap (λ (D : Declarations). D.edition) (edit-declared S line)

-- the state behind a call has the edition whose table the call was tested for
pub step-edition : (words : ℕ) (S : State) (c : Call) → (step words S c).state.declared.edition ≡ edition_for S c
unfolding step
step-edition words S c = go (wrong_table (edition_for S c) words) c
  where
    go : (b : Bool) (c : Call) → (if b then without_table S c otherwise with_table S c).state.declared.edition ≡ edition_for S c
    go true (Call.load file) = refl
    go true (Call.edit line) = refl
    go true (Call.request block) = refl
    go false (Call.load file) = load-edition file
    go false (Call.edit line) = edit-edition S line
    go false (Call.request block) = refl
