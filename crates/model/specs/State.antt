-- The state that lines and edits change.
use Rattle.std.specs.Prelude.{[], ◌∷◌, ◌++◌, length}
use Rattle.std.proofs.Math.Option.{Option, none, some}
use Rattle.model.specs.Notation.{◌>>=◌, inserted}
use Rattle.model.specs.Limits.{Edition}
use Rattle.model.specs.Bytes.{Bytes}
use Rattle.model.specs.Lines.{Line, attr, op, atom, holder, parent, member, value, rule}
use Rattle.model.specs.Declarations.{Declarations, Attribute, Pair, Holder, Rule, nothing_declared, holder_number, sort_of, source_for, pair_number}
use Rattle.model.specs.Ties.{Tie, Ties, no_ties, added}

-- "State: declarations D of the file … and a set T of ties"; "The book, a value, holds the declarations and the ties"
pub record State : Type 0 where
  pub declared : Declarations
  pub ties : Ties

-- "the empty D and T"
abbrev pub empty : Edition → State
empty e = record { declared = nothing_declared e; ties = no_ties }

-- the tie of a parent, member or value line, the last of which "gives a declared pair"; none where one of its names or its pair is undeclared
abbrev pub tie_of : Declarations → Line → Option Tie
tie_of D (attr s n t) = none
tie_of D (op n) = none
tie_of D (atom s n a) = none
tie_of D (holder s n) = none
tie_of D (parent c g) = holder_number D c >>= λ child. holder_number D g >>= λ group. some (Tie.parent child group)
tie_of D (member p g) = holder_number D p >>= λ party. holder_number D g >>= λ group. some (Tie.member party group)
tie_of D (value h n a) = do
  k ← holder_number D h
  sort ← sort_of D k
  p ← pair_number D (source_for sort) n a
  some (Tie.value k p)
tie_of D (rule o ts) = none

-- one thing more at the end of a list, so with the next number
abbrev pub with_attribute : Attribute → Declarations → Declarations
with_attribute a D = record { edition = D.edition; attributes = D.attributes ++ a ∷ []; operations = D.operations; pairs = D.pairs; holders = D.holders; rules = D.rules }

abbrev pub with_operation : Bytes → Declarations → Declarations
with_operation n D = record { edition = D.edition; attributes = D.attributes; operations = D.operations ++ n ∷ []; pairs = D.pairs; holders = D.holders; rules = D.rules }

abbrev pub with_pair : Pair → Declarations → Declarations
with_pair p D = record { edition = D.edition; attributes = D.attributes; operations = D.operations; pairs = D.pairs ++ p ∷ []; holders = D.holders; rules = D.rules }

abbrev pub with_holder : Holder → Declarations → Declarations
with_holder h D = record { edition = D.edition; attributes = D.attributes; operations = D.operations; pairs = D.pairs; holders = inserted (λ g. g.number) h D.holders; rules = D.rules }

abbrev pub with_rule : Rule → Declarations → Declarations
with_rule r D = record { edition = D.edition; attributes = D.attributes; operations = D.operations; pairs = D.pairs; holders = D.holders; rules = D.rules ++ r ∷ [] }

-- what an accepted line declares
abbrev pub declare : Line → Declarations → Declarations
declare (attr s n t) D = with_attribute (record { source = s; name = n; type = t }) D
declare (op n) D = with_operation n D
declare (atom s n a) D = with_pair (record { source = s; name = n; atom = a }) D
declare (holder s n) D = with_holder (record { number = length D.holders; sort = s; name = n }) D
declare (parent c g) D = D
declare (member p g) D = D
declare (value h n a) D = D
declare (rule o ts) D = with_rule (record { operation = o; tokens = ts }) D

-- the ties with that of an accepted line, where it is a tie
abbrev pub tied : Option Tie → Ties → Ties
tied none T = T
tied (some t) T = added t T

-- "A file is read as its lines one after another; parent, member and value lines are ties"
unfoldable pub after : Line → State → State
after l S = record { declared = declare l S.declared; ties = tied (tie_of S.declared l) S.ties }
