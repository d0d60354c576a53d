-- An edit: one tie more or one less.
use Rattle.std.specs.Prelude.{ℕ, ◌+◌, Bool, ◌||◌, not, List, length, eqb}
use Rattle.std.specs.Bool.{beq}
use Rattle.std.proofs.Math.Option.{Option, none, some}
use Rattle.model.specs.Notation.{if◌then◌otherwise◌, ◌>>=◌, is_none, any_of, filter, count_of, sum_of, below}
use Rattle.model.specs.Bytes.{Bytes}
use Rattle.model.specs.Lines.{read_line}
use Rattle.model.specs.Declarations.{Declarations, holder_numbers_of}
use Rattle.model.specs.Ties.{Tie, Ties, parent, member, added, removed, edited_holder, is_below}
use Rattle.model.specs.Table.{effective_set}
use Rattle.model.specs.State.{State, tie_of}
use Rattle.model.specs.Refusals.{plus_line, signed_line, edit_refusal}

-- the tie that an edit adds or removes
unfoldable pub edited_tie : State → Bytes → Option Tie
edited_tie S line = signed_line line >>= read_line >>= tie_of S.declared

-- whether it adds: the sign is `+`
abbrev pub adds : Bytes → Bool
adds line = not (is_none (plus_line line))

-- "`+t` accepted adds t to T, `-t` removes it". An accepted edit has its tie: the clause for none is never met
abbrev pub edited_ties : Bool → Option Tie → Ties → Ties
edited_ties plus none T = T
edited_ties plus (some t) T = if plus then added t T otherwise removed t T

-- the sets of holder k on T and on U differ
unfoldable pub differs : Declarations → Ties → Ties → ℕ → Bool
differs D T U k = any_of (λ p. not (beq (effective_set D T k p) (effective_set D U k p))) (below (length D.pairs))

-- "An edit's count is the number of holders whose effective sets on T before it and on T after it differ"
unfoldable pub changes : Declarations → Ties → Ties → ℕ
changes D T U = count_of (differs D T U) (holder_numbers_of D)

-- document 02, E3: "the number of its ties up to a parent or group", of holder k among the holders hs
unfoldable pub ties_up : List ℕ → Ties → ℕ → ℕ
ties_up hs T k = count_of (λ g. T (parent k g)) hs + count_of (λ g. T (member k g)) hs

-- "the edited holder and each one below it"
abbrev pub edited_and_below : List ℕ → Ties → ℕ → List ℕ
edited_and_below hs T e = filter (λ k. eqb k e || is_below hs T k e) hs

-- "the number of set joins made: for the edited holder and each one below it, one plus the number of its ties up to a parent or group after the edit,
-- summed": of holder e, where U are the ties after the edit
unfoldable pub set_joins : Declarations → Ties → ℕ → ℕ
set_joins D U e = let hs = holder_numbers_of D in sum_of (λ k. 1 + ties_up hs U k) (edited_and_below hs U e)

-- the joins of an edit, by its tie. An accepted edit has one: the clause for none is never met
abbrev pub joins_of : Declarations → Option Tie → Ties → ℕ
joins_of D none U = 0
joins_of D (some t) U = set_joins D U (edited_holder t)

-- the number of the answer, its count and its joins, and the state it leaves
pub record Edited : Type 0 where
  pub number : ℕ
  pub changed : ℕ
  pub joins : ℕ
  pub state : State

-- an accepted edit: "The answer is 0 and the number of holders whose stored set changed"; document 02, E3: "The edit's answer carries also the number of
-- set joins made"
abbrev pub accepting : State → Bytes → Edited
accepting S line =
    let D = S.declared in
    let U = edited_ties (adds line) (edited_tie S line) S.ties in
    record { number = 0; changed = changes D S.ties U; joins = joins_of D (edited_tie S line) U; state = record { declared = D; ties = U } }

-- "a refused edit changes nothing"; its count is "0 if refused", and document 02, E3, has: "A refused edit reports 0"
abbrev pub refusing : State → Bytes → Edited
refusing S line = record { number = edit_refusal S line; changed = 0; joins = 0; state = S }

-- an edit
unfoldable pub edit : State → Bytes → Edited
edit S line = if eqb (edit_refusal S line) 0 then accepting S line otherwise refusing S line
