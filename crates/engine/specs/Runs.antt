-- Runs: what a host sees that makes calls one after another, each on the book and the table that the one before it left.
-- Assumes nothing: these are definitions.
use Rattle.std.specs.Prelude.{ℕ, ◌≡◌, List, [], ◌∷◌, ◌++◌}
use Rattle.model.specs.Limits.{Edition}
use Rattle.model.specs.Bytes.{Bytes}
use Rattle.model.specs.State.{State, empty}
use Rattle.model.specs.Ledger.{Call, load, edit, request, Answer, Outcome, outcome}
use Rattle.book.specs.Calls.{Loads, Edits, AnswersRequest}

-- what is lent to a call: the book's words, its rules' bytes, and the table
pub record Memory : Type 0 where
  pub book : List ℕ
  pub code : Bytes
  pub words : List ℕ

-- what each call does by its promise: from what it was lent to its answer and what it leaves. A request writes nothing, an edit no rule
pub data Does : Call → Memory → Answer → Memory → Type 0 where
  loads : {file : Bytes} {a : Answer} {before after : Memory} → Loads file before.words a after.words after.book after.code → Does (load file) before a after
  edits : {line : Bytes} {a : Answer} {before after : Memory} → Edits line before.book before.words a after.words after.book → after.code ≡ before.code
      → Does (edit line) before a after
  decides : {block : Bytes} {a : Answer} {lent : Memory} → AnswersRequest block lent.book lent.code lent.words a → Does (request block) lent a lent

-- what is seen after a call
pub record CallSeen : Type 0 where
  pub answer : Answer
  pub left : Memory

-- what is compared after a call: "the answer with all it carries …, and all 1,024 words"
pub record AfterCall : Type 0 where
  pub answer : Answer
  pub words : List ℕ

abbrev pub compared : Answer → List ℕ → AfterCall
compared a w = record { answer = a; words = w }

-- as a host sees it, and as the ledger has it
abbrev pub seen : CallSeen → AfterCall
seen s = compared s.answer s.left.words

abbrev pub posted : Outcome → AfterCall
posted o = compared o.answer o.words

-- calls one after another
pub data Run : Memory → List Call → List CallSeen → Type 0 where
  end : {lent : Memory} → Run lent [] []
  next : {before after : Memory} {c : Call} {calls : List Call} {a : Answer} {rest : List CallSeen} → Does c before a after → Run after calls rest
      → Run before (c ∷ calls) (record { answer = a; left = after } ∷ rest)

-- the state and the table with which a list of the ledger's outcomes ends
abbrev pub end_state : State → List Outcome → State
end_state S [] = S
end_state S (o ∷ rest) = end_state o.state rest

abbrev pub end_words : List ℕ → List Outcome → List ℕ
end_words words [] = words
end_words words (o ∷ rest) = end_words o.words rest

-- where a list of calls that begins with a load has led, from what was lent at first: the ledger's state, and what is lent to the next call
pub data Leads (first : Memory) : List Call → State → Memory → Type 0 where
  from-load : {file : Bytes} {a : Answer} {after : Memory} → Does (load file) first a after → Leads first (load file ∷ []) (outcome (empty Edition.first) first.words (load file)).state after
  from-there : {calls : List Call} {S : State} {c : Call} {a : Answer} {before after : Memory} → Leads first calls S before → Does c before a after
      → Leads first (calls ++ c ∷ []) (outcome S before.words c).state after
