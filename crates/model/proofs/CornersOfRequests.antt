-- Corners of pass blocks, of tables of another length and of the C call. The letters name the decisions in docs/DECISIONS.md. By computation; assumes nothing.
use Prim.Native.Nat.{ℕ}
use mathlib.Core.Path.{refl}
use mathlib.Core.List.{List, [], ◌∷◌}
use lib.ListN.{replicate}
use Rattle.model.specs.Limits.{Edition}
use Rattle.model.specs.Bytes.{Bytes, bytes}
use Rattle.model.specs.State.{empty}
use Rattle.model.specs.Load.{load}
use Rattle.model.specs.Causes.{absent}
use Rattle.model.specs.Decision.{Decision, permit, deny, undefined, refused, decide}
use Rattle.model.specs.Ledger.{Call, Answer, loaded, edited, decided, step}
use Rattle.model.specs.Host.{host_call}
use Rattle.model.specs.Valley.{lines, valley, valley_file}
use Rattle.model.proofs.Computing.{computing}
use Rattle.model.proofs.Cases.{Agree, ◌yields◌}

-- B01 to B07, on the valley file: p17 is holder 4, g2 holder 5; attribute 1 is user.zone, 2 user.staff, 3 object.zone, 4 env.hour
abbrev pub blocks : List (List ℕ × Decision)
blocks =
    [] yields refused 15
    ∷ (1 ∷ 4 ∷ 5 ∷ 0 ∷ 3 ∷ 0 ∷ 0 ∷ 0 ∷ 0 ∷ []) yields refused 15
    ∷ (2 ∷ 4 ∷ 5 ∷ 0 ∷ 3 ∷ 0 ∷ 0 ∷ 0 ∷ 0 ∷ 0 ∷ []) yields refused 15
    ∷ (1 ∷ 4 ∷ 5 ∷ 0 ∷ 3 ∷ 0 ∷ 0 ∷ 0 ∷ 0 ∷ 1 ∷ []) yields refused 15
    ∷ (1 ∷ 4 ∷ 5 ∷ 0 ∷ 3 ∷ 0 ∷ 0 ∷ 0 ∷ 1 ∷ 0 ∷ []) yields refused 15
    ∷ (1 ∷ 4 ∷ 5 ∷ 0 ∷ 3 ∷ 0 ∷ 0 ∷ 0 ∷ 9 ∷ 0 ∷ replicate 45 0) yields refused 15
    ∷ (1 ∷ 0 ∷ 5 ∷ 0 ∷ 3 ∷ 0 ∷ 0 ∷ 0 ∷ 0 ∷ 0 ∷ []) yields refused 16
    ∷ (1 ∷ 1 ∷ 5 ∷ 0 ∷ 3 ∷ 0 ∷ 0 ∷ 0 ∷ 0 ∷ 0 ∷ []) yields refused 16
    ∷ (1 ∷ 4 ∷ 4 ∷ 0 ∷ 3 ∷ 0 ∷ 0 ∷ 0 ∷ 0 ∷ 0 ∷ []) yields refused 16
    ∷ (1 ∷ 4 ∷ 9 ∷ 0 ∷ 3 ∷ 0 ∷ 0 ∷ 0 ∷ 0 ∷ 0 ∷ []) yields refused 16
    ∷ (1 ∷ 4 ∷ 5 ∷ 1 ∷ 3 ∷ 0 ∷ 0 ∷ 0 ∷ 0 ∷ 0 ∷ []) yields refused 16
    ∷ (1 ∷ 4 ∷ 5 ∷ 0 ∷ 3 ∷ 0 ∷ 0 ∷ 0 ∷ 1 ∷ 0 ∷ 3 ∷ 2 ∷ 0 ∷ 0 ∷ 0 ∷ []) yields refused 16
    ∷ (1 ∷ 4 ∷ 5 ∷ 0 ∷ 3 ∷ 0 ∷ 0 ∷ 0 ∷ 1 ∷ 0 ∷ 9 ∷ 2 ∷ 0 ∷ 0 ∷ 0 ∷ []) yields refused 16
    ∷ (1 ∷ 4 ∷ 5 ∷ 9 ∷ 4 ∷ 0 ∷ 0 ∷ 0 ∷ 0 ∷ 0 ∷ []) yields refused 16
    ∷ (1 ∷ 4 ∷ 5 ∷ 0 ∷ 8 ∷ 0 ∷ 0 ∷ 0 ∷ 0 ∷ 0 ∷ []) yields refused 17
    ∷ (1 ∷ 4 ∷ 5 ∷ 0 ∷ 3 ∷ 0 ∷ 0 ∷ 128 ∷ 0 ∷ 0 ∷ []) yields refused 17
    ∷ (1 ∷ 4 ∷ 5 ∷ 0 ∷ 1 ∷ 0 ∷ 0 ∷ 0 ∷ 1 ∷ 0 ∷ 4 ∷ 10 ∷ 0 ∷ 0 ∷ 0 ∷ []) yields undefined absent
    ∷ (1 ∷ 4 ∷ 5 ∷ 0 ∷ 2 ∷ 0 ∷ 0 ∷ 0 ∷ 2 ∷ 0 ∷ 4 ∷ 99 ∷ 0 ∷ 0 ∷ 0 ∷ 4 ∷ 1 ∷ 0 ∷ 0 ∷ 0 ∷ []) yields permit 0
    ∷ []

pub blocks-agree : Agree (decide valley) blocks
unfolding computing
blocks-agree = refl

-- B04, B08, B09, P14: two operations and a bool of the block
abbrev pub small_file : Bytes
small_file =
    lines ("rights=1" ∷ "attr=env,snow,bool" ∷ "op=idle" ∷ "op=lift" ∷ "op=shut" ∷ "user=u" ∷ "object=o" ∷ "rule=idle,TRUE" ∷ "rule=lift,env.snow" ∷ "rule=lift,NOT env.snow" ∷ [])

abbrev pub small_blocks : List (List ℕ × Decision)
small_blocks =
    (1 ∷ 1 ∷ 2 ∷ 2 ∷ 0 ∷ 0 ∷ 0 ∷ 0 ∷ 0 ∷ 0 ∷ []) yields deny
    ∷ (1 ∷ 1 ∷ 2 ∷ 1 ∷ 0 ∷ 0 ∷ 0 ∷ 0 ∷ 0 ∷ 0 ∷ []) yields undefined absent
    ∷ (1 ∷ 1 ∷ 2 ∷ 1 ∷ 0 ∷ 0 ∷ 0 ∷ 0 ∷ 1 ∷ 0 ∷ 0 ∷ 0 ∷ 0 ∷ 0 ∷ 0 ∷ []) yields permit 2
    ∷ (1 ∷ 1 ∷ 2 ∷ 1 ∷ 0 ∷ 0 ∷ 0 ∷ 0 ∷ 1 ∷ 0 ∷ 0 ∷ 1 ∷ 0 ∷ 0 ∷ 0 ∷ []) yields permit 1
    ∷ (1 ∷ 1 ∷ 2 ∷ 1 ∷ 0 ∷ 0 ∷ 0 ∷ 0 ∷ 1 ∷ 0 ∷ 0 ∷ 0 ∷ 1 ∷ 0 ∷ 0 ∷ []) yields refused 16
    ∷ (1 ∷ 1 ∷ 2 ∷ 0 ∷ 0 ∷ 0 ∷ 0 ∷ 0 ∷ 1 ∷ 0 ∷ 0 ∷ 2 ∷ 0 ∷ 0 ∷ 0 ∷ []) yields refused 16
    ∷ []

pub small-blocks-agree : Agree (decide (load small_file).state) small_blocks
unfolding computing
small-blocks-agree = refl

-- L03, L04: what a call answers on a table of so many words
abbrev pub calls : List ((ℕ × Call) × Answer)
calls =
    (1023, Call.load valley_file) yields loaded 1 0
    ∷ (1025, Call.edit (bytes "x")) yields edited 1 0 0
    ∷ (0, Call.request []) yields decided (refused 1)
    ∷ (1024, Call.load valley_file) yields loaded 0 27
    ∷ (1024, Call.load (bytes "rights=1\nfoo\n")) yields loaded 4 2
    ∷ []

pub calls-agree : Agree (λ (words, c). (step words valley c).answer) calls
unfolding computing
calls-agree = refl

-- a state of the second edition goes with 4,096 words, a load with those of the edition that its file names
abbrev pub second_calls : List ((ℕ × Call) × Answer)
second_calls =
    (1024, Call.request []) yields decided (refused 1)
    ∷ (4096, Call.request []) yields decided (refused 15)
    ∷ (1024, Call.edit (bytes "x")) yields edited 1 0 0
    ∷ (4096, Call.edit (bytes "x")) yields edited 4 0 0
    ∷ (4096, Call.load (bytes "rights=1\n")) yields loaded 1 0
    ∷ (1024, Call.load (bytes "rights=1\n")) yields loaded 0 1
    ∷ (4096, Call.load (bytes "rights=2\n")) yields loaded 1 0
    ∷ (1024, Call.load (bytes "rights=2\n")) yields loaded 3 1
    ∷ []

pub second-calls-agree : Agree (λ (words, c). (step words (empty Edition.second) c).answer) second_calls
unfolding computing
second-calls-agree = refl

-- L05: the C call, by the valley file's block, and by the length of the table
abbrev pub host_calls : List ((Bytes × List ℕ × ℕ) × ℕ)
host_calls =
    (valley_file, 1 ∷ 4 ∷ 5 ∷ 0 ∷ 3 ∷ 0 ∷ 0 ∷ 0 ∷ 1 ∷ 0 ∷ 4 ∷ 10 ∷ 0 ∷ 0 ∷ 0 ∷ [], 1024) yields 0
    ∷ (valley_file, 1 ∷ 4 ∷ 5 ∷ 0 ∷ 3 ∷ 0 ∷ 0 ∷ 0 ∷ 0 ∷ 0 ∷ [], 1024) yields 65
    ∷ (small_file, 1 ∷ 1 ∷ 2 ∷ 2 ∷ 0 ∷ 0 ∷ 0 ∷ 0 ∷ 0 ∷ 0 ∷ [], 1024) yields 64
    ∷ (valley_file, [], 1024) yields 15
    ∷ (bytes "rights=1\nfoo\n", [], 1024) yields 4
    ∷ (valley_file, [], 1000) yields 1
    ∷ []

pub host-calls-agree : Agree (λ (file, block, words). host_call file block words) host_calls
unfolding computing
host-calls-agree = refl
