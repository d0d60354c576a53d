-- Corners of edits: number, count and joins. The letters name the decisions in docs/DECISIONS.md. By computation; assumes nothing.
use Prim.Native.Nat.{ℕ}
use Prim.Native.String.{String}
use mathlib.Core.Path.{refl}
use mathlib.Core.List.{List, [], ◌∷◌, ◌++◌}
use lib.ListN.{replicate}
use Rattle.model.specs.Limits.{Edition}
use Rattle.model.specs.Bytes.{Bytes, bytes}
use Rattle.model.specs.State.{State, empty}
use Rattle.model.specs.Edits.{edit}
use Rattle.model.specs.Valley.{valley}
use Rattle.model.proofs.Computing.{computing}
use Rattle.model.proofs.Cases.{Agree, ◌yields◌}

abbrev pub answer : State → Bytes → ℕ × ℕ × ℕ
answer S line = let e = edit S line in (e.number, e.changed, e.joins)

-- E01 to E08, on the valley file
abbrev pub edits : List (String × (ℕ × ℕ × ℕ))
edits =
    "+rights=1\n" yields (4, 0, 0)
    ∷ "+end=\n" yields (4, 0, 0)
    ∷ "++parent=season,day\n" yields (4, 0, 0)
    ∷ "+ parent=season,day\n" yields (4, 0, 0)
    ∷ "parent=season,day\n" yields (4, 0, 0)
    ∷ "" yields (4, 0, 0)
    ∷ "+" yields (4, 0, 0)
    ∷ "-parent=season,day" yields (4, 0, 0)
    ∷ "-parent=season,day\n\n" yields (4, 0, 0)
    ∷ "-parent=season,day\nx" yields (4, 0, 0)
    ∷ "+attr=user,z,int\n" yields (13, 0, 0)
    ∷ "-op=,,,\n" yields (13, 0, 0)
    ∷ "+rule=pass,\n" yields (13, 0, 0)
    ∷ "+user=p18\n" yields (13, 0, 0)
    ∷ "-parent=p17,nn\n" yields (8, 0, 0)
    ∷ "-parent=p17,day\n" yields (9, 0, 0)
    ∷ "-parent=day,day\n" yields (14, 0, 0)
    ∷ "+parent=day,day\n" yields (12, 0, 0)
    ∷ "-value=day,zone,7\n" yields (8, 0, 0)
    ∷ "-value=day,zone,2\n" yields (14, 0, 0)
    ∷ "+parent=season,day\n" yields (10, 0, 0)
    ∷ "+parent=admin,day\n" yields (9, 0, 0)
    ∷ "+parent=day\n" yields (6, 0, 0)
    ∷ "+value=p17,zone,1\n" yields (0, 0, 2)
    ∷ "-member=p17,season\n" yields (0, 1, 1)
    ∷ "-parent=season,day\n" yields (0, 2, 3)
    ∷ "-value=day,kind,\"day\"\n" yields (0, 3, 5)
    ∷ []

pub edits-agree : Agree (λ text. answer valley (bytes text)) edits
unfolding computing
edits-agree = refl

-- E07: the sign is not counted in the length
abbrev pub long_edits : List (Bytes × (ℕ × ℕ × ℕ))
long_edits =
    (bytes "+member=" ++ replicate 248 97 ++ bytes "\n") yields (6, 0, 0)
    ∷ (bytes "+member=" ++ replicate 249 97 ++ bytes "\n") yields (4, 0, 0)
    ∷ []

pub long-edits-agree : Agree (answer valley) long_edits
unfolding computing
long-edits-agree = refl

-- L02: admin is in the empty D
abbrev pub empty_edits : List (String × (ℕ × ℕ × ℕ))
empty_edits =
    "+parent=admin,admin\n" yields (9, 0, 0)
    ∷ "-parent=admin,admin\n" yields (9, 0, 0)
    ∷ "+parent=a,b\n" yields (8, 0, 0)
    ∷ "+value=admin,a,1\n" yields (8, 0, 0)
    ∷ []

pub empty-edits-agree : Agree (λ text. answer (empty Edition.first) (bytes text)) empty_edits
unfolding computing
empty-edits-agree = refl
