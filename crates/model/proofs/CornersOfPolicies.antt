-- Corners of policies: the refusal (6 or 7) or the value of a text. The letters name the decisions in docs/DECISIONS.md. By computation; assumes nothing.
use Prim.Native.Nat.{ℕ}
use Prim.Native.String.{String}
use mathlib.Core.Path.{refl}
use mathlib.Core.Bool.{true, false}
use mathlib.Core.List.{List, [], ◌∷◌}
use mathlib.Core.Option.{Option, none, some}
use Rattle.model.specs.Notation.{if◌then◌otherwise◌, ◌>>=◌}
use Rattle.model.specs.Bytes.{Bytes, bytes, same}
use Rattle.model.specs.Attributes.{Source}
use Rattle.model.specs.Atoms.{Atom}
use Rattle.model.specs.Tokens.{tokens_of}
use Rattle.model.specs.Grammar.{Policy, read_policy, too_large}
use Rattle.model.specs.Truth.{Truth, TRUE, FALSE, UNDEF}
use Rattle.model.specs.Meaning.{meaning}
use Rattle.model.proofs.Computing.{computing}
use Rattle.model.proofs.Cases.{Agree, ◌yields◌}

-- a refusal, or a value
pub data Judged : Type 0 where
  refused : ℕ → Judged
  value : Truth → Judged

-- user.zones is {1, 9}, env.snow is FALSE, user.both is {TRUE, FALSE}, user.kind is {"day", "season"}; any other attribute is absent
abbrev pub values : Source → Bytes → List Atom
values s n =
    if same n (bytes "zones") then Atom.int 1 ∷ Atom.int 9 ∷ []
    otherwise (if same n (bytes "snow") then Atom.bool false ∷ []
    otherwise (if same n (bytes "both") then Atom.bool true ∷ Atom.bool false ∷ []
    otherwise (if same n (bytes "kind") then Atom.str (bytes "day") ∷ Atom.str (bytes "season") ∷ [] otherwise [])))

abbrev pub judged_policy : Option Policy → Judged
judged_policy none = refused 6
judged_policy (some p) = if too_large p then refused 7 otherwise value (meaning values p)

abbrev pub judged : String → Judged
judged text = judged_policy (tokens_of (bytes text) >>= read_policy)

-- P01, P05 to P08: tokens, words, atoms, sets
abbrev pub tokens : List (String × Judged)
tokens =
    "" yields refused 6
    ∷ "   " yields refused 6
    ∷ "TRUE\t" yields refused 6
    ∷ "  TRUE  " yields value TRUE
    ∷ "user.zone.x" yields refused 6
    ∷ "user.aIN" yields refused 6
    ∷ "TRUEAND TRUE" yields refused 6
    ∷ "1.5 = 1" yields refused 6
    ∷ "users.zone" yields refused 6
    ∷ "User.zone" yields refused 6
    ∷ "zone" yields refused 6
    ∷ "true" yields refused 6
    ∷ "user.and" yields value UNDEF
    ∷ "user .zones" yields refused 6
    ∷ "1<2" yields value TRUE
    ∷ "\"a\"IN{\"a\"}" yields value TRUE
    ∷ "(TRUE)AND(TRUE)" yields value TRUE
    ∷ "\"a\"=\"a\"AND TRUE" yields value TRUE
    ∷ "1 IN{1}" yields value TRUE
    ∷ "1IN{1}" yields refused 6
    ∷ "user.zones=1AND TRUE" yields refused 6
    ∷ "1 < = 2" yields refused 6
    ∷ "1 =< 2" yields refused 6
    ∷ "1 == 1" yields refused 6
    ∷ "1 ! = 2" yields refused 6
    ∷ "01 = 1" yields refused 6
    ∷ "4294967296 = 1" yields refused 6
    ∷ "\"1234567890123\" = \"a\"" yields refused 6
    ∷ "\"AND OR\" = \"AND OR\"" yields value TRUE
    ∷ "1 IN {}" yields refused 6
    ∷ "1 IN {1, \"a\"}" yields refused 6
    ∷ "1 IN {TRUE}" yields refused 6
    ∷ "1 IN {1,,2}" yields refused 6
    ∷ "1 IN {1,2,}" yields refused 6
    ∷ "1 IN {1,1,1,1,1,1,1,1}" yields value TRUE
    ∷ "1 IN {1,1,1,1,1,1,1,1,1}" yields refused 7
    ∷ "1 IN {1,2,3,4,5,6,7,8,\"9\"}" yields refused 6
    ∷ []

pub tokens-agree : Agree judged tokens
unfolding computing
tokens-agree = refl

-- P02 to P04, P09, P11, P15, P16: the grammar
abbrev pub grammar : List (String × Judged)
grammar =
    "1" yields refused 6
    ∷ "\"a\"" yields refused 6
    ∷ "{1}" yields refused 6
    ∷ "user.kind" yields value UNDEF
    ∷ "NOT user.kind = \"day\"" yields refused 6
    ∷ "NOT NOT TRUE" yields refused 6
    ∷ "NOT (NOT TRUE)" yields value TRUE
    ∷ "NOT (1 = 1)" yields value FALSE
    ∷ "NOT TRUE AND FALSE" yields value FALSE
    ∷ "TRUE = TRUE" yields refused 6
    ∷ "1 = TRUE" yields refused 6
    ∷ "UNDEF = 1" yields refused 6
    ∷ "user.both = env.snow" yields value TRUE
    ∷ "(1) = 1" yields refused 6
    ∷ "()" yields refused 6
    ∷ "((TRUE)" yields refused 6
    ∷ "TRUE)" yields refused 6
    ∷ "((((((((TRUE))))))))" yields value TRUE
    ∷ "(((((((((TRUE)))))))))" yields refused 7
    ∷ "(((((((((TRUE))))))))" yields refused 6
    ∷ "FALSE AND TRUE OR TRUE" yields value TRUE
    ∷ "TRUE OR TRUE AND FALSE" yields value TRUE
    ∷ "UNDEF AND FALSE" yields value FALSE
    ∷ "FALSE AND UNDEF OR UNDEF" yields value UNDEF
    ∷ "TRUE AND" yields refused 6
    ∷ "1 = 1 = 1" yields refused 6
    ∷ "1 IN {1} IN {1}" yields refused 6
    ∷ "1 = \"a\"" yields value UNDEF
    ∷ []

pub grammar-agree : Agree judged grammar
unfolding computing
grammar-agree = refl

-- P10: terms are counted at every depth, a parenthesised policy is not one
abbrev pub terms : List (String × Judged)
terms =
    "(TRUE OR TRUE OR TRUE OR TRUE OR TRUE OR TRUE OR TRUE OR TRUE) OR (TRUE OR TRUE OR TRUE OR TRUE OR TRUE OR TRUE OR TRUE OR TRUE)" yields value TRUE
    ∷ "(TRUE OR TRUE OR TRUE OR TRUE OR TRUE OR TRUE OR TRUE OR TRUE) OR (TRUE OR TRUE OR TRUE OR TRUE OR TRUE OR TRUE OR TRUE OR TRUE OR TRUE)" yields refused 7
    ∷ "1=2 OR (TRUE OR TRUE OR TRUE OR TRUE OR TRUE OR TRUE OR TRUE OR TRUE OR TRUE OR TRUE OR TRUE OR TRUE OR TRUE OR TRUE OR TRUE OR TRUE)" yields refused 7
    ∷ "1=2 OR (TRUE OR TRUE OR TRUE OR TRUE OR TRUE OR TRUE OR TRUE OR TRUE OR TRUE OR TRUE OR TRUE OR TRUE OR TRUE OR TRUE OR NOT TRUE)" yields value TRUE
    ∷ []

pub terms-agree : Agree judged terms
unfolding computing
terms-agree = refl

-- P12 to P14: comparisons, and attributes alone
abbrev pub comparisons : List (String × Judged)
comparisons =
    "user.zones != 1" yields value FALSE
    ∷ "user.zones != 5" yields value TRUE
    ∷ "user.none != 5" yields value UNDEF
    ∷ "{1,9} < {5}" yields value TRUE
    ∷ "{1,9} > {5}" yields value TRUE
    ∷ "{1,9} >= {10}" yields value FALSE
    ∷ "1 IN user.zones" yields value TRUE
    ∷ "user.zones IN 1" yields value TRUE
    ∷ "user.zones SUBSET {1,2,9}" yields value TRUE
    ∷ "user.zones SUBSET {1,2}" yields value FALSE
    ∷ "user.kind SUBSET {\"season\",\"day\"}" yields value TRUE
    ∷ "\"b\" < \"c\"" yields value UNDEF
    ∷ "\"a\" <= \"a\"" yields value UNDEF
    ∷ "user.both < user.both" yields value UNDEF
    ∷ "user.kind = 1" yields value UNDEF
    ∷ "4294967295 > 0" yields value TRUE
    ∷ "env.snow" yields value FALSE
    ∷ "env.none" yields value UNDEF
    ∷ "user.both" yields value TRUE
    ∷ "NOT user.both" yields value FALSE
    ∷ []

pub comparisons-agree : Agree judged comparisons
unfolding computing
comparisons-agree = refl
