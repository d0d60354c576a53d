-- The lines `key=fields`, read from bytes and written as bytes.
use Rattle.std.specs.Prelude.{Bool, true, false, ◌&&◌, not, List, ◌++◌, length, leb}
use Rattle.std.proofs.Math.Option.{Option, some}
use Rattle.model.specs.Notation.{if◌then◌otherwise◌, ◌>>=◌, is_none, only_if, all_of}
use Rattle.model.specs.Limits.{Edition, line_bytes}
use Rattle.model.specs.Bytes.{Bytes, bytes, behind, cut_at, content}
use Rattle.model.specs.Names.{is_name, read_name}
use Rattle.model.specs.Attributes.{Source, AtomType, source_word, type_word, read_source, read_type}
use Rattle.model.specs.Atoms.{Atom, read_atom, write_atom, is_atom}
use Rattle.model.specs.Keys.{Key, read_key}
use Rattle.model.specs.Tokens.{Token, is_token, tokens_of, Spells, spelled}
use Rattle.model.specs.Grammar.{read_policy}
use Rattle.model.specs.Declarations.{Sort, sort_word, is_sort}

-- "The first is `rights=1`"; document 02, E5: "Edition 2 is named only by a first line that is exactly `rights=2` with its byte 10"
abbrev pub first_line : Edition → Bytes
first_line Edition.first = bytes "rights=1\n"
first_line Edition.second = bytes "rights=2\n"

-- whether a file may begin with the first line of that edition: so far `rights=1` alone is one
abbrev pub is_read : Edition → Bool
is_read Edition.first = true
is_read Edition.second = false

-- "the edition that its first line names, else edition 1"
unfoldable pub named_edition : Bytes → Edition
named_edition file =
    if is_read Edition.second && not (is_none (behind (first_line Edition.second) file)) then Edition.second otherwise Edition.first

-- the lines of the eleven keys; `holder` is those of the keys ugroup, ogroup, user and object
pub data Line : Type 0 where
  attr : (source : Source) (name : Bytes) (type : AtomType) → Line
  op : (name : Bytes) → Line
  atom : (source : Source) (name : Bytes) (value : Atom) → Line
  holder : (sort : Sort) (name : Bytes) → Line
  parent : (child group : Bytes) → Line
  member : (party group : Bytes) → Line
  value : (holder name : Bytes) (value : Atom) → Line
  rule : (operation : Bytes) (policy : List Token) → Line

-- "`attr=SRC,NAME,TYPE`"
unfoldable pub read_attr : Bytes → Option Line
read_attr f = do
  (s, rest) ← cut_at "," f
  (n, t) ← cut_at "," rest
  source ← read_source s
  name ← read_name n
  type ← read_type t
  some (attr source name type)

-- "`op=NAME`"
unfoldable pub read_op : Bytes → Option Line
read_op f = read_name f >>= λ name. some (op name)

-- "`atom=SRC.NAME,ATOM`"
unfoldable pub read_pair : Bytes → Option Line
read_pair f = do
  (a, v) ← cut_at "," f
  (s, n) ← cut_at "." a
  source ← read_source s
  name ← read_name n
  atom' ← read_atom v
  some (atom source name atom')

-- "`ugroup=`, `ogroup=`, `user=`, `object=` NAME"
unfoldable pub read_holder : Sort → Bytes → Option Line
read_holder sort f = read_name f >>= λ name. some (holder sort name)

-- "`parent=CHILD,PARENT`", "`member=PARTY,GROUP`"
unfoldable pub read_two : (Bytes → Bytes → Line) → Bytes → Option Line
read_two line f = do
  (a, b) ← cut_at "," f
  lower ← read_name a
  upper ← read_name b
  some (line lower upper)

-- "`value=HOLDER,NAME,ATOM`"
unfoldable pub read_value : Bytes → Option Line
read_value f = do
  (h, rest) ← cut_at "," f
  (n, v) ← cut_at "," rest
  holder' ← read_name h
  name ← read_name n
  atom' ← read_atom v
  some (value holder' name atom')

-- "`rule=OP,POLICY`": the tokens have to be those of a policy
unfoldable pub read_rule : Bytes → Option Line
read_rule f = do
  (o, p) ← cut_at "," f
  operation ← read_name o
  tokens ← tokens_of p
  policy ← read_policy tokens
  some (rule operation tokens)

-- "commas part the fields, and the last field runs to the line's end, commas included"
abbrev pub read_fields : Key → Bytes → Option Line
read_fields Key.attr f = read_attr f
read_fields Key.op f = read_op f
read_fields Key.atom f = read_pair f
read_fields Key.ugroup f = read_holder Sort.ugroup f
read_fields Key.ogroup f = read_holder Sort.ogroup f
read_fields Key.user f = read_holder Sort.user f
read_fields Key.object f = read_holder Sort.object f
read_fields Key.parent f = read_two parent f
read_fields Key.member f = read_two member f
read_fields Key.value f = read_value f
read_fields Key.rule f = read_rule f

-- "The first `=` ends the key": a key and the fields behind it; none without `=` or with an unknown key
unfoldable pub read_keyed : Bytes → Option (Key × Bytes)
read_keyed s = do
  (k, fields) ← cut_at "=" s
  key ← read_key k
  some (key, fields)

-- "Lines end with byte 10 and have at most 255 bytes before it": the key and the fields of a line that is so framed and has a known key
unfoldable pub framed : Bytes → Option (Key × Bytes)
framed line = content line >>= λ l. only_if (leb (length l) line_bytes) l >>= read_keyed

-- a line, given with its byte 10
unfoldable pub read_line : Bytes → Option Line
read_line line = framed line >>= λ (key, fields). read_fields key fields

-- how a line is written, without its byte 10; of a rule "one space stands only between two neighbouring words" (document 02, E1)
abbrev pub write_line : Line → Bytes
write_line (attr s n t) = bytes "attr=" ++ source_word s ++ bytes "," ++ n ++ bytes "," ++ type_word t
write_line (op n) = bytes "op=" ++ n
write_line (atom s n a) = bytes "atom=" ++ source_word s ++ bytes "." ++ n ++ bytes "," ++ write_atom a
write_line (holder s n) = sort_word s ++ bytes "=" ++ n
write_line (parent c g) = bytes "parent=" ++ c ++ bytes "," ++ g
write_line (member p g) = bytes "member=" ++ p ++ bytes "," ++ g
write_line (value h n a) = bytes "value=" ++ h ++ bytes "," ++ n ++ bytes "," ++ write_atom a
write_line (rule o ts) = bytes "rule=" ++ o ++ bytes "," ++ spelled ts

-- the lines that stand in files: their names, atoms and policies are well formed, and admin is no key
abbrev pub is_line : Line → Bool
is_line (attr s n t) = is_name n
is_line (op n) = is_name n
is_line (atom s n a) = is_name n && is_atom a
is_line (holder s n) = not (is_sort s Sort.admin) && is_name n
is_line (parent c g) = is_name c && is_name g
is_line (member p g) = is_name p && is_name g
is_line (value h n a) = is_name h && is_name n && is_atom a
is_line (rule o ts) = is_name o && all_of is_token ts && not (is_none (read_policy ts))

-- Writes l b: the bytes b, without byte 10, write the line l. Any spelling of its tokens may stand for the policy of a rule
pub data Writes : Line → Bytes → Type 0 where
  as_written : (l : Line) → Writes l (write_line l)
  any-spelling : (o : Bytes) {ts : List Token} {p : Bytes} → Spells ts p → Writes (rule o ts) (bytes "rule=" ++ o ++ bytes "," ++ p)
