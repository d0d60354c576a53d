-- Document 02, E1: "The file as it stands now.", and E14: "Length told beforehand."
use Rattle.std.specs.Prelude.{ℕ, List, [], ◌∷◌, ◌++◌, length, drop}
use Rattle.std.proofs.Math.Option.{Option, some}
use Rattle.model.specs.Notation.{if◌then◌otherwise◌, ◌>>=◌, map, each, filter, nth, listed, below}
use Rattle.model.specs.Numbers as refusal
use Rattle.model.specs.Refusals.{does_not_fit}
use Rattle.model.specs.Bytes.{Bytes, newline}
use Rattle.model.specs.Declarations.{Declarations, Attribute, Pair, Holder, Rule, Sort, is_sort, holder_of, holder_numbers_of}
use Rattle.model.specs.Lines.{first_line, Line, attr, op, atom, holder, parent, member, value, rule, write_line}
use Rattle.model.specs.Ties.{Tie}
use Rattle.model.specs.State.{State}

-- the line of each thing that is declared
abbrev pub attribute_line : Attribute → Line
attribute_line a = attr a.source a.name a.type

abbrev pub pair_line : Pair → Line
pair_line p = atom p.source p.name p.atom

abbrev pub holder_line : Holder → Line
holder_line h = holder h.sort h.name

abbrev pub rule_line : Rule → Line
rule_line r = rule r.operation r.tokens

-- the holders by their numbers
abbrev pub holders_in_order : Declarations → List Holder
holders_in_order D = each (λ k. listed (holder_of D k)) (holder_numbers_of D)

-- "declarations in their order up to the holders": key by key, and those of a key by their numbers. Holder 0 has no key
abbrev pub holder_sorts : List Sort
holder_sorts = Sort.ugroup ∷ Sort.ogroup ∷ Sort.user ∷ Sort.object ∷ []

abbrev pub holder_lines : Declarations → List Line
holder_lines D = each (λ s. map holder_line (filter (λ h. is_sort h.sort s) (holders_in_order D))) holder_sorts

-- "each key sorted by holder number and then by the other's (for a value the pair's) number": all that there can be, in that order
abbrev pub ties_with : (ℕ → ℕ → Tie) → List ℕ → List ℕ → List Tie
ties_with tie lower upper = each (λ h. map (tie h) upper) lower

abbrev pub ties_in_order : Declarations → List Tie
ties_in_order D =
    let hs = holder_numbers_of D in
    ties_with Tie.parent hs hs ++ (ties_with Tie.member hs hs ++ ties_with Tie.value hs (below (length D.pairs)))

-- the line of a tie; none where it is not between declared holders and pairs
abbrev pub tie_line : Declarations → Tie → Option Line
tie_line D (Tie.parent c g) = holder_of D c >>= λ child. holder_of D g >>= λ group. some (parent child.name group.name)
tie_line D (Tie.member p g) = holder_of D p >>= λ party. holder_of D g >>= λ group. some (member party.name group.name)
tie_line D (Tie.value h p) = holder_of D h >>= λ k. nth D.pairs p >>= λ q. some (value k.name q.name q.atom)

-- the lines of the ties that stand
abbrev pub tie_lines : State → List Line
tie_lines S = each (λ t. listed (tie_line S.declared t)) (filter S.ties (ties_in_order S.declared))

-- "the first line, declarations in their order up to the holders, then parent, member and value lines, …, then the rules in their order"
unfoldable pub file_lines : State → List Line
file_lines S =
    let D = S.declared in
    map attribute_line D.attributes
    ++ (map op D.operations ++ (map pair_line D.pairs ++ (holder_lines D ++ (tie_lines S ++ map rule_line D.rules))))

-- a line with its byte 10
abbrev pub line_text : Line → Bytes
line_text l = write_line l ++ newline ∷ []

-- the text of a state; document 02, E6: "The writer keeps the edition that was loaded"
unfoldable pub file_text : State → Bytes
file_text S = first_line S.declared.edition ++ each line_text (file_lines S)

-- the number of the answer, the length that it carries, and the buffer
pub record FileWritten : Type 0 where
  pub number : ℕ
  pub text_length : ℕ
  pub buffer : Bytes

-- a text for a lent buffer: "answers 0 and its length (18 and 0 if refused)"; "Bytes of the buffer behind the text keep their content. A refusal leaves the
-- buffer untouched"
unfoldable pub write_text : Bytes → Bytes → FileWritten
write_text text buffer =
    if does_not_fit (length text) (length buffer) then record { number = refusal.does_not_fit; text_length = 0; buffer = buffer }
    otherwise record { number = 0; text_length = length text; buffer = text ++ drop (length text) buffer }

-- "A writer puts out the present one into a lent buffer"
unfoldable pub write_file : State → Bytes → FileWritten
write_file S buffer = write_text (file_text S) buffer

-- "the exact byte length that the writer of E1 would put out, …, also when it exceeds 32,768"
abbrev pub written_length : State → ℕ
written_length S = length (file_text S)
