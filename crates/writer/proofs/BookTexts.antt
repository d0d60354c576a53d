-- The text of a book's words is the file of the state that it holds. Assumes nothing.
use Prim.Native.Nat.{ℕ}
use mathlib.Core.Path.{◌≡◌, sym, ap₂, ◌∙◌}
use mathlib.Core.List.{List, ◌++◌, append_assoc}
use Rattle.model.specs.Notation.{map, each}
use Rattle.model.specs.Limits.{Edition}
use Rattle.model.specs.Bytes.{Bytes}
use Rattle.model.specs.Lines.{first_line, Line, op}
use Rattle.model.specs.Declarations.{Declarations}
use Rattle.model.specs.State.{State}
use Rattle.model.specs.Standing.{Standing}
use Rattle.model.specs.FileText.{attribute_line, pair_line, rule_line, holder_lines, tie_lines, file_lines, line_text, file_text}
use Rattle.book.specs.Held.{Holds}
use Rattle.writer.specs.Texts.{book_text}
use Rattle.model.proofs.Lists.{each_append}
use Rattle.spelling.proofs.BookDeclared.{pair-name, pair-atom, declared-text}
use Rattle.spelling.proofs.BookHolders.{holders-text}
use Rattle.writer.proofs.BookTies.{ties-text}
use Rattle.spelling.proofs.BookRules.{rules-text}

module _ {book : List ℕ} {rules : Bytes} {S : State} (standing : Standing S) (held : Holds book rules S) where
  abbrev D : Declarations
  D = S.declared

  abbrev text : List Line → Bytes
  text ls = each line_text ls

  -- the lines of a state, part by part
  lines-apart : text (file_lines S)
      ≡ (text (map attribute_line D.attributes) ++ (text (map op D.operations) ++ text (map pair_line D.pairs))) ++ (text (holder_lines D) ++ (text (tie_lines S) ++ text (map rule_line D.rules)))
  unfolding file_lines
  lines-apart = simp (each_append, append_assoc)

  pub book-text : book_text book rules ≡ file_text S
  unfolding book_text file_text
  book-text =
      ap₂ (λ (e : Edition) (s : Bytes). first_line e ++ s) (sym held.edition)
      (ap₂ (λ (x y : Bytes). x ++ y) (declared-text standing held)
      (ap₂ (λ (x y : Bytes). x ++ y) (holders-text standing held)
      (ap₂ (λ (x y : Bytes). x ++ y) (ties-text standing held (pair-name standing held) (pair-atom standing held)) (rules-text standing held)))
      ∙ sym lines-apart)
