-- The writer's promises: which texts it refuses, what it leaves in the buffer, and that what it writes of a state that calls leave loads as that state.
-- Assumes nothing.
use Prim.Native.Nat.{ℕ, suc, ◌≤◌, ◌<◌}
use mathlib.Core.Path.{◌≡◌, refl, sym, ap, ap₂, subst, ◌∙◌}
use mathlib.Core.Logic.{◌⊎◌, inl, inr, ⊎_elim, ◌↔◌}
use mathlib.Core.Bool.{Bool, true, false, ◌||◌}
use mathlib.Core.List.{List, ◌++◌}
use native.Mathlib.Omega.{arith}
use lib.ListN.{length, length-append, take, drop, length-drop}
use lib.Seq.{take-append_seam, drop-append_seam}
use lib.Dec.{ltb}
use borrow.Author.Tests.{ltb-true, ltb-false}
use Rattle.model.specs.Limits.{file_bytes, table_words}
use Rattle.model.specs.Numbers as refusal
use Rattle.model.specs.Bytes.{Bytes}
use Rattle.model.specs.Declarations.{Declarations}
use Rattle.model.specs.Ties.{Tie, Ties}
use Rattle.model.specs.State.{State}
use Rattle.model.specs.Lines.{named_edition}
use Rattle.model.specs.Refusals.{does_not_fit}
use Rattle.model.specs.Load.{Loaded, load}
use Rattle.model.specs.Ledger.{Call, Answer, step, outcome}
use Rattle.model.specs.FileText.{file_lines, file_text, FileWritten, write_text, write_file, written_length}
use Rattle.model.proofs.Lists.{fun_ext, or_cases, or-none}
use Rattle.model.proofs.Editions.{load-edition}
use Rattle.model.proofs.Reached.{Reached, reached-standing, table_of, right-table, table-after}
use Rattle.model.proofs.SoFar.{reached-loadable}
use Rattle.model.proofs.WrittenBack

-- ---- what is refused, and what stays in the buffer

-- the bytes that are written: so many, from the buffer's start
abbrev pub written_bytes : FileWritten → Bytes
written_bytes w = take w.text_length w.buffer

-- "over its buffer or over 32,768": of a length, and its contrary
abbrev pub TooLong : ℕ → Bytes → Type 0
TooLong long buffer = (length buffer < long) ⊎ (file_bytes < long)

abbrev pub Fits : ℕ → Bytes → Type 0
Fits long buffer = (long ≤ length buffer) × (long ≤ file_bytes)

module _ (S : State) (buffer : Bytes) where
  abbrev TextTooLong : Type 0
  TextTooLong = TooLong (written_length S) buffer

  abbrev TextFits : Type 0
  TextFits = Fits (written_length S) buffer

  write-cases : (P : FileWritten → Type 0)
      → (TextTooLong → P (record { number = refusal.does_not_fit; text_length = 0; buffer = buffer }))
      → (TextFits → P (record { number = 0; text_length = length (file_text S); buffer = file_text S ++ drop (length (file_text S)) buffer }))
      → P (write_file S buffer)
  unfolding write_file write_text does_not_fit
  write-cases P refused written = go (does_not_fit (length (file_text S)) (length buffer)) refl
    where
      go : (b : Bool) → (ltb (length buffer) (length (file_text S)) || ltb file_bytes (length (file_text S))) ≡ b
          → P (elim b as (λ _. FileWritten) [
            | true ↦ record { number = refusal.does_not_fit; text_length = 0; buffer = buffer }
            | false ↦ record { number = 0; text_length = length (file_text S); buffer = file_text S ++ drop (length (file_text S)) buffer }
          ])
      go true e = refused (⊎_elim (λ l. inl (ltb-true _ _ l)) (λ l. inr (ltb-true _ _ l)) (or_cases (ltb (length buffer) (length (file_text S))) (ltb file_bytes (length (file_text S))) e))
      go false e = let (a, b) = or-none (ltb (length buffer) (length (file_text S))) (ltb file_bytes (length (file_text S))) e in written (ltb-false _ _ a, ltb-false _ _ b)

  -- "18, the writer's only one, when the text is longer than the buffer or than 32,768 bytes"; "precisely when this length is over its buffer or over 32,768"
  pub eighteen-exactly : ((write_file S buffer).number ≡ refusal.does_not_fit) ↔ TextTooLong
  eighteen-exactly = write-cases (λ w. (w.number ≡ refusal.does_not_fit) ↔ TextTooLong) (λ long. (λ e. long, λ l. refl)) (λ (a, b). (λ e. absurd (omega arith), λ l. absurd (⊎_elim (λ c. omega arith) (λ c. omega arith) l)))

  -- and 0 otherwise
  pub zero-exactly : ((write_file S buffer).number ≡ 0) ↔ TextFits
  zero-exactly = write-cases (λ w. (w.number ≡ 0) ↔ TextFits) (λ long. (λ e. absurd (omega arith), λ (a, b). absurd (⊎_elim (λ c. omega arith) (λ c. omega arith) long))) (λ fits. (λ e. fits, λ f. refl))

  pub no_other : ((write_file S buffer).number ≡ 0) ⊎ ((write_file S buffer).number ≡ refusal.does_not_fit)
  no_other = write-cases (λ w. (w.number ≡ 0) ⊎ (w.number ≡ refusal.does_not_fit)) (λ long. inr refl) (λ fits. inl refl)

  -- "A refusal leaves the buffer untouched", and carries 0
  pub refused-write : (write_file S buffer).number ≡ refusal.does_not_fit → ((write_file S buffer).text_length ≡ 0) × ((write_file S buffer).buffer ≡ buffer)
  refused-write = write-cases (λ w. w.number ≡ refusal.does_not_fit → (w.text_length ≡ 0) × (w.buffer ≡ buffer)) (λ long e. (refl, refl)) (λ fits e. absurd (omega arith))

  -- "answers 0 and its length": the text stands at the buffer's start
  pub text-written : (write_file S buffer).number ≡ 0 → ((write_file S buffer).text_length ≡ written_length S) × (written_bytes (write_file S buffer) ≡ file_text S)
  text-written = write-cases (λ w. w.number ≡ 0 → (w.text_length ≡ written_length S) × (written_bytes w ≡ file_text S)) (λ long e. absurd (omega arith)) (λ fits e. (refl, take-append_seam (file_text S) _))

  -- "Bytes of the buffer behind the text keep their content", and there are as many as before, refused or not
  pub behind-kept : drop (write_file S buffer).text_length (write_file S buffer).buffer ≡ drop (write_file S buffer).text_length buffer
  behind-kept = write-cases (λ w. drop w.text_length w.buffer ≡ drop w.text_length buffer) (λ long. refl) (λ fits. drop-append_seam (file_text S) _)

  pub same_length : length (write_file S buffer).buffer ≡ length buffer
  same_length = write-cases (λ w. length w.buffer ≡ length buffer) (λ long. refl)
      (λ (a, b). omega (arith, length-append (file_text S) (drop (length (file_text S)) buffer), length-drop (length (file_text S)) buffer))

-- ---- equal states

-- states are equal when they are in declarations, rules by their tokens among them, and in ties
pub same-state : (S R : State) → S.declared ≡ R.declared → ((t : Tie) → S.ties t ≡ R.ties t) → S ≡ R
same-state S R d t = ap₂ (λ (D : Declarations) (T : Ties). record { declared = D; ties = T }) d (fun_ext t)

-- "two books equal in this way, neither refused, write equal bytes"
pub equal-bytes : (S R : State) (buffer buffer' : Bytes) → S.declared ≡ R.declared → ((t : Tie) → S.ties t ≡ R.ties t)
    → (write_file S buffer).number ≡ 0 → (write_file R buffer').number ≡ 0
    → ((write_file S buffer).text_length ≡ (write_file R buffer').text_length) × (written_bytes (write_file S buffer) ≡ written_bytes (write_file R buffer'))
equal-bytes S R buffer buffer' d t p q =
    let (a, b) = text-written S buffer p in
    let (c, e) = text-written R buffer' q in
    let same = ap file_text (same-state S R d t) in
    (a ∙ ap length same ∙ sym c, b ∙ same ∙ sym e)

-- ---- a state that is reached

module _ {S : State} (reached : Reached S) where
  -- what loading its text gives
  abbrev as_loaded : Loaded
  as_loaded = record { number = 0; line = suc (length (file_lines S)); state = S }

  -- its text, where it is no longer than a file may be, loads as it
  pub text-loads : written_length S ≤ file_bytes → load (file_text S) ≡ as_loaded
  text-loads = WrittenBack.written_back (reached-standing reached) (reached-loadable reached)

  -- so no two such states have one text
  pub text-tells : {R : State} → Reached R → written_length S ≤ file_bytes → file_text S ≡ file_text R → S ≡ R
  text-tells {R} other short e =
      ap (λ (l : Loaded). l.state) (sym (text-loads short) ∙ ap load e ∙ WrittenBack.written_back (reached-standing other) (reached-loadable other) (subst (λ (s : Bytes). length s ≤ file_bytes) e short))

  module _ (buffer : Bytes) (written : (write_file S buffer).number ≡ 0) where
    -- "loading the result … gives a book equal in declarations, ties and rule tokens"
    pub result-loads : load (written_bytes (write_file S buffer)) ≡ as_loaded
    result-loads = ap load (text-written S buffer written).1 ∙ text-loads ((zero-exactly S buffer).0 written).1

    -- "on a table of the right length …, and the table words that belong to these ties", whatever stood before
    pub result-loads-on : (R : State) (words : List ℕ) → length words ≡ table_words S.declared.edition
        → outcome R words (Call.load (written_bytes (write_file S buffer))) ≡ record { answer = Answer.loaded 0 (suc (length (file_lines S))); words = table_of S; state = S }
    unfolding step
    result-loads-on R words long =
        let named = sym (ap (λ (l : Loaded). l.state.declared.edition) result-loads) ∙ load-edition (written_bytes (write_file S buffer)) in
        rw (right-table (named_edition (written_bytes (write_file S buffer))) words (long ∙ ap table_words named), result-loads) (ap (λ (t : List ℕ). record { answer = Answer.loaded 0 (suc (length (file_lines S))); words = t; state = S }) (table-after words S long))

    -- written again, it gives the same bytes
    pub written-again : (buffer' : Bytes) → write_file (load (written_bytes (write_file S buffer))).state buffer' ≡ write_file S buffer'
    written-again buffer' = ap (λ (l : Loaded). write_file l.state buffer') result-loads
