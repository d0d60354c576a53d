-- What a request is answered, by its tests in their order. Assumes nothing.
use Prim.Native.Nat.{ℕ, ◌-◌, ◌<◌, ◌≤◌}
use native.Mathlib.Omega.{arith}
use mathlib.Core.Path.{◌≡◌, refl, sym, ap, ap₂, subst, ◌∙◌}
use mathlib.Core.Bool.{Bool, true, false}
use mathlib.Core.List.{List, [], ◌∷◌}
use mathlib.Core.Option.{Option, none, some}
use lib.Dec.{eqb}
use lib.ListN.{length, get_or, take, drop, replicate}
use Rattle.model.specs.Notation.{if◌then◌otherwise◌, ◌is◌, is_none}
use Rattle.model.specs.Limits.{Edition, table_words}
use Rattle.model.specs.Numbers as refusal
use Rattle.model.specs.Bytes.{Bytes}
use Rattle.model.specs.State.{State}
use Rattle.model.specs.Block.{Block, is_block, read_block, value_at}
use Rattle.model.specs.Table.{table}
use Rattle.model.specs.Standing.{Standing}
use Rattle.model.specs.Refusals.{◌if◌, first, bad_block, wrong_number, not_held, request_refusal}
use Rattle.model.proofs.Table.{table-length}
use Rattle.model.specs.Decision as model
use Rattle.model.specs.Decision.{verdicts, cause, judged}
use Rattle.session.specs.Opened.{SessionOf}
use Rattle.session.specs.Words.{OpenedFirst, unheld_in}
use Rattle.session.proofs.Opens.{zeros-hold, opens}
use Rattle.session.proofs.Activated.{unheld-so}
use Rattle.book.specs.Sections as section
use Rattle.book.specs.Sections.{section_words}
use Rattle.book.specs.Held.{Holds}
use Rattle.request.specs.declared.Decision.{Decision}
use Rattle.request.specs.Requests.{pair_rows, WrongNumber, NumbersOf, RequestOf}
use Rattle.request.specs.Decisions.{decision_of, Decided, Answered, Decides}
use Rattle.request.proofs.Blocks.{headed, not-read, is_read_lem, head_of}
use Rattle.request.proofs.Books.{numbers_of, request-of}

-- ---- a request with no wrong number

module _ {S : State} {b : Block} {counts targets : List ℕ} {code : Bytes} {attributes pairs table : List ℕ} {block entries : Bytes}
    (of : RequestOf S b counts targets code attributes pairs table block entries)
    (user mask : ℕ) (user-is : user ≡ get_or block 1 0) (mask_is : mask ≡ value_at block 4)
    (r : Bool) (unheld : r ≡ unheld_in attributes table user mask) where
  user-so : user ≡ b.user
  user-so = user-is ∙ sym (head_of block b of.read).user

  mask-so : mask ≡ b.mask
  mask-so = mask_is ∙ sym (head_of block b of.read).mask

  held-so : not_held S b ≡ r
  held-so =
      sym (unheld-so S b attributes pairs table of.declarations of.attribute-rows of.pair-rows of.sets.user-set)
      ∙ sym (ap₂ (unheld_in attributes table) user-so mask-so)
      ∙ sym unheld

  abbrev Answer : model.Decision → Type 0
  Answer d = d ≡ (if not_held S b then model.refused refusal.not_held otherwise model.decision_by (cause S b) (verdicts S b))

  pub not-held : r ≡ true → Answer (model.refused refusal.not_held)
  not-held on = sym (ap (λ (t : Bool). if t then model.refused refusal.not_held otherwise model.decision_by (cause S b) (verdicts S b)) (held-so ∙ on))

  -- the session that is opened, where zeros stood
  module _ (object : ℕ) (object-is : object ≡ get_or block 2 0) (declared : ℕ) (declared-is : get_or counts 0 0 ≤ 32 → declared ≡ get_or counts 0 0)
      (session : List ℕ) (opened : OpenedFirst attributes table user object mask declared (replicate 128 0) session) where
    object-so : object ≡ b.object
    object-so = object-is ∙ sym (head_of block b of.read).object

    declared-so : length S.declared.attributes ≡ declared
    declared-so =
        let attributes : get_or counts 0 0 ≡ length S.declared.attributes = of.counts-are.attributes in
        sym attributes ∙ sym (declared-is (omega (arith, of.attribute-rows.within)))

    opened-words : OpenedFirst attributes table b.user b.object b.mask declared (replicate 128 0) session
    opened-words =
        subst (λ (m : ℕ). OpenedFirst attributes table b.user b.object m declared (replicate 128 0) session) mask-so
        (subst (λ (o : ℕ). OpenedFirst attributes table b.user o mask declared (replicate 128 0) session) object-so
        (subst (λ (u : ℕ). OpenedFirst attributes table u object mask declared (replicate 128 0) session) user-so opened))

    session-of : SessionOf S b attributes pairs session entries
    session-of = record {
      declarations = of.declarations;
      attribute-rows = of.attribute-rows;
      pair-rows = of.pair-rows;
      opened = opens S b attributes table (replicate 128 0) session declared of.attribute-rows of.sets declared-so (zeros-hold 128) opened-words;
      entries-of = of.entries-of;
    }

    rules-so : (rules : ℕ) → (get_or counts 5 0 ≤ 32 → rules ≡ get_or counts 5 0) → length S.declared.rules ≡ rules
    rules-so rules e =
        let all : get_or counts 5 0 ≡ length S.declared.rules = of.counts-are.rules in
        sym all ∙ sym (e (omega (arith, of.declarations.rules.few)))

    pub by-rules : r ≡ false → (rules : ℕ) → (get_or counts 5 0 ≤ 32 → rules ≡ get_or counts 5 0) → (operation : ℕ) → operation ≡ get_or block 3 0
        → (d : Decision) → Decided targets code pairs session entries operation rules d → Answer (decision_of d)
    by-rules off rules w operation f d g =
        g S b attributes
        (record { operation-is = (head_of block b of.read).operation ∙ sym f; rule-rows = of.rule-rows; session-of = session-of })
        (rules-so rules w)
        ∙ sym (ap (λ (t : Bool). if t then model.refused refusal.not_held otherwise model.decision_by (cause S b) (verdicts S b)) (held-so ∙ off))

-- ---- a request

module _ (S : State) (block : Bytes) where
  -- by the block that is read
  abbrev answer : Option Block → model.Decision
  answer o =
      let n = first (refusal.bad_block if is_none o ∷ refusal.wrong_number if (o is wrong_number S.declared) ∷ refusal.not_held if (o is not_held S) ∷ []) in
      judged S n o

  decide_by : (o : Option Block) → read_block block ≡ o → model.decide S block ≡ answer o
  unfolding model.decide request_refusal bad_block
  decide_by o e = ap answer e

  pub no_block : is_block block ≡ false → model.refused refusal.bad_block ≡ model.decide S block
  no_block e = sym (decide_by none (not-read block e))

  module _ (b : Block) (read : read_block block ≡ some b) where
    abbrev by_tests : Bool → Bool → model.Decision
    by_tests wrong unheld =
        let n = first (refusal.bad_block if false ∷ refusal.wrong_number if wrong ∷ refusal.not_held if unheld ∷ []) in
        if eqb n 0 then model.decision_by (cause S b) (verdicts S b) otherwise model.refused n

    pub wrong : true ≡ wrong_number S.declared b → model.refused refusal.wrong_number ≡ model.decide S block
    wrong e = sym (decide_by (some b) read ∙ ap (λ (t : Bool). by_tests t (not_held S b)) (sym e))

    pub right : false ≡ wrong_number S.declared b
        → (if not_held S b then model.refused refusal.not_held otherwise model.decision_by (cause S b) (verdicts S b)) ≡ model.decide S block
    right e = go (not_held S b) ∙ sym (decide_by (some b) read ∙ ap (λ (t : Bool). by_tests t (not_held S b)) (sym e))
      where
        go : (t : Bool) → (if t then model.refused refusal.not_held otherwise model.decision_by (cause S b) (verdicts S b)) ≡ by_tests false t
        go true = refl
        go false = refl

-- ---- on a book and a table that stand for a state

module _ {S : State} {book : List ℕ} {code : Bytes} (standing : Standing S) (holds : Holds book code S)
    (block : Bytes) (bytes : (i : ℕ) → get_or block i 0 < 256) (fit : is_block block ≡ true)
    {counts sorts attributes : List ℕ} (counts-are : counts ≡ section_words section.counts book) (sorts-are : sorts ≡ section_words section.sorts book)
    (attributes-are : attributes ≡ section_words section.attributes book) where
  abbrev b : Block
  b = headed block

  read : read_block block ≡ some b
  read = is_read_lem block fit

  abbrev entries : Bytes
  entries = take (length block - 10) (drop 10 block)

  numbers-lent : NumbersOf S.declared b counts sorts attributes block entries
  numbers-lent =
      subst (λ (l : List ℕ). NumbersOf S.declared b l sorts attributes block entries) (sym counts-are)
      (subst (λ (l : List ℕ). NumbersOf S.declared b (section_words section.counts book) l attributes block entries) (sym sorts-are)
      (subst (λ (l : List ℕ). NumbersOf S.declared b (section_words section.counts book) (section_words section.sorts book) l block entries) (sym attributes-are)
      (numbers_of standing holds block b read bytes)))

  module _ (w : Bool) (told : WrongNumber counts sorts attributes block entries w) where
    told-so : w ≡ wrong_number S.declared b
    told-so = told S.declared b numbers-lent

    pub refuses-numbers : w ≡ true → model.refused refusal.wrong_number ≡ model.decide S block
    refuses-numbers e = wrong S block b read (sym e ∙ told-so)

    pub answers : {targets pairs : List ℕ} → w ≡ false → targets ≡ section_words section.rules book → pairs ≡ section_words pair_rows book → (t : List ℕ) → t ≡ table S.declared S.ties → (d : Decision)
        → Answered counts targets code attributes pairs t block entries d → decision_of d ≡ model.decide S block
    answers {targets} {pairs} e targets-are pairs-are t f d g =
        let lent = request-of standing holds block b read bytes t f in
        g S b
        (subst (λ (l : List ℕ). RequestOf S b l targets code attributes pairs t block entries) (sym counts-are)
        (subst (λ (l : List ℕ). RequestOf S b (section_words section.counts book) l code attributes pairs t block entries) (sym targets-are)
        (subst (λ (l : List ℕ). RequestOf S b (section_words section.counts book) (section_words section.rules book) code l pairs t block entries) (sym attributes-are)
        (subst (λ (l : List ℕ). RequestOf S b (section_words section.counts book) (section_words section.rules book) code (section_words section.attributes book) l t block entries) (sym pairs-are)
        lent))))
        ∙ right S block b read (sym e ∙ told-so)

pub stands-long : {S : State} {book : List ℕ} {code : Bytes} → Holds book code S → {t : List ℕ} → t ≡ table S.declared S.ties → length t ≡ table_words Edition.first
stands-long {S} holds e = ap length e ∙ table-length S.declared S.ties ∙ ap table_words holds.edition

-- ---- the promise: where the decision is the model's, so are its number and values
pub promised : {block : Bytes} {book : List ℕ} {code : Bytes} {words : List ℕ} {r : Decision} → ((length words ≡ table_words Edition.first → ⊥) → decision_of r ≡ model.refused refusal.wrong_table)
    → ((S : State) → Standing S → Holds book code S → words ≡ table S.declared S.ties → decision_of r ≡ model.decide S block) → Decides block book code words r
promised other decision = record { other-table = other; decision = decision; numbers = λ S standing holds e. ap model.number_and_values (decision S standing holds e) }
