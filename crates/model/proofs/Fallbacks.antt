-- Clauses that no state in a ledger meets: the value of tokens that are no policy, and the value of a str entry. Assumes nothing.
use Prim.Native.Nat.{ℕ}
use mathlib.Core.Path.{◌≡◌, ap, sym, ◌∙◌}
use mathlib.Core.Bool.{true, ◌&&◌, not, true≢false}
use mathlib.Core.Option.{Option, none, some}
use Rattle.model.specs.Notation.{nth}
use Rattle.model.specs.Attributes.{AtomType, from_block}
use Rattle.model.specs.Grammar.{Policy, read_policy}
use Rattle.model.specs.Meaning.{Values, meaning, meaning_of}
use Rattle.model.specs.Declarations.{Attribute, Rule}
use Rattle.model.specs.State.{State}
use Rattle.model.specs.Block.{Entry}
use Rattle.model.specs.Refusals.{bool_above_one, entry_fits}
use Rattle.model.specs.Standing.{Standing}
use Rattle.model.proofs.Options.{parts, is_some}

-- `meaning_of` of no policy: a declared rule's tokens are a policy, and its value is that policy's
pub rule-meaning : {S : State} → Standing S → (k : ℕ) (r : Rule) → nth S.declared.rules k ≡ some r
    → (p : Policy) × (read_policy r.tokens ≡ some p) × ((read : Values) → meaning_of read r.tokens ≡ meaning read p)
unfolding meaning_of
rule-meaning standing k r e =
    let stands = standing.declarations.rules.each k r e in
    (stands.policy, stands.reads, λ read. rw (meaning_of, stands.reads))

-- `entry_value` of str: an entry that is not refused is of an attribute that is no str
pub entry-no-str : {S : State} → Standing S → (entry : Entry) (a : Attribute) → entry_fits S.declared entry ≡ true
    → nth S.declared.attributes entry.attribute ≡ some a → a.type ≡ AtomType.str → ⊥
unfolding entry_fits
entry-no-str {S} standing entry a fits e is-str =
    let (b, q, t) = is_some (nth S.declared.attributes entry.attribute) (λ a. from_block a.source && not (bool_above_one a.type entry.value)) fits in
    let from = (parts (from_block b.source) (not (bool_above_one b.type entry.value)) t).0 in
    let never = standing.declarations.attributes.typed entry.attribute b q in
    let b-str : b.type ≡ AtomType.str = ap type-of (sym q ∙ e) ∙ is-str in
    true≢false (sym (rw (from, b-str)) ∙ never)
  where
    type-of : Option Attribute → AtomType
    type-of o = elim o [ some x ↦ x.type | none ↦ AtomType.str ]
