-- Words as the code has them: those in capitals, ints and names.
use Prim.Native.Nat.{ℕ, ◌+◌}
use mathlib.Core.Path.{◌≡◌, refl, sym, ap, ◌∙◌}
use mathlib.Core.Bool.{Bool, true, false}
use mathlib.Core.List.{List, [], ◌∷◌}
use mathlib.Core.Option as math
use mathlib.Core.Option.{none, some, some-injective}
use Rattle.std.specs.Prelude.{Option, Some, None}
use lib.ListN.{take, drop}
use Rattle.model.specs.Notation.{◌>>=◌, ◌or_else◌, all_of}
use Rattle.model.specs.Bytes.{Bytes, one_of, same}
use Rattle.model.specs.Names.{is_name, read_name}
use Rattle.model.specs.Attributes as attributes
use Rattle.model.specs.Attributes.{read_source}
use Rattle.model.specs.Atoms.{read_int}
use Rattle.model.specs.Tokens as model
use Rattle.model.specs.Tokens.{name, int, str, truth, operator, mark, spelling, capitals, read_attribute_name, read_word}
use Rattle.model.proofs.WordTables.{none-is-some, false-is-true}
use Rattle.model.proofs.Lists.{all-parts}
use Rattle.codes.specs.Codes.{kind_of}
use Rattle.codes.specs.Enums.{told, told_by, source_for}
use Rattle.codes.specs.declared.Source.{Source}
use Rattle.text.specs.Parts.{FirstAt}
use Rattle.text.specs.Packing.{packed_of}
use Rattle.tokens.specs.declared.Token.{Token}
use Rattle.tokens.specs.declared.Token.TheVariants.{Name, Int, Sign}
use Rattle.tokens.specs.TokenAt.{code_of}

-- what is read among the words of a table passes what all of the table pass
pub one_of_all : {A : Type 0} (word : A → Bytes) (p : A → Bool) (table : List A) (s : Bytes) (a : A) → all_of p table ≡ true → one_of word table s ≡ some a → p a ≡ true
one_of_all word p [] s a h e = none-is-some e
one_of_all {A} word p (b ∷ rest) s a h e = let (i, j) = all-parts p b rest h in go (same (word b) s) i e (one_of_all word p rest s a j)
  where
    go : (t : Bool) → p b ≡ true → elim t as (λ _. math.Option A) [ true ↦ some b | false ↦ one_of word rest s ] ≡ some a → (one_of word rest s ≡ some a → p a ≡ true) → p a ≡ true
    go true i f more = ap p (sym (some-injective b a f)) ∙ i
    go false i f more = more f

-- a token that its kind tells
abbrev plain : model.Token → Bool
plain (name s n) = false
plain (int n) = false
plain (str s) = false
plain (truth t) = true
plain (operator o) = true
plain (mark m) = true

plain-code : (t : model.Token) → plain t ≡ true → code_of t ≡ Sign (kind_of t)
plain-code (name s n) e = false-is-true e
plain-code (int n) e = false-is-true e
plain-code (str s) e = false-is-true e
plain-code (truth t) e = refl
plain-code (operator o) e = refl
plain-code (mark m) e = refl

module _ (w : Bytes) where
  pub capital : (k : ℕ) → Some k ≡ told_by kind_of (one_of spelling capitals w) → Some (Sign k) ≡ told_by code_of (read_word w)
  unfolding read_word
  capital k e = go (one_of spelling capitals w) refl e
    where
      rest : math.Option model.Token
      rest = (read_int w >>= λ n. some (int n)) or_else read_attribute_name w

      go : (o : math.Option model.Token) → one_of spelling capitals w ≡ o → Some k ≡ told_by kind_of o → Some (Sign k) ≡ told_by code_of (o or_else rest)
      go none f g = cc
      go (some t) f g =
          let z : k ≡ kind_of t = cc in
          ap (λ (j : ℕ). Some (Sign j)) z ∙ ap (λ (c : Token). Some c) (sym (plain-code t (one_of_all spelling plain capitals w t refl f)))

  pub no-capital : None ≡ told_by kind_of (one_of spelling capitals w) → one_of spelling capitals w ≡ none
  no-capital e = go (one_of spelling capitals w) e
    where
      go : (o : math.Option model.Token) → None ≡ told_by kind_of o → o ≡ none
      go none g = refl
      go (some t) g = cc

  module _ (none_there : one_of spelling capitals w ≡ none) where
    pub number : (v : ℕ) → Some v ≡ told (read_int w) → Some (Int v) ≡ told_by code_of (read_word w)
    unfolding read_word
    number v f = rw none_there (go (read_int w) f)
      where
        go : (o : math.Option ℕ) → Some v ≡ told o → Some (Int v) ≡ told_by code_of ((o >>= λ n. some (int n)) or_else read_attribute_name w)
        go none g = cc
        go (some m) g = let z : v ≡ m = cc in ap (λ (j : ℕ). Some (Int j)) z

    pub attribute : None ≡ told (read_int w) → told_by code_of (read_attribute_name w) ≡ told_by code_of (read_word w)
    unfolding read_word
    attribute f = rw none_there (go (read_int w) f)
      where
        go : (o : math.Option ℕ) → None ≡ told o
            → told_by code_of (read_attribute_name w) ≡ told_by code_of ((o >>= λ n. some (int n)) or_else read_attribute_name w)
        go none g = refl
        go (some m) g = cc

-- names of attributes, by the place of their dot
module _ (w : Bytes) (r : Option ℕ) (first : FirstAt 46 w r) where
  pub no-dot : r ≡ None → None ≡ told_by code_of (read_attribute_name w)
  unfolding read_attribute_name
  no-dot e = rw (first.absent e)

  module _ (d : ℕ) (e : r ≡ Some d) where
    pub no_source : None ≡ told_by source_for (read_source (take d w)) → None ≡ told_by code_of (read_attribute_name w)
    unfolding read_attribute_name
    no_source f = rw ((first.found d e).1) (go (read_source (take d w)) f)
      where
        go : (o : math.Option attributes.Source) → None ≡ told_by source_for o → None ≡ told_by code_of (o >>= λ source. read_name (drop (d + 1) w) >>= λ n. some (name source n))
        go none g = refl
        go (some s) g = cc

    pub no_name_lem : is_name (drop (d + 1) w) ≡ false → None ≡ told_by code_of (read_attribute_name w)
    unfolding read_attribute_name
    no_name_lem f = rw ((first.found d e).1, f) (go (read_source (take d w)))
      where
        go : (o : math.Option attributes.Source) → None ≡ told_by code_of (o >>= λ source. none >>= λ n. some (name source n))
        go none = refl
        go (some s) = refl

    pub named : (k : Source) → Some k ≡ told_by source_for (read_source (take d w)) → is_name (drop (d + 1) w) ≡ true
        → Some (Name k (packed_of (drop (d + 1) w))) ≡ told_by code_of (read_attribute_name w)
    unfolding read_attribute_name
    named k f g = rw ((first.found d e).1, g) (go (read_source (take d w)) f)
      where
        go : (o : math.Option attributes.Source) → Some k ≡ told_by source_for o
            → Some (Name k (packed_of (drop (d + 1) w))) ≡ told_by code_of (o >>= λ source. some (name source (drop (d + 1) w)))
        go none h = cc
        go (some s) h = let z : k ≡ source_for s = cc in ap (λ (j : Source). Some (Name j (packed_of (drop (d + 1) w)))) z
