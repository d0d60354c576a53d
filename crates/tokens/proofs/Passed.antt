-- The tokens that were passed on the way through a policy, and their code.
use Prim.Native.Nat.{ℕ, suc, ◌+◌, ◌-◌, ◌*◌, ◌≤◌, ◌<◌}
use mathlib.Core.Path.{◌≡◌, refl, sym, ap, ap₂, subst, ◌∙◌}
use mathlib.Core.Bool.{Bool, true, false, ◌||◌}
use mathlib.Core.List.{List, [], ◌∷◌, ◌++◌, append-nil}
use mathlib.Core.Option.{Option, none, some, some-injective}
use native.Mathlib.Omega.{arith}
use lib.ListN.{length, set, take, drop, length-append, length-set, drop_of_length-le}
use lib.Seq.{length-take-le, drop-drop, append_snoc, set_split, drop-set-lt}
use Rattle.model.specs.Notation.{◌>>=◌, is_none, any_of, each}
use Rattle.model.specs.Bytes.{Bytes}
use Rattle.model.specs.Tokens.{Token, str, word_byte, tokens_within, tokens_of}
use Rattle.model.specs.Declarations.{Declarations}
use Rattle.model.specs.Refusals.{unknown_name}
use Rattle.model.proofs.WordTables.{none-is-some}
use Rattle.model.specs.Standing.{WellDeclared}
use Rattle.rows.specs.Rows.{AttributeRows}
use Rattle.std.specs.Prelude.{Some, None, Ok, Err}
use Rattle.tokens.specs.declared.Placed.{Placed}
use Rattle.tokens.specs.declared.Encoded.{Encoded}
use Rattle.tokens.specs.RuleCode.{encode_token, rule_code, size, Encodes, CodeOf}
use Rattle.tokens.specs.TokenAt.{code_of, placed, token_at, lead}
use Rattle.tokens.specs.Writing.{TokenStands, Given, Wrote}
use Rattle.model.proofs.Lists.{each_append}
use Rattle.output.proofs.Laying.{laid-front, laid-rest, laid-length}
use Rattle.tokens.proofs.Seen.{within-enough, within-nil, CodeRoom, ReadAt, Seen, ended, refused, read, seen}

-- laws of lists that are gone through from the front
module _ {A : Type 0} where
  any_append : (p : A → Bool) (xs : List A) (y : A) → any_of p (xs ++ (y ∷ [])) ≡ (any_of p xs || p y)
  any_append p [] y = go (p y)
    where
      go : (t : Bool) → elim t as (λ _. Bool) [ true ↦ true | false ↦ false ] ≡ t
      go true = refl
      go false = refl
  any_append p (x ∷ xs) y = go (p x) (any_append p xs y)
    where
      go : (t : Bool) → any_of p (xs ++ (y ∷ [])) ≡ (any_of p xs || p y)
          → elim t as (λ _. Bool) [ true ↦ true | false ↦ any_of p (xs ++ (y ∷ [])) ] ≡ ((elim t as (λ _. Bool) [ true ↦ true | false ↦ any_of p xs ]) || p y)
      go true e = refl
      go false e = e

or-false : (t : Bool) → t ≡ (t || false)
or-false true = refl
or-false false = refl

-- the tokens up to a place, with those from there on, are all; their code is at the front, and the bytes behind it are as they were
pub record Passed (s : Bytes) (attributes : List ℕ) (before code : Bytes) (at len : ℕ) (unknown : Bool) : Type 0 where
  pub tokens : List Token
  pub within : at ≤ length s
  pub room : CodeRoom s at len
  pub left : (n m : ℕ) → length s ≤ n → length (drop at s) ≤ m → tokens_within n s ≡ (tokens_within m (drop at s) >>= λ ts. some (tokens ++ ts))
  pub long : length code ≡ length before
  pub behind : drop len code ≡ drop len before
  pub written : (D : Declarations) → WellDeclared D → AttributeRows attributes D → (take len code ≡ each (encode_token D) tokens) × (unknown ≡ any_of (unknown_name D) tokens)

-- what stands at a place is one thing
some-none : {A B : Type 0} {x : A} → Some x ≡ None → B
some-none e = cc

the-placed : {a b : Placed} → Some a ≡ Some b → a ≡ b
the-placed {a} {b} e = let z : a ≡ b = cc in z

-- of more bytes behind those that are as they were
drop_more : (a b : Bytes) (n k : ℕ) → drop n a ≡ drop n b → drop (n + k) a ≡ drop (n + k) b
drop_more a b n k e = sym (drop-drop k n a) ∙ ap (drop k) e ∙ drop-drop k n b

module _ (s : Bytes) (attributes : List ℕ) (before : Bytes) where
  pub passed_none : Passed s attributes before before 0 0 false
  passed_none =
      record {
        tokens = [];
        within = omega arith;
        room = record { few = omega arith; fewer = λ _. omega arith };
        left = λ n m h k. within-enough n m s h k ∙ same (tokens_within m s);
        long = refl;
        behind = refl;
        written = λ D ord ar. (refl, refl);
      }
    where
      same : (o : Option (List Token)) → o ≡ (o >>= λ ts. some ts)
      same none = refl
      same (some ts) = refl

module _ {s : Bytes} {attributes : List ℕ} {before code : Bytes} {at len : ℕ} {unknown : Bool} (p : Passed s attributes before code at len unknown) where
  -- the tokens from here on, and all of them
  all_left : (o : Option (List Token)) → tokens_within (length (drop at s)) (drop at s) ≡ o → tokens_of s ≡ (o >>= λ ts. some (p.tokens ++ ts))
  unfolding tokens_of
  all_left o e = p.left (length s) (length (drop at s)) (omega arith) (omega arith) ∙ ap (λ (o : Option (List Token)). o >>= λ ts. some (p.tokens ++ ts)) e

  pub passed-bad : token_at s at ≡ None → Encodes s attributes before code (Err (record { len = len }))
  passed-bad k = go (seen s at)
    where
      go : Seen s at → Encodes s attributes before code (Err (record { len = len }))
      go (ended e f) = some-none (sym e ∙ k)
      go (refused e f) =
          let z : tokens_of s ≡ none = all_left none (f (length (drop at s)) (omega arith)) in
          let w = p.within in
          let r = p.room.few in
          record {
            bad = sym (ap is_none z);
            within = omega arith;
            long = p.long;
            behind = p.behind;
            tokens = λ D ord ar ts g. none-is-some (sym z ∙ g);
          }
      go (read t next r) = some-none (sym r.code ∙ k)

  -- what is read there is a token of the policy
  stands : (t : Placed) (u : Token) (next : ℕ) → Some t ≡ token_at s at → ReadAt s at u next → TokenStands s t u
  stands t u next e r =
      let f : t ≡ placed (Some (code_of u)) next = the-placed (e ∙ r.code) in
      let n : t.next ≡ next = ap (λ (v : Placed). v.next) f in
      record {
        well = r.well;
        code = ap (λ (v : Placed). v.token) f;
        within = subst (λ (k : ℕ). k ≤ length s) (sym n) r.within;
        text = subst (λ (k : ℕ). (v : Bytes) → u ≡ str v → (length v + 1 ≤ k) × (take (length v) (drop (k - 1 - length v) s) ≡ v)) (sym n) r.text;
      }

  module _ (enough : 3 * length s + 3 ≤ length before) (t : Placed) (here : Some t ≡ token_at s at) where
    pub passed-given : Given s t len (length code)
    passed-given = go (seen s at)
      where
        fits : (next : ℕ) (k : ℕ) → next ≤ length s → CodeRoom s next k → k ≤ length code
        fits next k h r = let f = r.few in let l = p.long in omega arith

        go : Seen s at → Given s t len (length code)
        go (ended e f) = Given.ended (ap (λ (v : Placed). v.token) (the-placed (here ∙ e))) (fits at len p.within p.room)
        go (refused e f) = some-none (here ∙ e)
        go (read u next r) = Given.token u (stands t u next here r) (fits next (len + size u) r.within (r.room len p.room))

    pub passed-further : at < length s → at < t.next
    passed-further h = go (seen s at)
      where
        go : Seen s at → at < t.next
        go (ended e f) = omega (arith, ap (λ (v : Placed). v.next) (the-placed (here ∙ e)))
        go (refused e f) = some-none (here ∙ e)
        go (read u next r) = let a = r.after in omega (arith, ap (λ (v : Placed). v.next) (the-placed (here ∙ r.code)))

    module _ {after : Bytes} {w : Encoded} (put : Wrote s attributes t code len after w) where
      -- what is written fits, and what is known of it
      step : (next : ℕ) (more : List Token) → t.next ≡ next → next ≤ length s → CodeRoom s next w.len
          → ((n m : ℕ) → length s ≤ n → length (drop next s) ≤ m → tokens_within n s ≡ (tokens_within m (drop next s) >>= λ ts. some (p.tokens ++ more ++ ts)))
          → ((D : Declarations) → WellDeclared D → AttributeRows attributes D
          → (put.bytes ≡ each (encode_token D) more) × (any_of (unknown_name D) (p.tokens ++ more) ≡ (any_of (unknown_name D) p.tokens || w.unknown)))
          → Passed s attributes before after t.next w.len (unknown || w.unknown)
      step next more n h r left known =
          let f = r.few in
          let l = p.long in
          let e = put.laid.behind in
          let fits : len + length put.bytes ≤ length code = omega arith in
          record {
            tokens = p.tokens ++ more;
            within = subst (λ (k : ℕ). k ≤ length s) (sym n) h;
            room = subst (λ (k : ℕ). CodeRoom s k w.len) (sym n) r;
            left = subst (λ (k : ℕ). (i m : ℕ) → length s ≤ i → length (drop k s) ≤ m → tokens_within i s ≡ (tokens_within m (drop k s) >>= λ ts. some (p.tokens ++ more ++ ts))) (sym n) left;
            long = laid-length put.laid ∙ l;
            behind = laid-rest put.laid fits ∙ ap (λ (k : ℕ). drop k code) e ∙ drop_more code before len (length put.bytes) p.behind ∙ ap (λ (k : ℕ). drop k before) (sym e);
            written = λ D ord ar.
                let (a, b) = p.written D ord ar in
                let (x, y) = known D ord ar in (
                  laid-front put.laid fits ∙ ap₂ (λ (g i : Bytes). g ++ i) a x ∙ sym (each_append (encode_token D) p.tokens more),
                  ap (λ (v : Bool). v || w.unknown) b ∙ sym y,
                );
          }

      pub passed_on : Passed s attributes before after t.next w.len (unknown || w.unknown)
      passed_on = go (seen s at)
        where
          bind-more : (u : Token) (o : Option (List Token)) → ((o >>= λ ts. some (u ∷ ts)) >>= λ ts. some (p.tokens ++ ts)) ≡ (o >>= λ ts. some (p.tokens ++ (u ∷ []) ++ ts))
          bind-more u none = refl
          bind-more u (some ts) = ap {B = Option (List Token)} some (sym (append_snoc p.tokens u ts))

          go : Seen s at → Passed s attributes before after t.next w.len (unknown || w.unknown)
          go (ended e f) =
              let (b, v) = put.end (ap (λ (v : Placed). v.token) (the-placed (here ∙ e))) in
              let l : w.len ≡ len = put.laid.behind ∙ omega (arith, ap length b) in
              let few = p.room.few in
              let h = p.within in
              let nil : drop (length s) s ≡ [] = drop_of_length-le s {i = length s} (omega arith) in
              step (length s) [] (ap (λ (v : Placed). v.next) (the-placed (here ∙ e))) (omega arith)
              (record { few = omega arith; fewer = λ i. absurd (omega (arith, ap (lead word_byte) nil)) })
              (λ n m i j. p.left n (length (drop at s)) i (omega arith) ∙ ap (λ (o : Option (List Token)). o >>= λ ts. some (p.tokens ++ ts)) (f (length (drop at s)) (omega arith))
              ∙ ap {B = Option (List Token)} (λ (l : List Token). some (l ++ [])) (sym (append-nil p.tokens))
              ∙ ap (λ (o : Option (List Token)). o >>= λ ts. some (p.tokens ++ [] ++ ts)) (sym (ap (tokens_within m) nil ∙ within-nil m)))
              (λ D ord ar. (b, ap (any_of (unknown_name D)) (append-nil p.tokens) ∙ or-false (any_of (unknown_name D) p.tokens) ∙ ap (λ (x : Bool). any_of (unknown_name D) p.tokens || x) (sym v)))
          go (refused e f) = some-none (here ∙ e)
          go (read u next r) =
              let st = stands t u next here r in
              let l : len + size u ≡ w.len = sym (put.laid.behind ∙ ap (λ (k : ℕ). len + k) (put.long u st)) in
              step next (u ∷ []) (ap (λ (v : Placed). v.next) (the-placed (here ∙ r.code))) r.within
              (subst (CodeRoom s next) l (r.room len p.room))
              (λ n m i j. p.left n (length (drop at s)) i (omega arith)
              ∙ ap (λ (o : Option (List Token)). o >>= λ ts. some (p.tokens ++ ts)) (r.tokens (length (drop at s)) m (omega arith) j)
              ∙ bind-more u (tokens_within m (drop next s)))
              (λ D ord ar.
              let (x, y) = put.token D ord ar u st in
              (x ∙ sym (append-nil (encode_token D u)), any_append (unknown_name D) p.tokens u ∙ ap (λ (v : Bool). any_of (unknown_name D) p.tokens || v) (sym y)))

  -- at the end, the byte that ends the code
  pub passed-all : 3 * length s + 3 ≤ length before → length s ≤ at → Encodes s attributes before (set code len 0) (Ok (record { len = len + 1; unknown = unknown }))
  passed-all enough h =
      let w = p.within in
      let few = p.room.few in
      let l = p.long in
      let z : suc len ≡ len + 1 = omega arith in
      let nil : drop at s ≡ [] = drop_of_length-le s h in
      let have : tokens_of s ≡ some (p.tokens ++ []) = all_left (some []) (ap (tokens_within (length (drop at s))) nil ∙ within-nil (length (drop at s))) in
      let whole : tokens_of s ≡ some p.tokens = have ∙ ap {B = Option (List Token)} some (append-nil p.tokens) in
      let rest : drop (suc len) code ≡ drop (suc len) before = ap (λ (k : ℕ). drop k code) z ∙ drop_more code before len 1 p.behind ∙ ap (λ (k : ℕ). drop k before) (sym z) in
      record {
        bad = sym (ap is_none whole);
        within = omega arith;
        long = length-set code len 0 ∙ l;
        behind = ap (λ (k : ℕ). drop k (set code len 0)) (sym z) ∙ drop-set-lt (suc len) code len 0 (omega arith) ∙ rest ∙ ap (λ (k : ℕ). drop k before) z;
        tokens = λ D ord ar ts e.
            let same : p.tokens ≡ ts = some-injective _ _ (sym whole ∙ e) in
            let (a, b) = p.written D ord ar in
            let front : length (each (encode_token D) p.tokens) ≡ len = ap length (sym a) ∙ length-take-le len code (omega arith) in
            let size : length (rule_code D p.tokens) ≡ suc len = length-append (each (encode_token D) p.tokens) (0 ∷ []) ∙ omega arith in
            subst (λ (ts : List Token). CodeOf D ts before (set code len 0) (record { len = len + 1; unknown = unknown })) same
            (record {
              code = set_split code len 0 (omega arith) ∙ ap₂ (λ (x y : Bytes). x ++ (0 ∷ y)) a (rest ∙ ap (λ (k : ℕ). drop k before) (sym size))
                  ∙ sym (append_snoc (each (encode_token D) p.tokens) 0 (drop (length (rule_code D p.tokens)) before));
              len = sym z ∙ sym size;
              unknown = b;
            });
      }
