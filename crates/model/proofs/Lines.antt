-- A line is read exactly from the bytes that write it.
use Prim.Native.Nat.{ℕ, ◌≤◌}
use mathlib.Core.Path.{◌≡◌, refl, ap, ◌∙◌}
use mathlib.Core.Logic.{◌↔◌}
use mathlib.Core.Bool.{true, ◌&&◌, not}
use mathlib.Core.List.{List, [], ◌∷◌, ◌++◌, append_assoc}
use mathlib.Core.Option.{Option, none, some, some-injective}
use borrow.Author.Tests.{leb-true, le-leb}
use lib.ListN.{length}
use lib.Dec.{leb}
use Rattle.model.specs.Notation.{◌>>=◌, is_none, only_if, all_of}
use Rattle.model.specs.Limits.{line_bytes}
use Rattle.model.specs.Bytes.{Bytes, bytes, newline, content}
use Rattle.model.specs.Names.{is_name, read_name}
use Rattle.model.specs.Attributes.{Source, source_word, read_source, type_word}
use Rattle.model.specs.Atoms.{Atom, is_atom, write_atom, read_atom}
use Rattle.model.specs.Keys.{Key, key_word, keys, read_key}
use Rattle.model.specs.Tokens.{Token, is_token, tokens_of, Spells, spelled}
use Rattle.model.specs.Grammar.{read_policy}
use Rattle.model.specs.Declarations.{Sort, sort_word, is_sort}
use Rattle.model.specs.Lines.{Line, read_attr, read_op, read_pair, read_holder, read_two, read_value, read_rule, read_fields, read_keyed, framed, read_line, write_line, is_line, Writes}
use Rattle.model.proofs.WordTables.{false-is-true, one-of-word, reads-key}
use Rattle.model.proofs.Options.{parts, both, fields, bound, condition}
use Rattle.model.proofs.Lists.{all-parts, all_append, all_cons}
use Rattle.model.proofs.Cuts.{isnt, lacks, cut-joined, cut-bound, content-exact}
use Rattle.model.proofs.Names.{name-exact, name-lacks, source-lacks, type-lacks, sort-lacks, key-lacks}
use Rattle.model.proofs.Atoms.{atom-lacks}
use Rattle.model.proofs.Tokens.{tokens-exact, spells-lack}
use Rattle.model.proofs.Spelled.{spelled-spells}
use Rattle.model.proofs.Fields.{name_field, atom_field, source_field, type_field, reads, both-fields, reads_both, three-fields, reads_three}

-- the key of the lines that declare holders of a sort. Admin has none: `attr` stands for it, as no key is before that
abbrev pub sort_key : Sort → Key
sort_key Sort.admin = Key.attr
sort_key Sort.ugroup = Key.ugroup
sort_key Sort.ogroup = Key.ogroup
sort_key Sort.user = Key.user
sort_key Sort.object = Key.object

-- the key of a line
abbrev pub line_key : Line → Key
line_key (Line.attr s n t) = Key.attr
line_key (Line.op n) = Key.op
line_key (Line.atom s n a) = Key.atom
line_key (Line.holder s n) = sort_key s
line_key (Line.parent c g) = Key.parent
line_key (Line.member p g) = Key.member
line_key (Line.value h n a) = Key.value
line_key (Line.rule o ts) = Key.rule

-- the frame: the key stands before the first equals sign
pub keyed-exact : (s : Bytes) (k : Key) (f : Bytes) → (read_keyed s ≡ some (k, f)) ↔ (s ≡ key_word k ++ 61 ∷ f)
unfolding read_keyed
keyed-exact s k f = (sound, λ e. rw e complete)
  where
    sound : read_keyed s ≡ some (k, f) → s ≡ key_word k ++ 61 ∷ f
    sound e =
        cut-bound 61 s e λ c p j e₁.
        bound {o = read_key c.0} e₁ λ a q e₂.
        let (u, v) = fields e₂ in
        j ∙ rw (← (one-of-word key_word keys c.0 a q), u, v)

    complete : read_keyed (key_word k ++ 61 ∷ f) ≡ some (k, f)
    complete = rw (cut-joined 61 (key_word k) f (key-lacks 61 refl k), reads-key k)

-- a result that is there
present : {A : Type 0} (o : Option A) → not (is_none o) ≡ true → (a : A) × (o ≡ some a)
present none h = false-is-true h
present (some a) h = (a, refl)

written : (l : Line) {b : Bytes} → b ≡ write_line l → Writes l b
written l e = rw e (Writes.as_written l)

-- one name, SRC.NAME,ATOM, and two names
named : (line : Bytes → Line) (f : Bytes) (l : Line) → (read_name f >>= λ n. some (line n)) ≡ some l → (is_name f ≡ true) × (line f ≡ l)
named line f l e = bound {o = read_name f} e λ n p q.
    let (m, z) = (name-exact f n).0 p in
    (rw z m, ap line z ∙ some-injective _ _ q)

holder-said : (s : Sort) → not (is_sort s Sort.admin) ≡ true → (f : Bytes) (l : Line) → read_holder s f ≡ some l
    → (is_line l ≡ true) × Writes l (sort_word s ++ 61 ∷ f)
unfolding read_holder
holder-said s h f l e = let (m, z) = named (Line.holder s) f l e in rw (← z) (both h m, written (Line.holder s f) (simp append_assoc))

pair-said : (f : Bytes) (l : Line) → read_pair f ≡ some l → (is_line l ≡ true) × Writes l (bytes "atom=" ++ f)
unfolding read_pair
pair-said f l e =
    cut-bound 44 f e λ c p i e₁.
    cut-bound 46 c.0 e₁ λ d q j e₂.
    bound {o = read_source d.0} e₂ λ s g e₃.
    bound {o = read_name d.1} e₃ λ n h e₄.
    bound {o = read_atom c.1} e₄ λ a r e₅.
    let u = (source_field.exact d.0 s).0 g in
    let v = (name_field.exact d.1 n).0 h in
    let w = (atom_field.exact c.1 a).0 r in
    let z : Line.atom s n a ≡ l = some-injective _ _ e₅ in
    rw (← z, i, j, u.1, v.1, w.1) (both v.0 w.0, written (Line.atom s n a) (simp append_assoc))

pair_read : (s : Source) (n : Bytes) (a : Atom) → (is_name n && is_atom a) ≡ true
    → read_pair (source_word s ++ 46 ∷ n ++ 44 ∷ write_atom a) ≡ some (Line.atom s n a)
unfolding read_pair
pair_read s n a e =
    let (h, k) = parts (is_name n) (is_atom a) e in
    let free = all_append (isnt 44) (source_word s) (46 ∷ n) (source-lacks 44 refl s) (name-lacks 44 refl n h) in
    rw (cut-joined 44 (source_word s ++ 46 ∷ n) (write_atom a) free, cut-joined 46 (source_word s) n (source-lacks 46 refl s), reads source_field s refl, reads name_field n h, reads atom_field a k)

two-read : (line : Bytes → Bytes → Line) (a b : Bytes) → (is_name a && is_name b) ≡ true → read_two line (a ++ 44 ∷ b) ≡ some (line a b)
unfolding read_two
two-read line a b e =
    let (h, k) = parts (is_name a) (is_name b) e in
    reads_both name_field name_field line a b h k (name-lacks 44 refl a h)

-- a policy, in any spelling of its tokens
rule-said : (f : Bytes) (l : Line) → read_rule f ≡ some l → (is_line l ≡ true) × Writes l (bytes "rule=" ++ f)
unfolding read_rule
rule-said f l e =
    cut-bound 44 f e λ c p j e₁.
    bound {o = read_name c.0} e₁ λ o q e₂.
    bound {o = tokens_of c.1} e₂ λ ts r e₃.
    bound {o = read_policy ts} e₃ λ y g e₄.
    let (m, u) = (name-exact c.0 o).0 q in
    let (t, d) = (tokens-exact c.1 ts).0 r in
    let z : Line.rule o ts ≡ l = some-injective _ _ e₄ in
    let policy : not (is_none (read_policy ts)) ≡ true = rw g in
    rw (← z, j, u, ← append_assoc o (44 ∷ []) c.1) (both (both m t) policy, Writes.any-spelling o d)

rule-read : (o : Bytes) (ts : List Token) (p : Bytes) → is_line (Line.rule o ts) ≡ true → Spells ts p → read_rule (o ++ 44 ∷ p) ≡ some (Line.rule o ts)
unfolding read_rule
rule-read o ts p h d =
    let (ab, c) = parts (is_name o && all_of is_token ts) (not (is_none (read_policy ts))) h in
    let (a, b) = parts (is_name o) (all_of is_token ts) ab in
    let (y, g) = present (read_policy ts) c in
    rw (cut-joined 44 o p (name-lacks 44 refl o a), a, (tokens-exact p ts).1 (b, d), g)

-- the fields behind a key that are read as a line are those that it is written with
pub fields-said : (k : Key) (f : Bytes) (l : Line) → read_fields k f ≡ some l → (is_line l ≡ true) × Writes l (key_word k ++ 61 ∷ f)
unfolding read_attr read_op read_two read_value
fields-said Key.attr f l e =
    three-fields source_field name_field type_field Line.attr f l e λ a b c m n o j z. rw (← z, j) (n, written (Line.attr a b c) (simp append_assoc))
fields-said Key.op f l e = let (m, z) = named Line.op f l e in rw (← z) (m, Writes.as_written (Line.op f))
fields-said Key.atom f l e = pair-said f l e
fields-said Key.ugroup f l e = holder-said Sort.ugroup refl f l e
fields-said Key.ogroup f l e = holder-said Sort.ogroup refl f l e
fields-said Key.user f l e = holder-said Sort.user refl f l e
fields-said Key.object f l e = holder-said Sort.object refl f l e
fields-said Key.parent f l e =
    both-fields name_field name_field Line.parent f l e λ a b m n j z. rw (← z, j) (both m n, written (Line.parent a b) (simp append_assoc))
fields-said Key.member f l e =
    both-fields name_field name_field Line.member f l e λ a b m n j z. rw (← z, j) (both m n, written (Line.member a b) (simp append_assoc))
fields-said Key.value f l e =
    three-fields name_field name_field atom_field Line.value f l e λ a b c m n o j z.
    rw (← z, j) (both (both m n) o, written (Line.value a b c) (simp append_assoc))
fields-said Key.rule f l e = rule-said f l e

-- the tokens of a rule are spelt
rule-spells : (o : Bytes) (ts : List Token) → is_line (Line.rule o ts) ≡ true → Spells ts (spelled ts)
rule-spells o ts h =
    let (y, g) = present (read_policy ts) (parts (is_name o && all_of is_token ts) (not (is_none (read_policy ts))) h).1 in
    spelled-spells ts g

-- bytes that write a line have a key, and the fields behind it are read as that line
abbrev pub Keyed : Line → Bytes → Type 0
Keyed l b = (f : Bytes) × (b ≡ key_word (line_key l) ++ 61 ∷ f) × (read_fields (line_key l) f ≡ some l)

rule-fields : (o : Bytes) (ts : List Token) (p : Bytes) → is_line (Line.rule o ts) ≡ true → Spells ts p
    → Keyed (Line.rule o ts) (bytes "rule=" ++ o ++ bytes "," ++ p)
rule-fields o ts p h d = (o ++ 44 ∷ p, simp append_assoc, rule-read o ts p h d)

written-fields : (l : Line) → is_line l ≡ true → Keyed l (write_line l)
unfolding read_attr read_op read_holder read_two read_value
written-fields (Line.attr s n t) h =
    let free = source-lacks 44 refl s in
    let read = reads_three source_field name_field type_field Line.attr s n t refl h refl free (name-lacks 44 refl n h) in
    (source_word s ++ 44 ∷ (n ++ 44 ∷ type_word t), simp append_assoc, read)
written-fields (Line.op n) h = (n, refl, rw h)
written-fields (Line.atom s n a) h =
    (source_word s ++ 46 ∷ n ++ 44 ∷ write_atom a, simp append_assoc, pair_read s n a h)
written-fields (Line.holder Sort.admin n) h = false-is-true h
written-fields (Line.holder Sort.ugroup n) h = (n, refl, rw h)
written-fields (Line.holder Sort.ogroup n) h = (n, refl, rw h)
written-fields (Line.holder Sort.user n) h = (n, refl, rw h)
written-fields (Line.holder Sort.object n) h = (n, refl, rw h)
written-fields (Line.parent c g) h = (c ++ 44 ∷ g, simp append_assoc, two-read Line.parent c g h)
written-fields (Line.member c g) h = (c ++ 44 ∷ g, simp append_assoc, two-read Line.member c g h)
written-fields (Line.value o n a) h =
    let (pq, r) = parts (is_name o && is_name n) (is_atom a) h in
    let (p, q) = parts (is_name o) (is_name n) pq in
    let read = reads_three name_field name_field atom_field Line.value o n a p q r (name-lacks 44 refl o p) (name-lacks 44 refl n q) in
    (o ++ 44 ∷ (n ++ 44 ∷ write_atom a), simp append_assoc, read)
written-fields (Line.rule o ts) h = rule-fields o ts (spelled ts) h (rule-spells o ts h)

pub fields_read : {l : Line} {b : Bytes} → Writes l b → is_line l ≡ true → Keyed l b
fields_read (Writes.as_written l) h = written-fields l h
fields_read (Writes.any-spelling o {ts = ts} {p = p} d) h = rule-fields o ts p h d

-- no line holds byte 10
joined-lack : (a b : Bytes) (x : ℕ) → isnt newline x ≡ true → lacks newline a ≡ true → lacks newline b ≡ true → lacks newline (a ++ (x ∷ []) ++ b) ≡ true
joined-lack a b x h p q = all_append (isnt newline) (a ++ x ∷ []) b (all_append (isnt newline) a (x ∷ []) p (all_cons (isnt newline) x [] h refl)) q

rule-lacks : (o : Bytes) (ts : List Token) (p : Bytes) → is_line (Line.rule o ts) ≡ true → Spells ts p
    → lacks newline (bytes "rule=" ++ o ++ bytes "," ++ p) ≡ true
rule-lacks o ts p h d =
    let (ab, c) = parts (is_name o && all_of is_token ts) (not (is_none (read_policy ts))) h in
    let (a, b) = parts (is_name o) (all_of is_token ts) ab in
    joined-lack o p 44 refl (name-lacks newline refl o a) (spells-lack d b)

line-lacks : (l : Line) → is_line l ≡ true → lacks newline (write_line l) ≡ true
line-lacks (Line.attr s n t) h =
    joined-lack (source_word s ++ bytes "," ++ n) (type_word t) 44 refl (joined-lack (source_word s) n 44 refl (source-lacks newline refl s) (name-lacks newline refl n h)) (type-lacks newline refl t)
line-lacks (Line.op n) h = name-lacks newline refl n h
line-lacks (Line.atom s n a) h =
    let (p, q) = parts (is_name n) (is_atom a) h in
    joined-lack (source_word s ++ bytes "." ++ n) (write_atom a) 44 refl (joined-lack (source_word s) n 46 refl (source-lacks newline refl s) (name-lacks newline refl n p)) (atom-lacks a q)
line-lacks (Line.holder s n) h =
    joined-lack (sort_word s) n 61 refl (sort-lacks newline refl s) (name-lacks newline refl n (parts (not (is_sort s Sort.admin)) (is_name n) h).1)
line-lacks (Line.parent c g) h =
    let (p, q) = parts (is_name c) (is_name g) h in
    joined-lack c g 44 refl (name-lacks newline refl c p) (name-lacks newline refl g q)
line-lacks (Line.member c g) h =
    let (p, q) = parts (is_name c) (is_name g) h in
    joined-lack c g 44 refl (name-lacks newline refl c p) (name-lacks newline refl g q)
line-lacks (Line.value o n a) h =
    let (pq, r) = parts (is_name o && is_name n) (is_atom a) h in
    let (p, q) = parts (is_name o) (is_name n) pq in
    joined-lack (o ++ bytes "," ++ n) (write_atom a) 44 refl (joined-lack o n 44 refl (name-lacks newline refl o p) (name-lacks newline refl n q)) (atom-lacks a r)
line-lacks (Line.rule o ts) h = rule-lacks o ts (spelled ts) h (rule-spells o ts h)

pub writes-lack : {l : Line} {b : Bytes} → Writes l b → is_line l ≡ true → lacks newline b ≡ true
writes-lack (Writes.as_written l) h = line-lacks l h
writes-lack (Writes.any-spelling o {ts = ts} {p = p} d) h = rule-lacks o ts p h d

-- what stands behind a key and its equals sign holds no byte 10
fields-lack : (k : Key) (f b : Bytes) → b ≡ key_word k ++ 61 ∷ f → lacks newline b ≡ true → lacks newline f ≡ true
fields-lack k f b e h = behind-key (key_word k) (rw e at h)
  where
    behind-key : (w : Bytes) → lacks newline (w ++ 61 ∷ f) ≡ true → lacks newline f ≡ true
    behind-key [] h = h
    behind-key (x ∷ w) h = behind-key w (all-parts (isnt newline) x (w ++ 61 ∷ f) h).1

-- bytes are framed exactly when they are a known key, an equals sign and fields, at most 255 bytes together, and byte 10
pub framed-exact : (s : Bytes) (k : Key) (f : Bytes)
    → (framed s ≡ some (k, f)) ↔ ((lacks newline f ≡ true) × (length (key_word k ++ 61 ∷ f) ≤ line_bytes) × (s ≡ key_word k ++ 61 ∷ f ++ newline ∷ []))
unfolding framed
framed-exact s k f = (sound, λ (h, short, j). rw j (complete h short))
  where
    sound : framed s ≡ some (k, f) → (lacks newline f ≡ true) × (length (key_word k ++ 61 ∷ f) ≤ line_bytes) × (s ≡ key_word k ++ 61 ∷ f ++ newline ∷ [])
    sound e =
        bound {o = content s} e λ b p q.
        bound {o = only_if (leb (length b) line_bytes) b} q λ c g i.
        let (short, same) = condition {t = leb (length b) line_bytes} {a = b} g in
        let (free, j) = (content-exact s b).0 p in
        let keyed : b ≡ key_word k ++ 61 ∷ f = same ∙ (keyed-exact c k f).0 i in
        (fields-lack k f b keyed free, rw keyed at (leb-true (length b) line_bytes short), j ∙ ap (λ (x : Bytes). x ++ newline ∷ []) keyed)

    complete : lacks newline f ≡ true → length (key_word k ++ 61 ∷ f) ≤ line_bytes → framed (key_word k ++ 61 ∷ f ++ newline ∷ []) ≡ some (k, f)
    complete h short =
        let b = key_word k ++ 61 ∷ f in
        let free = all_append (isnt newline) (key_word k) (61 ∷ f) (key-lacks newline refl k) h in
        rw ((content-exact (b ++ newline ∷ []) b).1 (free, refl), le-leb (length b) line_bytes short, (keyed-exact b k f).1 refl)

-- reading bytes gives a line exactly when its names, atoms and policy are well formed, and the bytes are a writing of it, of at most 255 bytes,
-- and byte 10
pub line-exact : (s : Bytes) (l : Line)
    → (read_line s ≡ some l) ↔ ((is_line l ≡ true) × (b : Bytes) × Writes l b × (length b ≤ line_bytes) × (s ≡ b ++ newline ∷ []))
unfolding read_line
line-exact s l = (sound, λ (h, b, w, short, j). rw j (complete b w h short))
  where
    sound : read_line s ≡ some l → (is_line l ≡ true) × (b : Bytes) × Writes l b × (length b ≤ line_bytes) × (s ≡ b ++ newline ∷ [])
    sound e = bound {o = framed s} e λ (k, f) p q.
        let (free, short, j) = (framed-exact s k f).0 p in
        let (m, w) = fields-said k f l q in
        (m, key_word k ++ 61 ∷ f, w, short, j)

    complete : (b : Bytes) → Writes l b → is_line l ≡ true → length b ≤ line_bytes → read_line (b ++ newline ∷ []) ≡ some l
    complete b w h short =
        let (f, u, v) = fields_read w h in
        let k = line_key l in
        let j = ap (λ (x : Bytes). x ++ newline ∷ []) u in
        rw ((framed-exact (b ++ newline ∷ []) k f).1 (fields-lack k f b u (writes-lack w h), rw u at short, j), v)

pub line-formed : (s : Bytes) (l : Line) → read_line s ≡ some l → is_line l ≡ true
line-formed s l e = ((line-exact s l).0 e).0

-- what is written is read back
pub written_read : (l : Line) → is_line l ≡ true → length (write_line l) ≤ line_bytes → read_line (write_line l ++ newline ∷ []) ≡ some l
written_read l h short = (line-exact (write_line l ++ newline ∷ []) l).1 (h, write_line l, Writes.as_written l, short, refl)
