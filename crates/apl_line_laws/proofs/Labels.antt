-- The labels of lines are those names with which their tokens begin, a colon behind them.
use Rattle.std.proofs.Common.{◌≡◌, ℕ, zero, suc, ◌+◌, ◌-◌, ◌<◌, ◌⊎◌, inl, inr, Bool, true, false, if◌then◌else◌, List, [], ◌∷◌, Option, Some, None, Ok, Err, Contains, slice_get, refl, sym, ap, ◌∙◌, subst, arith}
use Rattle.std.specs.List.{AllByRecursion}
use Rattle.std.proofs.Math.Dec.{eqb-suc-zero}
use Rattle.std.proofs.lemmas.List.Elements.{Contains-append_cases, Contains-append_left, Contains-append_right}
use Rattle.apl_symbols.specs.declared.symbol.Symbol.TheVariants.{Colon}
use Rattle.apl_tokens.specs.declared.token.Kind.{Kind}
use Rattle.apl_tokens.specs.declared.token.Kind.TheVariants.{Name, Symbol}
use Rattle.apl_tokens.specs.declared.token.Token.{Token}
use Rattle.apl_tokens.specs.Kinds.{is_colon}
use Rattle.apl_tokens.specs.Tokens.{Answer, tokens_of}
use Rattle.apl_defn.specs.Definitions.{Text, Definition, line_at}
use Rattle.apl_defn.specs.Defining.{label_among, label_in, labelled, labels_from}
use Rattle.apl_defn.specs.Reading.{name_in}
use Rattle.apl_defn.proofs.Limits.{defined_made}
use Rattle.apl_array_laws.proofs.Pairs.{PairsHold, all_append, among_cases, first_among, from_pairs, none_among, one_list, pairs_append, to_pairs}
use Rattle.apl_line_laws.specs.Labels.{AreLabels, BeginWith, DefinitionsHaveLabels, HasLabel, HaveOneLabels, LineHasLabel, TokensHaveLabels}

-- ---- of tokens

named-so : (k : Kind) (name : Text) → name_in k ≡ Some name → k ≡ Name name
named-so (Name n) name e = let same : n ≡ name = cc in ap Name same
named-so k name e = absurd (cc)

colon-so : (k : Kind) → is_colon k ≡ true → k ≡ Symbol Colon
colon-so (Symbol Colon) e = refl
colon-so k e = absurd (cc)

two_begin : (t u : Token) (ts : List Token) (name : Text) (b : Bool) → is_colon u.kind ≡ b → (if b then name_in t.kind else None) ≡ Some name → BeginWith name (t ∷ u ∷ ts)
two_begin t u ts name true e h = record { first = t; second = u; rest = ts; tokens_are = refl; named = named-so t.kind name h; colon = colon-so u.kind e }
two_begin t u ts name false e h = absurd (cc)

begins : (ts : List Token) (name : Text) → label_in ts ≡ Some name → BeginWith name ts
begins [] name h = absurd (cc)
begins (t ∷ []) name h = absurd (cc)
begins (t ∷ u ∷ ts) name h = two_begin t u ts name (is_colon u.kind) refl h

labels_so : (ts : List Token) (name : Text) → BeginWith name ts → label_in ts ≡ Some name
labels_so ts name h =
    ap label_in h.tokens_are ∙ ap (λ (k : Kind). if is_colon k then name_in h.first.kind else None) h.colon ∙ ap name_in h.named

pub tokens_have_labels : TokensHaveLabels
tokens_have_labels ts name = (begins ts name, labels_so ts name)

-- ---- of a line

among_has : (text name : Text) (answer : Answer) → tokens_of text ≡ answer → label_among answer ≡ Some name → HasLabel text name
among_has text name (Ok ts) e h = record { tokens = ts; read = e; begin = begins ts name h }
among_has text name (Err f) e h = absurd (cc)

has_among : (text name : Text) → HasLabel text name → label_among (tokens_of text) ≡ Some name
has_among text name h = ap label_among h.read ∙ labels_so h.tokens name h.begin

-- ---- of lines

-- the k-th line behind the first has the label
record Behind (lines : List Text) (name : Text) (first number : ℕ) : Type 0 where
  k : ℕ
  number_is : number ≡ first + k
  text : Text
  line : slice_get lines k ≡ Some text
  has : HasLabel text name

abbrev numbered : Text → ℕ → Text × ℕ
numbered name n = (name, n)

labelled_cases : (n : ℕ) (o : Option Text) (name : Text) (m : ℕ) → Contains (labelled n o) (name, m) → (o ≡ Some name) × (n ≡ m)
labelled_cases n None name m c = absurd (none_among (numbered name m) c)
labelled_cases n (Some l) name m c = of (among_cases (numbered l n) (numbered name m) [] c)
  where
    of : (numbered l n ≡ numbered name m) ⊎ Contains [] (numbered name m) → (Some l ≡ Some name) × (n ≡ m)
    of (inl e) = (ap (λ (p : Text × ℕ). Some p.0) e, ap (λ (p : Text × ℕ). p.1) e)
    of (inr d) = absurd (none_among (numbered name m) d)

found : (n : ℕ) (lines : List Text) (name : Text) (m : ℕ) → Contains (labels_from n lines) (name, m) → Behind lines name n m
found n [] name m c = absurd (none_among (numbered name m) c)
found n (line ∷ lines) name m c = of (Contains-append_cases (labelled n (label_among (tokens_of line))) (labels_from (suc n) lines) (name, m) c) (found (suc n) lines name m)
  where
    later : Behind lines name (suc n) m → Behind (line ∷ lines) name n m
    later b = let e = b.number_is in record { k = suc b.k; number_is = omega arith; text = b.text; line = b.line; has = b.has }

    of : Contains (labelled n (label_among (tokens_of line))) (name, m) ⊎ Contains (labels_from (suc n) lines) (name, m)
        → (Contains (labels_from (suc n) lines) (name, m) → Behind lines name (suc n) m) → Behind (line ∷ lines) name n m
    of (inl d) rest =
        let both = labelled_cases n (label_among (tokens_of line)) name m d in
        let e = both.1 in
        record { k = 0; number_is = omega arith; text = line; line = refl; has = among_has line name (tokens_of line) refl both.0 }
    of (inr d) rest = later (rest d)

stands : (lines : List Text) (n k : ℕ) (text name : Text) → slice_get lines k ≡ Some text → HasLabel text name → Contains (labels_from n lines) (name, n + k)
stands [] n k text name e h = absurd (cc)
stands (line ∷ lines) n zero text name e h =
    let same : line ≡ text = cc in
    let label : label_among (tokens_of line) ≡ Some name = has_among line name (subst (λ t. HasLabel t name) (sym same) h) in
    let number : n + 0 ≡ n = omega arith in
    Contains-append_left (labelled n (label_among (tokens_of line))) (labels_from (suc n) lines) (name, n + 0) (rw (label, number) (first_among (name, n) []))
stands (line ∷ lines) n (suc k) text name e h =
    let number : suc n + k ≡ n + suc k = omega arith in
    Contains-append_right (labelled n (label_among (tokens_of line))) (labels_from (suc n) lines) (name, n + suc k)
    (subst (λ m. Contains (labels_from (suc n) lines) (name, m)) number (stands lines (suc n) k text name e h))

at_number : (lines : List Text) (k : ℕ) → line_at lines (suc k) ≡ slice_get lines k
at_number lines k = let less : suc k - 1 ≡ k = omega arith in rw (eqb-suc-zero k, less) refl

line_so : (lines : List Text) (name : Text) (m : ℕ) → Behind lines name 1 m → LineHasLabel lines name m
line_so lines name m b =
    let number : suc b.k ≡ m = omega (arith, b.number_is) in
    record { text = b.text; line = subst (λ n. line_at lines n ≡ Some b.text) number (at_number lines b.k ∙ b.line); has = b.has }

so_among : (lines : List Text) (name : Text) (m : ℕ) → LineHasLabel lines name m → Contains (labels_from 1 lines) (name, m)
so_among lines name zero l = let e = l.line in absurd (cc)
so_among lines name (suc k) l =
    let number : 1 + k ≡ suc k = omega arith in
    subst (λ m. Contains (labels_from 1 lines) (name, m)) number (stands lines 1 k l.text name (sym (at_number lines k) ∙ l.line) l.has)

-- ---- in order

abbrev Ascend : (Text × ℕ) → (Text × ℕ) → Type 0
Ascend a b = a.1 < b.1

above : (m n : ℕ) (lines : List Text) → m < n → AllByRecursion (λ (b : Text × ℕ). m < b.1) (labels_from n lines)
above m n [] h = tt
above m n (line ∷ lines) h =
    all_append (λ (b : Text × ℕ). m < b.1) (labelled n (label_among (tokens_of line))) (labels_from (suc n) lines) (here (label_among (tokens_of line))) (above m (suc n) lines (omega arith))
  where
    here : (o : Option Text) → AllByRecursion (λ (b : Text × ℕ). m < b.1) (labelled n o)
    here None = tt
    here (Some l) = (h, tt)

ascend : (n : ℕ) (lines : List Text) → PairsHold Ascend (labels_from n lines)
ascend n [] = tt
ascend n (line ∷ lines) =
    pairs_append Ascend (labelled n (label_among (tokens_of line))) (labels_from (suc n) lines) (alone (label_among (tokens_of line))) (ascend (suc n) lines) (before (label_among (tokens_of line)))
  where
    alone : (o : Option Text) → PairsHold Ascend (labelled n o)
    alone None = tt
    alone (Some l) = (tt, tt)

    before : (o : Option Text) → AllByRecursion (λ (a : Text × ℕ). AllByRecursion (Ascend a) (labels_from (suc n) lines)) (labelled n o)
    before None = tt
    before (Some l) = (above n (suc n) lines (omega arith), tt)

are_labels : (lines : List Text) → AreLabels lines (labels_from 1 lines)
are_labels lines = record { exact = λ name m. (λ c. line_so lines name m (found 1 lines name m c), so_among lines name m); order = to_pairs Ascend (labels_from 1 lines) (ascend 1 lines) }

pub definitions_have_labels : DefinitionsHaveLabels
definitions_have_labels d p =
    let labels : labels_from 1 d.lines ≡ d.labels = ap (λ (e : Definition). e.labels) (defined_made p.0 d.lines d p.1).2.is in
    subst (AreLabels d.lines) labels (are_labels d.lines)

pub have_one_labels : HaveOneLabels
have_one_labels lines some others g h =
    one_list Ascend one_way some others (from_pairs Ascend some g.order) (from_pairs Ascend others h.order)
    (λ label c. (h.exact label.0 label.1).1 ((g.exact label.0 label.1).0 c)) (λ label c. (g.exact label.0 label.1).1 ((h.exact label.0 label.1).0 c))
  where
    one_way : (a b : Text × ℕ) → Ascend a b → Ascend b a → ⊥
    one_way a b l m = omega (arith, l, m)
