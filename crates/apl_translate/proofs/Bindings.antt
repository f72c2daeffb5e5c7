-- What is bound is a line.
use Rattle.std.proofs.Common.{◌≡◌, ℕ, ◌+◌, ◌≤◌, ◌&&◌, Bool, true, false, List, [], ◌∷◌, ◌++◌, length, length-append, Option, Some, None, option_map, refl, sym, ap, ◌∙◌, subst, arith}
use Rattle.std.specs.Prelude.{if◌then◌else◌}
use Rattle.std.specs.List.{All, flat_map}
use Rattle.std.proofs.lemmas.List.Elements.{All-nil, All-cons, All-head, All-tail, All-append}
use Rattle.apl_symbols.specs.declared.symbol.Symbol.TheVariants as symbols
use Rattle.apl_tokens.specs.declared.token.Kind.{Kind}
use Rattle.apl_tokens.specs.declared.token.Kind.TheVariants as tokens
use Rattle.apl_tokens.specs.declared.token.Token.{Token}
use Rattle.apl_arrays.specs.Cells.{Arr}
use Rattle.apl_symbols.specs.declared.class.Class.{Class}
use Rattle.apl_translate.specs.declared.form.Word.{Word}
use Rattle.apl_translate.specs.declared.form.Form.{Form}
use Rattle.apl_translate.specs.declared.form.Form.TheVariants as forms
use Rattle.apl_translate.specs.declared.form.Placed.{Placed}
use Rattle.apl_translate.specs.Forms.{wanted_kinds, IsFresh}
use Rattle.apl_translate.specs.Lines.{Line, NamesConstants, ArePlaced, AreNamed}
use Rattle.apl_tokens.specs.Kinds.{is_colon, is_name}
use Rattle.apl_translate.specs.Binding.{Left, nothing_left, without_label, word_of, symbol_word, form_of, with_item, placed, items_from, constant_in, HasName}
use Rattle.apl_translate.proofs.Settled.{wanted-append}
use Rattle.apl_translate.proofs.Spelt.{items_named, constants_few}

-- a label has no constants
label_kinds : (k j : Kind) → (is_name k && is_colon j) ≡ true → (constant_in k ≡ []) × (constant_in j ≡ [])
label_kinds (tokens.Name name) (tokens.Symbol symbols.Colon) h = (refl, refl)
label_kinds k j h = cc

label_case : (b : Bool) (t u : Token) (ts : List Token) → (is_name t.kind && is_colon u.kind) ≡ b → flat_map (λ (t : Token). constant_in t.kind) (if b then ts else t ∷ u ∷ ts) ≡ flat_map (λ (t : Token). constant_in t.kind) (t ∷ u ∷ ts)
label_case true t u ts h =
    let e = label_kinds t.kind u.kind h in
    let c = λ (t : Token). constant_in t.kind in
    ap (λ (arrays : List Arr). arrays ++ flat_map c ts) (sym e.1) ∙ ap (λ (arrays : List Arr). arrays ++ (constant_in u.kind ++ flat_map c ts)) (sym e.0)
label_case false t u ts h = refl

pub label_constants : (ts : List Token) → flat_map (λ (t : Token). constant_in t.kind) (without_label ts) ≡ flat_map (λ (t : Token). constant_in t.kind) ts
label_constants [] = refl
label_constants (t ∷ []) = refl
label_constants (t ∷ u ∷ ts) = label_case (is_name t.kind && is_colon u.kind) t u ts refl

label_shorter : (b : Bool) (t u : Token) (ts : List Token) → length (if b then ts else t ∷ u ∷ ts) ≤ length (t ∷ u ∷ ts)
label_shorter true t u ts = omega arith
label_shorter false t u ts = omega arith

pub label_few : (ts : List Token) → length (without_label ts) ≤ length ts
label_few [] = omega arith
label_few (t ∷ []) = omega arith
label_few (t ∷ u ∷ ts) = label_shorter (is_name t.kind && is_colon u.kind) t u ts

label_rest : (P : Token → Type 0) (b : Bool) (t u : Token) (ts : List Token) → All P (t ∷ u ∷ ts) → All P (if b then ts else t ∷ u ∷ ts)
label_rest P true t u ts h = All-tail P u ts (All-tail P t (u ∷ ts) h)
label_rest P false t u ts h = h

pub label_all : (P : Token → Type 0) (ts : List Token) → All P ts → All P (without_label ts)
label_all P [] h = h
label_all P (t ∷ []) h = h
label_all P (t ∷ u ∷ ts) h = label_rest P (is_name t.kind && is_colon u.kind) t u ts h

-- a token is one item at most
placed_few : (o : Option Form) (at : ℕ) → length (placed o at) ≤ 1
placed_few None at = omega arith
placed_few (Some f) at = omega arith

pub items_few : (given : List Class) (left : Left) (ts : List Token) → length (items_from given left ts) ≤ length ts
items_few given left [] = omega arith
items_few given left (t ∷ ts) =
    let rest = with_item left t.kind (form_of given left t.kind) in
    omega (arith, length-append (placed (form_of given left t.kind) t.at) (items_from given rest ts), placed_few (form_of given left t.kind) t.at, items_few given rest ts)

-- at its column
placed_there : (P : ℕ → Type 0) (o : Option Form) (at : ℕ) → P at → All (λ (p : Placed). P p.at) (placed o at)
placed_there P None at h = All-nil (λ (p : Placed). P p.at)
placed_there P (Some f) at h = All-cons (λ (p : Placed). P p.at) (record { form = f; at = at }) [] h (All-nil (λ (p : Placed). P p.at))

pub items_there : (P : ℕ → Type 0) (given : List Class) (left : Left) (ts : List Token) → All (λ (t : Token). P t.at) ts → All (λ (p : Placed). P p.at) (items_from given left ts)
items_there P given left [] h = All-nil (λ (p : Placed). P p.at)
items_there P given left (t ∷ ts) h =
    let Q = λ (t : Token). P t.at in
    let rest = with_item left t.kind (form_of given left t.kind) in
    All-append (λ (p : Placed). P p.at) (placed (form_of given left t.kind) t.at) (items_from given rest ts) (placed_there P (form_of given left t.kind) t.at (All-head Q t ts h)) (items_there P given rest ts (All-tail Q t ts h))

-- what is bound waits for nothing
word_fresh : (o : Option Word) (at : ℕ) → wanted_kinds (placed (option_map forms.Word o) at) ≡ []
word_fresh None at = refl
word_fresh (Some w) at = refl

placed_fresh : (given : List Class) (left : Left) (kind : Kind) (at : ℕ) → wanted_kinds (placed (form_of given left kind) at) ≡ []
placed_fresh given left (tokens.Constant numbers) at = refl
placed_fresh given left (tokens.Text text) at = refl
placed_fresh given left (tokens.Name name) at = refl
placed_fresh given left (tokens.System name) at = refl
placed_fresh given left (tokens.Comment text) at = refl
placed_fresh given left (tokens.Symbol symbol) at = word_fresh (symbol_word left symbol) at

pub items_fresh : (given : List Class) (left : Left) (ts : List Token) → IsFresh (items_from given left ts)
items_fresh given left [] = refl
items_fresh given left (t ∷ ts) =
    let rest = items_from given (with_item left t.kind (form_of given left t.kind)) ts in
    wanted-append (placed (form_of given left t.kind) t.at) rest
    ∙ ap (λ ks. ks ++ wanted_kinds rest) (placed_fresh given left t.kind t.at)
    ∙ items_fresh given (with_item left t.kind (form_of given left t.kind)) ts

-- a word is no constant
word_known : (n : ℕ) (left : Left) (kind : Kind) (o : Option Word) (at : ℕ) (rest : Left → List Placed) → ((next : Left) → next.constants ≡ left.constants → NamesConstants n (rest next)) → NamesConstants n (placed (option_map forms.Word o) at ++ rest (with_item left kind (option_map forms.Word o)))
word_known n left kind None at rest h = h left refl
word_known n left kind (Some w) at rest h = (tt, h (with_item left kind (Some (forms.Word w))) refl)

-- so many constants stand left of the rest, and so many in it
known_case : (n : ℕ) (given : List Class) (left : Left) (kind : Kind) (at : ℕ) (ts : List Token) → ((next : Left) → next.constants + length (flat_map (λ (t : Token). constant_in t.kind) ts) ≤ n → NamesConstants n (items_from given next ts)) → left.constants + length (constant_in kind ++ flat_map (λ (t : Token). constant_in t.kind) ts) ≤ n → NamesConstants n (placed (form_of given left kind) at ++ items_from given (with_item left kind (form_of given left kind)) ts)
known_case n given left (tokens.Constant numbers) at ts f h = (omega arith, f (with_item left (tokens.Constant numbers) (Some (forms.Constant left.constants))) (omega arith))
known_case n given left (tokens.Text text) at ts f h = (omega arith, f (with_item left (tokens.Text text) (Some (forms.Constant left.constants))) (omega arith))
known_case n given left (tokens.Name name) at ts f h = word_known n left (tokens.Name name) (word_of given left (tokens.Name name)) at (λ next. items_from given next ts) (λ next e. f next (omega (arith, h, e)))
known_case n given left (tokens.System name) at ts f h = word_known n left (tokens.System name) (word_of given left (tokens.System name)) at (λ next. items_from given next ts) (λ next e. f next (omega (arith, h, e)))
known_case n given left (tokens.Comment text) at ts f h = f left h
known_case n given left (tokens.Symbol symbol) at ts f h = word_known n left (tokens.Symbol symbol) (symbol_word left symbol) at (λ next. items_from given next ts) (λ next e. f next (omega (arith, h, e)))

pub items_known : (n : ℕ) (given : List Class) (left : Left) (ts : List Token) → left.constants + length (flat_map (λ (t : Token). constant_in t.kind) ts) ≤ n → NamesConstants n (items_from given left ts)
items_known n given left [] h = tt
items_known n given left (t ∷ ts) h = known_case n given left t.kind t.at ts (λ next g. items_known n given next ts g) h

-- the items of the tokens without their label are fit for a line
pub record FitsLine (items : List Placed) (constants : List Arr) : Type 0 where
  pub few : length items ≤ 500
  pub fresh : IsFresh items
  pub known : NamesConstants (length constants) items
  pub there : ArePlaced items
  pub named : AreNamed items
  pub bounded : length constants ≤ 500

pub bound_fits : (given : List Class) (ts rest : List Token) (items : List Placed) (constants : List Arr) → length ts ≤ 500 → All (λ (t : Token). (1 ≤ t.at) × (t.at ≤ 500)) ts → All (λ (t : Token). HasName t.kind) ts → rest ≡ without_label ts → items ≡ items_from given nothing_left rest → constants ≡ flat_map (λ (t : Token). constant_in t.kind) ts → FitsLine items constants
bound_fits given ts rest items constants few there named r i c =
    let P = λ (at : ℕ). (1 ≤ at) × (at ≤ 500) in
    let bound = items_from given nothing_left (without_label ts) in
    let e : items ≡ bound = i ∙ ap (items_from given nothing_left) r in
    let n : length (flat_map (λ (t : Token). constant_in t.kind) (without_label ts)) ≡ length constants = ap length (label_constants ts) ∙ sym (ap length c) in
    let known = items_known (length constants) given nothing_left (without_label ts) (omega (arith, n)) in
    record {
      few = omega (arith, ap length e, items_few given nothing_left (without_label ts), label_few ts);
      fresh = subst IsFresh (sym e) (items_fresh given nothing_left (without_label ts));
      known = subst (NamesConstants (length constants)) (sym e) known;
      there = subst ArePlaced (sym e) (items_there P given nothing_left (without_label ts) (label_all (λ (t : Token). P t.at) ts there));
      named = subst AreNamed (sym e) (items_named given nothing_left (without_label ts) (label_all (λ (t : Token). HasName t.kind) ts named));
      bounded = omega (arith, ap length c, constants_few ts);
    }

pub line_is : (line : Line) (items : List Placed) (constants : List Arr) → line.items ≡ items → line.constants ≡ constants → line ≡ record { items = items; constants = constants }
line_is line items constants e f = λ i. record { items = e i; constants = f i }
