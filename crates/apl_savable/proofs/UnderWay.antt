-- A line begins, goes on, awaits an answer and gets it.
use Rattle.std.proofs.Common.{◌≡◌, ℕ, zero, suc, ◌+◌, ◌<◌, Bool, false, List, [], ◌∷◌, ◌++◌, length, take, drop, map, reverse, Option, Some, None, Ok, Err, refl, sym, ap, ◌∙◌, subst, arith, add-one, zero-add}
use Rattle.std.specs.Prelude.{slice_get, Result}
use Rattle.std.specs.List.{count_by, drop-map}
use Rattle.std.proofs.lemmas.List.Sums.{sum_by-cons}
use Rattle.std.specs.Prelude.{cond}
use Rattle.std.proofs.lemmas.List.{length-map, map-append, reverse-append, reverse-reverse}
use Rattle.apl_arrays.specs.Cells.{Arr}
use Rattle.apl_symbols.specs.declared.class.Class.{Class}
use Rattle.apl_tokens.specs.declared.token.Token.{Token}
use Rattle.apl_tokens.specs.declared.line.TokenError.{TokenError}
use Rattle.apl_tokens.specs.Tokens.{tokens_of}
use Rattle.apl_code.specs.declared.instr.Instr.{Instr}
use Rattle.apl_code.specs.declared.instr.Source.{Source}
use Rattle.apl_code.specs.declared.instr.Source.TheVariants.{Constant, Stack}
use Rattle.apl_defn.specs.Definitions.{Text}
use Rattle.apl_listing.specs.declared.stack.Kind.{Kind as Stacked}
use Rattle.apl_listing.specs.declared.stack.Kind.TheVariants as stacked
use Rattle.apl_listing.specs.Kinds.{after, is_stacked, kinds, puts}
use Rattle.apl_translate.specs.declared.form.Form.TheVariants as forms
use Rattle.apl_translate.specs.declared.form.Placed.{Placed}
use Rattle.apl_translate.specs.Binding.{bound_of, names_of}
use Rattle.apl_translate.specs.Translation.{Translates, kind_of, result_of}
use Rattle.apl_machine_state.specs.declared.operand.Operand.{Operand}
use Rattle.apl_machine_state.specs.declared.operand.Operand.TheVariants.{Value}
use Rattle.apl_machine_state.specs.Items as items
use Rattle.apl_machine_state.specs.Items.{Rest, Awaited, Given, kind_of_operand}
use Rattle.apl_machine_state.specs.Environment.{World, Context, class_of}
use Rattle.apl_machine_state.specs.Calls.{begun_of, line_begun}
use Rattle.apl_operands.specs.Operands.{below, unfetched}
use Rattle.apl_frames.specs.declared.frame.Stage.{Stage}
use Rattle.apl_frames.specs.declared.frame.Stage.TheVariants.{Ready, Pendent}
use Rattle.apl_frames.specs.Flat.{Flat, answered, begun_flat, emptied, rest_with}
use Rattle.apl_frames.proofs.Standing.{AtPhrase, begins_fresh}
use Rattle.apl_frames.proofs.Pendent.{answers, answers_rest, empties}
use Rattle.apl_parts.proofs.Added.{map_reverse}
use Rattle.apl_saved.specs.Rules as rules
use Rattle.apl_savable.specs.Savable.{AreLeft, IsUnderWay, IsUnderWayIn}
use Rattle.apl_savable.proofs.Fits.{HasCode, code-few, has-code, line-fits}

-- ---- a line begins

some-code : (code : List Instr) (a : Bool) (ps : List Placed) → Translates code a ps → 0 < length code
some-code [] a ps t = absurd t
some-code (i ∷ is) a ps t = omega arith

pub begun-under-way : (w : World) (contexts : List Context) (text : Text) (tokens : List Token) → tokens_of text ≡ Ok tokens → IsUnderWay text (line_begun w contexts tokens)
begun-under-way w contexts text tokens e =
    let classes : List Class = map (class_of w contexts) (names_of tokens) in
    let line = bound_of tokens classes in
    let fits = line-fits text tokens classes e in
    let code : HasCode false line.items = has-code false line.items in
    record {
      tokens = tokens;
      read = e;
      classes = classes;
      as_many = length-map (names_of tokens) (class_of w contexts);
      line = begun_flat line code.code;
      bound = refl;
      stands = record {
        fresh = fits.fresh;
        known = fits.known;
        placed = fits.there;
        translates = code.translates;
        few = code-few code.code line.items line.constants fits code.translates;
        runs = some-code code.code false line.items code.translates;
        kinds = sym fits.fresh;
      };
      left = refl;
      is = begins_fresh (begun_flat line code.code) refl refl refl;
    }

pub begun-in-under-way : (w : World) (contexts : List Context) (text : Text) (r : Result (List Token) TokenError) → tokens_of text ≡ r → IsUnderWayIn text (begun_of w contexts r)
begun-in-under-way w contexts text (Ok tokens) e = begun-under-way w contexts text tokens e
begun-in-under-way w contexts text (Err error) e = tt

-- ---- what one more instruction leaves

take-next : (k : ℕ) (is : List Instr) (i : Instr) → slice_get is k ≡ Some i → take (suc k) is ≡ take k is ++ i ∷ []
take-next zero [] i h = cc
take-next zero (j ∷ is) i h = let e : j ≡ i = cc in ap (λ x. x ∷ []) e
take-next (suc k) [] i h = cc
take-next (suc k) (j ∷ is) i h = ap (λ l. j ∷ l) (take-next k is i h)

kinds-next : (st : List Stacked) (is : List Instr) (i : Instr) → kinds st (is ++ i ∷ []) ≡ after i (kinds st is)
kinds-next st [] i = refl
kinds-next st (j ∷ is) i = kinds-next (after j st) is i

one-more : (ss : List (Option Source)) → count_by is_stacked (Some Stack ∷ ss) ≡ suc (count_by is_stacked ss)
one-more ss = let e = sum_by-cons (λ x. cond (is_stacked x) 1 0) (Some Stack) ss in omega (arith, e)

no-more : (s : Option Source) (ss : List (Option Source)) → is_stacked s ≡ false → count_by is_stacked (s ∷ ss) ≡ count_by is_stacked ss
no-more s ss h = let e : count_by is_stacked (s ∷ ss) ≡ cond (is_stacked s) 1 0 + count_by is_stacked ss = sum_by-cons (λ x. cond (is_stacked x) 1 0) s ss in e ∙ ap (λ b. cond b 1 0 + count_by is_stacked ss) h ∙ zero-add (count_by is_stacked ss)

drop-below : (n : ℕ) (st : List Operand) → drop n (below st) ≡ drop (suc n) st
drop-below zero [] = refl
drop-below (suc n) [] = refl
drop-below n (o ∷ st) = refl

unfetched-drop : (ss : List (Option Source)) (st : List Operand) → unfetched ss st ≡ drop (count_by is_stacked ss) st
unfetched-drop [] st = refl
unfetched-drop (None ∷ ss) st = unfetched-drop ss st ∙ ap (λ n. drop n st) (sym (no-more None ss refl))
unfetched-drop (Some (Constant k) ∷ ss) st = unfetched-drop ss st ∙ ap (λ n. drop n st) (sym (no-more (Some (Constant k)) ss refl))
unfetched-drop (Some Stack ∷ ss) st = unfetched-drop ss (below st) ∙ drop-below (count_by is_stacked ss) st ∙ ap (λ n. drop n st) (sym (one-more ss))

-- beneath what it puts lies what it has not taken
left-next : (code : List Instr) (done : ℕ) (i : Instr) (os : List Operand) → slice_get code done ≡ Some i → kinds [] (take done code) ≡ reverse (map rules.kind_of os) → kinds [] (take (done + 1) code) ≡ puts i.action i.arguments ++ map rules.kind_of (unfetched i.arguments (reverse os))
left-next code done i os g l =
    let n = count_by is_stacked i.arguments in
    ap (λ m. kinds [] (take m code)) (add-one done)
    ∙ ap (kinds []) (take-next done code i g)
    ∙ kinds-next [] (take done code) i
    ∙ ap (λ st. puts i.action i.arguments ++ drop n st) (l ∙ sym (map_reverse rules.kind_of os))
    ∙ ap (λ st. puts i.action i.arguments ++ st) (drop-map rules.kind_of n (reverse os))
    ∙ ap (λ st. puts i.action i.arguments ++ map rules.kind_of st) (sym (unfetched-drop i.arguments (reverse os)))

turned-kinds : (os : List Operand) → map rules.kind_of os ≡ reverse (map rules.kind_of (reverse os))
turned-kinds os = ap (map rules.kind_of) (sym (reverse-reverse os)) ∙ map_reverse rules.kind_of (reverse os)

-- ---- a phrase gives something

-- one more instruction is done
abbrev next : Flat → List Operand → Stage → Flat
next f os stage = record { bound = f.bound; code = f.code; done = f.done + 1; operands = reverse os; stage = stage }

pub given-under-way : (text : Text) (rest : Rest) (u : IsUnderWay text rest) (i : Instr) (a : AtPhrase u.line i) (o : Operand) → u.line.stage ≡ Ready → slice_get u.line.code u.line.done ≡ Some i → kind_of_operand o ≡ kind_of (result_of a.r) → puts i.action i.arguments ≡ rules.kind_of o ∷ []
    → IsUnderWay text (items.reduced a.n a.r (Given o) rest)
given-under-way text rest u i a o e g k p =
    let f = u.line in
    let s = u.stands in
    let os = o ∷ unfetched i.arguments (reverse f.operands) in
    record {
      tokens = u.tokens;
      read = u.read;
      classes = u.classes;
      as_many = u.as_many;
      line = next f os Ready;
      bound = u.bound;
      stands = record {
        fresh = s.fresh;
        known = s.known;
        placed = s.placed;
        translates = s.translates;
        few = s.few;
        runs = a.more;
        kinds = ap (map kind_of_operand) (reverse-reverse os) ∙ a.kinds o k;
      };
      left = left-next f.code f.done i f.operands g (subst (λ (t : Stage). AreLeft t (kinds [] (take f.done f.code)) f.operands) e u.left)
          ∙ ap (λ (l : List Stacked). l ++ map rules.kind_of (unfetched i.arguments (reverse f.operands))) p
          ∙ turned-kinds os;
      is = ap (items.reduced a.n a.r (Given o)) u.is ∙ a.gives o ∙ ap (rest_with Ready f.bound (f.done + 1)) (sym (reverse-reverse os));
    }

-- it calls, and its answer is awaited
pub awaits-under-way : (text : Text) (rest : Rest) (u : IsUnderWay text rest) (i : Instr) (a : AtPhrase u.line i) → u.line.stage ≡ Ready → slice_get u.line.code u.line.done ≡ Some i → result_of a.r ≡ forms.Given → puts i.action i.arguments ≡ stacked.Value ∷ []
    → IsUnderWay text (items.reduced a.n a.r Awaited rest)
awaits-under-way text rest u i a e g k p =
    let f = u.line in
    let s = u.stands in
    let os = unfetched i.arguments (reverse f.operands) in
    record {
      tokens = u.tokens;
      read = u.read;
      classes = u.classes;
      as_many = u.as_many;
      line = next f os Pendent;
      bound = u.bound;
      stands = record {
        fresh = s.fresh;
        known = s.known;
        placed = s.placed;
        translates = s.translates;
        few = s.few;
        runs = a.more;
        kinds = ap (λ st. map kind_of_operand (Value items.zilde ∷ st)) (reverse-reverse os) ∙ a.kinds (Value items.zilde) (ap kind_of (sym k));
      };
      left = left-next f.code f.done i f.operands g (subst (λ (t : Stage). AreLeft t (kinds [] (take f.done f.code)) f.operands) e u.left)
          ∙ ap (λ (l : List Stacked). l ++ map rules.kind_of os) p
          ∙ ap (λ (l : List Stacked). stacked.Value ∷ l) (turned-kinds os);
      is = ap (items.reduced a.n a.r Awaited) u.is ∙ a.awaits k ∙ ap (rest_with Pendent f.bound (f.done + 1)) (sym (reverse-reverse os));
    }

-- ---- the answer has come

answered-left : (left : List Stacked) (os : List Operand) (a : Arr) → left ≡ stacked.Value ∷ reverse (map rules.kind_of os) → left ≡ reverse (map rules.kind_of (os ++ Value a ∷ []))
answered-left left os a h = h ∙ sym (reverse-append (map rules.kind_of os) (stacked.Value ∷ [])) ∙ ap reverse (sym (map-append rules.kind_of os (Value a ∷ [])))

pub answered-under-way : (text : Text) (rest : Rest) (u : IsUnderWay text rest) (a : Arr) → u.line.stage ≡ Pendent → IsUnderWay text (record rest { items = items.filled a rest.items })
answered-under-way text rest u a e =
    let f = u.line in
    record {
      tokens = u.tokens;
      read = u.read;
      classes = u.classes;
      as_many = u.as_many;
      line = answered f a;
      bound = u.bound;
      stands = answers f u.stands e a;
      left = answered-left (kinds [] (take f.done f.code)) f.operands a (subst (λ (t : Stage). AreLeft t (kinds [] (take f.done f.code)) f.operands) e u.left);
      is = ap (λ (r : Rest). record r { items = items.filled a r.items }) u.is ∙ sym (answers_rest f u.stands e a);
    }

-- or nothing has come
pub emptied-under-way : (text : Text) (rest : Rest) (u : IsUnderWay text rest) → u.line.stage ≡ Pendent → IsUnderWay text (record rest { items = [] })
emptied-under-way text rest u e = record {
  tokens = u.tokens;
  read = u.read;
  classes = u.classes;
  as_many = u.as_many;
  line = emptied u.line;
  bound = u.bound;
  stands = empties u.line u.stands e;
  left = tt;
  is = ap (λ (r : Rest). record r { items = [] }) u.is;
}
