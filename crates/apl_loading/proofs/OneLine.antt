-- Lines of a file.
use Rattle.std.proofs.Common.{◌≡◌, ◌↔◌, ℕ, ◌+◌, Bool, true, false, cond, List, [], ◌∷◌, ◌++◌, length, map, reverse, Option, Some, None, Result, Ok, refl, sym, ap, ◌∙◌, subst, arith}
use Rattle.std.specs.Prelude.{IsTrue, is_some}
use Rattle.std.specs.List.{count_by, flat_map}
use Rattle.std.proofs.lemmas.List.{reverse-append, reverse-reverse}
use Rattle.std.proofs.lemmas.List.Sums.{sum_by-cons}
use Rattle.apl_charset.specs.Text.{IsLine}
use Rattle.apl_charset.proofs.Unique.{one_text}
use Rattle.apl_symbols.specs.declared.class.Class.{Class}
use Rattle.apl_symbols.specs.declared.class.Class.TheVariants as classes
use Rattle.apl_tokens.specs.declared.token.Token.{Token}
use Rattle.apl_tokens.specs.declared.token.Kind.{Kind}
use Rattle.apl_tokens.specs.declared.token.Kind.TheVariants as kinds
use Rattle.apl_tokens.specs.declared.line.TokenError.{TokenError}
use Rattle.apl_tokens.specs.Kinds.{is_name}
use Rattle.apl_tokens.specs.Tokens.{tokens_of}
use Rattle.apl_defn.specs.Definitions.{Text}
use Rattle.apl_defn.specs.Defining.{label_in}
use Rattle.apl_code.specs.declared.instr.Instr.{Instr}
use Rattle.apl_listing.specs.declared.stack.Kind.{Kind as Stacked}
use Rattle.apl_listing.specs.declared.stack.Kind.TheVariants as stacked
use Rattle.apl_machine_state.specs.declared.operand.Operand.{Operand}
use Rattle.apl_translate.specs.Binding.{bound_of, name_in, names_of, without_label}
use Rattle.apl_translate.specs.Translation.{Translates}
use Rattle.apl_translate.proofs.OneCode.{one_code}
use Rattle.apl_parts.specs.Pieces.{Waiting}
use Rattle.apl_workspace_file.specs.declared.fields.RestField.{RestField}
use Rattle.apl_workspace_file.specs.declared.fields.StatementField.{StatementField}
use Rattle.apl_saved.specs.Spelled.{Pairwise, letter_of, letters_of}
use Rattle.apl_saved.specs.Rules.{IsPendentLine, kind_of}
use Rattle.apl_loading.specs.inside.Made.{AreClasses, HasStack, IsRestBy, IsStatementBy, IsStatementLine, IsWaitingBy, is_named}
use Rattle.apl_loading.proofs.Lists.{one_list}

-- ---- names of a line

named_one : (k : Kind) → cond (is_name k) 1 0 ≡ length (name_in k)
named_one (kinds.Name n) = refl
named_one (kinds.Constant ns) = refl
named_one (kinds.Text t) = refl
named_one (kinds.Comment t) = refl
named_one (kinds.System s) = refl
named_one (kinds.Symbol s) = refl

length_joined : {X : Type 0} (xs ys : List X) → length (xs ++ ys) ≡ length xs + length ys
length_joined [] ys = omega arith
length_joined (x ∷ xs) ys = let i = length_joined xs ys in omega (arith, i)

names_counted : (ts : List Token) → count_by is_named ts ≡ length (flat_map (λ (t : Token). name_in t.kind) ts)
names_counted [] = refl
names_counted (t ∷ ts) =
    let c : count_by is_named (t ∷ ts) ≡ cond (is_named t) 1 0 + count_by is_named ts = sum_by-cons (λ u. cond (is_named u) 1 0) t ts in
    let n = named_one t.kind in
    let i = names_counted ts in
    let l = length_joined (name_in t.kind) (flat_map (λ (u : Token). name_in u.kind) ts) in
    omega (arith, c, n, i, l)

pub names_number : (ts : List Token) → count_by is_named (without_label ts) ≡ length (names_of ts)
unfolding names_of
names_number ts = names_counted (without_label ts)

-- ---- classes and letters

pub one_letter : (b : ℕ) (c d : Class) → b ≡ letter_of c → b ≡ letter_of d → c ≡ d
one_letter b classes.Variable classes.Variable g h = refl
one_letter b classes.Niladic classes.Niladic g h = refl
one_letter b classes.Function classes.Function g h = refl
one_letter b classes.Variable classes.Niladic g h = absurd (omega (arith, g, h))
one_letter b classes.Variable classes.Function g h = absurd (omega (arith, g, h))
one_letter b classes.Niladic classes.Variable g h = absurd (omega (arith, g, h))
one_letter b classes.Niladic classes.Function g h = absurd (omega (arith, g, h))
one_letter b classes.Function classes.Variable g h = absurd (omega (arith, g, h))
one_letter b classes.Function classes.Niladic g h = absurd (omega (arith, g, h))

pub letters_are : (bs : List ℕ) (cs : List Class) → Pairwise (λ b c. b ≡ letter_of c) bs cs → bs ≡ letters_of cs
letters_are [] [] h = refl
letters_are [] (c ∷ cs) h = absurd h
letters_are (b ∷ bs) [] h = absurd h
letters_are (b ∷ bs) (c ∷ cs) h = ap (λ x. x ∷ bs) h.0 ∙ ap (λ xs. letter_of c ∷ xs) (letters_are bs cs h.1)

pairs_self : (cs : List Class) → Pairwise (λ b c. b ≡ letter_of c) (letters_of cs) cs
pairs_self [] = tt
pairs_self (c ∷ cs) = (refl, pairs_self cs)

pub are_letters : (bs : List ℕ) (cs : List Class) → bs ≡ letters_of cs → Pairwise (λ b c. b ≡ letter_of c) bs cs
are_letters bs cs e = subst (λ xs. Pairwise (λ b c. b ≡ letter_of c) xs cs) (sym e) (pairs_self cs)

pub one_classes : (bs : List ℕ) (cs ds : List Class) → bs ≡ letters_of cs → bs ≡ letters_of ds → cs ≡ ds
one_classes bs cs ds g h = one_list (λ b c. b ≡ letter_of c) one_letter bs cs ds (are_letters bs cs g) (are_letters bs ds h)

-- ---- statements

pub same_tokens : (text : Text) (ts us : List Token) → tokens_of text ≡ Ok ts → tokens_of text ≡ Ok us → ts ≡ us
same_tokens text ts us g h = ok_is ts us (sym g ∙ h)
  where
    ok_is : (ts us : List Token) → ◌≡◌ {A = Result (List Token) TokenError} (Ok ts) (Ok us) → ts ≡ us
    ok_is ts us e = cc

pub no_tokens : (field : List ℕ) (text seen : Text) → IsLine field text → seen ≡ text → ((ts : List Token) → ¬ (tokens_of seen ≡ Ok ts)) → (other : Text) (us : List Token) → ¬ IsStatementLine field other us
no_tokens field text seen l s none other us h = none us (ap tokens_of (s ∙ one_text field text other l h.line) ∙ h.read)

no_label : (o : Option Text) → o ≡ None → is_some o ≡ true → ⊥
no_label None e h = cc
no_label (Some x) e h = cc

pub labelled : (field : List ℕ) (text seen : Text) (ts shown : List Token) → IsLine field text → seen ≡ text → tokens_of seen ≡ Ok ts → shown ≡ ts → is_some (label_in shown) ≡ true → (other : Text) (us : List Token) → ¬ IsStatementLine field other us
labelled field text seen ts shown l s r t b other us h =
    let e : ts ≡ us = same_tokens seen ts us r (ap tokens_of (s ∙ one_text field text other l h.line) ∙ h.read) in
    no_label (label_in us) h.unlabelled (ap (λ vs. is_some (label_in vs)) (sym (t ∙ e)) ∙ b)

-- ---- the operand stack

pub beneath : (b : Bool) (ks turned below : List Stacked) (os : List Operand) → turned ≡ reverse ks → turned ≡ below ++ stacked.Value ∷ [] → IsTrue b ↔ (below ≡ map kind_of os) → IsTrue b ↔ (ks ≡ stacked.Value ∷ reverse (map kind_of os))
beneath b ks turned below os r p h =
    let whole : ks ≡ stacked.Value ∷ reverse below = sym (reverse-reverse ks) ∙ ap reverse (sym r ∙ p) ∙ reverse-append below (stacked.Value ∷ []) in
    (λ t. whole ∙ ap (λ xs. stacked.Value ∷ reverse xs) (h.0 t), λ e. h.1 (back below (map kind_of os) (sym whole ∙ e)))
  where
    tails : (xs ys : List Stacked) → stacked.Value ∷ xs ≡ stacked.Value ∷ ys → xs ≡ ys
    tails xs ys e = cc

    back : (xs ys : List Stacked) → stacked.Value ∷ reverse xs ≡ stacked.Value ∷ reverse ys → xs ≡ ys
    back xs ys e = sym (reverse-reverse xs) ∙ ap reverse (tails (reverse xs) (reverse ys) e) ∙ reverse-reverse ys

-- where the instructions leave other operands, the line awaits nothing so
pub no_stack : (tokens : List Token) (w : Waiting) (code : List Instr) → Translates code false (bound_of tokens w.classes).items → ¬ HasStack code w.done w.operands → (other : List Instr) → ¬ IsPendentLine tokens w other
no_stack tokens w code t none other l =
    let e : other ≡ code = one_code other code false (bound_of tokens w.classes).items l.translates t in
    none (subst (λ is. HasStack is w.done w.operands) e (record { begun = l.begun; runs = l.runs; stack = l.kinds }))

-- ---- the rest of a line

pub other_rest : (tokens : List Token) (f : RestField) (classes : List Class) (os : List Operand) → AreClasses tokens f.classes classes → ((code : List Instr) → ¬ IsPendentLine tokens (record { classes = classes; done = f.done; operands = os }) code) → (w : Waiting) → ¬ IsWaitingBy tokens f os w
other_rest tokens f classes os a none w g =
    let c : w.classes ≡ classes = one_classes f.classes w.classes classes g.0.classes a.0 in
    let d : w.done ≡ f.done = sym g.0.done in
    let o : w.operands ≡ os = g.0.operands in
    let e : w ≡ record { classes = classes; done = f.done; operands = os } = λ k. record { classes = c k; done = d k; operands = o k } in
    none g.1.0 (subst (λ x. IsPendentLine tokens x g.1.0) e g.1.1)

pub no_call_line : (tokens : List Token) (o : Option RestField) (f : RestField) (os : List Operand) → o ≡ Some f → ((w : Waiting) → ¬ IsWaitingBy tokens f os w) → (rest : Option Waiting) → ¬ IsRestBy tokens o os rest
no_call_line tokens o f os e none rest h = go rest (subst (λ x. IsRestBy tokens x os rest) e h)
  where
    go : (rest : Option Waiting) → ¬ IsRestBy tokens (Some f) os rest
    go None h = absurd h
    go (Some w) h = none w h

pub no_statement : (f : StatementField) (text : Text) (tokens : List Token) (os : List Operand) → IsStatementLine f.line text tokens → ((w : Waiting) → ¬ IsWaitingBy tokens f.rest os w) → (other : Text) (w : Waiting) → ¬ IsStatementBy f os other w
no_statement f text tokens os l none other w h =
    let t : tokens ≡ h.tokens = same_tokens text tokens h.tokens l.read (ap tokens_of (one_text f.line text other l.line h.line.line) ∙ h.line.read) in
    none w (subst (λ ts. IsWaitingBy ts f.rest os w) (sym t) h.rest)
