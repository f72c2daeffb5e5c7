-- Contexts of a file.
use Rattle.std.proofs.Common.{◌≡◌, inl, inr, ℕ, zero, suc, true, All, List, [], ◌∷◌, map, Option, Some, None, Ok, refl, sym, ap, ◌∙◌, subst, arith}
use Rattle.std.specs.List.{AllByRecursion}
use Rattle.apl_arrays.specs.Cells.{Arr}
use Rattle.apl_charset.proofs.Unique.{one_text}
use Rattle.apl_tokens.specs.declared.token.Token.{Token}
use Rattle.apl_tokens.specs.Tokens.{tokens_of}
use Rattle.apl_defn.specs.Definitions.{Text, Definition, Header, line_of, is_line}
use Rattle.apl_defn.specs.Defining.{IsDefined}
use Rattle.apl_code.specs.declared.instr.Action.{Action}
use Rattle.apl_machine_state.specs.declared.operand.Operand.{Operand}
use Rattle.apl_order.specs.Kept.{names_in}
use Rattle.apl_parts.specs.declared.parts.ContextPart.{ContextPart}
use Rattle.apl_parts.specs.declared.parts.ContextPart.TheVariants as parts
use Rattle.apl_parts.specs.declared.parts.StatementPart.{StatementPart}
use Rattle.apl_parts.specs.Pieces.{Waiting, Standing}
use Rattle.apl_workspace_file.specs.declared.fields.ContextField.{ContextField}
use Rattle.apl_workspace_file.specs.declared.fields.ContextField.TheVariants as fields
use Rattle.apl_workspace_file.specs.declared.fields.CallField.{CallField}
use Rattle.apl_workspace_file.specs.declared.fields.LocalField.{LocalField}
use Rattle.apl_workspace_file.specs.declared.fields.StatementField.{StatementField}
use Rattle.apl_workspace_file.specs.declared.fields.RestField.{RestField}
use Rattle.apl_saved.specs.Spelled.{BothOrNeither, IsCallOf, IsContextOf, IsDefinitionOf, IsLocalOf, IsOperandOf, IsRestOf, IsStatementOf, Pairwise}
use Rattle.apl_saved.specs.Rules.{HasNoLabel, IsCall, IsContext, IsLocal, IsPendent, IsPendentIn, IsPendentLine}
use Rattle.apl_loading.specs.declared.error.LoadFault.{LoadFault}
use Rattle.apl_loading.specs.declared.error.LoadFault.TheVariants as fault
use Rattle.apl_loading.specs.Refusals.{AreValues, IsValueOf, operands_of, relisted, relisted_rest, with_listing}
use Rattle.apl_loading.specs.inside.Made.{AreLocals, IsBuilt, IsCallBy, IsMadeIn, IsMadeOf, IsNamedBy, IsRestOfLine, IsStatementBy, IsWaitingBy, RefusesPart}
use Rattle.apl_loading.proofs.Lists.{one_list}
use Rattle.apl_loading.proofs.OneArray.{one_operand, one_value}
use Rattle.apl_loading.proofs.OneDefinition.{one_definition}
use Rattle.apl_loading.proofs.OneLine.{one_classes, same_tokens}

-- ---- the rest of a line

-- what is built of a field with these operands is the rest with its listing
rest_built : (f : RestField) (os : List Operand) (text : Text) (w : Waiting) (action : Action) (listing : List ℕ) (tokens : List Token) → Pairwise IsOperandOf f.operands os → tokens_of text ≡ Ok tokens → IsWaitingBy tokens f os w → IsMadeOf text w action listing → IsRestOf (with_listing listing f) text w
rest_built f os text w action listing tokens o r g m = record {
  classes = g.0.classes;
  code = record { tokens = m.tokens; read = m.read; code = m.made.code; translates = m.made.line.translates; listed = m.made.lists };
  done = g.0.done;
  operands = subst (Pairwise IsOperandOf f.operands) (sym g.0.operands) o;
}

pending : (text : Text) (w : Waiting) (action : Action) (listing : List ℕ) → IsMadeOf text w action listing → IsPendent text w
pending text w action listing m = record { tokens = m.tokens; read = m.read; code = m.made.code; line = m.made.line }

-- and a rest of any listing is one by the field
rest_by : (f : RestField) (os : List Operand) (text : Text) (w : Waiting) (listing : List ℕ) (tokens : List Token) → Pairwise IsOperandOf f.operands os → tokens_of text ≡ Ok tokens → IsRestOf (with_listing listing f) text w → IsPendent text w → IsWaitingBy tokens f os w
rest_by f os text w listing tokens o r g p =
    let t : p.tokens ≡ tokens = same_tokens text p.tokens tokens p.read r in (
      record { classes = g.classes; done = g.done; operands = one_list IsOperandOf one_operand f.operands w.operands os g.operands o },
      (p.code, subst (λ ts. IsPendentLine ts w p.code) t p.line),
    )

-- ---- statements

statement_of : (f : StatementField) (os : List Operand) (s : StatementPart) (action : Action) (listing : List ℕ) → Pairwise IsOperandOf f.rest.operands os → IsStatementBy f os s.text s.rest → IsMadeOf s.text s.rest action listing → IsStatementOf (record f { rest = with_listing listing f.rest }) s
statement_of f os s action listing o g m = record { line = g.line.line; rest = rest_built f.rest os s.text s.rest action listing g.tokens o g.line.read g.rest m }

statement_rules : (f : StatementField) (os : List Operand) (s : StatementPart) (action : Action) (listing : List ℕ) → IsStatementBy f os s.text s.rest → IsMadeOf s.text s.rest action listing → HasNoLabel s.text × IsPendent s.text s.rest
statement_rules f os s action listing g m = (record { tokens = g.tokens; read = g.line.read; unlabelled = g.line.unlabelled }, pending s.text s.rest action listing m)

pub statement_built : (f : StatementField) (os : List Operand) (s : StatementPart) (action : Action) (listing : List ℕ) → Pairwise IsOperandOf f.rest.operands os → IsStatementBy f os s.text s.rest → IsMadeOf s.text s.rest action listing → IsBuilt (fields.Statement f) (parts.Statement s) (Some action) listing
statement_built f os s action listing o g m = record { field = statement_of f os s action listing o g m; context = statement_rules f os s action listing g m; made = m }

pub execute_built : (f : StatementField) (os : List Operand) (s : StatementPart) (action : Action) (listing : List ℕ) → Pairwise IsOperandOf f.rest.operands os → IsStatementBy f os s.text s.rest → IsMadeOf s.text s.rest action listing → IsBuilt (fields.Execute f) (parts.Execute s) (Some action) listing
execute_built f os s action listing o g m = record { field = statement_of f os s action listing o g m; context = statement_rules f os s action listing g m; made = m }

statement_by : (f : StatementField) (os : List Operand) (s : StatementPart) (listing : List ℕ) → Pairwise IsOperandOf f.rest.operands os → IsStatementOf (record f { rest = with_listing listing f.rest }) s → HasNoLabel s.text × IsPendent s.text s.rest → IsStatementBy f os s.text s.rest
statement_by f os s listing o g r = record {
  tokens = r.0.tokens;
  line = record { line = g.line; read = r.0.read; unlabelled = r.0.unlabelled };
  rest = rest_by f.rest os s.text s.rest listing r.0.tokens o r.0.read g.rest r.1;
}

pub statement_refused : (f : StatementField) (os : List Operand) (e : LoadFault) → Pairwise IsOperandOf f.rest.operands os → (e ≡ fault.Context) × ((text : Text) (w : Waiting) → ¬ IsStatementBy f os text w) → RefusesPart (fields.Statement f) e
statement_refused f os e o h = inr (tt, inl (λ x. go x.0 x.1 x.2 x.3, h.0))
  where
    go : (listing : List ℕ) (c : ContextPart) → IsContextOf (relisted listing (fields.Statement f)) c → IsContext c → ⊥
    go listing (parts.Statement s) g r = h.1 s.text s.rest (statement_by f os s listing o g r)
    go listing (parts.Call c) g r = absurd g
    go listing (parts.Execute s) g r = absurd g

pub execute_refused : (f : StatementField) (os : List Operand) (e : LoadFault) → Pairwise IsOperandOf f.rest.operands os → (e ≡ fault.Context) × ((text : Text) (w : Waiting) → ¬ IsStatementBy f os text w) → RefusesPart (fields.Execute f) e
execute_refused f os e o h = inr (tt, inl (λ x. go x.0 x.1 x.2 x.3, h.0))
  where
    go : (listing : List ℕ) (c : ContextPart) → IsContextOf (relisted listing (fields.Execute f)) c → IsContext c → ⊥
    go listing (parts.Execute s) g r = h.1 s.text s.rest (statement_by f os s listing o g r)
    go listing (parts.Call c) g r = absurd g
    go listing (parts.Statement s) g r = absurd g

-- ---- calls

pub all_by : {X : Type 0} (P : X → Type 0) (xs : List X) → AllByRecursion P xs → All P xs
all_by P [] h k d lt = absurd (omega (arith, lt))
all_by P (x ∷ xs) h zero d lt = h.0
all_by P (x ∷ xs) h (suc k) d lt = all_by P xs h.1 k d (omega (arith, lt))

pub by_all : {X : Type 0} (P : X → Type 0) (xs : List X) → All P xs → AllByRecursion P xs
by_all P [] h = tt
by_all P (x ∷ xs) h = (h 0 x (omega arith), by_all P xs (λ k d lt. h (suc k) d (omega (arith, lt))))

locals_of : (fs : List LocalField) (ls : List (Text × Option Arr)) → Pairwise IsNamedBy fs (map (λ l. l.0) ls) → Pairwise IsValueOf fs (map (λ l. l.1) ls) → Pairwise IsLocalOf fs ls
locals_of [] [] n v = tt
locals_of [] (l ∷ ls) n v = absurd n
locals_of (f ∷ fs) [] n v = absurd n
locals_of (f ∷ fs) (l ∷ ls) n v = (record { name = n.0; value = v.0 }, locals_of fs ls n.1 v.1)

named_locals : (fs : List LocalField) (ls : List (Text × Option Arr)) → Pairwise IsLocalOf fs ls → Pairwise IsNamedBy fs (map (λ l. l.0) ls)
named_locals [] [] h = tt
named_locals [] (l ∷ ls) h = absurd h
named_locals (f ∷ fs) [] h = absurd h
named_locals (f ∷ fs) (l ∷ ls) h = (h.0.name, named_locals fs ls h.1)

pub valued_locals : (fs : List LocalField) (ls : List (Text × Option Arr)) → Pairwise IsLocalOf fs ls → Pairwise IsValueOf fs (map (λ l. l.1) ls)
valued_locals [] [] h = tt
valued_locals [] (l ∷ ls) h = absurd h
valued_locals (f ∷ fs) [] h = absurd h
valued_locals (f ∷ fs) (l ∷ ls) h = (h.0.value, valued_locals fs ls h.1)

pub one_local : (f : LocalField) (a b : Option Arr) → IsValueOf f a → IsValueOf f b → a ≡ b
one_local f a b g h = one_value f.value a b g h

call_rest : (o : Option RestField) (os : List Operand) (text : Text) (rest : Option Waiting) (awaits : Option Action) (listing : List ℕ) → Pairwise IsOperandOf (operands_of o) os → IsRestOfLine text o os rest → IsMadeIn text rest awaits listing → BothOrNeither (λ r w. IsRestOf r text w) (relisted_rest listing o) rest
call_rest None os text None awaits listing o h m = tt
call_rest None os text (Some w) awaits listing o h m = absurd h
call_rest (Some f) os text None awaits listing o h m = absurd h
call_rest (Some f) os text (Some w) (Some action) listing o h m = rest_built f os text w action listing h.0 o h.1 h.2 m
call_rest (Some f) os text (Some w) None listing o h m = absurd m

pending_in : (text : Text) (rest : Option Waiting) (awaits : Option Action) (listing : List ℕ) → IsMadeIn text rest awaits listing → IsPendentIn text rest
pending_in text None awaits listing m = tt
pending_in text (Some w) (Some action) listing m = pending text w action listing m
pending_in text (Some w) None listing m = absurd m

rest_in : (o : Option RestField) (os : List Operand) (text : Text) (rest : Option Waiting) (listing : List ℕ) → Pairwise IsOperandOf (operands_of o) os → BothOrNeither (λ r w. IsRestOf r text w) (relisted_rest listing o) rest → IsPendentIn text rest → IsRestOfLine text o os rest
rest_in None os text None listing o h p = tt
rest_in None os text (Some w) listing o h p = absurd h
rest_in (Some f) os text None listing o h p = absurd h
rest_in (Some f) os text (Some w) listing o h p = (p.tokens, p.read, rest_by f os text w listing p.tokens o p.read h p)

line_is : (d : Definition) (f : CallField) (c : Standing) → c.definition ≡ d → c.at ≡ f.at → line_of d f.at ≡ line_of c.definition c.at
line_is d f c e a = sym (ap (λ x. line_of x c.at) e ∙ ap (line_of d) a)

pub call_built : (f : CallField) (values : List (Option Arr)) (os : List Operand) (d : Definition) (c : Standing) (awaits : Option Action) (listing : List ℕ) → IsDefinitionOf f.header f.lines d × IsDefined d → AreValues (fields.Call f) values os → IsCallBy d f values os c → IsMadeIn (line_of d f.at) c.rest awaits listing → IsBuilt (fields.Call f) (parts.Call c) awaits listing
call_built f values os d c awaits listing dd v g m =
    let l = line_is d f c g.definition g.at in
    let made : IsMadeIn (line_of c.definition c.at) c.rest awaits listing = subst (λ t. IsMadeIn t c.rest awaits listing) l m in
    let e = sym g.definition in
    record {
      field = record {
        definition = subst (IsDefinitionOf f.header f.lines) e dd.0;
        at = sym g.at;
        locals = locals_of f.locals c.locals (subst (Pairwise IsNamedBy f.locals) (sym g.locals.names) g.locals.written) (subst (Pairwise IsValueOf f.locals) (sym g.locals.given) v.of_locals);
        rest = call_rest f.rest os (line_of c.definition c.at) c.rest awaits listing v.of_operands (subst (λ t. IsRestOfLine t f.rest os c.rest) l g.rest) made;
      };
      context = record {
        defined = subst IsDefined e dd.1;
        at_line = subst (λ x. is_line x c.at ≡ true) e (subst (λ n. is_line d n ≡ true) (sym g.at) g.at_line);
        names = g.locals.names ∙ ap (λ (x : Definition). names_in x.header) e;
        locals = all_by IsLocal c.locals g.locals.locals;
        rest = pending_in (line_of c.definition c.at) c.rest awaits listing made;
      };
      made = made;
    }

pub call_by : (f : CallField) (values : List (Option Arr)) (os : List Operand) (d : Definition) (c : Standing) (listing : List ℕ) → IsDefinitionOf f.header f.lines d × IsDefined d → Pairwise IsValueOf f.locals values → Pairwise IsOperandOf (operands_of f.rest) os → IsCallOf (record f { rest = relisted_rest listing f.rest }) c → IsCall c → IsCallBy d f values os c
call_by f values os d c listing dd v o g r =
    let e : c.definition ≡ d = one_definition f.header f.lines c.definition d (g.definition, r.defined) dd in
    let a : c.at ≡ f.at = sym g.at in
    let l = line_is d f c e a in
    record {
      definition = e;
      at = a;
      at_line = subst (λ x. is_line x f.at ≡ true) e (subst (λ n. is_line c.definition n ≡ true) a r.at_line);
      locals = record {
        names = r.names ∙ ap (λ (x : Definition). names_in x.header) e;
        written = subst (Pairwise IsNamedBy f.locals) (r.names ∙ ap (λ (x : Definition). names_in x.header) e) (named_locals f.locals c.locals g.locals);
        given = one_list IsValueOf one_local f.locals (map (λ l. l.1) c.locals) values (valued_locals f.locals c.locals g.locals) v;
        locals = by_all IsLocal c.locals r.locals;
      };
      rest = subst (λ t. IsRestOfLine t f.rest os c.rest) (sym l) (rest_in f.rest os (line_of c.definition c.at) c.rest listing o g.rest r.rest);
    }

pub call_refused : (f : CallField) (values : List (Option Arr)) (os : List Operand) (d : Definition) (e : LoadFault) → IsDefinitionOf f.header f.lines d × IsDefined d → AreValues (fields.Call f) values os → (e ≡ fault.Context) × ((c : Standing) → ¬ IsCallBy d f values os c) → RefusesPart (fields.Call f) e
call_refused f values os d e dd v h = inr ((d, dd), inl (λ x. go x.0 x.1 x.2 x.3, h.0))
  where
    go : (listing : List ℕ) (c : ContextPart) → IsContextOf (relisted listing (fields.Call f)) c → IsContext c → ⊥
    go listing (parts.Call c) g r = h.1 c (call_by f values os d c listing dd v.of_locals v.of_operands g r)
    go listing (parts.Statement s) g r = absurd g
    go listing (parts.Execute s) g r = absurd g

-- ---- a field is one context, whatever its listing

waiting_same : (tokens : List Token) (f : RestField) (os : List Operand) (v w : Waiting) → IsWaitingBy tokens f os v → IsWaitingBy tokens f os w → v ≡ w
waiting_same tokens f os v w g h =
    let a : v.classes ≡ w.classes = one_classes f.classes v.classes w.classes g.0.classes h.0.classes in
    let b : v.done ≡ w.done = sym g.0.done ∙ h.0.done in
    let c : v.operands ≡ w.operands = g.0.operands ∙ sym h.0.operands in
    λ k. record { classes = a k; done = b k; operands = c k }

statement_same : (f : StatementField) (os : List Operand) (s t : StatementPart) → IsStatementBy f os s.text s.rest → IsStatementBy f os t.text t.rest → s ≡ t
statement_same f os s t g h =
    let a : s.text ≡ t.text = one_text f.line s.text t.text g.line.line h.line.line in
    let u : g.tokens ≡ h.tokens = same_tokens s.text g.tokens h.tokens g.line.read (ap tokens_of a ∙ h.line.read) in
    let b : s.rest ≡ t.rest = waiting_same g.tokens f.rest os s.rest t.rest g.rest (subst (λ ts. IsWaitingBy ts f.rest os t.rest) (sym u) h.rest) in
    λ k. record { text = a k; rest = b k }

rest_same : (text : Text) (o : Option RestField) (os : List Operand) (v w : Option Waiting) → IsRestOfLine text o os v → IsRestOfLine text o os w → v ≡ w
rest_same text None os None None g h = refl
rest_same text None os (Some v) w g h = absurd g
rest_same text None os None (Some w) g h = absurd h
rest_same text (Some f) os None w g h = absurd g
rest_same text (Some f) os (Some v) None g h = absurd h
rest_same text (Some f) os (Some v) (Some w) g h = ap Some (waiting_same g.0 f os v w g.2 (subst (λ ts. IsWaitingBy ts f os w) (same_tokens text h.0 g.0 h.1 g.1) h.2))

pairs_same : {A B : Type 0} (ls ms : List (A × B)) → map (λ l. l.0) ls ≡ map (λ l. l.0) ms → map (λ l. l.1) ls ≡ map (λ l. l.1) ms → ls ≡ ms
pairs_same [] [] a b = refl
pairs_same [] (m ∷ ms) a b = cc
pairs_same (l ∷ ls) [] a b = cc
pairs_same (l ∷ ls) (m ∷ ms) a b =
    let x : l.0 ≡ m.0 = cc in
    let y : l.1 ≡ m.1 = cc in
    let p : l ≡ m = λ k. (x k, y k) in
    let u : map (λ l. l.0) ls ≡ map (λ l. l.0) ms = cc in
    let v : map (λ l. l.1) ls ≡ map (λ l. l.1) ms = cc in
    ap (λ q. q ∷ ls) p ∙ ap (λ qs. m ∷ qs) (pairs_same ls ms u v)

-- where these locals break a rule, no others keep to the rules
pub no_locals : (h : Header) (fs : List LocalField) (values : List (Option Arr)) (ls seen : List (Text × Option Arr)) → map (λ l. l.0) ls ≡ names_in h → map (λ l. l.1) ls ≡ values → seen ≡ ls → ¬ AllByRecursion IsLocal seen → (ms : List (Text × Option Arr)) → ¬ AreLocals h fs values ms
no_locals h fs values ls seen n v s none ms g = none (subst (AllByRecursion IsLocal) (pairs_same ms ls (g.names ∙ sym n) (g.given ∙ sym v) ∙ sym s) g.locals)

call_same : (d : Definition) (f : CallField) (values : List (Option Arr)) (os : List Operand) (b c : Standing) → IsCallBy d f values os b → IsCallBy d f values os c → b ≡ c
call_same d f values os b c g h =
    let x : b.definition ≡ c.definition = g.definition ∙ sym h.definition in
    let y : b.at ≡ c.at = g.at ∙ sym h.at in
    let z : b.locals ≡ c.locals = pairs_same b.locals c.locals (g.locals.names ∙ sym h.locals.names) (g.locals.given ∙ sym h.locals.given) in
    let w : b.rest ≡ c.rest = rest_same (line_of d f.at) f.rest os b.rest c.rest g.rest h.rest in
    λ k. record { definition = x k; at = y k; locals = z k; rest = w k }

stack_in : Option Waiting → List Operand
stack_in None = []
stack_in (Some w) = w.operands

stacked : (o : Option RestField) (text : Text) (rest : Option Waiting) (listing : List ℕ) → BothOrNeither (λ r w. IsRestOf r text w) (relisted_rest listing o) rest → Pairwise IsOperandOf (operands_of o) (stack_in rest)
unfolding stack_in
stacked None text None listing h = tt
stacked None text (Some w) listing h = absurd h
stacked (Some f) text None listing h = absurd h
stacked (Some f) text (Some w) listing h = h.operands

pub same_context : (f : ContextField) (l m : List ℕ) (b c : ContextPart) → IsContextOf (relisted l f) b → IsContext b → IsContextOf (relisted m f) c → IsContext c → b ≡ c
same_context (fields.Statement f) l m (parts.Statement s) (parts.Statement t) g r h q = ap parts.Statement (statement_same f s.rest.operands s t (statement_by f s.rest.operands s l g.rest.operands g r) (statement_by f s.rest.operands t m g.rest.operands h q))
same_context (fields.Statement f) l m (parts.Statement s) (parts.Call c) g r h q = absurd h
same_context (fields.Statement f) l m (parts.Statement s) (parts.Execute c) g r h q = absurd h
same_context (fields.Statement f) l m (parts.Call s) c g r h q = absurd g
same_context (fields.Statement f) l m (parts.Execute s) c g r h q = absurd g
same_context (fields.Execute f) l m (parts.Execute s) (parts.Execute t) g r h q = ap parts.Execute (statement_same f s.rest.operands s t (statement_by f s.rest.operands s l g.rest.operands g r) (statement_by f s.rest.operands t m g.rest.operands h q))
same_context (fields.Execute f) l m (parts.Execute s) (parts.Call c) g r h q = absurd h
same_context (fields.Execute f) l m (parts.Execute s) (parts.Statement c) g r h q = absurd h
same_context (fields.Execute f) l m (parts.Call s) c g r h q = absurd g
same_context (fields.Execute f) l m (parts.Statement s) c g r h q = absurd g
same_context (fields.Call f) l m (parts.Call b) (parts.Call c) g r h q =
    let v = valued_locals f.locals b.locals g.locals in
    let o = stacked f.rest (line_of b.definition b.at) b.rest l g.rest in
    let d : IsDefinitionOf f.header f.lines b.definition × IsDefined b.definition = (g.definition, r.defined) in
    ap parts.Call (call_same b.definition f (map (λ l. l.1) b.locals) (stack_in b.rest) b c (call_by f (map (λ l. l.1) b.locals) (stack_in b.rest) b.definition b l d v o g r) (call_by f (map (λ l. l.1) b.locals) (stack_in b.rest) b.definition c m d v o h q))
same_context (fields.Call f) l m (parts.Call b) (parts.Statement c) g r h q = absurd h
same_context (fields.Call f) l m (parts.Call b) (parts.Execute c) g r h q = absurd h
same_context (fields.Call f) l m (parts.Statement b) c g r h q = absurd g
same_context (fields.Call f) l m (parts.Execute b) c g r h q = absurd g
