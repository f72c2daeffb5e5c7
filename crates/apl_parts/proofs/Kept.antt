-- The state of parts is one that a machine can have.
use Rattle.std.proofs.Common.{◌≡◌, ℕ, suc, ◌≤◌, All, Bool, true, false, cond, List, [], ◌∷◌, ◌++◌, map, reverse, Option, Some, None, refl, sym, ap, subst, ◌∙◌, true≢false}
use Rattle.std.specs.Map.{lookup}
use Rattle.std.specs.Option.{option_map}
use Rattle.std.specs.Str.{bytes_eq}
use Rattle.std.proofs.lemmas.List.Elements.{All-cons, All-head, All-nil, All-tail}
use Rattle.apl_arrays.specs.Cells.{Arr}
use Rattle.apl_defn.specs.Definitions.{Text, Definition, line_of}
use Rattle.apl_names.specs.declared.binding.Binding.{Binding}
use Rattle.apl_names.specs.declared.binding.Binding.TheVariants.{Value, Function}
use Rattle.apl_names.specs.Maps.{function_in, said, value_in}
use Rattle.apl_names.proofs.Texts.{same, flip}
use Rattle.apl_machine_state.specs.Calls.{bound_to}
use Rattle.apl_machine_state.specs.Environment as model
use Rattle.apl_order.specs.Kept.{AreKept, AreAscending, AreGlobals, AreLines, AreVectors, IsKeptContext, IsObject, IsOfLine, IsOfText, IsVectorOf}
use Rattle.apl_order.proofs.Maps.{listed-map, said-listed}
use Rattle.apl_order.proofs.Vectors.{listed-with, unless_empty, with-ascends}
use Rattle.apl_order.proofs.CallMaps.{AreValues, first_names, listed-call-map}
use Rattle.apl_order.proofs.Keeping.{vector-fits}
use Rattle.apl_parts.specs.declared.parts.ContextPart.{ContextPart}
use Rattle.apl_parts.specs.declared.parts.ContextPart.TheVariants.{Statement, Call, Execute}
use Rattle.apl_parts.specs.Pieces.{Waiting, Watched}
use Rattle.apl_parts.specs.Workspaces.{Pieces}
use Rattle.apl_parts.specs.Restored.{IsContext, IsWaiting, IsWaitingIn, IsWatched, context_of, function_entry, globals_of, line_by, rest_of, standing_in, variable_entry, vectors_of}
use Rattle.apl_parts.specs.Promises.{WholePartsAreKept}
use Rattle.apl_parts.proofs.Added.{all_reverse, map_reverse}
use Rattle.apl_parts.proofs.InOrder.{whole-order}

-- ---- contexts

of-text : (text : Text) (w : Waiting) → IsWaiting text w → IsOfText text (rest_of text w)
of-text text w h = record { tokens = h.tokens; read = h.read; classes = w.classes; bound = ap (λ r. line_by r w.classes) h.read }

of-line : (text : Text) (o : Option Waiting) → IsWaitingIn text o → IsOfLine text (option_map (rest_of text) o)
of-line text None h = tt
of-line text (Some w) h = of-text text w h

abbrev bindings : List (Text × Option Arr) → List (Text × Binding)
bindings locals = map (λ local. (local.0, bound_to local.1)) locals

value-again : (o : Option Arr) → bound_to (value_in (Some (bound_to o))) ≡ bound_to o
value-again None = refl
value-again (Some a) = refl

bindings-values : (locals : List (Text × Option Arr)) → AreValues (bindings locals)
bindings-values [] = tt
bindings-values (l ∷ ls) = (value-again l.1, bindings-values ls)

bindings-names : (locals : List (Text × Option Arr)) → first_names (bindings locals) ≡ map (λ l. l.0) locals
bindings-names [] = refl
bindings-names (l ∷ ls) = ap (λ (ns : List Text). l.0 ∷ ns) (bindings-names ls)

kept-context : (c : ContextPart) → IsContext c → IsKeptContext (context_of c)
kept-context (Statement s) h = of-text s.text s.rest h
kept-context (Call c) h = (h.2, listed-call-map c.definition (bindings c.locals) (bindings-values c.locals) (bindings-names c.locals ∙ h.3), of-line (line_of c.definition c.at) c.rest h.1)
kept-context (Execute s) h = of-text s.text s.rest h

kept-contexts : (cs : List ContextPart) → All IsContext cs → AreKept (map context_of cs)
kept-contexts [] h = tt
kept-contexts (c ∷ cs) h = (kept-context c (All-head IsContext c cs h), kept-contexts cs (All-tail IsContext c cs h))

stand-as-many : (cs : List ContextPart) → model.standing (map context_of cs) ≡ standing_in cs
stand-as-many [] = refl
stand-as-many (Statement s ∷ cs) = stand-as-many cs
stand-as-many (Call c ∷ cs) = ap suc (stand-as-many cs)
stand-as-many (Execute s ∷ cs) = ap suc (stand-as-many cs)

-- ---- global objects

abbrev entries : List Watched → List (Text × Arr) → List (Text × Binding)
entries fs vs = map function_entry fs ++ map variable_entry vs

variables-objects : (vs : List (Text × Arr)) (q : Text) → IsObject q (said (map variable_entry vs) q)
variables-objects [] q = tt
variables-objects (v ∷ vs) q = by (bytes_eq q v.0) (variables-objects vs q)
  where
    by : (b : Bool) → IsObject q (said (map variable_entry vs) q) → IsObject q (cond b (Some (Value v.1)) (said (map variable_entry vs) q))
    by true h = tt
    by false h = h

all-objects : (fs : List Watched) (vs : List (Text × Arr)) (q : Text) → All IsWatched fs → IsObject q (said (entries fs vs) q)
all-objects [] vs q h = variables-objects vs q
all-objects (f ∷ fs) vs q h = by (bytes_eq q f.definition.header.name) refl (all-objects fs vs q (All-tail IsWatched f fs h))
  where
    by : (b : Bool) → bytes_eq q f.definition.header.name ≡ b → IsObject q (said (entries fs vs) q) → IsObject q (cond b (Some (Function f.definition)) (said (entries fs vs) q))
    by true e i = let w = All-head IsWatched f fs h in (sym (same q f.definition.header.name e), w.defined)
    by false e i = i

pub globals-kept : (p : Pieces) → All IsWatched p.functions → AreGlobals (globals_of p)
globals-kept p h = record {
  ascend = listed-map (entries p.functions p.variables);
  objects = λ q. subst (IsObject q) (sym (said-listed (entries p.functions p.variables) q)) (all-objects p.functions p.variables q h);
}

-- ---- vectors

pub vectors-ascend : (which : Watched → List ℕ) (fs : List Watched) → AreAscending (vectors_of which fs)
vectors-ascend which [] = tt
vectors-ascend which (f ∷ fs) = with-ascends f.definition.header.name (which f) (vectors_of which fs) (vectors-ascend which fs)

none-fits : (o : Option Definition) → IsVectorOf o None
none-fits None = tt
none-fits (Some d) = tt

one-fits : (d : Definition) (b c : Bool) (v : List ℕ) (o : Option Binding) (w : Option (List ℕ)) → b ≡ c → AreLines d v → IsVectorOf (function_in o) w → IsVectorOf (function_in (cond c (Some (Function d)) o)) (cond b (unless_empty v) w)
one-fits d true true v o w e fit h = vector-fits d v fit
one-fits d false false v o w e fit h = h
one-fits d true false v o w e fit h = absurd (true≢false e)
one-fits d false true v o w e fit h = absurd (true≢false (sym e))

vectors-fit : (which : Watched → List ℕ) (fs : List Watched) (vs : List (Text × Arr)) (q : Text) → All (λ f. AreLines f.definition (which f)) fs → IsVectorOf (function_in (said (entries fs vs) q)) (lookup (bytes_eq q) (vectors_of which fs))
vectors-fit which [] vs q h = none-fits (function_in (said (map variable_entry vs) q))
vectors-fit which (f ∷ fs) vs q h =
    let n = f.definition.header.name in
    subst (IsVectorOf (function_in (said (entries (f ∷ fs) vs) q))) (sym (listed-with n (which f) (vectors_of which fs) q (vectors-ascend which fs)))
    (one-fits f.definition (bytes_eq n q) (bytes_eq q n) (which f) (said (entries fs vs) q) (lookup (bytes_eq q) (vectors_of which fs)) (flip n q) (All-head (λ (g : Watched). AreLines g.definition (which g)) f fs h) (vectors-fit which fs vs q (All-tail (λ (g : Watched). AreLines g.definition (which g)) f fs h)))

vectors-kept : (p : Pieces) (which : Watched → List ℕ) → All (λ f. AreLines f.definition (which f)) p.functions → AreVectors (globals_of p) (vectors_of which p.functions)
vectors-kept p which h = record {
  ascend = vectors-ascend which p.functions;
  lines = λ q. subst (λ (o : Option Binding). IsVectorOf (function_in o) (lookup (bytes_eq q) (vectors_of which p.functions))) (sym (said-listed (entries p.functions p.variables) q)) (vectors-fit which p.functions p.variables q h);
}

-- ---- all of it

all-weaker : {X : Type 0} (P Q : X → Type 0) (xs : List X) → ((x : X) → P x → Q x) → All P xs → All Q xs
all-weaker P Q [] f h = All-nil Q
all-weaker P Q (x ∷ xs) f h = All-cons Q x xs (f x (All-head P x xs h)) (all-weaker P Q xs f (All-tail P x xs h))

pub whole-kept : WholePartsAreKept
whole-kept p w =
    let turned : reverse (map context_of p.contexts) ≡ map context_of (reverse p.contexts) = sym (map_reverse context_of p.contexts) in
    record {
      order = whole-order p w;
      keeps = record {
        few = subst (λ cs. model.standing cs ≤ 256) (sym turned) (subst (λ n. n ≤ 256) (sym (stand-as-many (reverse p.contexts))) w.within);
        kept = subst AreKept (sym turned) (kept-contexts (reverse p.contexts) (all_reverse IsContext p.contexts w.contexts));
        globals = globals-kept p w.watched;
        traced = vectors-kept p (λ f. f.traces) (all-weaker IsWatched (λ f. AreLines f.definition f.traces) p.functions (λ f h. h.traces) w.watched);
        stopped = vectors-kept p (λ f. f.stops) (all-weaker IsWatched (λ f. AreLines f.definition f.stops) p.functions (λ f h. h.stops) w.watched);
      };
    }
