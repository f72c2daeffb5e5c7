-- Parts that keep to the rules of a file and stand for one state are the same parts.
use Rattle.std.proofs.Common.{◌≡◌, ℕ, ◌+◌, Bool, true, false, cond, List, [], ◌∷◌, ◌++◌, All, map, reverse, Option, Some, None, refl, sym, ap, ◌∙◌}
use Rattle.std.specs.Prelude.{Contains, unwrap_or}
use Rattle.std.specs.Option.{option_map, option_or}
use Rattle.std.specs.List.{AllByRecursion, flat_map}
use Rattle.std.specs.Str.{bytes_eq}
use Rattle.std.specs.declared.cmp.Ordering.TheVariants.{Less}
use Rattle.std.proofs.lemmas.List.{reverse-reverse}
use Rattle.std.proofs.lemmas.List.Elements.{All-head, All-tail, Contains-append_left, Contains-append_right, Contains-push}
use Rattle.apl_arrays.specs.Cells.{Arr}
use Rattle.apl_defn.specs.Definitions.{Text, line_of}
use Rattle.apl_names.specs.declared.binding.Binding.{Binding}
use Rattle.apl_names.specs.declared.binding.Binding.TheVariants.{Unset, Label, Value, Function}
use Rattle.apl_names.specs.Maps.{IsAbove, IsMap, Map, name_cmp, said}
use Rattle.apl_names.proofs.Texts.{apart, chain, itself, same}
use Rattle.apl_names.proofs.Maps.{same_map}
use Rattle.apl_vectors.specs.Vectors.{Vectors, vector_of}
use Rattle.apl_machine_state.specs.State.{State}
use Rattle.apl_order.proofs.Maps.{said-append, said-listed}
use Rattle.apl_order.proofs.Vectors.{listed, listed-with, unless_empty}
use Rattle.apl_parts.specs.declared.parts.ContextPart.{ContextPart}
use Rattle.apl_parts.specs.declared.parts.ContextPart.TheVariants.{Statement, Call, Execute}
use Rattle.apl_parts.specs.Pieces.{Waiting, Watched}
use Rattle.apl_parts.specs.Workspaces.{Pieces}
use Rattle.apl_parts.specs.Taken.{function_in, part_of, parts_of, variable_in, waiting_of}
use Rattle.apl_parts.specs.Restored.{context_of, function_entry, globals_of, rest_of, state_of, variable_entry, vectors_of}
use Rattle.apl_parts.proofs.Kept.{vectors-ascend}
use Rattle.apl_saved.specs.Rules.{AreContexts, AreRuled, Ascend, IsContext, IsPendent, IsPendentIn, counted, function_names, variable_names}
use Rattle.apl_savable.specs.Promises.{LoadedHasTheParts}
use Rattle.apl_savable.proofs.Idle.{ruled-idle}
use Rattle.apl_savable.proofs.Lines.{waiting-is}
use Rattle.apl_savable.proofs.Loaded.{loaded-savable, under-way}
use Rattle.apl_savable.proofs.Once.{locals-again}
use Rattle.apl_savable.proofs.Ruled.{parts-ruled}
use Rattle.apl_savable.proofs.Same.{function_part, saved-same, variable_part}

-- ---- contexts

waiting-again : (text : Text) (w : Waiting) → IsPendent text w → waiting_of (rest_of text w) ≡ w
unfolding under-way
waiting-again text w h = waiting-is text (rest_of text w) (under-way text w h)

waiting-in-again : (text : Text) (o : Option Waiting) → IsPendentIn text o → option_map waiting_of (option_map (rest_of text) o) ≡ o
waiting-in-again text None h = refl
waiting-in-again text (Some w) h = ap Some (waiting-again text w h)

part-again : (c : ContextPart) → IsContext c → part_of (context_of c) ≡ c
part-again (Statement s) h = ap (λ (w : Waiting). Statement (record { text = s.text; rest = w })) (waiting-again s.text s.rest h.1)
part-again (Execute s) h = ap (λ (w : Waiting). Execute (record { text = s.text; rest = w })) (waiting-again s.text s.rest h.1)
part-again (Call c) h =
    let text = line_of c.definition c.at in
    ap (λ ls. Call (record { definition = c.definition; at = c.at; locals = ls; rest = option_map waiting_of (option_map (rest_of text) c.rest) })) (locals-again c h)
    ∙ ap (λ o. Call (record { definition = c.definition; at = c.at; locals = c.locals; rest = o })) (waiting-in-again text c.rest h.rest)

parts-again : (below : Option ContextPart) (standing : ℕ) (cs : List ContextPart) → AreContexts below standing cs → map part_of (map context_of cs) ≡ cs
parts-again below standing [] h = refl
parts-again below standing (c ∷ cs) h =
    ap (λ (d : ContextPart). d ∷ map part_of (map context_of cs)) (part-again c h.2) ∙ ap (λ (ds : List ContextPart). c ∷ ds) (parts-again (Some c) (standing + counted c) cs h.3)

contexts-again : (p : Pieces) → AreRuled p → map part_of (reverse (state_of p).contexts) ≡ p.contexts
contexts-again p h = ap (map part_of) (reverse-reverse (map context_of p.contexts)) ∙ parts-again None 0 p.contexts h.contexts

-- ---- what the global map says

functions-said : (fs : List Watched) (q : Text) → function_part (said (map function_entry fs) q) ≡ said (map function_entry fs) q
functions-said [] q = refl
functions-said (f ∷ fs) q = by (bytes_eq q f.definition.header.name) (functions-said fs q)
  where
    by : (b : Bool) → function_part (said (map function_entry fs) q) ≡ said (map function_entry fs) q
        → function_part (cond b (Some (Function f.definition)) (said (map function_entry fs) q)) ≡ cond b (Some (Function f.definition)) (said (map function_entry fs) q)
    by true e = refl
    by false e = e

no-function-said : (vs : List (Text × Arr)) (q : Text) → function_part (said (map variable_entry vs) q) ≡ None
no-function-said [] q = refl
no-function-said (v ∷ vs) q = by (bytes_eq q v.0) (no-function-said vs q)
  where
    by : (b : Bool) → function_part (said (map variable_entry vs) q) ≡ None → function_part (cond b (Some (Value v.1)) (said (map variable_entry vs) q)) ≡ None
    by true e = refl
    by false e = e

first-functions : (o p : Option Binding) → function_part o ≡ o → function_part p ≡ None → function_part (option_or o p) ≡ o
first-functions None p a b = b
first-functions (Some x) p a b = a

globals-said : (p : Pieces) (q : Text) → said (globals_of p) q ≡ option_or (said (map function_entry p.functions) q) (said (map variable_entry p.variables) q)
globals-said p q = said-listed (map function_entry p.functions ++ map variable_entry p.variables) q ∙ said-append (map function_entry p.functions) (map variable_entry p.variables) q

functions-of : (p : Pieces) (q : Text) → function_part (said (globals_of p) q) ≡ said (map function_entry p.functions) q
functions-of p q =
    ap function_part (globals-said p q)
    ∙ first-functions (said (map function_entry p.functions) q) (said (map variable_entry p.variables) q) (functions-said p.functions q) (no-function-said p.variables q)

-- a name that the list of functions doesn't have, or that is among their names
abbrev IsAmong : List Text → Text → Option Binding → Type 0
IsAmong names q None = Unit {0}
IsAmong names q (Some (Function d)) = Contains names q
IsAmong names q (Some binding) = ⊥

later-among : (n : Text) (names : List Text) (q : Text) (o : Option Binding) → IsAmong names q o → IsAmong (n ∷ names) q o
later-among n names q None h = tt
later-among n names q (Some (Function d)) h = Contains-append_right (n ∷ []) names q h
later-among n names q (Some Unset) h = h
later-among n names q (Some (Value a)) h = h
later-among n names q (Some (Label k)) h = h

first-contained : (n : Text) (names : List Text) → Contains (n ∷ names) n
first-contained n names = Contains-append_left (n ∷ []) names n (Contains-push [] n)

functions-among : (fs : List Watched) (q : Text) → IsAmong (function_names fs) q (said (map function_entry fs) q)
functions-among [] q = tt
functions-among (f ∷ fs) q = by (bytes_eq q f.definition.header.name) refl (functions-among fs q)
  where
    by : (b : Bool) → bytes_eq q f.definition.header.name ≡ b → IsAmong (function_names fs) q (said (map function_entry fs) q) → IsAmong (function_names (f ∷ fs)) q (cond b (Some (Function f.definition)) (said (map function_entry fs) q))
    by true e later = let contained = first-contained f.definition.header.name (function_names fs) in rw (same q f.definition.header.name e) contained
    by false e later = later-among f.definition.header.name (function_names fs) q (said (map function_entry fs) q) later

-- a name that is none of the functions' is none of them
hidden : (names : List Text) (q : Text) (o : Option Binding) → IsAmong names q o → (¬ Contains names q) → o ≡ None
hidden names q None h n = refl
hidden names q (Some (Function d)) h n = absurd (n h)
hidden names q (Some Unset) h n = absurd h
hidden names q (Some (Value a)) h n = absurd h
hidden names q (Some (Label k)) h n = absurd h

-- what the list of variables says, behind functions of other names
variables-behind : (names : List Text) (vs : List (Text × Arr)) (q : Text) (o : Option Binding) → IsAmong names q o → All (λ n. ¬ Contains names n) (variable_names vs)
    → variable_part (option_or o (said (map variable_entry vs) q)) ≡ said (map variable_entry vs) q
variables-behind names [] q None h apart = refl
variables-behind names [] q (Some (Function d)) h apart = refl
variables-behind names [] q (Some Unset) h apart = absurd h
variables-behind names [] q (Some (Value a)) h apart = absurd h
variables-behind names [] q (Some (Label k)) h apart = absurd h
variables-behind names (v ∷ vs) q o h apart = by (bytes_eq q v.0) refl (variables-behind names vs q o h (All-tail (λ n. ¬ Contains names n) v.0 (variable_names vs) apart))
  where
    here : bytes_eq q v.0 ≡ true → o ≡ None
    here e = hidden names q o h (λ c. All-head (λ n. ¬ Contains names n) v.0 (variable_names vs) apart (rw (sym (same q v.0 e)) c))

    by : (b : Bool) → bytes_eq q v.0 ≡ b → variable_part (option_or o (said (map variable_entry vs) q)) ≡ said (map variable_entry vs) q
        → variable_part (option_or o (cond b (Some (Value v.1)) (said (map variable_entry vs) q))) ≡ cond b (Some (Value v.1)) (said (map variable_entry vs) q)
    by true e later = ap (λ x. variable_part (option_or x (Some (Value v.1)))) (here e)
    by false e later = later

variables-of : (p : Pieces) → AreRuled p → (q : Text) → variable_part (said (globals_of p) q) ≡ said (map variable_entry p.variables) q
variables-of p h q =
    ap variable_part (globals-said p q)
    ∙ variables-behind (function_names p.functions) p.variables q (said (map function_entry p.functions) q) (functions-among p.functions q) h.apart

-- ---- lists that ascend

functions-above : (l : Text) (fs : List Watched) → Ascend (l ∷ function_names fs) → IsAbove l (map function_entry fs)
functions-above l [] h = tt
functions-above l (f ∷ fs) h = (h.0, functions-above f.definition.header.name fs h.1)

functions-map : (fs : List Watched) → Ascend (function_names fs) → IsMap (map function_entry fs)
functions-map [] h = tt
functions-map (f ∷ fs) h = functions-above f.definition.header.name fs h

variables-above : (l : Text) (vs : List (Text × Arr)) → Ascend (l ∷ variable_names vs) → IsAbove l (map variable_entry vs)
variables-above l [] h = tt
variables-above l (v ∷ vs) h = (h.0, variables-above v.0 vs h.1)

variables-map : (vs : List (Text × Arr)) → Ascend (variable_names vs) → IsMap (map variable_entry vs)
variables-map [] h = tt
variables-map (v ∷ vs) h = variables-above v.0 vs h

-- ---- vectors

skip : (l n : Text) (ns : List Text) → name_cmp l n ≡ Less → Ascend (n ∷ ns) → Ascend (l ∷ ns)
skip l n [] lt h = tt
skip l n (m ∷ ms) lt h = (chain l n m lt h.0, h.1)

later-ascend : (n : Text) (ns : List Text) → Ascend (n ∷ ns) → Ascend ns
later-ascend n [] h = tt
later-ascend n (m ∷ ms) h = h.1

listed-back : (v : List ℕ) → unwrap_or (unless_empty v) [] ≡ v
listed-back [] = refl
listed-back (n ∷ ns) = refl

-- each function has the vector that is kept of its name
abbrev AreTheirs : (Watched → List ℕ) → Vectors → List Watched → Type 0
AreTheirs which vectors fs = AllByRecursion (λ f. vector_of f.definition.header.name vectors ≡ which f) fs

-- one more function, of another name
theirs-behind : (which : Watched → List ℕ) (f : Watched) (fs gs : List Watched) → Ascend (f.definition.header.name ∷ function_names gs) → AreTheirs which (vectors_of which fs) gs → AreTheirs which (vectors_of which (f ∷ fs)) gs
theirs-behind which f fs [] h a = tt
theirs-behind which f fs (g ∷ gs) h a =
    let n = f.definition.header.name in
    let q = g.definition.header.name in (
      ap (λ o. unwrap_or o []) (listed-with n (which f) (vectors_of which fs) q (vectors-ascend which fs) ∙ ap (λ b. cond b (unless_empty (which f)) (listed (vectors_of which fs) q)) (apart n q h.0)) ∙ a.0,
      theirs-behind which f fs gs (skip n q (function_names gs) h.0 h.1) a.1,
    )

all-theirs : (which : Watched → List ℕ) (fs : List Watched) → Ascend (function_names fs) → AreTheirs which (vectors_of which fs) fs
all-theirs which [] h = tt
all-theirs which (f ∷ fs) h =
    let n = f.definition.header.name in (
      ap (λ o. unwrap_or o []) (listed-with n (which f) (vectors_of which fs) n (vectors-ascend which fs) ∙ ap (λ b. cond b (unless_empty (which f)) (listed (vectors_of which fs) n)) (itself n)) ∙ listed-back (which f),
      theirs-behind which f fs fs h (all-theirs which fs (later-ascend n (function_names fs) h)),
    )

functions-back : (stops traces : Vectors) (fs : List Watched) → AreTheirs (λ f. f.stops) stops fs → AreTheirs (λ f. f.traces) traces fs → flat_map (function_in stops traces) (map function_entry fs) ≡ fs
functions-back stops traces [] s t = refl
functions-back stops traces (f ∷ fs) s t =
    let rest : List Watched = flat_map (function_in stops traces) (map function_entry fs) in
    ap (λ (v : List ℕ). record { definition = f.definition; stops = v; traces = vector_of f.definition.header.name traces } ∷ rest) s.0
    ∙ ap (λ (v : List ℕ). record { definition = f.definition; stops = f.stops; traces = v } ∷ rest) t.0
    ∙ ap (λ (gs : List Watched). f ∷ gs) (functions-back stops traces fs s.1 t.1)

variables-back : (vs : List (Text × Arr)) → flat_map variable_in (map variable_entry vs) ≡ vs
variables-back [] = refl
variables-back (v ∷ vs) = ap (λ (ws : List (Text × Arr)). v ∷ ws) (variables-back vs)

-- the functions, by what the state keeps
functions-again : (p : Pieces) → AreRuled p → flat_map (function_in (state_of p).stops (state_of p).world.traces) (map function_entry p.functions) ≡ p.functions
functions-again p h =
    functions-back (state_of p).stops (state_of p).world.traces p.functions (all-theirs (λ f. f.stops) p.functions h.functions_ascend) (all-theirs (λ f. f.traces) p.functions h.functions_ascend)

-- ---- the parts

one-state : (p q : Pieces) → AreRuled p → AreRuled q → state_of p ≡ state_of q → p ≡ q
one-state p q hp hq e =
    let globals : globals_of p ≡ globals_of q = ap (λ (s : State). s.world.globals) e in
    let functions : map function_entry p.functions ≡ map function_entry q.functions =
    same_map (map function_entry p.functions) (map function_entry q.functions) (functions-map p.functions hp.functions_ascend) (functions-map q.functions hq.functions_ascend)
    (λ n. sym (functions-of p n) ∙ ap (λ (m : Map). function_part (said m n)) globals ∙ functions-of q n) in
    let variables : map variable_entry p.variables ≡ map variable_entry q.variables =
    same_map (map variable_entry p.variables) (map variable_entry q.variables) (variables-map p.variables hp.variables_ascend) (variables-map q.variables hq.variables_ascend)
    (λ n. sym (variables-of p hp n) ∙ ap (λ (m : Map). variable_part (said m n)) globals ∙ variables-of q hq n) in
    let a : p.functions ≡ q.functions =
    sym (functions-again p hp)
    ∙ ap (λ (s : State). flat_map (function_in s.stops s.world.traces) (map function_entry p.functions)) e
    ∙ ap (flat_map (function_in (state_of q).stops (state_of q).world.traces)) functions
    ∙ functions-again q hq in
    let b : p.variables ≡ q.variables = sym (variables-back p.variables) ∙ ap (flat_map variable_in) variables ∙ variables-back q.variables in
    let c : p.origin ≡ q.origin = ap (λ (s : State). s.world.io) e in
    let d : p.contexts ≡ q.contexts = sym (contexts-again p hp) ∙ ap (λ (s : State). map part_of (reverse s.contexts)) e ∙ contexts-again q hq in
    λ i. record { functions = a i; variables = b i; origin = c i; contexts = d i }

-- WHAT IS LOADED has the parts that the file holds.
pub loaded-parts : LoadedHasTheParts
loaded-parts p h =
    let savable = loaded-savable p h in
    let idle = ruled-idle p h in
    one-state (parts_of (state_of p)) p (parts-ruled (state_of p) savable idle) h (saved-same (state_of p) savable idle)
