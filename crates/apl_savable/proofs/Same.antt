-- What is saved and loaded again is the same state.
use Rattle.std.proofs.Common.{◌≡◌, ℕ, Bool, true, false, cond, List, [], ◌∷◌, ◌++◌, map, reverse, Option, Some, None, refl, sym, ap, subst, ◌∙◌, true≢false}
use Rattle.std.specs.Option.{option_map, option_or}
use Rattle.std.specs.List.{AllByRecursion, flat_map}
use Rattle.std.specs.Str.{bytes_eq}
use Rattle.std.specs.Prelude.{unwrap_or}
use Rattle.std.proofs.lemmas.List.{reverse-reverse}
use Rattle.apl_arrays.specs.Cells.{Arr}
use Rattle.apl_defn.specs.Definitions.{Text, Definition, line_of}
use Rattle.apl_names.specs.declared.binding.Binding.{Binding}
use Rattle.apl_names.specs.declared.binding.Binding.TheVariants.{Unset, Label, Value, Function}
use Rattle.apl_names.specs.Maps.{IsMap, Map, function_in as function_of, map_of, said, value_in}
use Rattle.apl_names.proofs.Texts.{flip, same}
use Rattle.apl_names.proofs.Maps.{none_above, same_map}
use Rattle.apl_vectors.specs.Vectors.{Vectors, vector_of}
use Rattle.apl_machine_state.specs.Items.{Rest}
use Rattle.apl_machine_state.specs.Environment.{Context, Statement, Call, Execute, rest_of}
use Rattle.apl_machine_state.specs.Calls.{bound_to, label_of}
use Rattle.apl_machine_state.specs.State.{clear}
use Rattle.apl_order.specs.Order.{IsBelow}
use Rattle.apl_order.specs.Kept.{AreGlobals, AreKept, AreVectors, IsCallMap, IsKeptContext, IsObject, IsVectorOf, names_in}
use Rattle.apl_order.proofs.Maps.{later-map, listed-map, said-append, said-listed}
use Rattle.apl_order.proofs.Standing.{AreIdle, order-idle}
use Rattle.apl_order.proofs.Vectors.{listed, listed-with, same-vectors, unless_empty}
use Rattle.apl_parts.specs.Pieces.{Watched}
use Rattle.apl_parts.specs.Taken.{function_in, part_of, parts_of, values_in, variable_in, waiting_of}
use Rattle.apl_parts.specs.Restored.{context_of, function_entry, globals_of, names_of, state_of, variable_entry, vectors_of}
use Rattle.apl_parts.specs.Restored as restored
use Rattle.apl_parts.proofs.Added.{map_reverse}
use Rattle.apl_parts.proofs.Kept.{vectors-ascend}
use Rattle.apl_savable.specs.Savable.{AreSavable, IsSavableContext, IsUnderWayIn}
use Rattle.apl_savable.specs.Promises.{SavedIsTheSame}
use Rattle.apl_savable.proofs.Lines.{pendent-line, rest-again}
use Rattle.apl_savable.proofs.Objects.{of-entries}
use Rattle.apl_savable.proofs.Ruled.{IsAwaiting, below-awaits, idle-rest}

-- ---- contexts

rest-in-again : (text : Text) (o : Option Rest) → IsUnderWayIn text o → IsAwaiting o → option_map (restored.rest_of text) (option_map waiting_of o) ≡ o
rest-in-again text None u h = refl
rest-in-again text (Some rest) u h = ap Some (rest-again text rest u (pendent-line text rest u h))

names-again : (m : Map) (ns : List Text) → map {B = Text × Binding} (λ (l : Text × Option Arr). (l.0, bound_to l.1)) (values_in m ns) ≡ map {B = Text × Binding} (λ name. (name, bound_to (value_in (said m name)))) ns
names-again m [] = refl
names-again m (n ∷ ns) = ap (λ (es : List (Text × Binding)). (n, bound_to (value_in (said m n))) ∷ es) (names-again m ns)

map-again : (d : Definition) (m : Map) → IsCallMap d m → map_of (map {B = Text × Binding} (λ (l : Text × Option Arr). (l.0, bound_to l.1)) (values_in m (names_in d.header)) ++ map label_of d.labels) ≡ m
map-again d m h =
    ap (λ (es : List (Text × Binding)). map_of (es ++ map label_of d.labels)) (names-again m (names_in d.header)) ∙ h

context-again : (c : Context) → IsSavableContext c → IsKeptContext c → IsAwaiting (rest_of c) → context_of (part_of c) ≡ c
context-again (Statement text rest) s k h = ap (Statement text) (rest-again text rest s.1 (pendent-line text rest s.1 h))
context-again (Execute text rest) s k h = ap (Execute text) (rest-again text rest s.1 (pendent-line text rest s.1 h))
context-again (Call d n locals rest) s k h =
    ap (λ (m : Map). Call d n m (option_map (restored.rest_of (line_of d n)) (option_map waiting_of rest))) (map-again d locals k.1)
    ∙ ap (Call d n locals) (rest-in-again (line_of d n) rest s.1 h)

contexts-again : (c : Context) (cs : List Context) → AreSavable (c ∷ cs) → AreKept (c ∷ cs) → IsAwaiting (rest_of c) → IsBelow c cs → map context_of (map part_of (c ∷ cs)) ≡ c ∷ cs
contexts-again c [] s k h b = ap (λ (x : Context). x ∷ []) (context-again c s.0 k.0 h)
contexts-again c (d ∷ ds) s k h b =
    let lower = below-awaits c d ds b in
    ap (λ (x : Context). x ∷ map context_of (map part_of (d ∷ ds))) (context-again c s.0 k.0 h) ∙ ap (λ (xs : List Context). c ∷ xs) (contexts-again d ds s.2 k.1 lower.1 lower.2)

all-again : (cs : List Context) → AreSavable cs → AreKept cs → AreIdle cs → reverse (map context_of (reverse (map part_of cs))) ≡ cs
all-again [] s k h = refl
all-again (c ∷ cs) s k h = ap reverse (map_reverse context_of (map part_of (c ∷ cs))) ∙ reverse-reverse (map context_of (map part_of (c ∷ cs))) ∙ contexts-again c cs s k (idle-rest (rest_of c) h.1) h.2

-- ---- the global map

abbrev IsEntry : Text → Option Binding → Type 0
IsEntry n o = IsObject n o

abbrev Entry : Type 0
Entry = Text × Binding

-- the binding where it is a function, and where it is a variable
abbrev pub function_part : Option Binding → Option Binding
function_part (Some (Function d)) = Some (Function d)
function_part o = None

abbrev pub variable_part : Option Binding → Option Binding
variable_part (Some (Value a)) = Some (Value a)
variable_part o = None

-- what the list of functions says
one-said-function : (stops traces : Vectors) (n q : Text) (b : Binding) (ws : List Watched) (o : Option Binding) → IsObject n (Some b) → said (map function_entry ws) q ≡ function_part o → (bytes_eq q n ≡ true → o ≡ None) → said (map function_entry (function_in stops traces (n, b) ++ ws)) q ≡ function_part (cond (bytes_eq q n) (Some b) o)
one-said-function stops traces n q (Function d) ws o h e g = subst (λ (k : Text). cond (bytes_eq q k) (Some (Function d)) (said (map function_entry ws) q) ≡ function_part (cond (bytes_eq q n) (Some (Function d)) o)) (sym h.0) (by (bytes_eq q n))
  where
    by : (c : Bool) → cond c (Some (Function d)) (said (map function_entry ws) q) ≡ function_part (cond c (Some (Function d)) o)
    by true = refl
    by false = e
one-said-function stops traces n q (Value a) ws o h e g = e ∙ by (bytes_eq q n) refl
  where
    by : (c : Bool) → bytes_eq q n ≡ c → function_part o ≡ function_part (cond c (Some (Value a)) o)
    by true t = ap function_part (g t)
    by false t = refl
one-said-function stops traces n q Unset ws o h e g = absurd h
one-said-function stops traces n q (Label k) ws o h e g = absurd h

said-functions : (stops traces : Vectors) (es : Map) (q : Text) → IsMap es → AllByRecursion (λ (d : Entry). IsObject d.0 (Some d.1)) es → said (map function_entry (flat_map (function_in stops traces) es)) q ≡ function_part (said es q)
said-functions stops traces [] q h a = refl
said-functions stops traces (e ∷ es) q h a =
    one-said-function stops traces e.0 q e.1 (flat_map (function_in stops traces) es) (said es q) a.0 (said-functions stops traces es q (later-map e.0 es h) a.1)
    (λ t. subst (λ (k : Text). said es k ≡ None) (sym (same q e.0 t)) (none_above e.0 es h))

one-said-variable : (n q : Text) (b : Binding) (vs : List (Text × Arr)) (o : Option Binding) → said (map variable_entry vs) q ≡ variable_part o → (bytes_eq q n ≡ true → o ≡ None) → said (map variable_entry (variable_in (n, b) ++ vs)) q ≡ variable_part (cond (bytes_eq q n) (Some b) o)
one-said-variable n q (Value a) vs o e g = by (bytes_eq q n)
  where
    by : (c : Bool) → cond c (Some (Value a)) (said (map variable_entry vs) q) ≡ variable_part (cond c (Some (Value a)) o)
    by true = refl
    by false = e
one-said-variable n q (Function d) vs o e g = e ∙ by (bytes_eq q n) refl
  where
    by : (c : Bool) → bytes_eq q n ≡ c → variable_part o ≡ variable_part (cond c (Some (Function d)) o)
    by true t = ap variable_part (g t)
    by false t = refl
one-said-variable n q Unset vs o e g = e ∙ by (bytes_eq q n) refl
  where
    by : (c : Bool) → bytes_eq q n ≡ c → variable_part o ≡ variable_part (cond c (Some Unset) o)
    by true t = ap variable_part (g t)
    by false t = refl
one-said-variable n q (Label k) vs o e g = e ∙ by (bytes_eq q n) refl
  where
    by : (c : Bool) → bytes_eq q n ≡ c → variable_part o ≡ variable_part (cond c (Some (Label k)) o)
    by true t = ap variable_part (g t)
    by false t = refl

said-variables : (es : Map) (q : Text) → IsMap es → said (map variable_entry (flat_map variable_in es)) q ≡ variable_part (said es q)
said-variables [] q h = refl
said-variables (e ∷ es) q h =
    one-said-variable e.0 q e.1 (flat_map variable_in es) (said es q) (said-variables es q (later-map e.0 es h))
    (λ t. subst (λ (k : Text). said es k ≡ None) (sym (same q e.0 t)) (none_above e.0 es h))

both-parts : (q : Text) (o : Option Binding) → IsObject q o → option_or (function_part o) (variable_part o) ≡ o
both-parts q None h = refl
both-parts q (Some (Function d)) h = refl
both-parts q (Some (Value a)) h = refl
both-parts q (Some Unset) h = absurd h
both-parts q (Some (Label n)) h = absurd h

globals-again : (stops traces : Vectors) (m : Map) → AreGlobals m → map_of (map function_entry (flat_map (function_in stops traces) m) ++ map variable_entry (flat_map variable_in m)) ≡ m
globals-again stops traces m g =
    let fs = map function_entry (flat_map (function_in stops traces) m) in
    let vs = map variable_entry (flat_map variable_in m) in
    let objects = of-entries IsObject m g.ascend g.objects in
    same_map (map_of (fs ++ vs)) m (listed-map (fs ++ vs)) g.ascend (λ q.
    said-listed (fs ++ vs) q
    ∙ said-append fs vs q
    ∙ ap (λ o. option_or o (said vs q)) (said-functions stops traces m q g.ascend objects)
    ∙ ap (option_or (function_part (said m q))) (said-variables m q g.ascend)
    ∙ both-parts q (said m q) (g.objects q))

-- ---- vectors

-- the vector where the binding is a function
abbrev vector_part : Option Binding → Option (List ℕ) → Option (List ℕ)
vector_part (Some (Function d)) v = v
vector_part o v = None

listed-again : (o : Option (List ℕ)) (d : Definition) → IsVectorOf (Some d) o → unless_empty (unwrap_or o []) ≡ o
listed-again None d h = refl
listed-again (Some []) d h = absurd h
listed-again (Some (n ∷ ns)) d h = refl

record IsWhich (which : Watched → List ℕ) (stops traces vectors : Vectors) : Type 0 where
  gives : (n : Text) (d : Definition) → which (record { definition = d; stops = vector_of n stops; traces = vector_of n traces }) ≡ vector_of n vectors

one-listed : (which : Watched → List ℕ) (stops traces vectors : Vectors) → IsWhich which stops traces vectors → (n q : Text) (b : Binding) (ws : List Watched) (o : Option Binding) → IsObject n (Some b) → IsVectorOf (function_of (Some b)) (listed vectors n)
    → listed (vectors_of which ws) q ≡ vector_part o (listed vectors q) → (bytes_eq q n ≡ true → o ≡ None) → listed (vectors_of which (function_in stops traces (n, b) ++ ws)) q ≡ vector_part (cond (bytes_eq q n) (Some b) o) (listed vectors q)
one-listed which stops traces vectors w n q (Function d) ws o h v e g =
    let f : Watched = record { definition = d; stops = vector_of n stops; traces = vector_of n traces } in
    listed-with d.header.name (which f) (vectors_of which ws) q (vectors-ascend which ws)
    ∙ ap (λ (k : Text). cond (bytes_eq k q) (unless_empty (which f)) (listed (vectors_of which ws) q)) h.0
    ∙ ap (λ (l : List ℕ). cond (bytes_eq n q) (unless_empty l) (listed (vectors_of which ws) q)) (w.gives n d)
    ∙ ap (λ (l : Option (List ℕ)). cond (bytes_eq n q) l (listed (vectors_of which ws) q)) (listed-again (listed vectors n) d v)
    ∙ by (bytes_eq n q) (bytes_eq q n) refl (flip q n)
  where
    by : (c t : Bool) → bytes_eq n q ≡ c → t ≡ bytes_eq n q → cond c (listed vectors n) (listed (vectors_of which ws) q) ≡ vector_part (cond t (Some (Function d)) o) (listed vectors q)
    by true true x y = ap (listed vectors) (same n q x)
    by false false x y = e
    by true false x y = absurd (true≢false (sym x ∙ sym y))
    by false true x y = absurd (true≢false (y ∙ x))
one-listed which stops traces vectors w n q (Value a) ws o h v e g = e ∙ by (bytes_eq q n) refl
  where
    by : (c : Bool) → bytes_eq q n ≡ c → vector_part o (listed vectors q) ≡ vector_part (cond c (Some (Value a)) o) (listed vectors q)
    by true t = ap (λ x. vector_part x (listed vectors q)) (g t)
    by false t = refl
one-listed which stops traces vectors w n q Unset ws o h v e g = absurd h
one-listed which stops traces vectors w n q (Label k) ws o h v e g = absurd h

all-listed : (which : Watched → List ℕ) (stops traces vectors : Vectors) → IsWhich which stops traces vectors → (es : Map) (q : Text) → IsMap es → AllByRecursion (λ (d : Entry). IsObject d.0 (Some d.1) × IsVectorOf (function_of (Some d.1)) (listed vectors d.0)) es
    → listed (vectors_of which (flat_map (function_in stops traces) es)) q ≡ vector_part (said es q) (listed vectors q)
all-listed which stops traces vectors w [] q h a = refl
all-listed which stops traces vectors w (e ∷ es) q h a =
    one-listed which stops traces vectors w e.0 q e.1 (flat_map (function_in stops traces) es) (said es q) a.0.0 a.0.1 (all-listed which stops traces vectors w es q (later-map e.0 es h) a.1)
    (λ t. subst (λ (k : Text). said es k ≡ None) (sym (same q e.0 t)) (none_above e.0 es h))

-- only functions have vectors
vector-whole : (o : Option Binding) (v : Option (List ℕ)) → IsVectorOf (function_of o) v → vector_part o v ≡ v
vector-whole (Some (Function d)) v h = refl
vector-whole None None h = refl
vector-whole None (Some l) h = absurd h
vector-whole (Some (Value a)) None h = refl
vector-whole (Some (Value a)) (Some l) h = absurd h
vector-whole (Some Unset) None h = refl
vector-whole (Some Unset) (Some l) h = absurd h
vector-whole (Some (Label n)) None h = refl
vector-whole (Some (Label n)) (Some l) h = absurd h

vectors-again : (which : Watched → List ℕ) (stops traces vectors : Vectors) (m : Map) → IsWhich which stops traces vectors → AreGlobals m → AreVectors m vectors → vectors_of which (flat_map (function_in stops traces) m) ≡ vectors
vectors-again which stops traces vectors m w g h =
    same-vectors (vectors_of which (flat_map (function_in stops traces) m)) vectors (vectors-ascend which (flat_map (function_in stops traces) m)) h.ascend (λ q.
    all-listed which stops traces vectors w m q g.ascend (of-entries (λ n o. IsObject n o × IsVectorOf (function_of o) (listed vectors n)) m g.ascend (λ k. (g.objects k, h.lines k)))
    ∙ vector-whole (said m q) (listed vectors q) (h.lines q))

-- ---- the state

pub saved-same : SavedIsTheSame
saved-same s h idle =
    let k = h.kept.keeps in
    let stops = s.stops in
    let traces = s.world.traces in
    let a : vectors_of (λ f. f.traces) (flat_map (function_in stops traces) s.world.globals) ≡ traces = vectors-again (λ f. f.traces) stops traces traces s.world.globals (record { gives = λ n d. refl }) k.globals k.traced in
    let b : vectors_of (λ f. f.stops) (flat_map (function_in stops traces) s.world.globals) ≡ stops = vectors-again (λ f. f.stops) stops traces stops s.world.globals (record { gives = λ n d. refl }) k.globals k.stopped in
    let g : globals_of (parts_of s) ≡ s.world.globals = globals-again stops traces s.world.globals k.globals in
    let c : reverse (map context_of (reverse (map part_of s.contexts))) ≡ s.contexts = all-again s.contexts h.contexts k.kept (order-idle s.contexts idle h.kept.order) in
    λ i. record clear { world = record { traces = a i; globals = g i; io = s.world.io }; stops = b i; contexts = c i }
