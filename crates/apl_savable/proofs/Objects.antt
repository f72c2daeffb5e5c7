-- The global functions and variables of a map, in parts.
use Rattle.std.proofs.Common.{◌≡◌, ℕ, Bool, true, false, cond, List, [], ◌∷◌, ◌++◌, All, Option, Some, None, refl, sym, ap, subst, ◌∙◌, true≢false, arith}
use Rattle.std.specs.Prelude.{Contains, unwrap_or}
use Rattle.std.specs.List.{AllByRecursion, flat_map}
use Rattle.std.specs.Map.{lookup}
use Rattle.std.specs.Str.{bytes_eq}
use Rattle.std.specs.declared.cmp.Ordering.TheVariants.{Less}
use Rattle.std.proofs.lemmas.List.Elements.{All-cons, All-nil}
use Rattle.std.proofs.lemmas.Map.Made.{Contains-tail}
use Rattle.apl_arrays.specs.Cells.{Arr}
use Rattle.apl_tokens.specs.Spelling.{IsName}
use Rattle.apl_defn.specs.Definitions.{Text, Definition}
use Rattle.apl_names.specs.declared.binding.Binding.{Binding}
use Rattle.apl_names.specs.declared.binding.Binding.TheVariants.{Unset, Label, Value, Function}
use Rattle.apl_names.specs.Maps.{IsAbove, IsMap, Map, function_in as function_of, name_cmp, said}
use Rattle.apl_names.proofs.Texts.{apart, flip, itself, same}
use Rattle.apl_names.proofs.Maps.{lower}
use Rattle.apl_vectors.specs.Vectors.{Vectors, vector_of}
use Rattle.apl_order.specs.Kept.{AreGlobals, AreLines, AreVectors, IsObject, IsVectorOf}
use Rattle.apl_order.proofs.Maps.{later-map}
use Rattle.apl_parts.specs.Pieces.{Watched}
use Rattle.apl_parts.specs.Taken.{function_in, variable_in}
use Rattle.apl_parts.specs.Restored.{IsWatched}
use Rattle.apl_saved.specs.Rules.{Ascend, function_names, variable_names}
use Rattle.apl_savable.specs.Savable.{IsNamed}

abbrev Entry : Type 0
Entry = Text × Binding

-- ---- what a map says of its entries

said-first : (e : Entry) (es : Map) → said (e ∷ es) e.0 ≡ Some e.1
said-first e es = ap (λ c. cond c (Some e.1) (said es e.0)) (itself e.0)

-- what holds of all names holds of the entries
pub of-entries : (P : Text → Option Binding → Type 0) (m : Map) → IsMap m → ((q : Text) → P q (said m q)) → AllByRecursion (λ d. P d.0 (Some d.1)) m
of-entries P m h f = by m h (λ d e. subst (P d.0) e (f d.0)) (entries-said m h)
  where
    entries-said : (es : Map) → IsMap es → AllByRecursion (λ d. said es d.0 ≡ Some d.1) es
    entries-said [] h = tt
    entries-said (e ∷ es) h = (said-first e es, behind es h (entries-said es (later-map e.0 es h)))
      where
        behind : (ds : Map) → IsAbove e.0 ds → AllByRecursion (λ d. said es d.0 ≡ Some d.1) ds → AllByRecursion (λ d. said (e ∷ es) d.0 ≡ Some d.1) ds
        behind [] k a = tt
        behind (d ∷ ds) k a = (ap (λ c. cond c (Some e.1) (said es d.0)) (flip d.0 e.0 ∙ apart e.0 d.0 k.0) ∙ a.0, behind ds (lower e.0 d.0 ds k.0 k.1) a.1)

    by : (es : Map) → IsMap es → ((d : Entry) → said m d.0 ≡ Some d.1 → P d.0 (Some d.1)) → AllByRecursion (λ d. said m d.0 ≡ Some d.1) es → AllByRecursion (λ d. P d.0 (Some d.1)) es
    by [] k g a = tt
    by (e ∷ es) k g a = (g e a.0, by es (later-map e.0 es k) g a.1)

-- ---- functions

vector-lines : (d : Definition) (o : Option (List ℕ)) → IsVectorOf (Some d) o → AreLines d (unwrap_or o [])
vector-lines d None h = (tt, tt)
vector-lines d (Some []) h = absurd h
vector-lines d (Some (n ∷ ns)) h = h

-- an entry is an object, with its vectors
abbrev IsListed : Vectors → Vectors → Text → Option Binding → Type 0
IsListed stops traces name o = IsObject name o × IsVectorOf (function_of o) (lookup (bytes_eq name) stops) × IsVectorOf (function_of o) (lookup (bytes_eq name) traces)

pub are-listed : (stops traces : Vectors) (m : Map) → AreGlobals m → AreVectors m stops → AreVectors m traces → AllByRecursion (λ (d : Entry). IsListed stops traces d.0 (Some d.1)) m
are-listed stops traces m g s t = of-entries (IsListed stops traces) m g.ascend (λ q. (g.objects q, s.lines q, t.lines q))

one-watched : (stops traces : Vectors) (n : Text) (b : Binding) (ws : List Watched) → IsListed stops traces n (Some b) → All IsWatched ws → All IsWatched (function_in stops traces (n, b) ++ ws)
one-watched stops traces n (Function d) ws h a =
    All-cons IsWatched (record { definition = d; stops = vector_of n stops; traces = vector_of n traces }) ws
    (record { defined = h.0.1; stops = vector-lines d (lookup (bytes_eq n) stops) h.1; traces = vector-lines d (lookup (bytes_eq n) traces) h.2 }) a
one-watched stops traces n (Value a) ws h all = all
one-watched stops traces n Unset ws h all = all
one-watched stops traces n (Label k) ws h all = all

pub all-watched : (stops traces : Vectors) (m : Map) → AllByRecursion (λ (d : Entry). IsListed stops traces d.0 (Some d.1)) m → All IsWatched (flat_map (function_in stops traces) m)
all-watched stops traces [] h = All-nil IsWatched
all-watched stops traces (e ∷ es) h = one-watched stops traces e.0 e.1 (flat_map (function_in stops traces) es) h.0 (all-watched stops traces es h.1)

-- the names of functions ascend
function-over : (stops traces : Vectors) (l n : Text) (b : Binding) (ws : List Watched) → name_cmp l n ≡ Less → IsObject n (Some b) → Ascend (n ∷ function_names ws) → Ascend (l ∷ function_names ws) → Ascend (l ∷ function_names (function_in stops traces (n, b) ++ ws))
function-over stops traces l n (Function d) ws lt h a u = (subst (λ (k : Text). name_cmp l k ≡ Less) (sym h.0) lt, subst (λ (k : Text). Ascend (k ∷ function_names ws)) (sym h.0) a)
function-over stops traces l n (Value a) ws lt h all under = under
function-over stops traces l n Unset ws lt h all under = under
function-over stops traces l n (Label k) ws lt h all under = under

functions-over : (stops traces : Vectors) (l : Text) (m : Map) → IsAbove l m → AllByRecursion (λ (d : Entry). IsListed stops traces d.0 (Some d.1)) m → Ascend (l ∷ function_names (flat_map (function_in stops traces) m))
functions-over stops traces l [] h a = tt
functions-over stops traces l (e ∷ es) h a = function-over stops traces l e.0 e.1 (flat_map (function_in stops traces) es) h.0 a.0.0 (functions-over stops traces e.0 es h.1 a.1) (functions-over stops traces l es (lower l e.0 es h.0 h.1) a.1)

over-ascends : (l : Text) (ns : List Text) → Ascend (l ∷ ns) → Ascend ns
over-ascends l [] h = tt
over-ascends l (n ∷ ns) h = h.1

first-function : (stops traces : Vectors) (n : Text) (b : Binding) (ws : List Watched) → IsObject n (Some b) → Ascend (n ∷ function_names ws) → Ascend (function_names (function_in stops traces (n, b) ++ ws))
first-function stops traces n (Function d) ws h a = subst (λ (k : Text). Ascend (k ∷ function_names ws)) (sym h.0) a
first-function stops traces n (Value b) ws h a = over-ascends n (function_names ws) a
first-function stops traces n Unset ws h a = over-ascends n (function_names ws) a
first-function stops traces n (Label k) ws h a = over-ascends n (function_names ws) a

pub functions-ascend : (stops traces : Vectors) (m : Map) → IsMap m → AllByRecursion (λ (d : Entry). IsListed stops traces d.0 (Some d.1)) m → Ascend (function_names (flat_map (function_in stops traces) m))
functions-ascend stops traces [] h a = tt
functions-ascend stops traces (e ∷ es) h a = first-function stops traces e.0 e.1 (flat_map (function_in stops traces) es) a.0.0 (functions-over stops traces e.0 es h a.1)

-- ---- variables

one-named : (n : Text) (b : Binding) (vs : List (Text × Arr)) → IsNamed n (Some b) → All IsName (variable_names vs) → All IsName (variable_names (variable_in (n, b) ++ vs))
one-named n (Value a) vs h all = All-cons IsName n (variable_names vs) h all
one-named n (Function d) vs h all = all
one-named n Unset vs h all = all
one-named n (Label k) vs h all = all

pub all-named : (m : Map) → AllByRecursion (λ (d : Entry). IsNamed d.0 (Some d.1)) m → All IsName (variable_names (flat_map variable_in m))
all-named [] h = All-nil IsName
all-named (e ∷ es) h = one-named e.0 e.1 (flat_map variable_in es) h.0 (all-named es h.1)

variable-over : (l n : Text) (b : Binding) (vs : List (Text × Arr)) → name_cmp l n ≡ Less → Ascend (n ∷ variable_names vs) → Ascend (l ∷ variable_names vs) → Ascend (l ∷ variable_names (variable_in (n, b) ++ vs))
variable-over l n (Value a) vs lt all under = (lt, all)
variable-over l n (Function d) vs lt all under = under
variable-over l n Unset vs lt all under = under
variable-over l n (Label k) vs lt all under = under

variables-over : (l : Text) (m : Map) → IsAbove l m → Ascend (l ∷ variable_names (flat_map variable_in m))
variables-over l [] h = tt
variables-over l (e ∷ es) h = variable-over l e.0 e.1 (flat_map variable_in es) h.0 (variables-over e.0 es h.1) (variables-over l es (lower l e.0 es h.0 h.1))

first-variable : (n : Text) (b : Binding) (vs : List (Text × Arr)) → Ascend (n ∷ variable_names vs) → Ascend (variable_names (variable_in (n, b) ++ vs))
first-variable n (Value a) vs all = all
first-variable n (Function d) vs all = over-ascends n (variable_names vs) all
first-variable n Unset vs all = over-ascends n (variable_names vs) all
first-variable n (Label k) vs all = over-ascends n (variable_names vs) all

pub variables-ascend : (m : Map) → IsMap m → Ascend (variable_names (flat_map variable_in m))
variables-ascend [] h = tt
variables-ascend (e ∷ es) h = first-variable e.0 e.1 (flat_map variable_in es) (variables-over e.0 es h)

-- ---- no name is that of both

abbrev IsValue : Option Binding → Type 0
IsValue (Some (Value a)) = Unit {0}
IsValue o = ⊥

abbrev IsFunction : Option Binding → Type 0
IsFunction (Some (Function d)) = Unit {0}
IsFunction o = ⊥

no-both : (o : Option Binding) → IsValue o → IsFunction o → ⊥
no-both (Some (Value a)) v f = f
no-both (Some (Function d)) v f = v
no-both (Some Unset) v f = v
no-both (Some (Label n)) v f = v
no-both None v f = v

abbrev IsSaid : Map → Entry → Type 0
IsSaid m d = said m d.0 ≡ Some d.1

pub are-said : (m : Map) → IsMap m → AllByRecursion (IsSaid m) m
are-said m h = of-entries (λ n o. said m n ≡ o) m h (λ q. refl)

-- a name among those of functions is that of one
one-function : (stops traces : Vectors) (m : Map) (n q : Text) (b : Binding) (ws : List Watched) → IsObject n (Some b) → said m n ≡ Some b → Contains (function_names (function_in stops traces (n, b) ++ ws)) q → (Contains (function_names ws) q → IsFunction (said m q)) → IsFunction (said m q)
one-function stops traces m n q (Function d) ws h e c later = by (bytes_eq q n) refl
  where
    by : (t : Bool) → bytes_eq q n ≡ t → IsFunction (said m q)
    by true t = subst (λ (k : Text). IsFunction (said m k)) (sym (same q n t)) (subst IsFunction (sym e) tt)
    by false t = later (Contains-tail d.header.name (function_names ws) q (λ p. true≢false (sym (itself q) ∙ ap (bytes_eq q) (sym p ∙ h.0) ∙ t)) c)
one-function stops traces m n q (Value a) ws h e c later = later c
one-function stops traces m n q Unset ws h e c later = later c
one-function stops traces m n q (Label k) ws h e c later = later c

are-functions : (stops traces : Vectors) (m es : Map) (q : Text) → AllByRecursion (λ (d : Entry). IsListed stops traces d.0 (Some d.1)) es → AllByRecursion (IsSaid m) es → Contains (function_names (flat_map (function_in stops traces) es)) q → IsFunction (said m q)
are-functions stops traces m [] q h a c = absurd (omega (arith, c.1))
are-functions stops traces m (e ∷ es) q h a c = one-function stops traces m e.0 q e.1 (flat_map (function_in stops traces) es) h.0.0 a.0 c (λ later. are-functions stops traces m es q h.1 a.1 later)

one-apart : (m : Map) (ns : List Text) (n : Text) (b : Binding) (vs : List (Text × Arr)) → said m n ≡ Some b → ((q : Text) → Contains ns q → IsFunction (said m q)) → All (λ q. ¬ Contains ns q) (variable_names vs) → All (λ q. ¬ Contains ns q) (variable_names (variable_in (n, b) ++ vs))
one-apart m ns n (Value a) vs e f all = All-cons (λ q. ¬ Contains ns q) n (variable_names vs) (λ c. no-both (said m n) (subst IsValue (sym e) tt) (f n c)) all
one-apart m ns n (Function d) vs e f all = all
one-apart m ns n Unset vs e f all = all
one-apart m ns n (Label k) vs e f all = all

all-apart : (m : Map) (ns : List Text) (es : Map) → AllByRecursion (IsSaid m) es → ((q : Text) → Contains ns q → IsFunction (said m q)) → All (λ q. ¬ Contains ns q) (variable_names (flat_map variable_in es))
all-apart m ns [] a f = All-nil (λ q. ¬ Contains ns q)
all-apart m ns (e ∷ es) a f = one-apart m ns e.0 e.1 (flat_map variable_in es) a.0 f (all-apart m ns es a.1 f)

pub names-apart : (stops traces : Vectors) (m : Map) → IsMap m → AllByRecursion (λ (d : Entry). IsListed stops traces d.0 (Some d.1)) m → All (λ q. ¬ Contains (function_names (flat_map (function_in stops traces) m)) q) (variable_names (flat_map variable_in m))
names-apart stops traces m h l = all-apart m (function_names (flat_map (function_in stops traces) m)) m (are-said m h) (λ q. are-functions stops traces m m q l (are-said m h))
