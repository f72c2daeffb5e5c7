-- A map says of each of its names what stands there.
use Rattle.std.proofs.Common.{◌≡◌, ℕ, Bool, cond, List, [], ◌∷◌, ◌++◌, length, map, reverse, suc, Option, Some, refl, ap, ◌∙◌, arith}
use Rattle.std.specs.declared.cmp.Ordering.TheVariants.{Less}
use Rattle.std.specs.List.{flat_map}
use Rattle.apl_names.specs.declared.binding.Binding.{Binding}
use Rattle.apl_arrays.specs.Cells.{Arr}
use Rattle.apl_vectors.specs.Vectors.{Vectors}
use Rattle.apl_names.specs.Maps.{IsAbove, IsMap, Map, Text, kinds_in, last_map, name_cmp, said}
use Rattle.apl_names.proofs.Texts.{apart, chain, flip, itself}
use Rattle.apl_contexts.specs.declared.context.Context.{Context}
use Rattle.apl_contexts.specs.declared.context.Context.TheVariants.{Statement, Call, Execute}
use Rattle.apl_contexts.specs.Contexts.{calls, dressed, under}
use Rattle.apl_parts.specs.declared.parts.ContextPart.{ContextPart}
use Rattle.apl_parts.specs.Pieces.{Watched}
use Rattle.apl_parts.specs.Workspaces.{Pieces}
use Rattle.apl_parts.specs.Taken.{function_in, part_of, parts_of, variable_in}
use Rattle.apl_parts.specs.Making.{function_at, state_with, variable_at}

-- the map says of each of these names what stands beside it
abbrev Says : Map → List (Text × Binding) → Type 0
Says m [] = Unit {0}
Says m (e ∷ es) = (said m e.0 ≡ Some e.1) × Says m es

above_later : (n : Text) (e : Text × Binding) (es : Map) → name_cmp n e.0 ≡ Less → IsAbove e.0 es → IsAbove n es
above_later n e [] lt h = tt
above_later n e (f ∷ fs) lt h = (chain n e.0 f.0 lt h.0, h.1)

-- one more entry, of a lower name, changes nothing
says_under : (d : Text × Binding) (m es : Map) → IsAbove d.0 es → Says m es → Says (d ∷ m) es
says_under d m [] h s = tt
says_under d m (e ∷ es) h s = (
  ap (λ b. cond b (Some d.1) (said m e.0)) (flip e.0 d.0 ∙ apart d.0 e.0 h.0) ∙ s.0,
  says_under d m es (above_later d.0 e es h.0 h.1) s.1,
)

is_map_later : (n : Text) (es : Map) → IsAbove n es → IsMap es
is_map_later n [] h = tt
is_map_later n (e ∷ es) h = h.1

says_itself : (m : Map) → IsMap m → Says m m
says_itself [] h = tt
says_itself (e ∷ es) h = (
  ap (λ b. cond b (Some e.1) (said es e.0)) (itself e.0),
  says_under e es es h (says_itself es (is_map_later e.0 es h)),
)

looked_up : {X : Type 0} (F : Text → Option Binding → List X) (m es : Map) → Says m es → flat_map (λ (k : Text × Bool). F k.0 (said m k.0)) (kinds_in es) ≡ flat_map (λ (e : Text × Binding). F e.0 (Some e.1)) es
looked_up F m [] s = refl
looked_up F m (e ∷ es) s = ap (λ o. F e.0 o ++ flat_map (λ (k : Text × Bool). F k.0 (said m k.0)) (kinds_in es)) s.0 ∙ ap (λ xs. F e.0 (Some e.1) ++ xs) (looked_up F m es s.1)

-- what is looked up by the names of a map is what stands there
pub by_names : {X : Type 0} (F : Text → Option Binding → List X) (m : Map) → IsMap m → flat_map (λ (k : Text × Bool). F k.0 (said m k.0)) (kinds_in m) ≡ flat_map (λ (e : Text × Binding). F e.0 (Some e.1)) m
by_names F m h = looked_up F m m (says_itself m h)

-- ---- the functions and the variables of a map

pub functions_are : (stops traces : Vectors) (m : Map) (found : List Watched) (keys : List (Text × Bool)) → IsMap m → keys ≡ kinds_in m → found ≡ flat_map (λ k. function_at stops traces k.0 (said m k.0)) keys
    → found ≡ flat_map (function_in stops traces) m
functions_are stops traces m found keys h e is = is ∙ ap (flat_map (λ (k : Text × Bool). function_at stops traces k.0 (said m k.0))) e ∙ by_names (function_at stops traces) m h

pub variables_are : (m : Map) (found : List (Text × Arr)) (keys : List (Text × Bool)) → IsMap m → keys ≡ kinds_in m → found ≡ flat_map (λ k. variable_at k.0 (said m k.0)) keys
    → found ≡ flat_map variable_in m
variables_are m found keys h e is = is ∙ ap (flat_map (λ (k : Text × Bool). variable_at k.0 (said m k.0))) e ∙ by_names variable_at m h

-- the global map lies under those of the calls
pub last_under : (ms : List Map) (cs : List Context) → length ms ≡ suc (calls cs) → last_map ms ≡ under ms cs
last_under [] [] e = refl
last_under (m ∷ []) [] e = refl
last_under (m ∷ k ∷ ms) [] e = cc
last_under ms (Statement s ∷ cs) e = last_under ms cs e
last_under [] (Call c ∷ cs) e = cc
last_under (m ∷ []) (Call c ∷ cs) e = cc
last_under (m ∷ k ∷ ms) (Call c ∷ cs) e = last_under (k ∷ ms) cs (omega arith)
last_under ms (Execute s ∷ cs) e = last_under ms cs e

-- ---- all of it

pub taken_is : (p : Pieces) (functions : List Watched) (variables : List (Text × Arr)) (contexts : List ContextPart) (stops traces : Vectors) (origin : ℕ) (ms : List Map) (cs : List Context)
    → p ≡ record { functions = functions; variables = variables; origin = origin; contexts = contexts } → length ms ≡ suc (calls cs)
    → functions ≡ flat_map (function_in stops traces) (last_map ms) → variables ≡ flat_map variable_in (last_map ms) → contexts ≡ reverse (map part_of (dressed ms cs))
    → p ≡ parts_of (state_with ms stops traces origin cs)
taken_is p functions variables contexts stops traces origin ms cs is many a b c =
    let under_is = last_under ms cs many in
    is
    ∙ ap (λ fs. record { functions = fs; variables = variables; origin = origin; contexts = contexts }) (a ∙ ap (flat_map (function_in stops traces)) under_is)
    ∙ ap (λ vs. record { functions = flat_map (function_in stops traces) (under ms cs); variables = vs; origin = origin; contexts = contexts }) (b ∙ ap (flat_map variable_in) under_is)
    ∙ ap (λ ks. record { functions = flat_map (function_in stops traces) (under ms cs); variables = flat_map variable_in (under ms cs); origin = origin; contexts = ks }) c
