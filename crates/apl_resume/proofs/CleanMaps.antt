-- Maps in whose functions neither ⎕STOP nor ⍎ stands.
use Rattle.std.proofs.Common.{ℕ, List, [], ◌∷◌, Bool, true, false, cond, Option, Some, None}
use Rattle.std.specs.Prelude.{if◌then◌else◌, is_some, map}
use Rattle.std.specs.List.{AllByRecursion}
use Rattle.std.specs.Option.{option_or}
use Rattle.std.specs.declared.cmp.Ordering.{Ordering}
use Rattle.std.specs.declared.cmp.Ordering.TheVariants.{Less, Equal, Greater}
use Rattle.std.specs.Ordering.{match_ordering}
use Rattle.std.specs.Str.{bytes_eq}
use Rattle.apl_arrays.specs.Cells.{Arr}
use Rattle.apl_defn.specs.Definitions.{Text, Definition}
use Rattle.apl_names.specs.declared.binding.Binding.{Binding}
use Rattle.apl_names.specs.declared.binding.Binding.TheVariants.{Unset, Value}
use Rattle.apl_names.specs.Maps.{Map, name_cmp, said, with_entry, map_of, found, assigned, first_map}
use Rattle.apl_machine_state.specs.Environment.{World, Context, Call, Scene, scalar, origin_name, index_origin, environment, with_maps, left_over}
use Rattle.apl_machine_state.specs.Calls.{bound_to, bound_name, local_of, label_of, names_of_call, call_map}
use Rattle.apl_resume.specs.Quiet.{IsCleanBinding, IsCleanMap, AreCleanContexts}
use Rattle.apl_resume.proofs.CleanItems.{all-append, all-drop}

abbrev pub AreCleanMaps : List Map → Type 0
AreCleanMaps ms = AllByRecursion IsCleanMap ms

-- what a map says of a name
abbrev pub IsCleanFound : Option Binding → Type 0
IsCleanFound None = Unit {0}
IsCleanFound (Some binding) = IsCleanBinding binding

found-if : (b : Bool) (x y : Option Binding) → IsCleanFound x → IsCleanFound y → IsCleanFound (cond b x y)
found-if true x y h k = h
found-if false x y h k = k

said-clean : (m : Map) (name : Text) → IsCleanMap m → IsCleanFound (said m name)
said-clean [] name h = tt
said-clean (e ∷ es) name h = found-if (bytes_eq name e.0) (Some e.1) (said es name) h.0 (said-clean es name h.1)

found-or : (x y : Option Binding) → IsCleanFound x → IsCleanFound y → IsCleanFound (option_or x y)
found-or None y h k = k
found-or (Some binding) y h k = h

pub found-clean : (ms : List Map) (name : Text) → AreCleanMaps ms → IsCleanFound (found ms name)
found-clean [] name h = tt
found-clean (m ∷ ms) name h = found-or (said m name) (found ms name) (said-clean m name h.0) (found-clean ms name h.1)

-- a name stands for something else
placed-clean : (o : Ordering) (x y z : Map) → IsCleanMap x → IsCleanMap y → IsCleanMap z → IsCleanMap (match_ordering o x y z)
placed-clean Less x y z h k l = h
placed-clean Equal x y z h k l = k
placed-clean Greater x y z h k l = l

entry-clean : (name : Text) (b : Binding) (m : Map) → IsCleanBinding b → IsCleanMap m → IsCleanMap (with_entry name b m)
entry-clean name b [] f h = (f, tt)
entry-clean name b (e ∷ es) f h = placed-clean (name_cmp name e.0) ((name, b) ∷ e ∷ es) ((e.0, b) ∷ es) (e ∷ with_entry name b es) (f, h) (f, h.1) (h.0, entry-clean name b es f h.1)

map_of-clean : (es : List (Text × Binding)) → IsCleanMap es → IsCleanMap (map_of es)
map_of-clean [] h = tt
map_of-clean (e ∷ es) h = entry-clean e.0 e.1 (map_of es) h.0 (map_of-clean es h.1)

maps-if : (b : Bool) (x y : List Map) → AreCleanMaps x → AreCleanMaps y → AreCleanMaps (if b then x else y)
maps-if true x y h k = h
maps-if false x y h k = k

pub assigned-clean : (ms : List Map) (name : Text) (b : Binding) → IsCleanBinding b → AreCleanMaps ms → AreCleanMaps (assigned ms name b)
assigned-clean [] name b f h = tt
assigned-clean (m ∷ []) name b f h = (entry-clean name b m f h.0, tt)
assigned-clean (m ∷ k ∷ ms) name b f h =
    maps-if (is_some (said m name)) (with_entry name b m ∷ k ∷ ms) (m ∷ assigned (k ∷ ms) name b) (entry-clean name b m f h.0, h.1) (h.0, assigned-clean (k ∷ ms) name b f h.1)

first-clean : (ms : List Map) → AreCleanMaps ms → IsCleanMap (first_map ms)
first-clean [] h = tt
first-clean (m ∷ ms) h = h.0

-- the maps of the calls and the global one
pub environment-clean : (w : World) (contexts : List Context) → IsCleanMap w.globals → AreCleanContexts contexts → AreCleanMaps (environment w contexts)
environment-clean w [] k h = (k, tt)
environment-clean w (Call d n locals rest ∷ below) k h = (h.0.1, environment-clean w below k h.1)
environment-clean w (context ∷ below) k h = environment-clean w below k h.1

pub with_maps-clean : (ms : List Map) (contexts : List Context) → AreCleanMaps ms → AreCleanContexts contexts → AreCleanContexts (with_maps ms contexts)
with_maps-clean ms [] m h = tt
with_maps-clean ms (Call d n locals rest ∷ below) m h = ((h.0.0, first-clean ms m, h.0.2), with_maps-clean _ below (all-drop IsCleanMap 1 ms m) h.1)
with_maps-clean ms (context ∷ below) m h = (h.0, with_maps-clean ms below m h.1)

pub left_over-clean : (ms : List Map) (contexts : List Context) → AreCleanMaps ms → IsCleanMap (left_over ms contexts)
left_over-clean ms [] m = first-clean ms m
left_over-clean ms (Call d n locals rest ∷ below) m = left_over-clean _ below (all-drop IsCleanMap 1 ms m)
left_over-clean ms (context ∷ below) m = left_over-clean ms below m

-- the map of a call has no function
abbrev IsCleanEntry : Text × Binding → Type 0
IsCleanEntry e = IsCleanBinding e.1

named-clean : (name : Option Text) (b : Binding) → IsCleanBinding b → IsCleanMap (bound_name name b)
named-clean None b f = tt
named-clean (Some name) b f = (f, tt)

argument-clean : (a : Option Arr) → IsCleanBinding (bound_to a)
argument-clean None = tt
argument-clean (Some a) = tt

binding-if : (b : Bool) (x y : Binding) → IsCleanBinding x → IsCleanBinding y → IsCleanBinding (if b then x else y)
binding-if true x y h k = h
binding-if false x y h k = k

locals-clean : (s : Scene) (names : List Text) → IsCleanMap (map (local_of s) names)
locals-clean s [] = tt
locals-clean s (name ∷ names) = (binding-if (bytes_eq origin_name name) (Value (scalar (index_origin s))) Unset tt tt, locals-clean s names)

labels-clean : (labels : List (Text × ℕ)) → IsCleanMap (map label_of labels)
labels-clean [] = tt
labels-clean (label ∷ labels) = (tt, labels-clean labels)

pub call_map-clean : (s : Scene) (d : Definition) (a b : Option Arr) → IsCleanMap (call_map s d a b)
call_map-clean s d a b =
    map_of-clean (names_of_call s d a b)
    (all-append IsCleanEntry (bound_name d.header.result Unset) _ (named-clean d.header.result Unset tt)
    (all-append IsCleanEntry (bound_name d.header.left (bound_to a)) _ (named-clean d.header.left (bound_to a) (argument-clean a))
    (all-append IsCleanEntry (bound_name d.header.right (bound_to b)) _ (named-clean d.header.right (bound_to b) (argument-clean b))
    (all-append IsCleanEntry (map (local_of s) d.header.locals) _ (locals-clean s d.header.locals) (labels-clean d.labels)))))
