-- The values of a call's names, in parts and put together again: no name of a header stands twice.
use Rattle.std.proofs.Common.{◌≡◌, Bool, true, false, cond, not, ◌&&◌, ◌||◌, List, [], ◌∷◌, ◌++◌, map, Option, Some, None, refl, sym, ap, subst, ◌∙◌}
use Rattle.std.specs.List.{AllByRecursion, list_any}
use Rattle.std.specs.Option.{option_to_list}
use Rattle.std.specs.Str.{bytes_eq}
use Rattle.apl_arrays.specs.Cells.{Arr}
use Rattle.apl_defn.specs.Definitions.{Text, Definition}
use Rattle.apl_defn.specs.Reading.{are_distinct}
use Rattle.apl_defn.specs.Defining.{IsDefined, all_names}
use Rattle.apl_defn.proofs.Limits.{defined_made}
use Rattle.apl_names.specs.declared.binding.Binding.{Binding}
use Rattle.apl_names.specs.Maps.{map_of, said, value_in}
use Rattle.apl_names.proofs.Texts.{itself}
use Rattle.apl_names.proofs.Maps.{neither}
use Rattle.apl_machine_state.specs.Calls.{bound_to, label_of}
use Rattle.apl_order.specs.Kept.{given_name, names_in}
use Rattle.apl_order.proofs.Maps.{said-listed}
use Rattle.apl_parts.specs.Pieces.{Standing}
use Rattle.apl_parts.specs.Restored.{names_of}
use Rattle.apl_parts.specs.Taken.{values_in}
use Rattle.apl_saved.specs.Rules.{IsCall}

-- ---- names that stand once

-- the first texts are some of the others, in their order
data Within : List Text → List Text → Type 0 where
  none : (ys : List Text) → Within [] ys
  kept : (x : Text) (xs ys : List Text) → Within xs ys → Within (x ∷ xs) (x ∷ ys)
  passed : (y : Text) (xs ys : List Text) → Within xs ys → Within xs (y ∷ ys)

first-once : (b c : Bool) → (not b && c) ≡ true → (b ≡ false) × (c ≡ true)
first-once true c h = cc
first-once false c h = (refl, h)

any-within : (w : Text) {xs ys : List Text} → Within xs ys → list_any (λ other. bytes_eq other w) ys ≡ false → list_any (λ other. bytes_eq other w) xs ≡ false
any-within w (none ys) h = refl
any-within w (kept x xs ys s) h =
    let p = neither (bytes_eq x w) (list_any (λ other. bytes_eq other w) ys) h in
    ap (λ b. b || list_any (λ other. bytes_eq other w) xs) p.0 ∙ any-within w s p.1
any-within w (passed y xs ys s) h = any-within w s (neither (bytes_eq y w) (list_any (λ other. bytes_eq other w) ys) h).1

distinct-within : {xs ys : List Text} → Within xs ys → are_distinct ys ≡ true → are_distinct xs ≡ true
distinct-within (none ys) h = refl
distinct-within (kept x xs ys s) h =
    let p = first-once (list_any (λ other. bytes_eq other x) ys) (are_distinct ys) h in
    ap (λ b. not b && are_distinct xs) (any-within x s p.0) ∙ distinct-within s p.1
distinct-within (passed y xs ys s) h = distinct-within s (first-once (list_any (λ other. bytes_eq other y) ys) (are_distinct ys) h).1

within-front : (xs ys : List Text) → Within xs (xs ++ ys)
within-front [] ys = none ys
within-front (x ∷ xs) ys = kept x xs (xs ++ ys) (within-front xs ys)

within-right : (right : Option Text) (name : Text) (locals labels : List Text) → Within (given_name right ++ locals) (((name ∷ option_to_list right) ++ locals) ++ labels)
within-right None name locals labels = passed name locals (locals ++ labels) (within-front locals labels)
within-right (Some r) name locals labels = passed name (r ∷ locals) (r ∷ locals ++ labels) (kept r locals (locals ++ labels) (within-front locals labels))

within-left : (left right : Option Text) (name : Text) (locals labels : List Text) → Within (given_name left ++ (given_name right ++ locals)) (((option_to_list left ++ (name ∷ option_to_list right)) ++ locals) ++ labels)
within-left None right name locals labels = within-right right name locals labels
within-left (Some l) right name locals labels = kept l (given_name right ++ locals) (((name ∷ option_to_list right) ++ locals) ++ labels) (within-right right name locals labels)

within-header : (result left right : Option Text) (name : Text) (locals labels : List Text)
    → Within (given_name result ++ (given_name left ++ (given_name right ++ locals))) (((option_to_list result ++ (option_to_list left ++ (name ∷ option_to_list right))) ++ locals) ++ labels)
within-header None left right name locals labels = within-left left right name locals labels
within-header (Some z) left right name locals labels =
    kept z (given_name left ++ (given_name right ++ locals)) (((option_to_list left ++ (name ∷ option_to_list right)) ++ locals) ++ labels) (within-left left right name locals labels)

header-once : (d : Definition) → IsDefined d → are_distinct (names_in d.header) ≡ true
header-once d h =
    let made = (defined_made h.0 d.lines d h.1).2 in
    let once : are_distinct (all_names d) ≡ true = subst (λ (e : Definition). are_distinct (all_names e) ≡ true) made.is made.once in
    distinct-within (within-header d.header.result d.header.left d.header.right d.header.name d.header.locals (map (λ label. label.0) d.labels)) once

-- ---- what a call's map says of them

-- names with the values that they have
abbrev values_by : (Text → Option Binding) → List Text → List (Text × Option Arr)
values_by f names = map (λ name. (name, value_in (f name))) names

values-same : (f g : Text → Option Binding) (names : List Text) → AllByRecursion (λ q. f q ≡ g q) names → values_by f names ≡ values_by g names
values-same f g [] h = refl
values-same f g (n ∷ ns) h = ap (λ o. (n, value_in o) ∷ values_by f ns) h.0 ∙ ap (λ (ls : List (Text × Option Arr)). (n, value_in (g n)) ∷ ls) (values-same f g ns h.1)

everywhere : (f g : Text → Option Binding) (names : List Text) → ((q : Text) → f q ≡ g q) → AllByRecursion (λ q. f q ≡ g q) names
everywhere f g [] h = tt
everywhere f g (n ∷ ns) h = (h n, everywhere f g ns h)

-- an entry of another name changes nothing
behind-other : (e : Text × Binding) (es : List (Text × Binding)) (names : List Text) → list_any (λ other. bytes_eq other e.0) names ≡ false → AllByRecursion (λ q. said (e ∷ es) q ≡ said es q) names
behind-other e es [] h = tt
behind-other e es (n ∷ ns) h =
    let p = neither (bytes_eq n e.0) (list_any (λ other. bytes_eq other e.0) ns) h in
    (ap (λ b. cond b (Some e.1) (said es n)) p.0, behind-other e es ns p.1)

value-again : (o : Option Arr) → value_in (Some (bound_to o)) ≡ o
value-again None = refl
value-again (Some a) = refl

abbrev local_entry : Text × Option Arr → Text × Binding
local_entry l = (l.0, bound_to l.1)

abbrev local_names : List (Text × Option Arr) → List Text
local_names ls = map (λ (l : Text × Option Arr). l.0) ls

locals-read : (ls : List (Text × Option Arr)) (labels : List (Text × Binding)) → are_distinct (local_names ls) ≡ true → values_by (said (map local_entry ls ++ labels)) (local_names ls) ≡ ls
locals-read [] labels h = refl
locals-read (l ∷ ls) labels h =
    let p = first-once (list_any (λ other. bytes_eq other l.0) (local_names ls)) (are_distinct (local_names ls)) h in
    let es : List (Text × Binding) = map local_entry ls ++ labels in
    let others : List (Text × Option Arr) = values_by (said (local_entry l ∷ es)) (local_names ls) in
    ap (λ b. (l.0, value_in (cond b (Some (bound_to l.1)) (said es l.0))) ∷ others) (itself l.0)
    ∙ ap (λ (v : Option Arr). (l.0, v) ∷ others) (value-again l.1)
    ∙ ap (λ (ks : List (Text × Option Arr)). l ∷ ks) (values-same (said (local_entry l ∷ es)) (said es) (local_names ls) (behind-other (local_entry l) es (local_names ls) p.0) ∙ locals-read ls labels p.1)

-- THE LOCALS of a call that keeps to the rules are those of its map.
pub locals-again : (c : Standing) → IsCall c → values_in (map_of (names_of c)) (names_in c.definition.header) ≡ c.locals
locals-again c h =
    let names = names_in c.definition.header in
    let once : are_distinct (local_names c.locals) ≡ true = ap are_distinct h.names ∙ header-once c.definition h.defined in
    values-same (said (map_of (names_of c))) (said (names_of c)) names (everywhere (said (map_of (names_of c))) (said (names_of c)) names (said-listed (names_of c)))
    ∙ ap (values_by (said (names_of c))) (sym h.names)
    ∙ locals-read c.locals (map label_of c.definition.labels) once
