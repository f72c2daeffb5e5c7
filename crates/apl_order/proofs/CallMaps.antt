-- The maps of calls have just the names of their headers and labels, as they begin and whatever is assigned.
use Rattle.std.proofs.Common.{◌≡◌, ℕ, Bool, true, false, cond, ◌||◌, List, [], ◌∷◌, ◌++◌, map, Option, Some, None, refl, sym, ap, subst, ◌∙◌, true≢false, append_assoc}
use Rattle.std.specs.Prelude.{is_some, if◌then◌else◌}
use Rattle.std.specs.Option.{option_or}
use Rattle.std.specs.Str.{bytes_eq}
use Rattle.std.proofs.lemmas.List.{map-append}
use Rattle.apl_arrays.specs.Cells.{Arr}
use Rattle.apl_defn.specs.Definitions.{Header, Definition}
use Rattle.apl_defn.specs.Defining.{IsDefined}
use Rattle.apl_names.specs.declared.binding.Binding.{Binding}
use Rattle.apl_names.specs.declared.binding.Binding.TheVariants.{Unset, Label, Value, Function}
use Rattle.apl_names.specs.Maps.{IsMap, Map, Text, map_of, said, value_in, with_entry}
use Rattle.apl_names.specs.Slots.{has}
use Rattle.apl_names.proofs.Texts.{same, flip}
use Rattle.apl_names.proofs.Maps.{same_map, said_with, with_map}
use Rattle.apl_machine_state.specs.Environment.{Scene, origin_name, scalar, index_origin}
use Rattle.apl_machine_state.specs.Calls.{bound_to, bound_name as named_as, local_of, label_of, names_of_call, call_map}
use Rattle.apl_order.specs.Kept.{IsCallMap, names_by, names_in, given_name}
use Rattle.apl_order.proofs.Maps.{said-listed, listed-map, said-append}
use Rattle.apl_order.proofs.Outcomes.{IsAssignable}
use Rattle.apl_order.proofs.Defined.{labels-said}

-- ---- what the list of a call's names says

abbrev values_by : Map → List Text → List (Text × Binding)
values_by m names = map (λ name. (name, bound_to (value_in (said m name)))) names

said-values : (m : Map) (names : List Text) (q : Text) → said (values_by m names) q ≡ cond (has names q) (Some (bound_to (value_in (said m q)))) None
said-values m [] q = refl
said-values m (n ∷ ns) q = by (bytes_eq q n) (bytes_eq n q) refl (flip n q) (said-values m ns q)
  where
    by : (b c : Bool) → bytes_eq q n ≡ b → c ≡ bytes_eq q n → said (values_by m ns) q ≡ cond (has ns q) (Some (bound_to (value_in (said m q)))) None
        → cond b (Some (bound_to (value_in (said m n)))) (said (values_by m ns) q) ≡ cond (c || has ns q) (Some (bound_to (value_in (said m q)))) None
    by true true e f h = ap (λ (k : Text). Some (bound_to (value_in (said m k)))) (sym (same q n e))
    by false false e f h = h
    by true false e f h = absurd (true≢false (sym e ∙ sym f))
    by false true e f h = absurd (true≢false (f ∙ e))

-- a map says what the list of a call's names by it says
abbrev Agrees : Definition → Map → Text → Type 0
Agrees d m q = said m q ≡ option_or (cond (has (names_in d.header) q) (Some (bound_to (value_in (said m q)))) None) (said (map label_of d.labels) q)

said-names : (d : Definition) (m : Map) (q : Text) → said (names_by m d) q ≡ option_or (cond (has (names_in d.header) q) (Some (bound_to (value_in (said m q)))) None) (said (map label_of d.labels) q)
said-names d m q = said-append (values_by m (names_in d.header)) (map label_of d.labels) q ∙ ap (λ o. option_or o (said (map label_of d.labels) q)) (said-values m (names_in d.header) q)

agrees : (d : Definition) (m : Map) → IsCallMap d m → (q : Text) → Agrees d m q
agrees d m h q = ap (λ (k : Map). said k q) (sym h) ∙ said-listed (names_by m d) q ∙ said-names d m q

by-agreement : (d : Definition) (m : Map) → IsMap m → ((q : Text) → Agrees d m q) → IsCallMap d m
by-agreement d m h f = same_map (map_of (names_by m d)) m (listed-map (names_by m d)) h (λ q. said-listed (names_by m d) q ∙ said-names d m q ∙ sym (f q))

call-ascends : (d : Definition) (m : Map) → IsCallMap d m → IsMap m
call-ascends d m h = subst IsMap h (listed-map (names_by m d))

-- ---- labels

-- what labels say is a label, or nothing
abbrev IsLabel : Option Binding → Type 0
IsLabel None = Unit {0}
IsLabel (Some (Label n)) = Unit {0}
IsLabel (Some binding) = ⊥

are-labels : (ls : List (Text × ℕ)) (q : Text) → IsLabel (said (map label_of ls) q)
are-labels [] q = tt
are-labels (l ∷ ls) q = by (bytes_eq q l.0) (are-labels ls q)
  where
    by : (b : Bool) → IsLabel (said (map label_of ls) q) → IsLabel (cond b (Some (label_of l).1) (said (map label_of ls) q))
    by true h = tt
    by false h = h

-- ---- a value is assigned

-- the name is one of the header's, since a label isn't assigned to
assigned-has : (b : Bool) (o p : Option Binding) (value : Option Binding) → IsLabel p → IsAssignable o → is_some o ≡ true → o ≡ option_or (cond b value None) p → b ≡ true
assigned-has true o p value l a s e = refl
assigned-has false None p value l a s e = cc
assigned-has false (Some x) None value l a s e = cc
assigned-has false (Some x) (Some (Label n)) value l a s e = absurd (subst IsAssignable e a)
assigned-has false (Some x) (Some Unset) value l a s e = absurd l
assigned-has false (Some x) (Some (Value y)) value l a s e = absurd l
assigned-has false (Some x) (Some (Function y)) value l a s e = absurd l

pub assigned-map : (d : Definition) (m : Map) (n : Text) (a : Arr) → IsCallMap d m → IsAssignable (said m n) → is_some (said m n) ≡ true → IsCallMap d (with_entry n (Value a) m)
assigned-map d m n a h free there = by-agreement d next (with_map n (Value a) m (call-ascends d m h)) (λ q. by q (bytes_eq n q) refl)
  where
    next : Map
    next = with_entry n (Value a) m

    labels : Text → Option Binding
    labels q = said (map label_of d.labels) q

    within : has (names_in d.header) n ≡ true
    within = assigned-has (has (names_in d.header) n) (said m n) (labels n) (Some (bound_to (value_in (said m n)))) (are-labels d.labels n) free there (agrees d m h n)

    by : (q : Text) (b : Bool) → bytes_eq n q ≡ b → Agrees d next q
    by q true e =
        let new : said next q ≡ Some (Value a) = said_with n (Value a) m q ∙ ap (λ c. cond c (Some (Value a)) (said m q)) e in
        let there_too : has (names_in d.header) q ≡ true = ap (has (names_in d.header)) (sym (same n q e)) ∙ within in
        new
        ∙ sym (ap (λ o. option_or (cond true (Some (bound_to (value_in o))) None) (labels q)) new)
        ∙ sym (ap (λ c. option_or (cond c (Some (bound_to (value_in (said next q)))) None) (labels q)) there_too)
    by q false e =
        let old : said next q ≡ said m q = said_with n (Value a) m q ∙ ap (λ c. cond c (Some (Value a)) (said m q)) e in
        old ∙ agrees d m h q ∙ sym (ap (λ o. option_or (cond (has (names_in d.header) q) (Some (bound_to (value_in o))) None) (labels q)) old)

-- ---- ⎕IO is no label

value-assignable : (o : Option Arr) → IsAssignable (Some (bound_to o))
value-assignable None = tt
value-assignable (Some a) = tt

pub origin-in-call : (d : Definition) (m : Map) → IsDefined d → IsCallMap d m → IsAssignable (said m origin_name)
origin-in-call d m defined h =
    subst IsAssignable (sym (agrees d m h origin_name))
    (subst (λ o. IsAssignable (option_or (cond (has (names_in d.header) origin_name) (Some (bound_to (value_in (said m origin_name)))) None) o)) (sym (labels-said d defined)) (by (has (names_in d.header) origin_name)))
  where
    by : (b : Bool) → IsAssignable (option_or (cond b (Some (bound_to (value_in (said m origin_name)))) None) None)
    by true = value-assignable (value_in (said m origin_name))
    by false = tt

-- ---- a call begins

-- names with values, or without one
abbrev pub AreValues : List (Text × Binding) → Type 0
AreValues [] = Unit {0}
AreValues (e ∷ es) = (bound_to (value_in (Some e.1)) ≡ e.1) × AreValues es

values-append : (es fs : List (Text × Binding)) → AreValues es → AreValues fs → AreValues (es ++ fs)
values-append [] fs a b = b
values-append (e ∷ es) fs a b = (a.0, values-append es fs a.1 b)

-- the names of a list of bindings
abbrev pub first_names : List (Text × Binding) → List Text
first_names es = map (λ (e : Text × Binding). e.0) es

-- what such a list says of a name of its own
said-own : (es labels : List (Text × Binding)) (q : Text) → AreValues es → said (es ++ labels) q ≡ option_or (cond (has (first_names es) q) (Some (bound_to (value_in (said (es ++ labels) q)))) None) (said labels q)
said-own [] labels q h = refl
said-own (e ∷ es) labels q h = by (bytes_eq q e.0) (bytes_eq e.0 q) refl (flip e.0 q) (said-own es labels q h.1)
  where
    by : (b c : Bool) → bytes_eq q e.0 ≡ b → c ≡ bytes_eq q e.0
        → said (es ++ labels) q ≡ option_or (cond (has (first_names es) q) (Some (bound_to (value_in (said (es ++ labels) q)))) None) (said labels q)
        → cond b (Some e.1) (said (es ++ labels) q) ≡ option_or (cond (c || has (first_names es) q) (Some (bound_to (value_in (cond b (Some e.1) (said (es ++ labels) q))))) None) (said labels q)
    by true true x y i = ap Some (sym h.0)
    by false false x y i = i
    by true false x y i = absurd (true≢false (sym x ∙ sym y))
    by false true x y i = absurd (true≢false (y ∙ x))

one-values : (o : Option Text) (b : Option Arr) → AreValues (named_as o (bound_to b))
one-values None b = tt
one-values (Some n) None = (refl, tt)
one-values (Some n) (Some a) = (refl, tt)

locals-values : (s : Scene) (names : List Text) → AreValues (map (local_of s) names)
locals-values s [] = tt
locals-values s (n ∷ ns) = (by (bytes_eq origin_name n), locals-values s ns)
  where
    by : (b : Bool) → bound_to (value_in (Some (if b then Value (scalar (index_origin s)) else Unset))) ≡ (if b then Value (scalar (index_origin s)) else Unset)
    by true = refl
    by false = refl

locals-names : (s : Scene) (names : List Text) → first_names (map (local_of s) names) ≡ names
locals-names s [] = refl
locals-names s (n ∷ ns) = ap (λ (l : List Text). n ∷ l) (locals-names s ns)

one-name : (o : Option Text) (b : Binding) → first_names (named_as o b) ≡ given_name o
one-name None b = refl
one-name (Some n) b = refl

-- the names of a header with what they stand for as a call begins
abbrev begun_names : Scene → Header → Option Arr → Option Arr → List (Text × Binding)
begun_names s h a b = named_as h.result Unset ++ (named_as h.left (bound_to a) ++ (named_as h.right (bound_to b) ++ map (local_of s) h.locals))

begun-values : (s : Scene) (h : Header) (a b : Option Arr) → AreValues (begun_names s h a b)
begun-values s h a b =
    values-append (named_as h.result Unset) _ (one-values h.result None)
    (values-append (named_as h.left (bound_to a)) _ (one-values h.left a)
    (values-append (named_as h.right (bound_to b)) _ (one-values h.right b) (locals-values s h.locals)))

first-append : (es fs : List (Text × Binding)) → first_names (es ++ fs) ≡ first_names es ++ first_names fs
first-append es fs = map-append (λ (e : Text × Binding). e.0) es fs

begun-first : (s : Scene) (h : Header) (a b : Option Arr) → first_names (begun_names s h a b) ≡ names_in h
begun-first s h a b =
    let last : first_names (named_as h.right (bound_to b) ++ map (local_of s) h.locals) ≡ given_name h.right ++ h.locals =
    first-append (named_as h.right (bound_to b)) (map (local_of s) h.locals) ∙ ap (λ l. l ++ first_names (map (local_of s) h.locals)) (one-name h.right (bound_to b)) ∙ ap (λ l. given_name h.right ++ l) (locals-names s h.locals) in
    let both : first_names (named_as h.left (bound_to a) ++ (named_as h.right (bound_to b) ++ map (local_of s) h.locals)) ≡ given_name h.left ++ (given_name h.right ++ h.locals) =
    first-append (named_as h.left (bound_to a)) (named_as h.right (bound_to b) ++ map (local_of s) h.locals) ∙ ap (λ l. l ++ first_names (named_as h.right (bound_to b) ++ map (local_of s) h.locals)) (one-name h.left (bound_to a)) ∙ ap (λ l. given_name h.left ++ l) last in
    first-append (named_as h.result Unset) (named_as h.left (bound_to a) ++ (named_as h.right (bound_to b) ++ map (local_of s) h.locals))
    ∙ ap (λ l. l ++ first_names (named_as h.left (bound_to a) ++ (named_as h.right (bound_to b) ++ map (local_of s) h.locals))) (one-name h.result Unset)
    ∙ ap (λ l. given_name h.result ++ l) both

-- the labels stand behind them
begun-split : (s : Scene) (d : Definition) (a b : Option Arr) → begun_names s d.header a b ++ map label_of d.labels ≡ names_of_call s d a b
begun-split s d a b =
    let ls : List (Text × Binding) = map label_of d.labels in
    let xs : List (Text × Binding) = named_as d.header.result Unset in
    let ys : List (Text × Binding) = named_as d.header.left (bound_to a) in
    let zs : List (Text × Binding) = named_as d.header.right (bound_to b) in
    let os : List (Text × Binding) = map (local_of s) d.header.locals in
    append_assoc xs (ys ++ (zs ++ os)) ls ∙ ap (λ l. xs ++ l) (append_assoc ys (zs ++ os) ls ∙ ap (λ l. ys ++ l) (append_assoc zs os ls))

begun-said : (s : Scene) (d : Definition) (a b : Option Arr) (q : Text) → said (call_map s d a b) q ≡ said (begun_names s d.header a b ++ map label_of d.labels) q
begun-said s d a b q = said-listed (names_of_call s d a b) q ∙ ap (λ (l : List (Text × Binding)). said l q) (sym (begun-split s d a b))

-- a map of such names, which are those of the header, and the labels
listed-agrees : (d : Definition) (es : List (Text × Binding)) (m : Map) → AreValues es → first_names es ≡ names_in d.header → ((q : Text) → said m q ≡ said (es ++ map label_of d.labels) q) → (q : Text) → Agrees d m q
listed-agrees d es m h e is q =
    is q
    ∙ said-own es (map label_of d.labels) q h
    ∙ ap (λ (l : List Text). option_or (cond (has l q) (Some (bound_to (value_in (said (es ++ map label_of d.labels) q)))) None) (said (map label_of d.labels) q)) e
    ∙ ap (λ (o : Option Binding). option_or (cond (has (names_in d.header) q) (Some (bound_to (value_in o))) None) (said (map label_of d.labels) q)) (sym (is q))

pub listed-call-map : (d : Definition) (es : List (Text × Binding)) → AreValues es → first_names es ≡ names_in d.header → IsCallMap d (map_of (es ++ map label_of d.labels))
listed-call-map d es h e = by-agreement d (map_of (es ++ map label_of d.labels)) (listed-map (es ++ map label_of d.labels)) (listed-agrees d es (map_of (es ++ map label_of d.labels)) h e (said-listed (es ++ map label_of d.labels)))

pub begun-map : (s : Scene) (d : Definition) (a b : Option Arr) → IsCallMap d (call_map s d a b)
begun-map s d a b = by-agreement d (call_map s d a b) (listed-map (names_of_call s d a b)) (listed-agrees d (begun_names s d.header a b) (call_map s d a b) (begun-values s d.header a b) (begun-first s d.header a b) (begun-said s d a b))

-- ---- no name of a call stands for a function

abbrev pub IsNoFunction : Option Binding → Type 0
IsNoFunction (Some (Function d)) = ⊥
IsNoFunction o = Unit {0}

value-none : (o : Option Arr) → IsNoFunction (Some (bound_to o))
value-none None = tt
value-none (Some a) = tt

label-none : (o : Option Binding) → IsLabel o → IsNoFunction o
label-none None h = tt
label-none (Some (Label n)) h = tt
label-none (Some Unset) h = tt
label-none (Some (Value a)) h = tt
label-none (Some (Function d)) h = h

pub call-function : (d : Definition) (m : Map) (q : Text) → IsCallMap d m → IsNoFunction (said m q)
call-function d m q h = subst IsNoFunction (sym (agrees d m h q)) (by (has (names_in d.header) q))
  where
    by : (b : Bool) → IsNoFunction (option_or (cond b (Some (bound_to (value_in (said m q)))) None) (said (map label_of d.labels) q))
    by true = value-none (value_in (said m q))
    by false = label-none (said (map label_of d.labels) q) (are-labels d.labels q)
