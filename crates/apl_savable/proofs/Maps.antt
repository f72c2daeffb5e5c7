-- The names of savable states as calls begin and names are given values.
use Rattle.std.proofs.Common.{◌≡◌, inl, inr, ℕ, zero, ◌≤◌, Bool, true, false, cond, List, [], ◌∷◌, ◌++◌, map, Option, Some, None, refl, sym, ap, subst, ◌∙◌, arith, true≢false}
use Rattle.std.specs.Prelude.{pos, is_some, if◌then◌else◌}
use Rattle.std.specs.List.{AllByRecursion}
use Rattle.std.specs.Option.{option_or, option_to_list}
use Rattle.std.specs.Str.{bytes_eq}
use Rattle.apl_arrays.specs.Cells.{Arr, Items, Numbers}
use Rattle.apl_tokens.specs.Spelling.{IsName}
use Rattle.apl_tokens.proofs.Answered.{answer_spells, spelled_answer}
use Rattle.apl_defn.specs.Definitions.{Text, Definition}
use Rattle.apl_defn.specs.Defining.{IsDefined}
use Rattle.apl_defn.specs.Headers.{Heads, user_names}
use Rattle.apl_defn.proofs.Headings.{TokenLaws, head_heads}
use Rattle.apl_defn.proofs.Limits.{defined_made}
use Rattle.apl_names.specs.declared.binding.Binding.{Binding}
use Rattle.apl_names.specs.declared.binding.Binding.TheVariants.{Unset, Label, Value, Function}
use Rattle.apl_names.specs.Maps.{Map, assigned, found, said, with_entry}
use Rattle.apl_names.proofs.Texts.{differ, same}
use Rattle.apl_names.proofs.Maps.{said_with}
use Rattle.apl_machine_state.specs.Environment.{Context, Statement, Call, Execute, Scene, World, environment, index_origin, left_over, origin_by, origin_in, origin_name, scalar, scene, with_maps}
use Rattle.apl_machine_state.specs.Calls.{bound_to, call_map, label_of, local_of, bound_name, names_of_call}
use Rattle.apl_order.specs.Kept.{AreGlobals, AreKept, IsObject}
use Rattle.apl_order.proofs.Assigned.{filled, own-globals, own-maps}
use Rattle.apl_order.proofs.CallMaps.{IsNoFunction, call-function}
use Rattle.apl_order.proofs.Defined.{labels-said, own-said}
use Rattle.apl_order.proofs.Maps.{said-listed}
use Rattle.apl_savable.specs.Savable.{AreSavable, IsCalledBy, IsNamed, IsOriginBy}
use Rattle.apl_savable.proofs.Likes.{called-like}
use Rattle.apl_savable.proofs.Spelling.{no-origin}
use Rattle.apl_savable.proofs.Rights.{AreOwn, IsOwn, IsTarget, bit-scalar}

-- ---- a call begins

laws : TokenLaws
laws = record { spelled = spelled_answer; spells = answer_spells }

user-named : (d : Definition) → IsDefined d → AllByRecursion IsName (user_names d.header)
user-named d h =
    let m = defined_made h.0 d.lines d h.1 in
    let heads : Heads h.0 m.0 = head_heads laws h.0 m.0 m.1 in
    subst (λ (e : Definition). AllByRecursion IsName (user_names e.header)) m.2.is heads.names

abbrev MayName : Option Text → Type 0
MayName None = Unit {0}
MayName (Some name) = IsName name

split-option : (o : Option Text) (ns : List Text) → AllByRecursion IsName (option_to_list o ++ ns) → MayName o × AllByRecursion IsName ns
split-option None ns h = (tt, h)
split-option (Some n) ns h = h

last-option : (o : Option Text) → AllByRecursion IsName (option_to_list o) → MayName o
last-option None h = tt
last-option (Some n) h = h.0

-- no name but a local is ⎕IO
not-named : (o : Option Text) (b : Binding) (es : List (Text × Binding)) → MayName o → said (bound_name o b ++ es) origin_name ≡ said es origin_name
not-named None b es h = refl
not-named (Some n) b es h = ap (λ c. cond c (Some b) (said es origin_name)) (differ origin_name n (λ e. no-origin n h (sym e)))

io-bit : (items : Items) → origin_in items ≤ 1
io-bit (Numbers (pos zero ∷ ns)) = omega arith
io-bit items = omega arith

origin-by-bit : (o : Option Binding) (io : ℕ) → io ≤ 1 → origin_by o io ≤ 1
origin-by-bit (Some (Value a)) io h = io-bit a.items
origin-by-bit (Some Unset) io h = h
origin-by-bit (Some (Label n)) io h = h
origin-by-bit (Some (Function d)) io h = h
origin-by-bit None io h = h

local-origins : (s : Scene) (ls : List Text) (labels : List (Text × ℕ)) → s.io ≤ 1 → said (map label_of labels) origin_name ≡ None → IsOriginBy (said (map (local_of s) ls ++ map label_of labels) origin_name)
local-origins s [] labels io h = subst IsOriginBy (sym h) tt
local-origins s (l ∷ ls) labels io h = by (bytes_eq origin_name l) (local-origins s ls labels io h)
  where
    by : (b : Bool) → IsOriginBy (said (map (local_of s) ls ++ map label_of labels) origin_name) → IsOriginBy (cond b (Some (if b then Value (scalar (index_origin s)) else Unset)) (said (map (local_of s) ls ++ map label_of labels) origin_name))
    by true i = bit-scalar (index_origin s) (origin-by-bit (found s.maps origin_name) s.io io)
    by false i = i

pub begun-origin : (s : Scene) (d : Definition) (a b : Option Arr) → s.io ≤ 1 → IsDefined d → IsOriginBy (said (call_map s d a b) origin_name)
begun-origin s d a b io h =
    let h0 = user-named d h in
    let r = split-option d.header.result _ h0 in
    let l = split-option d.header.left _ r.1 in
    let right = last-option d.header.right l.1.1 in
    let ls = map (local_of s) d.header.locals ++ map label_of d.labels in
    subst IsOriginBy (sym (
    said-listed (names_of_call s d a b) origin_name
    ∙ not-named d.header.result Unset (bound_name d.header.left (bound_to a) ++ (bound_name d.header.right (bound_to b) ++ ls)) r.0
    ∙ not-named d.header.left (bound_to a) (bound_name d.header.right (bound_to b) ++ ls) l.0
    ∙ not-named d.header.right (bound_to b) ls right))
    (local-origins s d.header.locals d.labels io (labels-said d h))

-- ---- functions that names stand for

object-own : (q : Text) (o : Option Binding) → IsObject q o → IsOwn q (option_or o None)
object-own q None h = tt
object-own q (Some Unset) h = tt
object-own q (Some (Label n)) h = tt
object-own q (Some (Value a)) h = tt
object-own q (Some (Function d)) h = h

nearer-own : (q : Text) (o p : Option Binding) → IsNoFunction o → IsOwn q p → IsOwn q (option_or o p)
nearer-own q None p a b = b
nearer-own q (Some Unset) p a b = tt
nearer-own q (Some (Label n)) p a b = tt
nearer-own q (Some (Value x)) p a b = tt
nearer-own q (Some (Function d)) p a b = absurd a

found-own : (w : World) (contexts : List Context) (q : Text) → AreGlobals w.globals → AreKept contexts → IsOwn q (found (environment w contexts) q)
found-own w [] q g h = object-own q (said w.globals q) (g.objects q)
found-own w (Statement text rest ∷ below) q g h = found-own w below q g h.1
found-own w (Call d n locals rest ∷ below) q g h = nearer-own q (said locals q) (found (environment w below) q) (call-function d locals q h.0.1) (found-own w below q g h.1)
found-own w (Execute text rest ∷ below) q g h = found-own w below q g h.1

pub all-own : (w : World) (contexts : List Context) → AreGlobals w.globals → AreKept contexts → AreOwn (scene w contexts)
all-own w contexts g h q = found-own w contexts q g h

-- ---- a name is given a value

abbrev pub AreNamed : Map → Type 0
AreNamed g = (q : Text) → IsNamed q (said g q)

-- with these maps
pub record SavesWith (ms : List Map) (contexts : List Context) : Type 0 where
  pub named : AreNamed (left_over ms contexts)
  pub savable : AreSavable (with_maps ms contexts)

saves-own : (w : World) (contexts : List Context) → AreNamed w.globals → AreSavable contexts → SavesWith (environment w contexts) contexts
saves-own w contexts n s = record { named = subst AreNamed (sym (own-globals w contexts)) n; savable = subst AreSavable (sym (own-maps w contexts)) s }

-- no global object is named ⎕IO
no-global-origin : (o : Option Binding) → IsObject origin_name o → IsNamed origin_name o → is_some o ≡ true → ⊥
no-global-origin None h n e = true≢false (sym e)
no-global-origin (Some (Value a)) h n e = no-origin origin_name n refl
no-global-origin (Some (Function d)) h n e = own-said d h.1 h.0
no-global-origin (Some Unset) h n e = h
no-global-origin (Some (Label k)) h n e = h

some-global : (o : Option Binding) → is_some (option_or o None) ≡ true → is_some o ≡ true
some-global None e = e
some-global (Some b) e = refl

target-named : (w : World) (name : Text) (a : Arr) → AreGlobals w.globals → AreNamed w.globals → IsTarget (option_or (said w.globals name) None) name a → IsName name
target-named w name a g n (inl h) = h
target-named w name a g n (inr h) =
    let some : is_some (said w.globals origin_name) ≡ true = ap (λ (k : Text). is_some (said w.globals k)) (sym h.0) ∙ some-global (said w.globals name) h.1 in
    absurd (no-global-origin (said w.globals origin_name) (g.objects origin_name) (n origin_name) some)

global-named : (name q : Text) (a : Arr) (b : Bool) (o : Option Binding) → bytes_eq name q ≡ b → IsName name → IsNamed q o → IsNamed q (cond b (Some (Value a)) o)
global-named name q a true o e h n = subst IsName (same name q e) h
global-named name q a false o e h n = n

target-origin : (name : Text) (a : Arr) (b : Bool) (o p : Option Binding) → bytes_eq name origin_name ≡ b → IsTarget p name a → IsOriginBy o → IsOriginBy (cond b (Some (Value a)) o)
target-origin name a true o p e (inl h) i = absurd (no-origin name h (same name origin_name e))
target-origin name a true o p e (inr h) i = h.2
target-origin name a false o p e t i = i

called-maps : (ms : List Map) (c : Context) (below : List Context) → IsCalledBy c below → IsCalledBy c (with_maps ms below)
called-maps ms c [] h = h
called-maps ms c (Statement text rest ∷ below) h = h
called-maps ms c (Call d n locals rest ∷ below) h = h
called-maps ms c (Execute text rest ∷ below) h = h

missing : (o p : Option Binding) → is_some o ≡ false → option_or o p ≡ p
missing None p e = refl
missing (Some b) p e = absurd (true≢false e)

pub assigned-saves : (w : World) (name : Text) (a : Arr) (contexts : List Context) → AreGlobals w.globals → AreNamed w.globals → AreSavable contexts → IsTarget (found (environment w contexts) name) name a → SavesWith (assigned (environment w contexts) name (Value a)) contexts
assigned-saves w name a [] g n s t = record {
  named = λ q. subst (IsNamed q) (sym (said_with name (Value a) w.globals q)) (global-named name q a (bytes_eq name q) (said w.globals q) refl (target-named w name a g n t) (n q));
  savable = tt;
}
assigned-saves w name a (Statement text rest ∷ below) g n s t =
    let later = assigned-saves w name a below g n s.2 t in
    record { named = later.named; savable = (s.0, called-maps (assigned (environment w below) name (Value a)) (Statement text rest) below s.1, later.savable) }
assigned-saves w name a (Execute text rest ∷ below) g n s t =
    let later = assigned-saves w name a below g n s.2 t in
    record { named = later.named; savable = (s.0, called-maps (assigned (environment w below) name (Value a)) (Execute text rest) below s.1, later.savable) }
assigned-saves w name a (Call d k locals rest ∷ below) g n s t =
    let f = filled w below in
    subst (λ (ms : List Map). SavesWith ms (Call d k locals rest ∷ below)) (sym (ap (λ (ms : List Map). assigned (locals ∷ ms) name (Value a)) f.is))
    (by f.first f.others (is_some (said locals name)) refl
    (subst (λ (ms : List Map). SavesWith ms below) f.is (saves-own w below n s.2))
    (λ e. subst (λ (ms : List Map). SavesWith (assigned ms name (Value a)) below) f.is (assigned-saves w name a below g n s.2 (subst (λ o. IsTarget o name a) (missing (said locals name) (found (environment w below) name) e) t))))
  where
    by : (m : Map) (ms : List Map) (b : Bool) → is_some (said locals name) ≡ b → SavesWith (m ∷ ms) below → (is_some (said locals name) ≡ false → SavesWith (assigned (m ∷ ms) name (Value a)) below)
        → SavesWith (if b then with_entry name (Value a) locals ∷ m ∷ ms else locals ∷ assigned (m ∷ ms) name (Value a)) (Call d k locals rest ∷ below)
    by m ms true e own later =
        let next = with_entry name (Value a) locals in
        let origin : IsOriginBy (said next origin_name) = subst IsOriginBy (sym (said_with name (Value a) locals origin_name)) (target-origin name a (bytes_eq name origin_name) (said locals origin_name) (found (environment w (Call d k locals rest ∷ below)) name) refl t s.0.0) in
        record { named = own.named; savable = ((origin, s.0.1), called-maps (m ∷ ms) (Call d k next rest) below (called-like (Call d k locals rest) (Call d k next rest) below refl s.1), own.savable) }
    by m ms false e own later =
        let h = later e in
        record { named = h.named; savable = (s.0, called-maps (assigned (m ∷ ms) name (Value a)) (Call d k locals rest) below s.1, h.savable) }
