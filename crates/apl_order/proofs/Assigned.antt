-- What is kept where a name is assigned to.
use Rattle.std.proofs.Common.{◌≡◌, ℕ, suc, ◌≤◌, Bool, true, false, cond, List, [], ◌∷◌, drop, Option, Some, None, refl, sym, ap, subst}
use Rattle.std.specs.Prelude.{is_some, if◌then◌else◌}
use Rattle.std.specs.Option.{option_or}
use Rattle.std.specs.Map.{lookup}
use Rattle.std.specs.Str.{bytes_eq}
use Rattle.apl_arrays.specs.Cells.{Arr}
use Rattle.apl_defn.specs.Definitions.{Text, Definition}
use Rattle.apl_names.specs.declared.binding.Binding.{Binding}
use Rattle.apl_names.specs.declared.binding.Binding.TheVariants.{Unset, Label, Value, Function}
use Rattle.apl_names.specs.Maps.{Map, assigned, found, function_in, said, with_entry}
use Rattle.apl_names.proofs.Texts.{same}
use Rattle.apl_names.proofs.Maps.{said_with, with_map}
use Rattle.apl_vectors.specs.Vectors.{Vectors}
use Rattle.apl_machine_state.specs.Items.{Rest}
use Rattle.apl_machine_state.specs.Environment.{World, Context, Statement, Call, Execute, environment, left_over, origin_name, standing, with_maps}
use Rattle.apl_order.specs.Kept.{IsObject, AreGlobals, IsVectorOf, AreVectors, AreKept, Keeps}
use Rattle.apl_order.proofs.Defined.{own-said}
use Rattle.apl_order.proofs.Outcomes.{IsAssignable}
use Rattle.apl_order.proofs.CallMaps.{assigned-map, origin-in-call}

-- ---- the global map

value-object : (name : Text) (a : Arr) (b : Bool) (o : Option Binding) → IsObject name o → IsObject name (cond b (Some (Value a)) o)
value-object name a true o h = tt
value-object name a false o h = h

pub value-globals : (n : Text) (a : Arr) (m : Map) → AreGlobals m → AreGlobals (with_entry n (Value a) m)
value-globals n a m h = record {
  ascend = with_map n (Value a) m h.ascend;
  objects = λ q. subst (IsObject q) (sym (said_with n (Value a) m q)) (value-object q a (bytes_eq n q) (said m q) (h.objects q));
}

no-function : (o : Option Binding) → IsAssignable o → function_in o ≡ None
no-function None h = refl
no-function (Some Unset) h = refl
no-function (Some (Label n)) h = absurd h
no-function (Some (Value a)) h = refl
no-function (Some (Function d)) h = absurd h

value-vector : (n q : Text) (a : Arr) (m : Map) (b : Bool) (v : Option (List ℕ)) → bytes_eq n q ≡ b → IsAssignable (said m n) → IsVectorOf (function_in (said m q)) v → IsVectorOf (function_in (cond b (Some (Value a)) (said m q))) v
value-vector n q a m true v e free h = subst (λ (f : Option Definition). IsVectorOf f v) (no-function (said m q) (subst (λ (k : Text). IsAssignable (said m k)) (same n q e) free)) h
value-vector n q a m false v e free h = h

pub value-vectors : (n : Text) (a : Arr) (m : Map) (vectors : Vectors) → IsAssignable (said m n) → AreVectors m vectors → AreVectors (with_entry n (Value a) m) vectors
value-vectors n a m vectors free h = record {
  ascend = h.ascend;
  lines = λ q. subst (λ (o : Option Binding). IsVectorOf (function_in o) (lookup (bytes_eq q) vectors)) (sym (said_with n (Value a) m q)) (value-vector n q a m (bytes_eq n q) (lookup (bytes_eq q) vectors) refl free (h.lines q));
}

-- ---- the environment

-- it has a newest map
pub record IsFilled (ms : List Map) : Type 0 where
  pub first : Map
  pub others : List Map
  pub is : ms ≡ first ∷ others

pub filled : (w : World) (contexts : List Context) → IsFilled (environment w contexts)
filled w [] = record { first = w.globals; others = []; is = refl }
filled w (Statement text rest ∷ below) = filled w below
filled w (Call d n locals rest ∷ below) = record { first = locals; others = environment w below; is = refl }
filled w (Execute text rest ∷ below) = filled w below

-- the contexts with their own maps
pub own-maps : (w : World) (contexts : List Context) → with_maps (environment w contexts) contexts ≡ contexts
own-maps w [] = refl
own-maps w (Statement text rest ∷ below) = ap (λ (cs : List Context). Statement text rest ∷ cs) (own-maps w below)
own-maps w (Call d n locals rest ∷ below) = ap (λ (cs : List Context). Call d n locals rest ∷ cs) (own-maps w below)
own-maps w (Execute text rest ∷ below) = ap (λ (cs : List Context). Execute text rest ∷ cs) (own-maps w below)

pub own-globals : (w : World) (contexts : List Context) → left_over (environment w contexts) contexts ≡ w.globals
own-globals w [] = refl
own-globals w (Statement text rest ∷ below) = own-globals w below
own-globals w (Call d n locals rest ∷ below) = own-globals w below
own-globals w (Execute text rest ∷ below) = own-globals w below

maps-standing : (ms : List Map) (contexts : List Context) → standing (with_maps ms contexts) ≡ standing contexts
maps-standing ms [] = refl
maps-standing ms (Statement text rest ∷ below) = maps-standing ms below
maps-standing ms (Call d n locals rest ∷ below) = ap suc (maps-standing (drop 1 ms) below)
maps-standing ms (Execute text rest ∷ below) = ap suc (maps-standing ms below)

-- what is kept of the contexts and the global map with other maps
record Holds (traces stops : Vectors) (globals : Map) (contexts : List Context) : Type 0 where
  pub kept : AreKept contexts
  pub globals_kept : AreGlobals globals
  pub traced : AreVectors globals traces
  pub stopped : AreVectors globals stops

-- what is kept with these maps
abbrev HoldsWith : Vectors → Vectors → List Map → List Context → Type 0
HoldsWith traces stops ms contexts = Holds traces stops (left_over ms contexts) (with_maps ms contexts)

holds-own : (w : World) (stops : Vectors) (contexts : List Context) → Holds w.traces stops w.globals contexts → HoldsWith w.traces stops (environment w contexts) contexts
holds-own w stops contexts h = subst (λ (g : Map). Holds w.traces stops g (with_maps (environment w contexts) contexts)) (sym (own-globals w contexts)) (subst (Holds w.traces stops w.globals) (sym (own-maps w contexts)) h)

-- over a call
over-call : (traces stops : Vectors) (d : Definition) (n : ℕ) (m locals : Map) (rest : Option Rest) (ms : List Map) (below : List Context) → AreKept (Call d n m rest ∷ []) → HoldsWith traces stops ms below → HoldsWith traces stops (m ∷ ms) (Call d n locals rest ∷ below)
over-call traces stops d n m locals rest ms below c h = record { kept = (c.0, h.kept); globals_kept = h.globals_kept; traced = h.traced; stopped = h.stopped }

missing : (o p : Option Binding) → is_some o ≡ false → option_or o p ≡ p
missing None p e = refl
missing (Some b) p e = cc

present : (o p : Option Binding) → is_some o ≡ true → option_or o p ≡ o
present None p e = cc
present (Some b) p e = refl

assigned-holds : (w : World) (stops : Vectors) (name : Text) (a : Arr) (contexts : List Context) → Holds w.traces stops w.globals contexts → IsAssignable (found (environment w contexts) name)
    → HoldsWith w.traces stops (assigned (environment w contexts) name (Value a)) contexts
assigned-holds w stops name a [] h free =
    let here : IsAssignable (said w.globals name) = by (said w.globals name) free in
    record { kept = tt; globals_kept = value-globals name a w.globals h.globals_kept; traced = value-vectors name a w.globals w.traces here h.traced; stopped = value-vectors name a w.globals stops here h.stopped }
  where
    by : (o : Option Binding) → IsAssignable (option_or o None) → IsAssignable o
    by None f = tt
    by (Some b) f = f
assigned-holds w stops name a (Statement text rest ∷ below) h free =
    let later = assigned-holds w stops name a below (record { kept = h.kept.1; globals_kept = h.globals_kept; traced = h.traced; stopped = h.stopped }) free in
    record { kept = (h.kept.0, later.kept); globals_kept = later.globals_kept; traced = later.traced; stopped = later.stopped }
assigned-holds w stops name a (Execute text rest ∷ below) h free =
    let later = assigned-holds w stops name a below (record { kept = h.kept.1; globals_kept = h.globals_kept; traced = h.traced; stopped = h.stopped }) free in
    record { kept = (h.kept.0, later.kept); globals_kept = later.globals_kept; traced = later.traced; stopped = later.stopped }
assigned-holds w stops name a (Call d n locals rest ∷ below) h free =
    let f = filled w below in
    let under : Holds w.traces stops w.globals below = record { kept = h.kept.1; globals_kept = h.globals_kept; traced = h.traced; stopped = h.stopped } in
    subst (λ (ms : List Map). HoldsWith w.traces stops ms (Call d n locals rest ∷ below)) (sym (ap (λ (ms : List Map). assigned (locals ∷ ms) name (Value a)) f.is)) (
    by f.first f.others (is_some (said locals name)) refl
    (subst (λ (ms : List Map). HoldsWith w.traces stops ms below) f.is (holds-own w stops below under))
    (λ e. subst (λ (ms : List Map). HoldsWith w.traces stops (assigned ms name (Value a)) below) f.is (assigned-holds w stops name a below under (subst IsAssignable (missing (said locals name) (found (environment w below) name) e) free))))
  where
    by : (k : Map) (ms : List Map) (b : Bool) → is_some (said locals name) ≡ b → HoldsWith w.traces stops (k ∷ ms) below → (is_some (said locals name) ≡ false → HoldsWith w.traces stops (assigned (k ∷ ms) name (Value a)) below)
        → HoldsWith w.traces stops (if b then with_entry name (Value a) locals ∷ k ∷ ms else locals ∷ assigned (k ∷ ms) name (Value a)) (Call d n locals rest ∷ below)
    by k ms true e own later =
        let free_here : IsAssignable (said locals name) = subst IsAssignable (present (said locals name) (found (environment w below) name) e) free in
        over-call w.traces stops d n (with_entry name (Value a) locals) locals rest (k ∷ ms) below ((h.kept.0.0, assigned-map d locals name a h.kept.0.1 free_here e, h.kept.0.2), tt) own
    by k ms false e own later = over-call w.traces stops d n locals locals rest (assigned (k ∷ ms) name (Value a)) below (h.kept.0, tt) (later e)

pub assigned-keeps : (w : World) (stops : Vectors) (name : Text) (a : Arr) (ms : List Map) (contexts : List Context) → Keeps w stops contexts → IsAssignable (found (environment w contexts) name) → ms ≡ assigned (environment w contexts) name (Value a)
    → Keeps (record w { globals = left_over ms contexts }) stops (with_maps ms contexts)
assigned-keeps w stops name a ms contexts h free e =
    let held = assigned-holds w stops name a contexts (record { kept = h.kept; globals_kept = h.globals; traced = h.traced; stopped = h.stopped }) free in
    let all : HoldsWith w.traces stops ms contexts = subst (λ (ks : List Map). HoldsWith w.traces stops ks contexts) (sym e) held in
    record {
      few = subst (λ n. n ≤ 256) (sym (maps-standing ms contexts)) h.few;
      kept = all.kept;
      globals = all.globals_kept;
      traced = all.traced;
      stopped = all.stopped;
    }

-- ---- ⎕IO stands for no label and no function

origin-object : (o : Option Binding) → IsObject origin_name o → IsAssignable (option_or o None)
origin-object None h = tt
origin-object (Some Unset) h = absurd h
origin-object (Some (Label n)) h = absurd h
origin-object (Some (Value a)) h = tt
origin-object (Some (Function d)) h = own-said d h.1 h.0

nearer : (o p : Option Binding) → IsAssignable o → IsAssignable p → IsAssignable (option_or o p)
nearer None p a b = b
nearer (Some x) p a b = a

pub origin-assignable : (w : World) (contexts : List Context) → AreGlobals w.globals → AreKept contexts → IsAssignable (found (environment w contexts) origin_name)
origin-assignable w [] g h = origin-object (said w.globals origin_name) (g.objects origin_name)
origin-assignable w (Statement text rest ∷ below) g h = origin-assignable w below g h.1
origin-assignable w (Call d n locals rest ∷ below) g h = nearer (said locals origin_name) (found (environment w below) origin_name) (origin-in-call d locals h.0.0 h.0.1) (origin-assignable w below g h.1)
origin-assignable w (Execute text rest ∷ below) g h = origin-assignable w below g h.1
