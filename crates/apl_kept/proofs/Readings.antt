-- What is read under a name, by its class.
use Rattle.std.proofs.Common.{◌≡◌, ◌≢◌, List, [], ◌∷◌, Option, Some, None, refl, sym, ap, subst}
use Rattle.std.specs.Option.{option_or}
use Rattle.apl_symbols.specs.declared.class.Class.TheVariants.{Variable}
use Rattle.apl_defn.specs.Definitions.{Text, Definition, class_by}
use Rattle.apl_names.specs.declared.binding.Binding.{Binding}
use Rattle.apl_names.specs.declared.binding.Binding.TheVariants.{Unset, Label, Value, Function}
use Rattle.apl_names.specs.Maps.{class_in, found, function_in, said, value_in}
use Rattle.apl_machine_state.specs.Environment.{World, Context, Statement, Call, Execute, class_of, environment}
use Rattle.apl_machine_state.specs.State.{State, definition_of, value_of}
use Rattle.apl_order.specs.Kept.{AreKept, IsKept}
use Rattle.apl_order.proofs.CallMaps.{IsNoFunction, call-function}
use Rattle.apl_kept.specs.Names.{function_reading, reading_now, reading_of, value_reading}

-- ---- a function is found in the workspace alone

only : (o : Option Binding) (d : Definition) → option_or o None ≡ Some (Function d) → o ≡ Some (Function d)
only None d e = e
only (Some binding) d e = e

beneath : (o p : Option Binding) (d : Definition) → IsNoFunction o → option_or o p ≡ Some (Function d) → p ≡ Some (Function d)
beneath None p d h e = e
beneath (Some binding) p d h e = absurd (subst IsNoFunction e h)

function-found : (w : World) (contexts : List Context) (name : Text) (d : Definition) → AreKept contexts → found (environment w contexts) name ≡ Some (Function d)
    → said w.globals name ≡ Some (Function d)
function-found w [] name d h e = only (said w.globals name) d e
function-found w (Statement text rest ∷ below) name d h e = function-found w below name d h.1 e
function-found w (Call f n locals rest ∷ below) name d h e =
    function-found w below name d h.1 (beneath (said locals name) (found (environment w below) name) d (call-function f locals name h.0.1) e)
function-found w (Execute text rest ∷ below) name d h e = function-found w below name d h.1 e

-- ---- variables

no-variable : (right : Option Text) → class_by right ≡ Variable → ⊥
no-variable None e = cc
no-variable (Some name) e = cc

value-read : (o : Option Binding) → class_in o ≡ Variable → reading_of o ≡ value_reading (value_in o)
value-read None e = refl
value-read (Some Unset) e = refl
value-read (Some (Label line)) e = refl
value-read (Some (Value array)) e = refl
value-read (Some (Function d)) e = absurd (no-variable d.header.right e)

pub variable_read : (s : State) (name : Text) → class_of s.world s.contexts name ≡ Variable → reading_now s name ≡ value_reading (value_of s name)
variable_read s name e = value-read (found (environment s.world s.contexts) name) e

-- ---- functions

read-by : (s : State) (name : Text) (o : Option Binding) → IsKept s → found (environment s.world s.contexts) name ≡ o → class_in o ≢ Variable
    → reading_of o ≡ function_reading (definition_of s name)
read-by s name None h e n = absurd (n refl)
read-by s name (Some Unset) h e n = absurd (n refl)
read-by s name (Some (Label line)) h e n = absurd (n refl)
read-by s name (Some (Value array)) h e n = absurd (n refl)
read-by s name (Some (Function d)) h e n =
    ap (λ (b : Option Binding). function_reading (function_in b)) (sym (function-found s.world s.contexts name d h.keeps.kept e))

pub function_read : (s : State) (name : Text) → IsKept s → class_of s.world s.contexts name ≢ Variable → reading_now s name ≡ function_reading (definition_of s name)
function_read s name h n = read-by s name (found (environment s.world s.contexts) name) h refl n
