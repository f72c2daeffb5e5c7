-- A name that may be called so comes to a call, where it is one.
use Rattle.std.proofs.Common.{◌≡◌, Bool, true, false, cond, ◌&&◌, is_some, Option, Some, None, ap, ◌∙◌}
use Rattle.apl_arrays.specs.Cells.{Arr}
use Rattle.apl_defn.specs.Definitions.{Definition}
use Rattle.apl_faults.specs.declared.fault.Fault.TheVariants.{Syntax}
use Rattle.apl_names.specs.declared.binding.Binding.{Binding}
use Rattle.apl_names.specs.declared.binding.Binding.TheVariants as bindings
use Rattle.apl_machine_state.specs.Environment.{Scene}
use Rattle.apl_machine_state.specs.Outcomes.{Outcome, Faults, enters, call_niladic, call_monadic, call_dyadic}

pub niladic : (s : Scene) (o : Option Binding) (d : Definition) (out : Outcome) → o ≡ Some (bindings.Function d) → is_some d.header.right ≡ false → enters s d None None ≡ out → call_niladic s o ≡ out
niladic s o d out e n h =
    ap (call_niladic s) e ∙ ap (λ (x : Bool). cond x (Faults Syntax) (enters s d None None)) n ∙ h

pub monadic : (s : Scene) (o : Option Binding) (d : Definition) (b : Arr) (out : Outcome) → o ≡ Some (bindings.Function d) → is_some d.header.right ≡ true → enters s d None (Some b) ≡ out → call_monadic s o b ≡ out
monadic s o d b out e n h =
    ap (λ (x : Option Binding). call_monadic s x b) e ∙ ap (λ (x : Bool). cond x (enters s d None (Some b)) (Faults Syntax)) n ∙ h

pub dyadic : (s : Scene) (o : Option Binding) (d : Definition) (a b : Arr) (out : Outcome) → o ≡ Some (bindings.Function d) → is_some d.header.left ≡ true → is_some d.header.right ≡ true → enters s d (Some a) (Some b) ≡ out → call_dyadic s o a b ≡ out
dyadic s o d a b out e l r h =
    ap (λ (x : Option Binding). call_dyadic s x a b) e
    ∙ ap (λ (x : Bool). cond (x && is_some d.header.right) (enters s d (Some a) (Some b)) (Faults Syntax)) l
    ∙ ap (λ (x : Bool). cond x (enters s d (Some a) (Some b)) (Faults Syntax)) r ∙ h
