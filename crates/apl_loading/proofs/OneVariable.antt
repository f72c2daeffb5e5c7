-- Variables of a file.
use Rattle.std.proofs.Common.{List, Option, Contains, subst}
use Rattle.apl_arrays.specs.Cells.{Arr}
use Rattle.apl_charset.specs.Text.{IsLine}
use Rattle.apl_charset.proofs.Unique.{one_text}
use Rattle.apl_defn.specs.Definitions.{Text}
use Rattle.apl_workspace_file.specs.declared.fields.VariableField.{VariableField}
use Rattle.apl_loading.specs.Refusals.{IsBehind, IsNextVariable}

-- where the name of a field doesn't come behind the one before it, or is a function's, no variable is the next one
pub no_variable : (functions : List Text) (before : Option Text) (f : VariableField) (name : Text) → IsLine f.name name → ¬ (IsBehind before name × ¬ Contains functions name) → (v : Text × Arr) → ¬ IsNextVariable functions before f v
no_variable functions before f name l other v n =
    let e = one_text f.name v.0 name n.field.name l in
    other (subst (IsBehind before) e n.behind, subst (λ m. ¬ Contains functions m) e n.apart)
