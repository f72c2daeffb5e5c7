-- Arrays within the limits.
use Rattle.std.specs.Prelude.{◌≤◌, length, Option}
use Rattle.std.specs.List.{AllByRecursion}
use Rattle.apl_arrays.specs.Index.{bound_of}
use Rattle.apl_workspace_file.specs.Fitting.{FitsOption}
use Rattle.apl_workspace_file.specs.declared.fields.ArrayField.{ArrayField}
use Rattle.apl_workspace_file.specs.declared.fields.OperandField.{OperandField}
use Rattle.apl_workspace_file.specs.declared.fields.OperandField.TheVariants.{Array, Slots}

-- at most 8 axes, and the product of their lengths, 0 counting as 1, at most 1,000,000
abbrev pub IsSmall : ArrayField → Type 0
IsSmall f = (length f.shape ≤ 8) × (bound_of f.shape ≤ 1000000)

-- the same of an array that may be missing
abbrev pub IsSmallOption : Option ArrayField → Type 0
IsSmallOption o = FitsOption IsSmall o

-- the same of each array of an operand
abbrev pub IsSmallOperand : OperandField → Type 0
IsSmallOperand (Array f) = IsSmall f
IsSmallOperand (Slots slots) = AllByRecursion IsSmallOption slots
