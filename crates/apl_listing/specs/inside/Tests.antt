-- What a test answers.
-- It is the answer of a test in the words of a proposition.
use Rattle.std.specs.Prelude.{Bool, MatchBool}
use Rattle.apl_code.specs.Instr.{Operand, Value, Slots}
use Rattle.apl_listing.specs.declared.well_made.Shape.{Shape}
use Rattle.apl_listing.specs.declared.well_made.Shape.TheVariants as shape

-- yes where P holds, and no where it doesn't
abbrev pub Tells : Bool → Type 0 → Type 0
Tells answer P = MatchBool answer P (P → ⊥)

abbrev pub operand_of : Shape → Operand
operand_of shape.Value = Value
operand_of shape.List = Slots
