-- What stands on the operand stack.
use Rattle.std.specs.Prelude.{Bool, true, false, List, [], ◌∷◌, ◌++◌, map, drop, Option, Some, None}
use Rattle.std.specs.List.{count_by}
use Rattle.apl_code.specs.declared.instr.Source.{Source}
use Rattle.apl_code.specs.declared.instr.Source.TheVariants.{Stack}
use Rattle.apl_code.specs.declared.instr.Action.{Action}
use Rattle.apl_code.specs.declared.instr.Action.TheVariants.{Box, Phrase, End}
use Rattle.apl_code.specs.declared.instr.Instr.{Instr}
use Rattle.apl_listing.specs.declared.stack.Kind.{Kind}
use Rattle.apl_listing.specs.declared.stack.Kind.TheVariants.{Value, Slots}

-- an operand comes from the stack
abbrev pub is_stacked : Option Source → Bool
is_stacked (Some Stack) = true
is_stacked s = false

-- a slot is empty
abbrev pub is_empty : Option Source → Bool
is_empty None = true
is_empty (Some s) = false

-- what an instruction puts on the stack: an index list with its empty slots, or a value; the last one nothing
abbrev pub puts : Action → List (Option Source) → List Kind
puts Box ss = Slots (map is_empty ss) ∷ []
puts (Phrase r) ss = Value ∷ []
puts (End e) ss = []

-- the stack after an instruction, its top first
abbrev pub after : Instr → List Kind → List Kind
after i stack = puts i.action i.arguments ++ drop (count_by is_stacked i.arguments) stack

-- the stack after these instructions
abbrev pub kinds : List Kind → List Instr → List Kind
kinds stack [] = stack
kinds stack (i ∷ is) = kinds (after i stack) is
