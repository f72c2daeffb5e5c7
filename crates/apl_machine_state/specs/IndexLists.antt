-- The slots of index lists, as they are kept.
use Rattle.std.specs.Prelude.{List, [], ◌∷◌, Option}
use Rattle.apl_arrays.specs.Cells.{Arr}
use Rattle.apl_machine_state.specs.declared.operand.Few.{Few}
use Rattle.apl_machine_state.specs.declared.operand.Few.TheVariants.{One, More}

-- one slot, or those of a list
abbrev pub slots_of : Few → List (Option Arr)
slots_of (One slot) = slot ∷ []
slots_of (More slots) = slots.items
