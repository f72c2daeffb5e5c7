-- What the parts of a workspace promise of their state.
use Rattle.apl_order.specs.Order.{AreInOrder}
use Rattle.apl_order.specs.Kept.{IsKept}
use Rattle.apl_parts.specs.Workspaces.{Pieces}
use Rattle.apl_parts.specs.Restored.{AreWhole, state_of}

-- the contexts of parts that are some of an idle machine stand in order
abbrev pub WholePartsStandInOrder : Type 0
WholePartsStandInOrder = (p : Pieces) → AreWhole p → AreInOrder (state_of p).contexts

-- and their state is one that a machine can have
abbrev pub WholePartsAreKept : Type 0
WholePartsAreKept = (p : Pieces) → AreWhole p → IsKept (state_of p)
