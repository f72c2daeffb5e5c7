-- A clear workspace can be saved.
use Rattle.std.proofs.Common.{arith}
use Rattle.apl_order.proofs.Keeping.{clear-kept}
use Rattle.apl_savable.specs.Promises.{ClearIsSavable}

pub clear-savable : ClearIsSavable
clear-savable = record { kept = clear-kept; origin = omega arith; named = λ q. tt; contexts = tt }
