use Rattle.apl_savable.proofs.Ruled.{parts-ruled}
use Rattle.apl_savable.proofs.laws.parts_are_ruled.Goals as goal

pub returns : goal.returns
returns c = parts-ruled
