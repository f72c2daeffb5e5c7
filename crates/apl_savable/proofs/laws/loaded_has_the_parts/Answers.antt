use Rattle.apl_savable.proofs.OneState.{loaded-parts}
use Rattle.apl_savable.proofs.laws.loaded_has_the_parts.Goals as goal

pub returns : goal.returns
returns c = loaded-parts
