use Rattle.apl_savable.proofs.Loaded.{loaded-savable}
use Rattle.apl_savable.proofs.laws.loaded_is_savable.Goals as goal

pub returns : goal.returns
returns c = loaded-savable
