use Rattle.std.proofs.Common.{ℕ, List, Option}
use Rattle.apl_defn.specs.Definitions.{Definition}
use Rattle.apl_machine_state.specs.State.{State}
use Rattle.apl_listed.proofs.Coded.{one_list}
use Rattle.apl_listed.proofs.laws.one_list.Goals as goal

pub returns : goal.returns
returns c = λ (s : State) (function : Option Definition) (some others : Option (List (List ℕ))). one_list s function some others
