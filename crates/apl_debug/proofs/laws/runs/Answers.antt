use Rattle.std.proofs.Common.{ℕ}
use Rattle.apl_machine_state.specs.State.{State, progress_at}
use Rattle.apl_debug.proofs.Stepped.{over-steps}
use Rattle.apl_debug.proofs.laws.runs.Goals as goal

pub returns : goal.returns
returns c = λ (n : ℕ) (s : State). over-steps (progress_at s) n s
