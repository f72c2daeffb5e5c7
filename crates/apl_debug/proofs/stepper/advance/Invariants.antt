use Rattle.std.proofs.Common.{◌≡◌, ◌-◌}
use Rattle.apl_machine_state.specs.State.{steps}
use Rattle.apl_debug.specs.Stepping.{ends_at, run, run_from}
use Rattle.apl_debug.proofs.stepper.advance.Given as goal

abbrev pub invariant-loop-done : goal.invariant-loop-done
invariant-loop-done l = record {
  state : l.machine ≡ steps l.done l.fn.machine;
  left : run_from (ends_at l.at_lines) l.progress (l.count - l.done) l.machine ≡ run (ends_at l.at_lines) l.count l.fn.machine;
}
