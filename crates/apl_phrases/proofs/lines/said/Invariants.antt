use Rattle.std.proofs.Common.{◌≡◌}
use Rattle.apl_machine_state.specs.Reports.{lines_of}
use Rattle.apl_phrases.proofs.lines.said.Given as goal

abbrev pub invariant-loop-text : goal.invariant-loop-text
invariant-loop-text l = l.lines.items ≡ lines_of l.kind l.yielded
