use Rattle.apl_runs.proofs.Behind.{manner-in_order}
use Rattle.apl_runs.proofs.runs.run_in.Goals as goal

pub run_lines-requires-clause-in_order : goal.run_lines-requires-clause-in_order
run_lines-requires-clause-in_order g c = manner-in_order c.args.manner
