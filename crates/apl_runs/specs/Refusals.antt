-- The numbers of what ends a run.
use Rattle.std.specs.Prelude.{ℕ}
use Rattle.apl_runs.specs.declared.runs.RunError.{RunError}
use Rattle.apl_runs.specs.declared.runs.RunError.TheVariants.{Read, Write, Memory, LineTooLong, TooManyLines}

abbrev pub run_number : RunError → ℕ
run_number Read = 1
run_number Write = 2
run_number Memory = 3
run_number LineTooLong = 4
run_number TooManyLines = 5
