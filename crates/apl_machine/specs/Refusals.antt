-- The numbers of what keeps a line from beginning.
use Rattle.std.specs.Prelude.{ℕ}
use Rattle.apl_machine.specs.declared.machine.BeginError.{BeginError}
use Rattle.apl_machine.specs.declared.machine.BeginError.TheVariants.{Busy, Memory}

abbrev pub error_number : BeginError → ℕ
error_number Busy = 1
error_number Memory = 2
