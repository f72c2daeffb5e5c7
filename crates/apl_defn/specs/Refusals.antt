-- The numbers of what refuses a header or a definition.
use Rattle.std.specs.Prelude.{ℕ}
use Rattle.apl_defn.specs.declared.error.DefnError.{DefnError}
use Rattle.apl_defn.specs.declared.error.DefnError.TheVariants.{Header, Twice, TooLong, Line, Memory}

abbrev pub error_number : DefnError → ℕ
error_number Header = 1
error_number Twice = 2
error_number TooLong = 3
error_number (Line _) = 4
error_number Memory = 5
