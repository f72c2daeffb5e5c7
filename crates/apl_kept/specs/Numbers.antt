-- The numbers of what a held session refuses.
use Rattle.std.specs.Prelude.{ℕ}
use Rattle.apl_kept.specs.declared.error.KeptError.{KeptError}
use Rattle.apl_kept.specs.declared.error.KeptError.TheVariants.{Running, LineTooLong, LineFeed, Memory}

abbrev pub kept_number : KeptError → ℕ
kept_number Memory = 8
kept_number LineTooLong = 14
kept_number Running = 16
kept_number LineFeed = 19
