-- The numbers of what refuses a call.
use Rattle.std.specs.Prelude.{ℕ}
use Rattle.apl_workspace.specs.Numbers.{load_number}
use Rattle.apl_played.specs.declared.error.PlayError.{PlayError}
use Rattle.apl_played.specs.declared.error.PlayError.TheVariants.{Workspace, LineTooLong, TooManyLines, Memory}

-- a workspace's own number; out of memory has the same one wherever that happens
abbrev pub play_number : PlayError → ℕ
play_number (Workspace e) = load_number e
play_number Memory = 8
play_number (LineTooLong written) = 14
play_number (TooManyLines written) = 15
