use Rattle.std.proofs.Common.{◌≡◌, ◌++◌, take}
use Rattle.std.specs.Prelude.{string_bytes}
use Rattle.apl_charset.specs.Text.{bytes}
use Rattle.apl_runs.proofs.lines.push_text.Given as goal

abbrev pub invariant-loop-c : goal.invariant-loop-c
invariant-loop-c l = string_bytes l.out ≡ string_bytes l.fn.out ++ bytes (take l.c-index l.text)
