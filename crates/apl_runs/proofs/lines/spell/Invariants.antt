use Rattle.std.proofs.Common.{◌≡◌, ◌++◌, drop}
use Rattle.std.specs.Prelude.{string_bytes}
use Rattle.apl_runs.specs.Output.{labelled}
use Rattle.apl_runs.proofs.lines.spell.Given as goal

abbrev pub invariant-loop-line : goal.invariant-loop-line
invariant-loop-line l = string_bytes l.text ++ labelled l.label (drop l.line-index l.lines) ≡ labelled l.label l.lines
