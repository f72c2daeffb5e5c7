use Rattle.std.proofs.Common.{◌≡◌, ◌++◌, take}
use Rattle.apl_tokens.specs.Plain.{more_numbers}
use Rattle.apl_tokens.proofs.writing.push_more.Given as goal

abbrev pub invariant-loop-n : goal.invariant-loop-n
invariant-loop-n l = l.text.items ≡ l.fn.text.items ++ more_numbers (take l.n-index l.ns)
