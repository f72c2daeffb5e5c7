use Rattle.std.proofs.Common.{◌≡◌, ◌++◌, take}
use Rattle.apl_charset.proofs.text.push_ascii.Given as goal

abbrev pub invariant-loop-b : goal.invariant-loop-b
invariant-loop-b l = l.out.items ≡ l.fn.out.items ++ take l.b-index l.text
