use Rattle.std.proofs.Common.{◌≡◌, ◌++◌, take}
use Rattle.std.specs.List.{flat_map}
use Rattle.apl_tokens.specs.Spelling.{doubled}
use Rattle.apl_tokens.proofs.writing.push_doubled.Given as goal

abbrev pub invariant-loop-c : goal.invariant-loop-c
invariant-loop-c l = l.text.items ≡ l.fn.text.items ++ flat_map doubled (take l.c-index l.quoted)
