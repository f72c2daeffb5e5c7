use Rattle.std.proofs.Common.{pos, negsuc, take}
use Rattle.std.specs.List.{All}
use Rattle.apl_search.specs.inside.Tables.{IsWithin}
use Rattle.apl_search.proofs.bytes.inspect.Given as goal

-- the bytes so far were read
abbrev pub invariant-loop-byte : goal.invariant-loop-byte
invariant-loop-byte l = All (IsWithin (record { smallest = negsuc 127; largest = pos 127 })) (take l.byte-index l.bytes)
