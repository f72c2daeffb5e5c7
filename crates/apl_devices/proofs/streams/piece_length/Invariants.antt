use Rattle.std.proofs.Common.{◌≡◌, ◌==◌, not, true, take}
use Rattle.std.specs.List.{list_all}
use Rattle.apl_devices.proofs.streams.piece_length.Given as goal

-- no line feed stands before the place
abbrev pub invariant-loop-k : goal.invariant-loop-k
invariant-loop-k l = list_all (λ b. not (b == 10)) (take l.k l.bytes) ≡ true
