use Rattle.std.proofs.Common.{◌≡◌, drop, None}
use Rattle.apl_arrays.specs.Strides.{lengths}
use Rattle.apl_arrays.specs.Views.{joined}
use Rattle.apl_arrays.proofs.Joining.{least_with}
use Rattle.apl_arrays.proofs.join.least_length.Given as goal

-- the least so far, with the lengths that are left, is that of all
abbrev pub invariant-loop-m : goal.invariant-loop-m
invariant-loop-m l = least_with l.least (joined l.number (drop l.m l.numbers) (lengths (drop l.m l.axes))) ≡ least_with None (joined l.number l.numbers (lengths l.axes))
