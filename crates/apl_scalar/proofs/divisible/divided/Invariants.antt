use Rattle.std.proofs.Common.{◌≡◌, ◌<◌, ◌+◌, ◌-◌, ◌*◌, ◌/◌, ◌^◌}
use Rattle.apl_scalar.proofs.divisible.divided.Given as goal

-- the quotient and what is left are those of the bits so far
abbrev pub invariant-loop-place : goal.invariant-loop-place
invariant-loop-place l =
    (l.quotient * l.divisor + l.rest ≡ l.number / 2 ^ (8 - l.place)) × (l.rest < l.divisor)
