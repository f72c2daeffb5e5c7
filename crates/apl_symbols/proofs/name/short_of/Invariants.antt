use Rattle.std.proofs.Common.{◌≡◌, ◌≤◌, length, true, drop}
use Rattle.apl_symbols.specs.Short.{packed, are_digits}
use Rattle.apl_symbols.proofs.name.short_of.Given as goal

-- the characters from there on are digits, and their number is made
abbrev pub invariant-loop-at : goal.invariant-loop-at
invariant-loop-at l = (l.at ≤ length l.text) × (length l.text ≤ 8) × (are_digits (drop l.at l.text) ≡ true) × (l.short ≡ packed (drop l.at l.text))

abbrev pub decreases-loop-at : goal.decreases-loop-at
decreases-loop-at l = l.at
