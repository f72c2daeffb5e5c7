use Rattle.std.proofs.Common.{◌≡◌, map, pos, take}
use Rattle.apl_operators.proofs.standing.codes.Given as goal

abbrev pub invariant-loop-character : goal.invariant-loop-character
invariant-loop-character l = l.numbers.items ≡ map pos (take l.character-index l.characters)
