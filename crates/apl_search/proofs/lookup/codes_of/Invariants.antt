use Rattle.std.proofs.Common.{◌≡◌, map, pos, take}
use Rattle.apl_search.proofs.lookup.codes_of.Given as goal

-- the codes so far
abbrev pub invariant-loop-character : goal.invariant-loop-character
invariant-loop-character l = l.codes.items ≡ map pos (take l.character-index l.characters)
