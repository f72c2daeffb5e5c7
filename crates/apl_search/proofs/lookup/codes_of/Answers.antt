use Rattle.std.proofs.Common.{pos, ap, ◌∙◌, rules}
use Rattle.std.proofs.lemmas.List.{get_or_read}
use Rattle.apl_search.proofs.Mapped.{map_next, map_whole, cast_small}
use Rattle.apl_search.proofs.lookup.codes_of.Goals as goal

pub loop-character-preserved : goal.loop-character-preserved
loop-character-preserved c =
    map_next pos c.args.characters.now c.loop-character.character-index 0 _ c.loop-character.codes.items c.push.new.self.items c.loop-character-test.true c.loop-character.invariant c.in_ok-push.ensures.items
    (cast_small c.code.result (search rules) ∙ ap pos (c.code.ensures.value ∙ get_or_read c.args.characters.now _ _ c.loop-character-test.true c.character-item.is 0))

pub returns : goal.returns
returns c = map_whole pos c.args.characters.now c.loop-character.character-index c.loop-character.codes.items c.loop-character-test.false c.loop-character.invariant
