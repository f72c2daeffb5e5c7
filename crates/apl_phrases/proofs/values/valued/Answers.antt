use Rattle.std.proofs.Common.{◌∙◌, sym}
use Rattle.apl_operands.specs.Operands.{fetched_from}
use Rattle.apl_primitives.specs.Taken.{as_taken}
use Rattle.apl_arrays.specs.Origins.{origin_number}
use Rattle.apl_phrases.specs.Effects.{seen}
use Rattle.apl_phrases.proofs.OfPrimitives.{row_gives}
use Rattle.apl_phrases.proofs.values.valued.Goals as goal

pub returns-in-Some-clause-is : goal.returns-in-Some-clause-is
returns-in-Some-clause-is c =
    let p = c.args.phrase in
    row_gives c.phrase_value.result (seen p.scene) p.instr.now.action c.in-Phrase.row (fetched_from p.operands p.sources.now) (as_taken c.in-Some.taken) (origin_number c.origin_for-origin.result) c.in-Phrase.is c.in-Some.ensures.kind c.in-Some.ensures.takes (c.origin_for-origin.ensures (as_taken c.in-Some.taken)) c.phrase_value.ensures

pub returns-clause-is : goal.returns-clause-is
returns-clause-is c =
    let p = c.args.phrase in
    row_gives c.phrase_value-2.result (seen p.scene) p.instr.now.action c.in-Phrase.row (fetched_from p.operands p.sources.now) (as_taken c.arguments-taken.result) (origin_number c.origin_for-origin-2.result) c.in-Phrase.is (sym c.row_kind.ensures ∙ c.in-Gives.is) c.arguments-taken.ensures (c.origin_for-origin-2.ensures (as_taken c.arguments-taken.result)) c.phrase_value-2.ensures
