use Rattle.std.proofs.Common.{ap}
use Rattle.apl_machine_state.specs.Environment.{index_origin}
use Rattle.apl_primitives.specs.Values.{phrase_value}
use Rattle.apl_phrases.specs.Effects.{seen}
use Rattle.apl_phrases.proofs.values.origin_for.Goals as goal

pub returns-then-asks_origin : goal.returns-then-asks_origin
returns-then-asks_origin c = λ taken lines. ap (phrase_value c.args.row.now taken) c.origin.ensures

pub returns : goal.returns
returns c = λ taken lines. c.asks_origin.ensures c.if-asks_origin.false taken 1 (index_origin (seen c.args.scene lines))
