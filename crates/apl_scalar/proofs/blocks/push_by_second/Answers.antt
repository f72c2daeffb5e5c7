use Rattle.apl_scalar.proofs.Rooms.{ready_one}
use Rattle.apl_scalar.proofs.blocks.push_by_second.Goals as goal

pub push_laid-requires-clause-room_b : goal.push_laid-requires-clause-room_b
push_laid-requires-clause-room_b g c = ready_one g.L.Lane.value g.L.Lane.numbers g.met.L.Lane.each c.args.b.now c.in-One.y _ g.row.N c.in-One.is c.requires.enough
