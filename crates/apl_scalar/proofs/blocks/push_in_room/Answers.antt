use Rattle.apl_scalar.proofs.Rooms.{ready_one}
use Rattle.apl_scalar.proofs.blocks.push_in_room.Goals as goal

pub push_by_second-requires-clause-room : goal.push_by_second-requires-clause-room
push_by_second-requires-clause-room g c = ready_one g.L.Lane.value g.L.Lane.numbers g.met.L.Lane.each c.args.a.now c.in-One.x _ g.row.N c.in-One.is c.requires.enough
