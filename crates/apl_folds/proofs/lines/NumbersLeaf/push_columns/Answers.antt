use Rattle.std.proofs.Common.{ap, sym, ◌∙◌, arith}
use Rattle.apl_scalar.specs.Functions.{dyadic_of}
use Rattle.apl_folds.proofs.InRooms.{line_room}
use Rattle.apl_scalar.proofs.OfLanes.{as_many}
use Rattle.apl_folds.proofs.lines.NumbersLeaf.push_columns.Goals as goal

pub push_columns-requires-clause-same : goal.push_columns-requires-clause-same
push_columns-requires-clause-same g c = λ l. sym ((c.requires.lines c.args.from (omega arith) l).0 ∙ ap dyadic_of (c.adds_with_room.ensures.plus c.if-adds_with_room.true))

pub push_columns-requires-clause-room : goal.push_columns-requires-clause-room
push_columns-requires-clause-room g c =
    λ p above below.
    let raw = c.args.self.now.numbers.now in
    let room = c.adds_with_room.ensures.room c.if-adds_with_room.true in
    line_room (g.L.Lane.numbers raw) _ room.bound c.args.self.now.axis p c.args.count room.within (as_many g.L.Lane.value g.L.Lane.numbers g.met.L.Lane.each raw) (c.requires.lines p above below).1 room.fits
