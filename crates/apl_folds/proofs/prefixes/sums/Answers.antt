use Rattle.std.proofs.Common.{refl}
use Rattle.apl_arrays.specs.Widths.{more_than_w32}
use Rattle.std.specs.Int.{w32, w64}
use Rattle.apl_folds.proofs.Runs.{prefixes_room}
use Rattle.apl_folds.proofs.prefixes.sums.Goals as goal

pub run-requires-clause-room : goal.run-requires-clause-room
run-requires-clause-room g c =
    prefixes_room w32 (g.L.Lane.numbers c.args.numbers.now) c.args.axis more_than_w32 c.requires (record { bound = c.most_of-bound.result; within = c.most_of-bound.ensures; fits = c.if-has_room.ensures refl })

pub run-requires-then-has_room-2-clause-room : goal.run-requires-then-has_room-2-clause-room
run-requires-then-has_room-2-clause-room g c =
    prefixes_room w64 (g.L.Lane.numbers c.args.numbers.now) c.args.axis (λ z h. h) c.requires (record { bound = c.most_of-bound.result; within = c.most_of-bound.ensures; fits = c.if-has_room-2.ensures refl })
