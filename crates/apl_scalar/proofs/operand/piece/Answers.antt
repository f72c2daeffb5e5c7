use Rattle.std.proofs.Common.{◌-◌, ◌<◌, ◌∙◌, length, arith}
use Rattle.std.proofs.lemmas.Grind.{common_steps}
use Rattle.apl_scalar.proofs.OfLanes.{as_many, numbers-take}
use Rattle.apl_scalar.proofs.Parts.{numbers-range, piece_range, piece_spread}
use Rattle.apl_scalar.proofs.operand.piece.Goals as goal

pub returns-in-Lies : goal.returns-in-Lies
returns-in-Lies g c =
    let numbers = g.L.Lane.numbers in
    let xs = c.in-Lies.numbers.now in
    rw c.in-Lies.is
    (piece_range (numbers xs) _ c.args.from c.args.till c.requires.order (rw c.in-Lies.is at c.requires.covers) (numbers-range g.L.Lane.value numbers g.met.L.Lane.each xs c.args.from c.args.till))

pub returns-in-One-2 : goal.returns-in-One-2
returns-in-One-2 g c =
    let numbers = g.L.Lane.numbers in
    let room = c.args.room.now in
    let held = rw c.in-One-2.is at c.requires.holds in
    let some : 0 < length (numbers room) = grind (arith, common_steps, as_many g.L.Lane.value numbers g.met.L.Lane.each room, c.is_empty.ensures, c.if-is_empty.false) in
    rw c.in-One-2.is
    (piece_spread (g.L.Lane.value c.in-One-2.field-0) (numbers room) _ c.args.from c.args.till (held.0 some) held.1 (numbers-take g.L.Lane.value numbers g.met.L.Lane.each (c.args.till - c.args.from) room))

pub returns-in-Narrow : goal.returns-in-Narrow
returns-in-Narrow g c =
    let held = rw c.in-Narrow.is at c.requires.holds in
    rw c.in-Narrow.is
    (piece_range _ _ c.args.from c.args.till c.requires.order (rw c.in-Narrow.is at c.requires.covers)
    (numbers-take g.L.Lane.value g.L.Lane.numbers g.met.L.Lane.each (c.args.till - c.args.from) c.args.room.now ∙ held))
