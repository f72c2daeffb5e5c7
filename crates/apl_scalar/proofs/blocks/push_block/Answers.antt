use Rattle.std.proofs.Common.{◌≡◌, length, [], refl, ap, sym, ◌∙◌, rules, arith, append-nil}
use Rattle.apl_scalar.proofs.OfLanes.{as_many, numbers-append}
use Rattle.apl_scalar.proofs.Rooms.{room_size, written_over, taken_back}
use Rattle.apl_scalar.proofs.blocks.push_block.Goals as goal

pub returns-then-fill-clause-adds : goal.returns-then-fill-clause-adds
returns-then-fill-clause-adds g c =
    let numbers = g.M.Lane.numbers in
    let old = c.args.out.now.items in
    let filled = c.fill.new.out in
    let grown = c.in_ok-before.ensures in
    let size : length filled ≡ c.args.count =
    room_size old c.grow.new.out.items c.as_mut_slice.result.now c.split_at_mut.result.1.now filled grown.items.0 c.args.count c.in_ok-before.before grown.items.1 grown.place c.as_mut_slice.ensures.value
    c.split_at_mut.ensures.back_len (search rules)
    in
    let many : length (numbers filled) ≡ length filled = as_many g.M.Lane.value numbers g.met.M.Lane.each filled in (
      numbers filled,
      ap numbers (written_over old c.grow.new.out.items c.as_mut_slice.result.now c.split_at_mut.result.0.now c.split_at_mut.result.1.now filled grown.items.0 c.args.count c.in_ok-before.before c.grow.new.out.len
          grown.items.1 grown.place c.as_mut_slice.ensures.value c.split_at_mut.ensures.front c.split_at_mut.ensures.back_len (search rules) (search rules))
          ∙ numbers-append g.M.Lane.value numbers g.met.M.Lane.each old filled,
      omega arith,
      c.if-fill.ensures.values refl,
    )

pub returns-clause-adds : goal.returns-clause-adds
returns-clause-adds g c =
    let numbers = g.M.Lane.numbers in
    let old = c.args.out.now.items in
    let filled = c.fill.new.out in
    let grown = c.in_ok-before.ensures in (
      [],
      ap numbers (taken_back old filled _ c.truncate.new.self.items c.in_ok-before.before
          (written_over old c.grow.new.out.items c.as_mut_slice.result.now c.split_at_mut.result.0.now c.split_at_mut.result.1.now filled grown.items.0 c.args.count c.in_ok-before.before c.grow.new.out.len
          grown.items.1 grown.place c.as_mut_slice.ensures.value c.split_at_mut.ensures.front c.split_at_mut.ensures.back_len (search rules) (search rules))
          grown.place c.truncate.ensures.items)
          ∙ sym (append-nil (numbers old)),
      omega arith,
      λ k h. absurd (omega arith),
    )
