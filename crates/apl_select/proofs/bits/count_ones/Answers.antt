use Rattle.std.proofs.Common.{◌+◌, ◌≤◌, length, ap, ◌∙◌, arith}
use Rattle.std.specs.Prelude.{count_by}
use Rattle.std.proofs.lemmas.List.Sums.{count_by-le-length}
use Rattle.apl_select.specs.Compress.{is_one}
use Rattle.apl_select.proofs.Lanes.{length-numbers, ones_of_parts}
use Rattle.apl_select.proofs.bits.count_ones.Goals as goal

pub loop-rest-preserved : goal.loop-rest-preserved
loop-rest-preserved g c =
    omega (
      arith,
      ones_of_parts g.L.Lane.value g.L.Lane.numbers g.met.L.Lane.each c.loop-rest.rest.now c.split_at.result.0.now c.split_at.result.1.now 128 c.split_at.ensures.front c.split_at.ensures.back,
      c.from-count.ensures,
      c.ones_in_block.ensures,
      c.loop-rest.invariant,
    )

pub overflow_add-count : goal.overflow_add-count
overflow_add-count g c = record {
  fits =
      let zs = g.L.Lane.numbers c.args.numbers.now in
      let few : count_by is_one zs ≤ length zs = count_by-le-length is_one zs in
      omega (
        arith,
        few,
        length-numbers g.L.Lane.value g.L.Lane.numbers g.met.L.Lane.each c.args.numbers.now,
        ones_of_parts g.L.Lane.value g.L.Lane.numbers g.met.L.Lane.each c.loop-rest.rest.now c.split_at.result.0.now c.split_at.result.1.now 128 c.split_at.ensures.front c.split_at.ensures.back,
        c.from-count.ensures,
        c.ones_in_block.ensures,
        c.loop-rest.invariant,
        c.requires,
      );
}

pub returns : goal.returns
returns g c = ap (λ n. c.loop-rest.count + n) (c.from.ensures ∙ c.ones_in_block-2.ensures) ∙ c.loop-rest.invariant
