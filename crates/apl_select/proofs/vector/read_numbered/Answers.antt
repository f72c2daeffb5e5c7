use Rattle.std.proofs.Common.{◌≡◌, ◌+◌, length, get_or, Ok, ap, sym, ◌∙◌, arith}
use Rattle.std.proofs.lemmas.List.{get_or_read, length_push}
use Rattle.apl_arrays.specs.Results.{ok_map}
use Rattle.apl_select.specs.inside.Numbered.{item_numbered}
use Rattle.apl_select.proofs.Lanes.{length-numbers}
use Rattle.apl_select.proofs.Vectors.{all_numbered, one_numbered}
use Rattle.apl_select.proofs.vector.read_numbered.Goals as goal

pub loop-k-preserved : goal.loop-k-preserved
loop-k-preserved g c = record {
  long = ap length c.push_reserved.ensures.items ∙ length_push c.loop-k.out.items c.index-raw-place.result ∙ ap (λ n. n + 1) c.loop-k.invariant.long;
  room = (omega (arith, c.push_reserved.ensures.len, c.loop-k.invariant.room), omega (arith, c.push_reserved.ensures.capacity, c.loop-k.invariant.room));
  so_far =
      one_numbered (λ d. item_numbered c.args.raw.now c.args.origin d) (g.L.Lane.numbers c.args.numbers.now) c.loop-k.out.items c.push_reserved.new.self.items c.loop-k.k c.index-raw-place.result c.loop-k.invariant.long c.push_reserved.ensures.items
      c.loop-k.invariant.so_far
      (λ d. ap (ok_map (λ p. get_or c.args.raw.now p d)) (c.place_at-place.ensures (length c.args.raw.now) c.requires.small c.if-raw-place.false)
      ∙ ap (λ (x : g.row.T.Denot). Ok x) (sym (get_or_read c.args.raw.now c.place_at-place.result c.index-raw-place.result c.if-raw-place.false c.index-raw-place.is d)));
}

pub returns : goal.returns
returns g c =
    let zs = g.L.Lane.numbers c.args.numbers.now in
    let long : length zs ≡ length c.args.numbers.now = length-numbers g.L.Lane.value g.L.Lane.numbers g.met.L.Lane.each c.args.numbers.now in
    λ d. all_numbered (item_numbered c.args.raw.now c.args.origin d) d zs c.loop-k.out.items c.loop-k.k c.loop-k.invariant.long (omega arith) (omega arith) (λ j h. c.loop-k.invariant.so_far j d h)
