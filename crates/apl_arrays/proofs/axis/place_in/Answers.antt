use Rattle.std.proofs.Common.{◌+◌, get_or, drop, arith, ap, sym, ◌∙◌}
use Rattle.apl_arrays.specs.Strides.{lengths, place_at, reach_of}
use Rattle.apl_arrays.proofs.Places.{not_within_length}
use Rattle.apl_arrays.proofs.Steps.{length-lengths, within_at, place_at_step, reach_at_step, near_at}
use Rattle.apl_arrays.proofs.axis.place_in.Goals as goal

pub returns-then-index-axes : goal.returns-then-index-axes
returns-then-index-axes c = rw (not_within_length (lengths c.args.axes.now) c.args.index.now (λ e. omega (arith, length-lengths c.args.axes.now)))

pub along-place-requires-clause-near : goal.along-place-requires-clause-near
along-place-requires-clause-near c = near_at c.args.axes.now c.loop-k.k c.loop-k.place _ (omega arith) (omega arith)

pub loop-k-preserved : goal.loop-k-preserved
loop-k-preserved c = record {
  within = sym (within_at c.args.axes.now c.args.index.now c.loop-k.k (omega arith) (omega arith) c.if-index-k.false) ∙ c.loop-k.invariant.within;
  place = ap (λ p. place_at p (drop (c.loop-k.k + 1) c.args.axes.now) (drop (c.loop-k.k + 1) c.args.index.now)) c.along-place.ensures
      ∙ sym (place_at_step c.args.axes.now c.args.index.now c.loop-k.k c.loop-k.place (omega arith) (omega arith)) ∙ c.loop-k.invariant.place;
  near = omega (arith, ap (λ p. reach_of p (drop (c.loop-k.k + 1) c.args.axes.now)) c.along-place.ensures, reach_at_step c.args.axes.now c.loop-k.k c.loop-k.place (get_or c.args.index.now c.loop-k.k 0) (omega arith) c.if-index-k.false, c.loop-k.invariant.near);
}
