use Rattle.std.proofs.Common.{get_or, map, drop, unsigned_abs, rules, arith, ap, sym, ◌∙◌}
use Rattle.std.proofs.lemmas.List.{drop-map}
use Rattle.apl_arrays.proofs.Whole.{bound-drop}
use Rattle.apl_reshape.proofs.Limits.{length_low}
use Rattle.apl_reshape.proofs.TakenRows.{place_by, taken_line, step_inside, step_outside, room_of_row}
use Rattle.apl_reshape.proofs.taking.+push_taken.Goals as goal

pub returns-then-counts-eq1 : goal.returns-then-counts-eq1
returns-then-counts-eq1 g t c =
    taken_line c.args.shape.now c.args.counts.now c.args.lengths.now c.args.items.now c.split_at.result.0.now c.args.out.now.items c.push_line.new.out.items c.args.fill c.is_from_end-from_end.result (omega arith) c.requires.axes c.requires.lengths c.requires.room
    c.split_at.ensures.front c.is_from_end-from_end.ensures c.in_ok-push_line.ensures

pub size-step-requires : goal.size-step-requires
size-step-requires g t c = rw (c.split_at-2.ensures.back) (bound-drop c.args.shape.now 1 1000000 c.requires.shape_small)

pub size-fills-requires : goal.size-fills-requires
size-fills-requires g t c = rw (c.split_at-3.ensures.back) (bound-drop c.args.lengths.now 1 1000000 c.requires.small)

pub place_of-place-requires : goal.place_of-place-requires
place_of-place-requires g t c =
    omega (arith, length_low c.args.shape.now 0 (omega arith), length_low c.args.lengths.now 0 (omega (arith, c.loop-index-test.true)), c.requires.shape_small, c.requires.small, c.loop-index-test.true)

pub loop-index-preserved-then-place-shape : goal.loop-index-preserved-then-place-shape
loop-index-preserved-then-place-shape g t c =
    step_outside c.args.shape.now c.args.counts.now c.args.lengths.now c.split_at-3.result.1.now c.args.items.now c.loop-index.out.items c.repeat.new.out.items c.args.fill c.loop-index.index c.place_of-place.result
    (get_or c.args.lengths.now 0 0) c.size-fills.result c.loop-index-test.true (omega arith) (omega arith) (place_by c.is_from_end-from_end.result c.args.shape.now c.args.lengths.now c.args.counts.now c.loop-index.index c.place_of-place.result (omega arith) c.is_from_end-from_end.ensures c.requires.lengths c.place_of-place.ensures) c.if-place-shape.true c.size-fills.ensures c.split_at-3.ensures.back c.in_ok-repeat.ensures
    ∙ c.loop-index.invariant

pub push_taken-requires : goal.push_taken-requires
push_taken-requires g t c κs within = (
  search rules,
  (
    λ a m. search rules,
    (
      omega (arith, c.split_at-2.ensures.back_len, c.split_at-in-loop-index-2.ensures.back_len, c.requires.axes),
      (
        c.split_at-in-loop-index-3.ensures.back ∙ ap (drop 1) c.requires.lengths ∙ drop-map unsigned_abs 1 c.args.counts.now ∙ ap (map unsigned_abs) (sym c.split_at-in-loop-index-2.ensures.back),
        (
          room_of_row c.args.shape.now c.split_at-2.result.1.now c.args.items.now c.split_at-in-loop-index.result.1.now c.place_of-place.result c.size-step.result (omega arith) c.requires.room c.if-place-shape.false c.size-step.ensures
              c.split_at-2.ensures.back c.split_at-in-loop-index.ensures.back,
          (
            rw (c.split_at-2.ensures.back) (bound-drop c.args.shape.now 1 1000000 c.requires.shape_small),
            rw (c.split_at-in-loop-index-3.ensures.back) (bound-drop c.args.lengths.now 1 1000000 c.requires.small),
          ),
        ),
      ),
    ),
  ),
)

pub loop-index-preserved : goal.loop-index-preserved
loop-index-preserved g t c =
    step_inside c.args.shape.now c.split_at-2.result.1.now c.args.counts.now c.split_at-in-loop-index-2.result.1.now c.args.lengths.now c.split_at-in-loop-index-3.result.1.now c.args.items.now c.split_at-in-loop-index.result.1.now
    c.loop-index.out.items c.push_taken.new.out.items c.args.fill c.loop-index.index c.place_of-place.result (get_or c.args.lengths.now 0 0) c.size-step.result c.loop-index-test.true (omega arith) (omega arith)
    (place_by c.is_from_end-from_end.result c.args.shape.now c.args.lengths.now c.args.counts.now c.loop-index.index c.place_of-place.result (omega arith) c.is_from_end-from_end.ensures c.requires.lengths c.place_of-place.ensures) c.if-place-shape.false c.size-step.ensures c.split_at-2.ensures.back c.split_at-in-loop-index-2.ensures.back c.split_at-in-loop-index-3.ensures.back c.split_at-in-loop-index.ensures.back c.in_ok-push_taken.ensures
    ∙ c.loop-index.invariant
