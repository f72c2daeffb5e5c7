use Rattle.std.proofs.Common.{List, rules, subst, ◌≡◌, ◌+◌, ◌<◌, ◌++◌, ◌∷◌, [], map, get_or, length, arith, refl, ap, sym, ◌∙◌}
use Rattle.std.proofs.lemmas.List.{nil_from_length}
use Rattle.apl_arrays.specs.declared.axis.Axis.{Axis}
use Rattle.apl_arrays.specs.Index.{indices}
use Rattle.apl_arrays.specs.Strides.{lengths, place_at, step_at, AllPlaced}
use Rattle.apl_arrays.proofs.Steps.{near_axis}
use Rattle.apl_arrays.proofs.Gathers.{first_axis, other_axes, parts, only_axis, one_axis, placed_row, near_row, row_step, rows_end}
use Rattle.apl_arrays.proofs.gather.+gather.Goals as goal

pub offset_bounds-raw-at : goal.offset_bounds-raw-at
offset_bounds-raw-at g t c =
    let e : c.args.axes.now ≡ [] = nil_from_length c.args.axes.now (omega arith) in
    let h : c.args.at < length c.args.raw.now = (rw e at c.requires.placed) [] refl in
    omega arith

pub bounds-raw-at : goal.bounds-raw-at
bounds-raw-at g t c =
    let e : c.args.axes.now ≡ [] = nil_from_length c.args.axes.now (omega arith) in
    (rw e at c.requires.placed) [] refl

pub gather_line-requires-clause-placed : goal.gather_line-requires-clause-placed
gather_line-requires-clause-placed g t c =
    let e : c.args.axes.now ≡ first_axis c.args.axes.now ∷ [] = only_axis c.args.axes.now (omega arith) in
    λ k l. placed_row (λ p. p < length c.args.raw.now) (first_axis c.args.axes.now) [] c.args.at k (c.args.at + step_at (first_axis c.args.axes.now) k) l (rw e at c.requires.placed) refl [] refl

pub along-requires-clause-near : goal.along-requires-clause-near
along-requires-clause-near g t c = near_axis c.args.at (first_axis c.args.axes.now) (other_axes c.args.axes.now) _ (rw (parts c.args.axes.now (omega arith)) at c.requires.near)

pub gather_fours-requires-clause-placed : goal.gather_fours-requires-clause-placed
gather_fours-requires-clause-placed g t c =
    let P : List Axis → Type 0 = λ xs. AllPlaced (length c.args.raw.now) c.args.at xs in
    subst P (parts c.args.axes.now (omega arith)) c.requires.placed

pub gather-requires : goal.gather-requires
gather-requires g t c κs within = (
  search rules,
  (
    λ a m. search rules,
    (
      placed_row (λ p. p < length c.args.raw.now) (first_axis c.args.axes.now) (other_axes c.args.axes.now) c.args.at c.loop-i.i c.along.result c.loop-i-test.true
          (rw (parts c.args.axes.now (omega arith)) at c.requires.placed) c.along.ensures,
      near_row (first_axis c.args.axes.now) (other_axes c.args.axes.now) c.args.at c.loop-i.i c.along.result _ c.loop-i-test.true
          (rw (parts c.args.axes.now (omega arith)) at c.requires.near) c.along.ensures,
    ),
  ),
)

pub loop-i-preserved : goal.loop-i-preserved
loop-i-preserved g t c = λ d.
    row_step (λ i. get_or c.args.raw.now (place_at c.args.at (first_axis c.args.axes.now ∷ other_axes c.args.axes.now) i) d) (lengths (other_axes c.args.axes.now)) c.loop-i.i (first_axis c.args.axes.now).length
    c.loop-i.out.items c.gather.new.out.items c.loop-i-test.true
    (c.in_ok-gather-in-len1-up.ensures d ∙ ap (λ p. c.loop-i.out.items ++ map (λ is. get_or c.args.raw.now (place_at p (other_axes c.args.axes.now) is) d) (indices (lengths (other_axes c.args.axes.now)))) c.along.ensures)
    ∙ c.loop-i.invariant d

pub returns-in_ok-gather_line-in-len1 : goal.returns-in_ok-gather_line-in-len1
returns-in_ok-gather_line-in-len1 g t c = λ d.
    c.in_ok-gather_line-in-len1.ensures d
    ∙ ap (λ z. c.args.out.now.items ++ z) (sym (one_axis (λ i. get_or c.args.raw.now (place_at c.args.at (first_axis c.args.axes.now ∷ []) i) d) (first_axis c.args.axes.now).length))
    ∙ ap (λ xs. c.args.out.now.items ++ map (λ i. get_or c.args.raw.now (place_at c.args.at xs i) d) (indices (lengths xs))) (sym (only_axis c.args.axes.now (omega arith)))

pub returns-after-loop-i : goal.returns-after-loop-i
returns-after-loop-i g t c = λ d.
    sym (rows_end (λ i. get_or c.args.raw.now (place_at c.args.at (first_axis c.args.axes.now ∷ other_axes c.args.axes.now) i) d) (lengths (other_axes c.args.axes.now)) c.loop-i.i (first_axis c.args.axes.now).length c.loop-i.out.items (omega arith))
    ∙ c.loop-i.invariant d
    ∙ ap (λ xs. c.args.out.now.items ++ map (λ i. get_or c.args.raw.now (place_at c.args.at xs i) d) (indices (lengths xs))) (sym (parts c.args.axes.now (omega arith)))

pub gather_line-requires-clause-near : goal.gather_line-requires-clause-near
gather_line-requires-clause-near g t c = near_axis c.args.at (first_axis c.args.axes.now) (other_axes c.args.axes.now) _ (rw (parts c.args.axes.now (omega arith)) at c.requires.near)

pub gather_fours-requires-clause-near : goal.gather_fours-requires-clause-near
gather_fours-requires-clause-near g t c = rw (parts c.args.axes.now (omega arith)) at c.requires.near

pub loop-i-init : goal.loop-i-init
loop-i-init g t c = λ d. c.in_ok-begun-in-len1-up.ensures.rows d
