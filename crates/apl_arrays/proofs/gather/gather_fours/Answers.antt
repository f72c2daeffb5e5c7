use Rattle.std.proofs.Common.{List, subst, ◌≡◌, ◌<◌, ◌^◌, ◌∷◌, [], ◌+◌, ◌++◌, map, length, get_or, refl, arith, ap, sym, ◌∙◌}
use Rattle.apl_arrays.specs.declared.axis.Axis.{Axis}
use Rattle.apl_arrays.specs.Strides.{lengths, place_at, reach_of, AllPlaced}
use Rattle.apl_arrays.specs.inside.Rows.{rows_from}
use Rattle.apl_arrays.proofs.Fours.{fours_near, fours_placed, fours_step}
use Rattle.apl_arrays.proofs.Gathers.{first_axis, only_axis, rows_start}
use Rattle.apl_arrays.proofs.gather.gather_fours.Goals as goal

pub push_four-requires-clause-placed : goal.push_four-requires-clause-placed
push_four-requires-clause-placed g c =
    let e : c.args.rest.now ≡ first_axis c.args.rest.now ∷ [] = only_axis c.args.rest.now (omega arith) in
    let side = c.if-not-are_side_by_side.ensures refl in
    let P : List Axis → Type 0 = λ xs. AllPlaced (length c.args.raw.now) c.args.at (c.args.axis.now ∷ xs) in
    fours_placed (length c.args.raw.now) c.args.at c.loop-row.row c.args.axis.now (first_axis c.args.rest.now) side.0 side.1 (omega arith) (subst P e c.requires.placed)

pub loop-row-preserved : goal.loop-row-preserved
loop-row-preserved g c =
    let e : c.args.rest.now ≡ first_axis c.args.rest.now ∷ [] = only_axis c.args.rest.now (omega arith) in
    let side = c.if-not-are_side_by_side.ensures refl in
    record {
      within = omega arith;
      so_far = λ d.
          ap (λ xs. c.push_four.new.out.items ++ map (λ i. get_or c.args.raw.now (place_at c.args.at (c.args.axis.now ∷ xs) i) d) (rows_from (lengths xs) (c.loop-row.row + 4) c.args.axis.now.length)) e
          ∙ fours_step c.args.raw.now c.args.axis.now (first_axis c.args.rest.now) c.args.at c.loop-row.row d c.loop-row.out.items c.push_four.new.out.items side.0 side.1 (omega arith) (c.in_ok-push_four.ensures d)
          ∙ ap (λ xs. c.loop-row.out.items ++ map (λ i. get_or c.args.raw.now (place_at c.args.at (c.args.axis.now ∷ xs) i) d) (rows_from (lengths xs) c.loop-row.row c.args.axis.now.length)) (sym e)
          ∙ c.loop-row.invariant.so_far d;
    }

pub returns-in_default-clause-rows : goal.returns-in_default-clause-rows
returns-in_default-clause-rows g c = λ d. rows_start (λ i. get_or c.args.raw.now (place_at c.args.at (c.args.axis.now ∷ c.args.rest.now) i) d) (lengths c.args.rest.now) c.args.axis.now.length c.args.out.now.items

pub returns-then-not-are_side_by_side-clause-rows : goal.returns-then-not-are_side_by_side-clause-rows
returns-then-not-are_side_by_side-clause-rows g c = λ d. rows_start (λ i. get_or c.args.raw.now (place_at c.args.at (c.args.axis.now ∷ c.args.rest.now) i) d) (lengths c.args.rest.now) c.args.axis.now.length c.args.out.now.items

pub returns-then-line-eq0-clause-rows : goal.returns-then-line-eq0-clause-rows
returns-then-line-eq0-clause-rows g c = λ d. rows_start (λ i. get_or c.args.raw.now (place_at c.args.at (c.args.axis.now ∷ c.args.rest.now) i) d) (lengths c.args.rest.now) c.args.axis.now.length c.args.out.now.items

pub loop-row-init : goal.loop-row-init
loop-row-init g c = record {
  within = omega arith;
  so_far = λ d. rows_start (λ i. get_or c.args.raw.now (place_at c.args.at (c.args.axis.now ∷ c.args.rest.now) i) d) (lengths c.args.rest.now) c.args.axis.now.length c.args.out.now.items;
}

pub push_four-requires-clause-near : goal.push_four-requires-clause-near
push_four-requires-clause-near g c =
    let e : c.args.rest.now ≡ first_axis c.args.rest.now ∷ [] = only_axis c.args.rest.now (omega arith) in
    let side = c.if-not-are_side_by_side.ensures refl in
    let P : List Axis → Type 0 = λ xs. reach_of c.args.at (c.args.axis.now ∷ xs) < 2 ^ 63 in
    fours_near (2 ^ 63) c.args.at c.loop-row.row c.args.axis.now (first_axis c.args.rest.now) side.0 side.1 (omega arith) (subst P e c.requires.near)

pub overflow_add-at : goal.overflow_add-at
overflow_add-at g c = record {
  fits =
      let e : c.args.rest.now ≡ first_axis c.args.rest.now ∷ [] = only_axis c.args.rest.now (omega arith) in
      let side = c.if-not-are_side_by_side.ensures refl in
      let P : List Axis → Type 0 = λ xs. reach_of c.args.at (c.args.axis.now ∷ xs) < 2 ^ 63 in
      let near = fours_near (2 ^ 63) c.args.at c.loop-row.row c.args.axis.now (first_axis c.args.rest.now) side.0 side.1 (omega arith) (subst P e c.requires.near) in
      omega (arith, near);
}

pub returns-clause-rows : goal.returns-clause-rows
returns-clause-rows g c = λ d. c.loop-row.invariant.so_far d
