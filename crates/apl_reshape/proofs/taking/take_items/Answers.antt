use Rattle.std.proofs.Common.{◌≡◌, ℕ, ℤ, List, ap, sym, ◌∙◌, length, map, unsigned_abs, arith, Ok}
use Rattle.apl_arrays.specs.Cells.{Items, cells_of}
use Rattle.apl_arrays.specs.Index.{bound_of}
use Rattle.apl_arrays.specs.Left.{listed}
use Rattle.apl_arrays.specs.Numbers.{values}
use Rattle.apl_arrays.specs.Ravels.{items_of}
use Rattle.apl_reshape.specs.Take.{fits_axes, named_counts, with_axes}
use Rattle.apl_reshape.proofs.Limits.{room_axes, small_axes, few_is_enough, length-axes, limited_shape}
use Rattle.apl_reshape.proofs.TakenRows.{length-found, made_taken, taken_as}
use Rattle.apl_reshape.proofs.taking.take_items.Goals as goal

pub made_by-requires : goal.made_by-requires
made_by-requires c =
    let counts = c.as_slice-counts.result.now in
    let same : counts ≡ values c.in_ok-counts_named.field-0 = c.as_slice-counts.ensures.value ∙ c.in_ok-numbers.ensures.value in
    let limits = limited_shape (map unsigned_abs counts) c.in_ok-lengths.lengths.items c.in_ok-lengths.ensures in
    let wanted : c.as_slice-wanted.result.now ≡ map unsigned_abs counts = c.as_slice-wanted.ensures.value ∙ limits.0 in
    record {
      axes =
          ap length (c.as_slice.ensures.value ∙ c.axes_of-shape.ensures)
          ∙ length-axes (length counts) c.shape-own.result.now (ap (λ (zs : List ℤ). fits_axes (length zs) c.shape-own.result.now) same ∙ c.in_ok-counts_named.ensures.fits);
      lengths = wanted;
      room =
          few_is_enough _ _
          (room_axes c.args.b.now (length counts) c.as_slice.result.now c.axes_of-shape.result.items c.shape-own.result.now (listed c.items.result)
          c.as_slice.ensures.value c.axes_of-shape.ensures c.shape-own.ensures.value c.items.ensures.value c.items.ensures.full);
      shape_small =
          small_axes c.args.b.now (length counts) c.as_slice.result.now c.axes_of-shape.result.items c.shape-own.result.now
          c.as_slice.ensures.value c.axes_of-shape.ensures c.shape-own.ensures.value c.shape-own.ensures.array.small;
      small = omega (arith, ap bound_of wanted, limits.1);
    }

pub in_shape-requires-clause-full : goal.in_shape-requires-clause-full
in_shape-requires-clause-full c =
    ap (λ (m : Items). length (cells_of m)) (c.in_ok-ravel.ensures ∙ made_taken c.as_slice.result.now c.as_slice-counts.result.now c.as_slice-wanted.result.now (listed c.items.result))
    ∙ length-found _ _ _ c.as_slice-wanted.result.now

pub returns-clause-value : goal.returns-clause-value
returns-clause-value c =
    let counts = c.as_slice-counts.result.now in
    let same : counts ≡ values c.in_ok-counts_named.field-0 = c.as_slice-counts.ensures.value ∙ c.in_ok-numbers.ensures.value in
    taken_as c.args.a.now c.args.b.now c.in_ok-in_shape.field-0 c.as_slice-counts.result.now c.as_slice.result.now c.as_slice-wanted.result.now (listed c.items.result) (items_of c.in_ok-ravel.ravel)
    (ap (named_counts c.args.a.now) (sym c.shape-own.ensures.value) ∙ c.in_ok-counts_named.ensures.value ∙ ap (λ (zs : List ℤ). Ok zs) (sym same))
    (c.in_ok-lengths.ensures ∙ ap (λ (l : List ℕ). Ok l) (sym c.as_slice-wanted.ensures.value))
    (c.as_slice.ensures.value ∙ c.axes_of-shape.ensures ∙ ap (with_axes (length counts)) c.shape-own.ensures.value)
    c.items.ensures.value c.in_ok-ravel.ensures c.in_ok-in_shape.ensures.value
