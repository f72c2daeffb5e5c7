use Rattle.std.proofs.Common.{◌≡◌, ℕ, List, length, Result, Ok, subst, ap, sym, ◌∙◌}
use Rattle.std.specs.List.{All}
use Rattle.apl_select.specs.inside.Laying.{IsBelow}
use Rattle.apl_arrays.specs.Cells.{Arr, Items, cells_of}
use Rattle.apl_arrays.specs.Checks.{limited}
use Rattle.apl_arrays.specs.Ravels.{items_of}
use Rattle.apl_arrays.specs.Results.{ok_map}
use Rattle.apl_faults.specs.declared.fault.Fault.{Fault}
use Rattle.apl_select.specs.Lined.{laid}
use Rattle.apl_arrays.specs.Index.{size_of, indices}
use Rattle.apl_arrays.specs.Left.{listed}
use Rattle.apl_arrays.specs.Views.{on_axis}
use Rattle.apl_arrays.proofs.Order.{length-indices}
use Rattle.apl_select.proofs.Laying.{layout_size, length-filled, made_laid, source_of}
use Rattle.apl_select.proofs.lines.laid.Goals as goal

pub made_by-requires : goal.made_by-requires
made_by-requires c =
    let l = c.layout_of.ensures in
    let P : ℕ → Type 0 = λ n. All (IsBelow n) c.args.places.now in
    record {
      whole =
          c.requires.full ∙ layout_size c.args.shape.now c.args.axis c.layout_of.result.planes c.layout_of.result.length c.layout_of.result.block c.requires.axis l.planes l.length l.block;
      near = l.near;
      places = subst P (sym l.length) c.requires.places;
    }

pub in_shape-requires-clause-full : goal.in_shape-requires-clause-full
in_shape-requires-clause-full c =
    ap (λ (t : Items). length (cells_of t)) (
    let l = c.layout_of.ensures in
    c.in_ok-ravel.ensures
    ∙ made_laid (listed c.args.items) c.args.shape.now c.args.axis c.layout_of.result.planes c.layout_of.result.length c.layout_of.result.block c.args.places.now c.requires.axis l.planes l.length l.block)
    ∙ length-filled (listed c.args.items) (source_of c.args.shape.now c.args.axis c.args.places.now) (indices (on_axis c.args.axis (λ n. length c.args.places.now) c.args.shape.now))
    ∙ length-indices (on_axis c.args.axis (λ n. length c.args.places.now) c.args.shape.now)
    ∙ sym (ap size_of (c.as_slice-3.ensures.value ∙ c.in_ok-lengths.ensures))

pub returns : goal.returns
returns c =
    let l = c.layout_of.ensures in
    let array : Arr = record { shape = c.args.shape.now; items = listed c.args.items } in
    let lengths : List ℕ = on_axis c.args.axis (λ n. length c.args.places.now) c.args.shape.now in
    let made : items_of c.in_ok-ravel.ravel ≡ (laid c.args.axis c.args.places.now array).items =
    c.in_ok-ravel.ensures
    ∙ made_laid (listed c.args.items) c.args.shape.now c.args.axis c.layout_of.result.planes c.layout_of.result.length c.layout_of.result.block c.args.places.now c.requires.axis l.planes l.length l.block in
    let shape : c.as_slice.result.now ≡ lengths = c.as_slice.ensures.value ∙ c.in_ok-lengths.ensures in
    let fits : limited lengths ≡ Ok c.as_slice.result.now = ap limited (sym shape) ∙ c.in_ok-within_limits.ensures in
    ap (ok_map (λ (s : List ℕ). laid c.args.axis c.args.places.now array)) fits
    ∙ ap (λ (a : Arr). let r : Result Arr Fault = Ok a in r)
    (sym
    (c.in_ok-in_shape.ensures.value
    ∙ ap (λ (s : List ℕ). record { shape = s; items = items_of c.in_ok-ravel.ravel }) (c.as_slice-3.ensures.value ∙ c.in_ok-lengths.ensures)
    ∙ ap (λ (t : Items). record { shape = lengths; items = t }) made))
