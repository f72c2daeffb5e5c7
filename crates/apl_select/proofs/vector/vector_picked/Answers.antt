use Rattle.std.proofs.Common.{ℕ, List, length, ap, sym, ◌∙◌}
use Rattle.apl_arrays.specs.Cells.{Items, cells_of}
use Rattle.apl_arrays.specs.Checks.{numbers_of}
use Rattle.apl_arrays.specs.Index.{size_of}
use Rattle.apl_arrays.specs.Left.{listed}
use Rattle.apl_arrays.specs.Numbers.{values}
use Rattle.apl_arrays.specs.Ravels.{items_of}
use Rattle.apl_arrays.specs.Results.{all_ok, ok_map}
use Rattle.apl_select.specs.Indexing.{place_numbered}
use Rattle.apl_select.specs.inside.Numbered.{at_places}
use Rattle.apl_select.proofs.Picking.{numbers_length}
use Rattle.apl_select.proofs.Vectors.{length-read, vector_indexed}
use Rattle.apl_select.proofs.vector.vector_picked.Goals as goal

pub in_shape-requires-clause-full : goal.in_shape-requires-clause-full
in_shape-requires-clause-full c =
    length-read (listed c.items-items.result) (length (cells_of (listed c.items-items.result))) c.args.origin (values c.in-Ok.numbers) (items_of c.in-Some.ravel) (rw c.in-Some.is at c.in_ok-ravel.ensures)
    ∙ numbers_length (listed c.items.result) (values c.in-Ok.numbers) c.in-Ok.ensures
    ∙ ap (λ (t : Items). length (cells_of t)) c.items.ensures.value ∙ c.items.ensures.full
    ∙ sym (ap size_of c.shape.ensures.value)

pub returns-in_ok-in_shape-in-Some : goal.returns-in_ok-in_shape-in-Some
returns-in_ok-in_shape-in-Some c =
    vector_indexed c.args.b.now c.args.a.now c.args.origin (values c.in-Ok.numbers) (items_of c.in-Some.ravel) c.in_ok-in_shape-in-Some.field-0 c.requires.vector c.items-items.ensures.full c.items.ensures.full
    c.shape.ensures.array.few_axes c.shape.ensures.array.small
    (sym (ap numbers_of c.items.ensures.value) ∙ c.in-Ok.ensures)
    (ap (λ (t : Items). ok_map (at_places t) (all_ok (place_numbered (length (cells_of t)) c.args.origin) (values c.in-Ok.numbers))) (sym c.items-items.ensures.value) ∙ (rw c.in-Some.is at c.in_ok-ravel.ensures))
    (c.in_ok-in_shape-in-Some.ensures.value ∙ ap (λ (s : List ℕ). record { shape = s; items = items_of c.in-Some.ravel }) c.shape.ensures.value)
