use Rattle.std.proofs.Common.{length, ap, sym, ◌∙◌}
use Rattle.apl_arrays.specs.Cells.{Items, cells_of}
use Rattle.apl_arrays.specs.Index.{size_of}
use Rattle.apl_arrays.specs.Left.{listed}
use Rattle.apl_arrays.specs.Numbers.{values}
use Rattle.apl_arrays.proofs.InTurn.{length-all_ok}
use Rattle.apl_select.specs.Indexing.{place_numbered}
use Rattle.apl_select.proofs.Picking.{numbers_length, places_below, whole_full, whole_within}
use Rattle.apl_select.proofs.slots.pick.Goals as goal

pub returns-clause-full : goal.returns-clause-full
returns-clause-full c =
    length-all_ok (place_numbered c.args.len c.args.origin) (values c.in_ok-numbers.numbers) c.in_ok-places.places.items c.in_ok-places.ensures
    ∙ numbers_length (listed c.items.result) (values c.in_ok-numbers.numbers) c.in_ok-numbers.ensures
    ∙ ap (λ (t : Items). length (cells_of t)) c.items.ensures.value ∙ c.items.ensures.full
    ∙ sym (ap size_of (c.in_ok-shape.ensures.items ∙ c.shape.ensures.value))

pub returns-clause-within : goal.returns-clause-within
returns-clause-within c = places_below c.args.len c.args.origin (values c.in_ok-numbers.numbers) c.in_ok-places.places.items c.in_ok-places.ensures

pub returns-in_default-clause-full : goal.returns-in_default-clause-full
returns-in_default-clause-full c = whole_full c.in_ok-whole_axis.field-0 c.args.len c.in_ok-whole_axis.ensures

pub returns-in_default-clause-within : goal.returns-in_default-clause-within
returns-in_default-clause-within c = whole_within c.in_ok-whole_axis.field-0 c.args.len c.in_ok-whole_axis.ensures
