use Rattle.std.proofs.Common.{Ok, ap, ◌∙◌}
use Rattle.apl_arrays.specs.Cells.{Arr}
use Rattle.apl_arrays.specs.Checks.{count_of}
use Rattle.apl_select.specs.inside.Reached.{led}
use Rattle.apl_select.proofs.Assigned.{assigned_fits}
use Rattle.apl_select.proofs.Fits.{fits_enough}
use Rattle.apl_select.proofs.Writing.{led_inside, enough_led, written_is}
use Rattle.apl_select.proofs.assignment.places_at.Goals as goal

pub returns-clause-value : goal.returns-clause-value
returns-clause-value c =
    assigned_fits c.args.v.now c.args.b.now c.args.picks.now c.args.shape.now _ _ c.size.result c.size.ensures c.items.ensures.value c.items-2.ensures.value c.in_ok-fits_over.ensures c.in_ok-of_one_type.ensures
    ∙ ap (λ (a : Arr). Ok a)
    (written_is c.args.v.now c.args.b.now c.args.picks.now c.in_ok-places.places.items c.requires.on_axes c.items.ensures.full (c.in_ok-places.ensures ∙ ap (λ s. led s c.args.picks.now) c.shape.ensures.value))

pub returns-clause-within : goal.returns-clause-within
returns-clause-within c =
    led_inside c.args.v.now.shape c.args.picks.now c.in_ok-places.places.items (count_of c.args.v.now) c.requires.on_axes (c.in_ok-places.ensures ∙ ap (λ s. led s c.args.picks.now) c.shape.ensures.value) c.items.ensures.full

pub returns-clause-enough : goal.returns-clause-enough
returns-clause-enough c =
    enough_led c.args.v.now.shape c.args.picks.now c.in_ok-places.places.items (count_of c.args.b.now) (c.in_ok-places.ensures ∙ ap (λ s. led s c.args.picks.now) c.shape.ensures.value)
    (fits_enough c.args.shape.now _ c.args.b.now c.items-2.ensures.full c.in_ok-fits_over.ensures c.requires.joined)
