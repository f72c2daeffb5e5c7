use Rattle.std.proofs.Common.{◌≡◌, ℕ, List, Ok, ap, sym, ◌∙◌, subst}
use Rattle.apl_arrays.specs.Checks.{limited}
use Rattle.apl_select.specs.Indexing.{joined_shape}
use Rattle.apl_select.specs.inside.Written.{overwritten}
use Rattle.apl_select.proofs.Assigned.{assigned_passed}
use Rattle.apl_select.proofs.assignment.places_assigned.Goals as goal

pub places_at-requires-clause-joined : goal.places_at-requires-clause-joined
places_at-requires-clause-joined c = c.as_slice-4.ensures.value ∙ c.in_ok-shape.ensures ∙ ap joined_shape (c.as_slice.ensures.value ∙ sym c.as_slice-3.ensures.value)

pub returns-clause-value : goal.returns-clause-value
returns-clause-value c =
    let shape : c.as_slice-4.result.now ≡ joined_shape c.in_ok-picks.picks.items = c.as_slice-4.ensures.value ∙ c.in_ok-shape.ensures ∙ ap joined_shape c.as_slice.ensures.value in
    let same : c.as_slice-2.result.now ≡ c.as_slice-4.result.now = c.as_slice-2.ensures.value ∙ sym c.as_slice-4.ensures.value in
    let fits : limited c.as_slice-2.result.now ≡ Ok c.as_slice-2.result.now = c.in_ok-within_limits.ensures in
    let P : List ℕ → Type 0 = λ s. limited s ≡ Ok s in
    assigned_passed (λ places. overwritten c.args.v.now c.args.b.now places.items) c.args.v.now c.args.b.now c.args.slots.now c.args.origin c.in_ok-picks.picks.items c.as_slice-3.result.now c.as_slice-4.result.now
    c.places_at.result c.in_ok-picks.ensures.value c.as_slice-3.ensures.value shape (subst P same fits) c.places_at.ensures.value
