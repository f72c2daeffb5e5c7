use Rattle.std.proofs.Common.{◌≡◌, ℕ, List, length, ap, sym, ◌∙◌, Result, Ok, Err}
use Rattle.apl_faults.specs.declared.fault.Fault.{Fault}
use Rattle.apl_arrays.specs.Cells.{Items, cells_of}
use Rattle.apl_arrays.specs.Checks.{limited}
use Rattle.apl_arrays.specs.Index.{size_of, indices, position_in}
use Rattle.apl_arrays.specs.Left.{listed}
use Rattle.apl_arrays.specs.Ravels.{items_of}
use Rattle.apl_arrays.specs.Results.{and_then, ok_map}
use Rattle.apl_arrays.specs.Views.{selected}
use Rattle.apl_arrays.proofs.Order.{length-indices}
use Rattle.apl_select.specs.Indexing.{Places, items_led_to, joined_shape, led_to, slots_fit}
use Rattle.apl_arrays.specs.declared.stop.Stop.{Stop}
use Rattle.apl_arrays.specs.Answers.{FaultsFirst}
use Rattle.apl_select.proofs.Indexes.{length-picked, index_shaped}
use Rattle.apl_select.proofs.indexing.elements_led_to.Goals as goal

fault_or_not : {A B C : Type 0} (m : Result A Fault) (r : Result B Stop) (x : B) (y : C) → r ≡ Ok x → FaultsFirst m r → FaultsFirst m (Ok y)
fault_or_not (Ok a) r x y e h = tt
fault_or_not (Err f) r x y e h = absurd (cc)

pub in_shape-requires-clause-full : goal.in_shape-requires-clause-full
in_shape-requires-clause-full c =
    ap (λ (t : Items). length (cells_of t)) c.in_ok-ravel.ensures
    ∙ length-picked (listed c.items.result) (λ i. position_in c.shape.result.now (led_to c.as_slice-4.result.now i)) (indices (joined_shape c.as_slice-4.result.now))
    ∙ length-indices (joined_shape c.as_slice-4.result.now)
    ∙ ap (λ (ps : List Places). size_of (joined_shape ps)) (c.as_slice-4.ensures.value ∙ sym c.as_slice.ensures.value)
    ∙ sym (ap size_of (c.as_slice-5.ensures.value ∙ c.in_ok-shape.ensures))

pub returns-clause-value : goal.returns-clause-value
returns-clause-value c =
    let shape : c.as_slice-5.result.now ≡ joined_shape c.in_ok-picks.picks.items = c.as_slice-5.ensures.value ∙ c.in_ok-shape.ensures ∙ ap joined_shape c.as_slice.ensures.value in
    let items : items_of c.in_ok-ravel.ravel ≡ items_led_to c.args.b.now.items c.args.b.now.shape c.in_ok-picks.picks.items =
    c.in_ok-ravel.ensures
    ∙ ap (λ (ps : List Places). items_led_to (listed c.items.result) c.shape.result.now ps) c.as_slice-4.ensures.value
    ∙ ap (λ (s : List ℕ). items_led_to (listed c.items.result) s c.in_ok-picks.picks.items) c.shape.ensures.value
    ∙ ap (λ (t : Items). items_led_to t c.args.b.now.shape c.in_ok-picks.picks.items) c.items.ensures.value in
    let fits : limited c.as_slice-5.result.now ≡ Ok c.as_slice-5.result.now = ap limited (c.as_slice-5.ensures.value ∙ sym c.as_slice-2.ensures.value) ∙ c.in_ok-within_limits.ensures ∙ ap (λ (s : List ℕ). Ok s) (c.as_slice-2.ensures.value ∙ sym c.as_slice-5.ensures.value) in
    ap (λ (m : Result (List Places) Fault). and_then m (λ ps. ok_map (λ s. selected c.args.b.now s (led_to ps)) (limited (joined_shape ps))))
    c.in_ok-picks.ensures.value
    ∙ index_shaped c.args.b.now c.in_ok-picks.picks.items c.as_slice-5.result.now (items_of c.in_ok-ravel.ravel) c.in_ok-in_shape.field-0 shape items fits c.in_ok-in_shape.ensures.value

pub returns-clause-at_once : goal.returns-clause-at_once
returns-clause-at_once c =
    fault_or_not (slots_fit c.args.b.now c.args.slots.now) c.picks_of.result c.in_ok-picks.picks c.in_ok-in_shape.field-0 c.in_ok-picks.was c.picks_of.ensures.at_once

pub read-requires-clause-full : goal.read-requires-clause-full
read-requires-clause-full c = ap (λ (t : Items). length (cells_of t)) c.items.ensures.value ∙ c.items.ensures.full ∙ sym (ap size_of c.shape.ensures.value)
