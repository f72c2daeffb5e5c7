use Rattle.std.proofs.Common.{◌≡◌, ℕ, ◌<◌, Bool, true, cond, List, length, ap, sym, ◌∙◌, Option, Ok}
use Rattle.std.specs.List.{All}
use Rattle.apl_arrays.specs.Cells.{Arr, Items}
use Rattle.apl_arrays.specs.Checks.{count_of}
use Rattle.apl_arrays.specs.Written.{elements_written, with_elements, AreEnough}
use Rattle.apl_select.specs.Assignment.{assigned}
use Rattle.apl_select.specs.inside.Written.{overwritten}
use Rattle.apl_select.proofs.Writing.{with_is_put}
use Rattle.apl_select.proofs.assignment.elements_assigned.Goals as goal

-- what writing in place has made
assigned_in_place : (v b new : Arr) (slots : List (Option Arr)) (origin : ℕ) (places sent-to : List ℕ) (sent : Items) (done : Bool) →
    assigned v slots b origin ≡ Ok (overwritten v b places) → All (λ q. q < count_of v) places → AreEnough (count_of b) (length places) → sent-to ≡ places → sent ≡ b.items → done ≡ true →
    new ≡ cond done (elements_written v sent-to sent) v → assigned v slots b origin ≡ Ok new
assigned_in_place v b new slots origin places sent-to sent done a w e p s d n =
    a ∙ ap (λ (x : Arr). Ok x) (sym made)
  where
    made : new ≡ overwritten v b places
    made =
        n
        ∙ ap (λ (t : Bool). cond t (elements_written v sent-to sent) v) d
        ∙ ap (λ (q : List ℕ). elements_written v q sent) p
        ∙ ap (λ (t : Items). record { shape = v.shape; items = t }) (ap (λ (t : Items). with_elements v.items places t) s ∙ with_is_put v.items b.items places w e)

pub returns-then-write-clause-value : goal.returns-then-write-clause-value
returns-then-write-clause-value c =
    assigned_in_place c.args.array.now c.args.value.now c.write.new.self c.args.slots.now c.args.origin c.in_ok-places.places.items c.as_slice.result.now _ c.write.result
    c.in_ok-places.ensures.value c.in_ok-places.ensures.within c.in_ok-places.ensures.enough c.as_slice.ensures.value c.items.ensures.value c.if-write.true c.write.ensures
