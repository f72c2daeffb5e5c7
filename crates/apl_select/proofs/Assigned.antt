-- What indexed assignment answers, check by check.
use Rattle.std.proofs.Common.{◌≡◌, ℕ, ◌==◌, ◌||◌, List, ap, sym, ◌∙◌, Option, Result, Ok}
use Rattle.apl_faults.specs.declared.fault.Fault.{Fault}
use Rattle.apl_faults.specs.declared.fault.Fault.TheVariants.{Domain}
use Rattle.apl_arrays.specs.declared.stop.Stop.{Stop}
use Rattle.apl_arrays.specs.Answers.{Answers}
use Rattle.apl_arrays.specs.Cells.{Arr, Items}
use Rattle.apl_arrays.specs.Checks.{demand, limited}
use Rattle.apl_arrays.specs.Index.{size_of}
use Rattle.apl_arrays.specs.Results.{and_then, ok_map}
use Rattle.apl_arrays.proofs.Exits.{answers_along}
use Rattle.apl_select.specs.Assignment.{assigned, assigned_at, fits_over, same_type, typed, written}
use Rattle.apl_select.specs.Indexing.{Places, joined_shape, slots_of}
use Rattle.apl_select.proofs.Exits.{passed}

typed_as : (v b : Arr) (shape : List ℕ) (to from : Items) (n : ℕ) → n ≡ size_of shape → to ≡ v.items → from ≡ b.items → typed n to from ≡ typed (size_of shape) v.items b.items
typed_as v b shape to from n d e f =
    ap (λ (m : ℕ). typed m to from) d ∙ ap (λ (t : Items). typed (size_of shape) t from) e ∙ ap (λ (t : Items). typed (size_of shape) v.items t) f

-- what fits is written
pub assigned_fits : (v b : Arr) (ps : List Places) (shape : List ℕ) (to from : Items) (n : ℕ) → n ≡ size_of shape → to ≡ v.items → from ≡ b.items → fits_over shape b ≡ Ok tt →
    Ok tt ≡ demand (n == 0 || same_type to from) Domain → assigned_at v ps shape b ≡ Ok (written v ps b)
assigned_fits v b ps shape to from n d e f fits types =
    ap (λ (m : Result (Unit {0}) Fault). and_then m (λ u. ok_map (λ u. written v ps b) (typed (size_of shape) v.items b.items))) fits
    ∙ ap (λ (m : Result (Unit {0}) Fault). ok_map (λ u. written v ps b) m) (sym (types ∙ typed_as v b shape to from n d e f))

-- the slots and the limits passed
pub assigned_passed : {C : Type 0} (view : C → Arr) (v b : Arr) (slots : List (Option Arr)) (origin : ℕ) (ps qs : List Places) (shape : List ℕ) (r : Result C Stop) → slots_of v origin slots ≡ Ok ps → qs ≡ ps →
    shape ≡ joined_shape ps → limited shape ≡ Ok shape → Answers view (assigned_at v qs shape b) r → Answers view (assigned v slots b origin) r
assigned_passed view v b slots origin ps qs shape r e q s l h =
    passed view (slots_of v origin slots) (λ ps. and_then (limited (joined_shape ps)) (λ shape. assigned_at v ps shape b)) ps r e
    (passed view (limited (joined_shape ps)) (λ shape. assigned_at v ps shape b) shape r (ap limited (sym s) ∙ l)
    (answers_along view (assigned_at v ps shape b) (assigned_at v qs shape b) r (ap (λ (z : List Places). assigned_at v z shape b) (sym q)) h))
