-- What a chain of checks answers.
use Rattle.std.proofs.Common.{◌≡◌, Result, Ok, Err, ap}
use Rattle.apl_faults.specs.declared.fault.Fault.{Fault}
use Rattle.apl_arrays.specs.declared.stop.Stop.{Stop}
use Rattle.apl_arrays.specs.Answers.{Answers}
use Rattle.apl_arrays.specs.Results.{and_then}
use Rattle.apl_arrays.proofs.Exits.{answers_along}

-- a check that lets something through
pub passed : {A B C : Type 0} (view : C → B) (m : Result A Fault) (f : A → Result B Fault) (x : A) (r : Result C Stop) → m ≡ Ok x → Answers view (f x) r → Answers view (and_then m f) r
passed view m f x r e h = answers_along view (and_then m f) (f x) r (ap (λ m. and_then m f) e) h

-- one that does not
pub and_then_err : {A B : Type 0} (m : Result A Fault) (f : A → Result B Fault) (e : Fault) → m ≡ Err e → and_then m f ≡ Err e
and_then_err m f e h = ap (λ m. and_then m f) h
