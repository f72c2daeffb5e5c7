-- Elements written at places.
use Rattle.std.proofs.Common.{◌≡◌, ℕ, zero, suc, List, length, get_or, ◌∙◌, refl}
use Rattle.std.proofs.Math.ListN.{length-set}
use Rattle.apl_arrays.specs.Written.{serving, with_items}

-- as many items as before
pub length-with_items : {A : Type 0} (d : A) (xs : List A) (places : List ℕ) (ys : List A) (k : ℕ) → length (with_items d xs places ys k) ≡ length xs
length-with_items d xs places ys zero = refl
length-with_items d xs places ys (suc k) = length-set (with_items d xs places ys k) (get_or places k 0) (get_or ys (serving (length ys) k) d) ∙ length-with_items d xs places ys k
