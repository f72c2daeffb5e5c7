-- Shapes within the limits.
use Rattle.std.proofs.Common.{◌≡◌, ℕ, ◌*◌, ◌≤◌, Bool, true, false, List, [], ◌∷◌, length, max, Ok, Err, refl, sym, ◌∙◌, arith}
use Rattle.std.specs.Prelude.{nat_le}
use Rattle.std.proofs.Math.Nat.{mul-le-mul_right}
use Rattle.std.proofs.lemmas.Bool.{leb-true}
use Rattle.apl_faults.specs.declared.fault.Fault.TheVariants.{Limit}
use Rattle.apl_arrays.specs.Index.{bound_of}
use Rattle.apl_arrays.specs.Checks.{limited}
use Rattle.apl_search.specs.Decoded.{shape_behind}

-- a shape that an array may have is within the limits
pub limits : (s t : List ℕ) → limited s ≡ Ok t → (length s ≤ 8) × (bound_of s ≤ 1000000)
limits s t e = each (nat_le (length s) 8) (nat_le (bound_of s) 1000000) refl refl
  where
    each : (p q : Bool) → nat_le (length s) 8 ≡ p → nat_le (bound_of s) 1000000 ≡ q → (length s ≤ 8) × (bound_of s ≤ 1000000)
    each true true ep eq = (leb-true (length s) 8 ep, leb-true (bound_of s) 1000000 eq)
    each true false ep eq = absurd (let bad : Err Limit ≡ Ok t = sym (simp (ep, eq)) ∙ e in cc)
    each false q ep eq = absurd (let bad : Err Limit ≡ Ok t = sym (simp ep) ∙ e in cc)

-- and so is what is left of it behind the first axis
pub few_behind : (s : List ℕ) → length s ≤ 8 → length (shape_behind s) ≤ 8
few_behind [] h = h
few_behind (n ∷ ns) h = omega arith

pub small_behind : (s : List ℕ) → bound_of s ≤ 1000000 → bound_of (shape_behind s) ≤ 1000000
small_behind [] h = h
small_behind (n ∷ ns) h = let less : 1 * bound_of ns ≤ max n 1 * bound_of ns = mul-le-mul_right (bound_of ns) (omega arith) in omega arith
