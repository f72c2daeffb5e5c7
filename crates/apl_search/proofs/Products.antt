-- How large products of two numbers of 64 bits are.
use Rattle.std.proofs.Common.{ℕ, suc, ℤ, pos, negsuc, ◌+ℤ◌, ◌*ℤ◌, ◌*◌, ◌≤◌, ◌^◌, FitsSigned, arith}
use Rattle.std.specs.Int.{w64}
use Rattle.std.proofs.Math.Nat.{mul-le-mul_left}
use Rattle.std.proofs.lemmas.Int.{ints}
use mir.Syntax.{w128}
use mir.Val.{SFits}

pub least : (m n : ℕ) → m ≤ 2 ^ 63 → n ≤ 2 ^ 63 → m * n ≤ 2 ^ 126
least m n h k =
    let first : m * n ≤ m * (2 ^ 63) = mul-le-mul_left m k in
    omega arith

-- the product and a third such number fit 128 bits together
pub sum_fits : (x y z : ℤ) → FitsSigned w64 x → FitsSigned w64 y → FitsSigned w64 z → SFits w128 (x *ℤ y +ℤ z)
sum_fits (pos m) (pos n) z f g h = let p = least m n (omega (arith, ints)) (omega (arith, ints)) in omega (arith, ints)
sum_fits (pos m) (negsuc n) z f g h = let p = least m (suc n) (omega (arith, ints)) (omega (arith, ints)) in omega (arith, ints)
sum_fits (negsuc m) (pos n) z f g h = let p = least (suc m) n (omega (arith, ints)) (omega (arith, ints)) in omega (arith, ints)
sum_fits (negsuc m) (negsuc n) z f g h = let p = least (suc m) (suc n) (omega (arith, ints)) (omega (arith, ints)) in omega (arith, ints)
