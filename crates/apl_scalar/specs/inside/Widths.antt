-- What fits 8 bits fits 32.
use Rattle.std.specs.Prelude.{ℤ, FitsSigned}
use Rattle.std.specs.Int.{w8, w32}
use Rattle.std.proofs.Common.{arith}
use Rattle.std.proofs.lemmas.Int.{ints}

pub more_than_w8 : (z : ℤ) → FitsSigned w8 z → FitsSigned w32 z
more_than_w8 z h = omega (arith, ints)
