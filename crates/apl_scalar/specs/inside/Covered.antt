-- There is a number for each place, or there is not, in one way.
use Rattle.std.specs.Prelude.{ℕ}
use Rattle.std.proofs.Props.{props}
use Rattle.apl_scalar.specs.Operands.{Shown, Same, Each, Covers}

pub Covers-prop : (a : Shown) (n : ℕ) → IsProp (Covers a n)
Covers-prop (Same x) n = Prim.hlevel props
Covers-prop (Each xs) n = Prim.hlevel props
