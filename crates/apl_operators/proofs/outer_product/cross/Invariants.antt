use Rattle.std.proofs.Common.{◌≡◌, ◌-◌, ◌*◌, length}
use Rattle.std.specs.List.{range_with_len}
use Rattle.apl_arrays.specs.Results.{all_ok}
use Rattle.apl_arrays.proofs.InTurn.{after}
use Rattle.apl_operators.specs.Places.{crossed}
use Rattle.apl_operators.proofs.outer_product.cross.Given as goal

-- the values so far and those of the rows to come are all the values
abbrev pub invariant-loop-i : goal.invariant-loop-i
invariant-loop-i g l =
    after l.out.items (all_ok (crossed g.F.Attempt.meaning l.xs l.ys) (range_with_len (l.i * length l.ys) (length l.xs * length l.ys - l.i * length l.ys)))
    ≡ all_ok (crossed g.F.Attempt.meaning l.xs l.ys) (range_with_len 0 (length l.xs * length l.ys))
