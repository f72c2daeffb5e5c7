use Rattle.std.proofs.Common.{◌≡◌, ◌-◌, length, Ok}
use Rattle.apl_folds.specs.inside.Prefixes.{prefix_fold, ArePrefixes}
use Rattle.apl_folds.proofs.running.run_block.Given as goal

-- the prefixes so far, of which the last is known
abbrev pub invariant-loop-at : goal.invariant-loop-at
invariant-loop-at g l =
    let f = g.R.Running.meaning in
    let zs = g.L.Lane.numbers l.numbers in
    record {
      size : length l.out ≡ length l.fn.out;
      told : prefix_fold f zs l.fn.axis (l.at - 1) ≡ Ok (g.M.Lane.value l.fold);
      prefixes : ArePrefixes f zs l.fn.axis l.at (g.M.Lane.numbers l.out);
    }
