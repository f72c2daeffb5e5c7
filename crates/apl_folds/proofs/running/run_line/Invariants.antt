use Rattle.std.proofs.Common.{◌≡◌, ◌+◌, ◌-◌, ◌<◌, ◌≤◌, length, Ok}
use Rattle.apl_folds.specs.inside.Prefixes.{prefix_fold, ArePrefixes}
use Rattle.apl_folds.proofs.running.run_line.Given as goal

-- the prefixes so far, of which the last is known
abbrev pub invariant-loop-at : goal.invariant-loop-at
invariant-loop-at g l =
    let f = g.R.Running.meaning in
    let zs = g.L.Lane.numbers l.numbers in
    record {
      begun : l.from < l.at;
      within : l.at ≤ l.from + l.axis.length;
      enough : l.at ≤ length l.out.items;
      few : length l.out.items ≤ length l.numbers;
      told : prefix_fold f zs l.axis (l.at - 1) ≡ Ok (g.M.Lane.value l.fold);
      prefixes : ArePrefixes f zs l.axis l.at (g.M.Lane.numbers l.out.items);
    }

abbrev pub decreases-loop-at : goal.decreases-loop-at
decreases-loop-at g l = l.from + l.axis.length - l.at
