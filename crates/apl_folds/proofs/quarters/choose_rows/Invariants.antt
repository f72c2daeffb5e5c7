use Rattle.std.proofs.Common.{◌≡◌, take, Ok}
use Rattle.apl_folds.specs.Lines.{fold_by}
use Rattle.apl_folds.proofs.quarters.choose_rows.Given as goal

-- what was folded so far is the fold of the first numbers
abbrev pub invariant-loop-j : goal.invariant-loop-j
invariant-loop-j g l =
    let f = g.C.Scalar.meaning in
    record {
      first : fold_by f (take l.j (g.L.Lane.numbers l.first)) ≡ Ok (g.L.Lane.value l.one);
      second : fold_by f (take l.j (g.L.Lane.numbers l.second)) ≡ Ok (g.L.Lane.value l.two);
      third : fold_by f (take l.j (g.L.Lane.numbers l.third)) ≡ Ok (g.L.Lane.value l.three);
      fourth : fold_by f (take l.j (g.L.Lane.numbers l.fourth)) ≡ Ok (g.L.Lane.value l.four);
    }
