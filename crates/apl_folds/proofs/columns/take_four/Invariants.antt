use Rattle.std.proofs.Common.{◌≡◌, ℕ, ◌<◌, ◌≤◌, ◌≤ℤ◌, ◌∷◌, ℤ, List, pos, get_or, Ok}
use Rattle.apl_folds.specs.Lines.{fold_by}
use Rattle.apl_folds.proofs.columns.take_four.Given as goal

-- while no flag is raised, each number so far is the value, and those to come stand as they were
abbrev pub invariant-loop-j : goal.invariant-loop-j
invariant-loop-j g l =
    let f = g.S.Step.meaning in
    let four : ℕ → List ℤ → List ℤ =
    λ k rest. get_or (g.L.Lane.numbers l.first) k (pos 0) ∷ get_or (g.L.Lane.numbers l.second) k (pos 0) ∷ get_or (g.L.Lane.numbers l.third) k (pos 0) ∷ get_or (g.L.Lane.numbers l.fourth) k (pos 0) ∷ rest in
    record {
      so_far : pos 0 ≤ℤ l.flags → (k : ℕ) → k < l.j → (rest : List ℤ) → g.S.Step.room (four k rest) → fold_by f rest ≡ Ok (get_or l.initial.folds k (pos 0)) → fold_by f (four k rest) ≡ Ok (get_or l.folds k (pos 0));
      others : (k : ℕ) → l.j ≤ k → get_or l.folds k (pos 0) ≡ get_or l.initial.folds k (pos 0);
    }
