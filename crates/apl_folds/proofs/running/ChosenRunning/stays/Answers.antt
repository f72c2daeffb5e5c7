use Rattle.std.proofs.Common.{◌≡◌, ◌≤◌, ◌∷◌, [], ℤ, pos, get_or, Ok, ap, sym, ◌∙◌, subst, arith, refl}
use Rattle.std.proofs.lemmas.Bool.{and_parts}
use Rattle.apl_folds.specs.inside.Prefixes.{Stays}
use Rattle.apl_scalar.proofs.OfLanes.{number_of_item}
use Rattle.apl_folds.proofs.InQuarters.{fold_parts}
use Rattle.apl_folds.proofs.Runs.{same_number}
use Rattle.apl_folds.proofs.Told.{one_more}
use Rattle.apl_folds.proofs.running.ChosenRunning.stays.Goals as goal

pub loop-at-init : goal.loop-at-init
loop-at-init g c = λ e at below above. absurd (omega (arith, below, above))

pub loop-at-preserved : goal.loop-at-preserved
loop-at-preserved g c = λ e.
    let both = and_parts c.loop-at.all c.equals-all.result e in
    let fold : ℤ = g.L.Lane.value c.args.fold in
    let item : ℤ = g.L.Lane.value c.index-numbers-at.result in
    let zs = g.L.Lane.numbers c.args.numbers.now in
    let chosen : g.C.Scalar.meaning fold item ≡ Ok fold = c.of.ensures ∙ ap (λ (z : ℤ). Ok z) (same_number (g.L.Lane.value c.of.result) fold (sym c.equals-all.ensures ∙ both.1)) in
    let Kept : ℤ → Type 0 = λ z. Stays g.C.Scalar.meaning fold z in
    let here : Kept item = λ xs told. fold_parts g.C.Scalar.meaning g.met.C.Choice.associative xs (item ∷ []) fold item fold told refl chosen in
    one_more (λ at. c.args.from ≤ at → Kept (get_or zs at (pos 0))) c.loop-at.at
    (λ above. subst Kept (sym (number_of_item g.L.Lane.value g.L.Lane.numbers g.met.L.Lane.each c.args.numbers.now c.loop-at.at c.index-numbers-at.result (omega (arith, c.loop-at-test.true, c.requires)) c.index-numbers-at.is)) here)
    (c.loop-at.invariant both.0)

pub returns : goal.returns
returns g c = λ e at above below. c.loop-at.invariant e at (omega (arith, below, c.loop-at-test.false)) above
