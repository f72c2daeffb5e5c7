use Rattle.std.proofs.Common.{rules, arith, ◌-◌, ℤ, List, pos, Ok, ap, sym, ◌∙◌, w64}
use Rattle.std.proofs.lemmas.Int.{to_z-of_z}
use mir.Val.{SFits, to_z}
use Rattle.apl_folds.specs.Lines.{line_of}
use Rattle.apl_folds.proofs.Rights.{fold_last, fold_before, fold_stops}
use Rattle.apl_folds.proofs.Rows.{length-line, line_at}
use Rattle.apl_folds.proofs.line.fold_strided.Goals as goal

pub loop-k-init : goal.loop-k-init
loop-k-init g c =
    let line : List ℤ = line_of (pos 0) (g.L.Lane.numbers c.args.numbers.now) c.args.axis.now c.args.at c.args.count in
    let fits : SFits w64 c.nth-all.result = search rules in
    fold_last g.F.Scalar.meaning line (c.args.count - 1) (omega (arith, length-line (pos 0) (g.L.Lane.numbers c.args.numbers.now) c.args.axis.now c.args.at c.args.count))
    ∙ ap (λ (x : ℤ). Ok x) (line_at (pos 0) (g.L.Lane.numbers c.args.numbers.now) c.args.axis.now c.args.at c.args.count (c.args.count - 1) (omega arith) ∙ sym (to_z-of_z w64 c.nth-all.result fits ∙ c.nth-all.ensures))

pub loop-k-preserved : goal.loop-k-preserved
loop-k-preserved g c =
    let line : List ℤ = line_of (pos 0) (g.L.Lane.numbers c.args.numbers.now) c.args.axis.now c.args.at c.args.count in
    let fits : SFits w64 c.nth.result = search rules in
    let fits_value : SFits w64 c.in-Ok.value = search rules in
    fold_before g.F.Scalar.meaning line c.loop-k.k (to_z w64 c.loop-k.all-bits) c.loop-k-test.true (omega (arith, length-line (pos 0) (g.L.Lane.numbers c.args.numbers.now) c.args.axis.now c.args.at c.args.count)) c.loop-k.invariant
    ∙ ap (λ (x : ℤ). g.F.Scalar.meaning x (to_z w64 c.loop-k.all-bits))
    (line_at (pos 0) (g.L.Lane.numbers c.args.numbers.now) c.args.axis.now c.args.at c.args.count (c.loop-k.k - 1) (omega arith) ∙ sym (to_z-of_z w64 c.nth.result fits ∙ c.nth.ensures))
    ∙ (sym c.apply.ensures ∙ c.in-Ok.is ∙ ap (λ (x : ℤ). Ok x) (sym (to_z-of_z w64 c.in-Ok.value fits_value)))

pub returns-in-Err : goal.returns-in-Err
returns-in-Err g c =
    let line : List ℤ = line_of (pos 0) (g.L.Lane.numbers c.args.numbers.now) c.args.axis.now c.args.at c.args.count in
    let fits : SFits w64 c.nth.result = search rules in
    sym (fold_stops g.F.Scalar.meaning line c.loop-k.k (to_z w64 c.loop-k.all-bits) c.in-Err.fault c.loop-k-test.true (omega (arith, length-line (pos 0) (g.L.Lane.numbers c.args.numbers.now) c.args.axis.now c.args.at c.args.count)) c.loop-k.invariant
    (ap (λ (x : ℤ). g.F.Scalar.meaning x (to_z w64 c.loop-k.all-bits))
    (line_at (pos 0) (g.L.Lane.numbers c.args.numbers.now) c.args.axis.now c.args.at c.args.count (c.loop-k.k - 1) (omega arith) ∙ sym (to_z-of_z w64 c.nth.result fits ∙ c.nth.ensures))
    ∙ sym c.apply.ensures ∙ c.in-Err.is))
