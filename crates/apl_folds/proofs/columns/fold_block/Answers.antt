use Rattle.std.proofs.Common.{rules, arith, ◌≤ℤ◌, ◌<◌, ◌-◌, ◌+◌, ℤ, List, pos, length, get_or, Ok, ap, sym, ◌∙◌, w64, ℕ}
use Rattle.std.proofs.lemmas.Int.{to_z-of_z}
use mir.Val.{SFits}
use Rattle.apl_folds.specs.Lines.{line_of}
use Rattle.apl_folds.proofs.Rights.{fold_last, one_before}
use Rattle.apl_folds.proofs.Rows.{length-line, line_at, all_placed, first_near}
use Rattle.apl_folds.proofs.columns.fold_block.Goals as goal

pub fold_fours-flags-requires-clause-last : goal.fold_fours-flags-requires-clause-last
fold_fours-flags-requires-clause-last g c =
    λ j h.
    let line : List ℤ = line_of (pos 0) (g.L.Lane.numbers c.args.numbers.now) c.args.axis.now (c.args.at + j) c.args.count in
    let within : j < length c.args.folds.now = search rules in
    let some = (c.requires.lines j within).some in
    fold_last g.S.Step.meaning line (c.args.count - 1) (omega (arith, some, length-line (pos 0) (g.L.Lane.numbers c.args.numbers.now) c.args.axis.now (c.args.at + j) c.args.count))
    ∙ ap (λ (x : ℤ). Ok x) (line_at (pos 0) (g.L.Lane.numbers c.args.numbers.now) c.args.axis.now (c.args.at + j) c.args.count (c.args.count - 1) (omega (arith, some))
    ∙ sym (c.beside.ensures.numbers j within)
    ∙ ap (λ (l : List ℤ). get_or l j (pos 0)) (sym c.convert.ensures))

pub loop-k-init : goal.loop-k-init
loop-k-init g c =
    λ z j h.
    let fits : SFits w64 c.fold_fours-flags.result.0 = search rules in
    let raised : pos 0 ≤ℤ c.fold_fours-flags.result.0 = simp to_z-of_z at z in
    c.fold_fours-flags.ensures.folds raised j h

pub beside-requires-in-loop-k-clause-placed : goal.beside-requires-in-loop-k-clause-placed
beside-requires-in-loop-k-clause-placed g c =
    λ j h.
    let within : j < length c.args.folds.now = search rules in
    let line = c.requires.lines j within in
    line.placed (c.loop-k.k - 1) (omega (arith, line.within))

pub loop-k-preserved : goal.loop-k-preserved
loop-k-preserved g c =
    λ z j h.
    let line : List ℤ = line_of (pos 0) (g.L.Lane.numbers c.args.numbers.now) c.args.axis.now (c.args.at + j) c.args.count in
    let within : j < length c.args.folds.now = search rules in
    let here : j < length c.loop-k.folds = search rules in
    let fits : SFits w64 c.either-flags.result = search rules in
    let fits_flag : SFits w64 c.take_row-flag.result = search rules in
    let raised : pos 0 ≤ℤ c.either-flags.result = simp to_z-of_z at z in
    let both = c.either-flags.ensures.neither raised in
    let fresh : pos 0 ≤ℤ c.take_row-flag.result = simp to_z-of_z at both.1 in
    one_before g.S.Step.meaning g.S.Step.room g.met.S.Step.shorter line c.loop-k.k _ (get_or c.loop-k.folds j (pos 0)) _ (omega arith) (omega (arith, length-line (pos 0) (g.L.Lane.numbers c.args.numbers.now) c.args.axis.now (c.args.at + j) c.args.count))
    (line_at (pos 0) (g.L.Lane.numbers c.args.numbers.now) c.args.axis.now (c.args.at + j) c.args.count (c.loop-k.k - 1) (omega arith) ∙ sym (c.beside-in-loop-k.ensures.numbers j here))
    (c.requires.room j within) (c.loop-k.invariant both.0 j h) (c.take_row-flag.ensures fresh j here)

count_before : (count : ℕ) → 0 < count → count - 1 < count
count_before count h = omega arith

pub beside-requires-clause-placed : goal.beside-requires-clause-placed
beside-requires-clause-placed g c =
    let first = c.requires.lines 0 c.requires.some in
    all_placed (length c.args.numbers.now) c.args.axis.now c.args.at (length c.args.folds.now) c.args.count (c.args.count - 1) (count_before c.args.count first.some) c.requires.lines

pub beside-requires-clause-near : goal.beside-requires-clause-near
beside-requires-clause-near g c = first_near (length c.args.numbers.now) c.args.axis.now c.args.at (length c.args.folds.now) c.args.count c.requires.some c.requires.lines

pub beside-requires-in-loop-k-clause-near : goal.beside-requires-in-loop-k-clause-near
beside-requires-in-loop-k-clause-near g c = first_near (length c.args.numbers.now) c.args.axis.now c.args.at (length c.args.folds.now) c.args.count c.requires.some c.requires.lines

pub fold_fours-flags-requires-clause-lines : goal.fold_fours-flags-requires-clause-lines
fold_fours-flags-requires-clause-lines g c =
    λ j h.
    let within : j < length c.args.folds.now = search rules in
    c.requires.lines j within

pub fold_fours-flags-requires-clause-room : goal.fold_fours-flags-requires-clause-room
fold_fours-flags-requires-clause-room g c =
    λ j h.
    let within : j < length c.args.folds.now = search rules in
    c.requires.room j within

pub convert-requires-clause-fits : goal.convert-requires-clause-fits
convert-requires-clause-fits g c = λ z h fits. g.met.L.Lane.bounded z fits
