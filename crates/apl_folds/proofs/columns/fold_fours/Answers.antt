use Rattle.std.proofs.Common.{rules, arith, ◌≡◌, ◌≤ℤ◌, ◌<◌, ◌-◌, ◌+◌, ℕ, ℤ, List, pos, length, get_or, drop, ap, sym, ◌∙◌, w64, ◌≤◌}
use Rattle.std.proofs.lemmas.Int.{to_z-of_z}
use mir.Val.{SFits}
use Rattle.apl_folds.specs.Lines.{fold_by, line_of}
use Rattle.apl_folds.proofs.Rights.{four_before}
use Rattle.apl_folds.proofs.Rows.{length-line, line_at, all_placed, first_near}
use Rattle.apl_folds.proofs.columns.fold_fours.Goals as goal

pub loop-left-preserved : goal.loop-left-preserved
loop-left-preserved g c =
    let few : c.loop-left.left - 4 + 4 < c.args.count = omega (arith, c.loop-left.invariant.few) in
    record {
      few = omega (arith, c.loop-left.invariant.few);
      size = search rules;
      so_far =
          λ z j h.
          let line : List ℤ = line_of (pos 0) (g.L.Lane.numbers c.args.numbers.now) c.args.axis.now (c.args.at + j) c.args.count in
          let within : j < length c.args.folds.now = search rules in
          let here : j < length c.loop-left.folds = search rules in
          let fits : SFits w64 c.either-flags.result = search rules in
          let fits_flag : SFits w64 c.take_four-flag.result = search rules in
          let raised : pos 0 ≤ℤ c.either-flags.result = simp to_z-of_z at z in
          let both = c.either-flags.ensures.neither raised in
          let fresh : pos 0 ≤ℤ c.take_four-flag.result = simp to_z-of_z at both.1 in
          let back : c.loop-left.left - 4 + 4 ≡ c.loop-left.left = omega arith in
          four_before g.S.Step.meaning g.S.Step.room g.met.S.Step.shorter line (c.loop-left.left - 4) _ _ _ _ (get_or c.loop-left.folds j (pos 0)) _ (omega (arith, few, length-line (pos 0) (g.L.Lane.numbers c.args.numbers.now) c.args.axis.now (c.args.at + j) c.args.count))
          (line_at (pos 0) (g.L.Lane.numbers c.args.numbers.now) c.args.axis.now (c.args.at + j) c.args.count (c.loop-left.left - 4) (omega (arith, few)) ∙ sym (c.beside.ensures.numbers j within))
          (line_at (pos 0) (g.L.Lane.numbers c.args.numbers.now) c.args.axis.now (c.args.at + j) c.args.count (c.loop-left.left - 4 + 1) (omega (arith, few)) ∙ sym (c.beside-in-loop-left.ensures.numbers j within))
          (line_at (pos 0) (g.L.Lane.numbers c.args.numbers.now) c.args.axis.now (c.args.at + j) c.args.count (c.loop-left.left - 4 + 2) (omega (arith, few)) ∙ sym (c.beside-in-loop-left-2.ensures.numbers j within))
          (line_at (pos 0) (g.L.Lane.numbers c.args.numbers.now) c.args.axis.now (c.args.at + j) c.args.count (c.loop-left.left - 4 + 3) (omega (arith, few)) ∙ sym (c.beside-in-loop-left-3.ensures.numbers j within))
          (c.requires.room j within)
          (ap (λ (m : ℕ). fold_by g.S.Step.meaning (drop m line)) back ∙ c.loop-left.invariant.so_far both.0 j here)
          (c.take_four-flag.ensures fresh j here);
    }

few_rows : (left count i : ℕ) → 4 ≤ left → left < count → i ≤ 3 → left - 4 + i < count
few_rows left count i h l m = omega arith

few_first : (left count : ℕ) → left < count → left - 4 < count
few_first left count l = omega arith

pub beside-requires-clause-placed : goal.beside-requires-clause-placed
beside-requires-clause-placed g c = all_placed (length c.args.numbers.now) c.args.axis.now c.args.at (length c.args.folds.now) c.args.count (c.loop-left.left - 4) (few_first c.loop-left.left c.args.count c.loop-left.invariant.few) c.requires.lines

pub beside-requires-clause-near : goal.beside-requires-clause-near
beside-requires-clause-near g c = first_near (length c.args.numbers.now) c.args.axis.now c.args.at (length c.args.folds.now) c.args.count c.requires.some c.requires.lines

pub beside-requires-in-loop-left-clause-placed : goal.beside-requires-in-loop-left-clause-placed
beside-requires-in-loop-left-clause-placed g c = all_placed (length c.args.numbers.now) c.args.axis.now c.args.at (length c.args.folds.now) c.args.count (c.loop-left.left - 4 + 1) (few_rows c.loop-left.left c.args.count 1 c.loop-left-test.true c.loop-left.invariant.few (omega arith)) c.requires.lines

pub beside-requires-in-loop-left-clause-near : goal.beside-requires-in-loop-left-clause-near
beside-requires-in-loop-left-clause-near g c = first_near (length c.args.numbers.now) c.args.axis.now c.args.at (length c.args.folds.now) c.args.count c.requires.some c.requires.lines

pub beside-requires-in-loop-left-2-clause-placed : goal.beside-requires-in-loop-left-2-clause-placed
beside-requires-in-loop-left-2-clause-placed g c = all_placed (length c.args.numbers.now) c.args.axis.now c.args.at (length c.args.folds.now) c.args.count (c.loop-left.left - 4 + 2) (few_rows c.loop-left.left c.args.count 2 c.loop-left-test.true c.loop-left.invariant.few (omega arith)) c.requires.lines

pub beside-requires-in-loop-left-2-clause-near : goal.beside-requires-in-loop-left-2-clause-near
beside-requires-in-loop-left-2-clause-near g c = first_near (length c.args.numbers.now) c.args.axis.now c.args.at (length c.args.folds.now) c.args.count c.requires.some c.requires.lines

pub beside-requires-in-loop-left-3-clause-placed : goal.beside-requires-in-loop-left-3-clause-placed
beside-requires-in-loop-left-3-clause-placed g c = all_placed (length c.args.numbers.now) c.args.axis.now c.args.at (length c.args.folds.now) c.args.count (c.loop-left.left - 4 + 3) (few_rows c.loop-left.left c.args.count 3 c.loop-left-test.true c.loop-left.invariant.few (omega arith)) c.requires.lines

pub beside-requires-in-loop-left-3-clause-near : goal.beside-requires-in-loop-left-3-clause-near
beside-requires-in-loop-left-3-clause-near g c = first_near (length c.args.numbers.now) c.args.axis.now c.args.at (length c.args.folds.now) c.args.count c.requires.some c.requires.lines
