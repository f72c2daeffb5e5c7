use Rattle.std.proofs.Common.{rules, arith, ◌-◌, ◌≤◌, ℤ, pos, length, drop, get_or, Ok, ap, sym, ◌∙◌, w64}
use Rattle.std.proofs.lemmas.Int.{to_z-of_z}
use mir.Val.{SFits}
use Rattle.apl_scalar.specs.declared.function.Dyadic.TheVariants as two
use Rattle.apl_scalar.specs.Functions.{dyadic_of}
use Rattle.apl_folds.specs.Lines.{fold_by}
use Rattle.apl_folds.proofs.Rights.{fold_last}
use Rattle.apl_folds.proofs.Totals.{block_before}
use Rattle.apl_folds.proofs.sums.sum_blocks.Goals as goal

pub loop-left-init : goal.loop-left-init
loop-left-init c =
    let fits : SFits w64 (get_or c.args.numbers.now (length c.args.numbers.now - 1) (pos 0)) = search rules in
    record {
      within = omega arith;
      so_far =
          fold_last (dyadic_of two.Plus) c.args.numbers.now (length c.args.numbers.now - 1) (omega arith)
          ∙ ap (λ (x : ℤ). Ok x) (sym (to_z-of_z w64 (get_or c.args.numbers.now (length c.args.numbers.now - 1) (pos 0)) fits));
    }

pub loop-left-preserved : goal.loop-left-preserved
loop-left-preserved c =
    let fits : SFits w64 c.in-Some.sum = search rules in
    let below : c.saturating_sub-from.result ≤ c.loop-left.left = omega (arith, c.saturating_sub-from.ensures) in
    record {
      within = omega arith;
      so_far =
          ap (fold_by (dyadic_of two.Plus)) (sym (block_before c.args.numbers.now c.saturating_sub-from.result c.loop-left.left below))
          ∙ c.in-Some.ensures (drop c.loop-left.left c.args.numbers.now) c.loop-left.invariant.so_far
          ∙ ap (λ (x : ℤ). Ok x) (sym (to_z-of_z w64 c.in-Some.sum fits));
    }
