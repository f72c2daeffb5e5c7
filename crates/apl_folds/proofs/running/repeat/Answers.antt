use Rattle.std.proofs.Common.{arith, ◌∙◌}
use Rattle.std.proofs.lemmas.List.{length-set}
use Rattle.apl_folds.proofs.Runs.{written_one}
use Rattle.apl_folds.proofs.running.repeat.Goals as goal

pub loop-at-preserved : goal.loop-at-preserved
loop-at-preserved g c = record {
  size = length-set c.loop-at.out c.loop-at.at c.args.fold ∙ c.loop-at.invariant.size;
  prefixes = λ f zs axis so_far same.
      written_one g.M.Lane.value g.M.Lane.numbers g.met.M.Lane.each f zs axis c.loop-at.at c.loop-at.out c.args.fold (omega (arith, c.loop-at-test.true, c.loop-at.invariant.size, c.requires.within))
      (same c.loop-at.at c.loop-at.auto.at c.loop-at-test.true) (c.loop-at.invariant.prefixes f zs axis so_far same);
}
