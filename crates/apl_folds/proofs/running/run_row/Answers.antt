use Rattle.std.proofs.Common.{arith, ◌∙◌}
use Rattle.std.proofs.lemmas.List.{length-set}
use Rattle.apl_folds.proofs.ByPlaces.{index_in_row}
use Rattle.apl_folds.proofs.Runs.{written_one}
use Rattle.apl_folds.proofs.running.run_row.Goals as goal

pub prefix_at-prefix-requires-clause-index : goal.prefix_at-prefix-requires-clause-index
prefix_at-prefix-requires-clause-index g c = index_in_row c.args.axis c.args.row c.loop-at.at c.loop-at.auto.at c.loop-at-test.true

pub loop-at-preserved : goal.loop-at-preserved
loop-at-preserved g c = record {
  size = length-set c.loop-at.out c.loop-at.at c.prefix_at-prefix.result ∙ c.loop-at.invariant.size;
  prefixes =
      written_one g.M.Lane.value g.M.Lane.numbers g.met.M.Lane.each g.R.Running.meaning (g.L.Lane.numbers c.args.numbers.now) c.args.axis c.loop-at.at c.loop-at.out c.prefix_at-prefix.result
      (omega (arith, c.loop-at.invariant.size, c.requires.size, c.requires.within)) c.prefix_at-prefix.ensures c.loop-at.invariant.prefixes;
}
