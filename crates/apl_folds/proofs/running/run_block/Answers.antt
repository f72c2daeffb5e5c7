use Rattle.std.proofs.Common.{rules, ◌≡◌, ◌<◌, ◌≤◌, ◌+◌, ◌-◌, ℕ, length, Ok, ap, ◌∙◌, arith}
use Rattle.std.proofs.lemmas.List.{length-set}
use Rattle.apl_folds.specs.inside.Prefixes.{prefix_fold}
use Rattle.apl_scalar.proofs.OfLanes.{as_many, number_of_item}
use Rattle.apl_folds.proofs.Runs.{behind, gone_on, stays_on, written_one}
use Rattle.apl_folds.proofs.running.run_block.Goals as goal

pub loop-at-preserved : goal.loop-at-preserved
loop-at-preserved g c =
    let f = g.R.Running.meaning in
    let raw = c.args.numbers.now in
    let zs = g.L.Lane.numbers raw in
    let at = c.loop-at.at in
    let fold = g.M.Lane.value c.then-fold.result in
    let there : at < length raw = omega (arith, c.loop-at-test.true, c.requires.within) in
    let within : at < length zs = omega (arith, as_many g.L.Lane.value g.L.Lane.numbers g.met.L.Lane.each raw) in
    let told : prefix_fold f zs c.args.axis at ≡ Ok fold =
    gone_on f g.R.Running.room zs c.args.axis at (g.L.Lane.value c.index-numbers-at.result) (g.M.Lane.value c.loop-at.fold) fold c.requires.whole c.requires.room within c.requires.beside
    (c.requires.later at c.loop-at.auto.at c.loop-at-test.true)
    (number_of_item g.L.Lane.value g.L.Lane.numbers g.met.L.Lane.each raw at c.index-numbers-at.result there c.index-numbers-at.is) c.loop-at.invariant.told c.then-fold.ensures in
    record {
      size = length-set c.loop-at.out at c.then-fold.result ∙ c.loop-at.invariant.size;
      told = ap (prefix_fold f zs c.args.axis) (behind at) ∙ told;
      prefixes = written_one g.M.Lane.value g.M.Lane.numbers g.met.M.Lane.each f zs c.args.axis at c.loop-at.out c.then-fold.result (omega (arith, c.loop-at.invariant.size, c.requires.size, c.loop-at-test.true)) told c.loop-at.invariant.prefixes;
    }

pub returns-then-stays : goal.returns-then-stays
returns-then-stays g c =
    let f = g.R.Running.meaning in
    let raw = c.args.numbers.now in
    let zs = g.L.Lane.numbers raw in
    let from = c.args.from in
    let fold = g.M.Lane.value c.args.before in
    let within : c.args.till ≤ length zs = omega (arith, c.requires.within, as_many g.L.Lane.value g.L.Lane.numbers g.met.L.Lane.each raw) in
    let each : (k : ℕ) → from + k ≤ c.args.till → prefix_fold f zs c.args.axis (from + k - 1) ≡ Ok fold =
    stays_on f g.R.Running.room zs c.args.axis from c.args.till fold c.requires.whole c.requires.room c.requires.beside within c.requires.later c.requires.told (c.if-stays.ensures (search rules)) in
    let at : (q : ℕ) → from ≤ q → q < c.args.till → prefix_fold f zs c.args.axis q ≡ Ok fold =
    λ q low high. ap (prefix_fold f zs c.args.axis) (omega (arith, low)) ∙ each (q + 1 - from) (omega (arith, low, high)) in
    record {
      size = c.repeat.ensures.size;
      told = ap (prefix_fold f zs c.args.axis) (omega (arith, c.requires.order)) ∙ each (c.args.till - from) (omega (arith, c.requires.order));
      prefixes = c.repeat.ensures.prefixes f zs c.args.axis c.requires.so_far at;
    }
