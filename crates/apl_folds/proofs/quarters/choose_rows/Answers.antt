use Rattle.std.proofs.Common.{◌≡◌, ◌<◌, ℕ, length, arith}
use Rattle.apl_folds.proofs.InQuarters.{row_longer}
use Rattle.apl_folds.proofs.quarters.choose_rows.Goals as goal

pub loop-j-preserved : goal.loop-j-preserved
loop-j-preserved g c =
    let value = g.L.Lane.value in
    let numbers = g.L.Lane.numbers in
    let each = g.met.L.Lane.each in
    let f = g.C.Scalar.meaning in
    let a = g.met.C.Choice.associative in
    let j = c.loop-j.j in
    let within = c.loop-j-test.true in
    let there : (n : ℕ) → n ≡ length c.args.first.now → j < n = λ n e. omega arith in
    record {
      first = row_longer value numbers each f a c.args.first.now j c.loop-j.one c.index-first-j.result c.of-one.result within c.index-first-j.is c.loop-j.invariant.first c.of-one.ensures;
      second = row_longer value numbers each f a c.args.second.now j c.loop-j.two c.index-second-j.result c.of-two.result (there _ c.requires.second) c.index-second-j.is c.loop-j.invariant.second c.of-two.ensures;
      third = row_longer value numbers each f a c.args.third.now j c.loop-j.three c.index-third-j.result c.of-three.result (there _ c.requires.third) c.index-third-j.is c.loop-j.invariant.third c.of-three.ensures;
      fourth = row_longer value numbers each f a c.args.fourth.now j c.loop-j.four c.index-fourth-j.result c.of-four.result (there _ c.requires.fourth) c.index-fourth-j.is c.loop-j.invariant.fourth c.of-four.ensures;
    }
