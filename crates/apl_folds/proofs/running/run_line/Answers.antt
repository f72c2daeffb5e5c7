use Rattle.std.proofs.Common.{rules, ◌≡◌, ◌<◌, ◌+◌, ◌-◌, ℕ, length, Ok, ap, subst, ◌∙◌, arith}
use Rattle.std.proofs.lemmas.List.{length-set}
use Rattle.apl_folds.specs.inside.Prefixes.{index_along, prefix_fold}
use Rattle.apl_folds.proofs.ByPlaces.{index_beside}
use Rattle.apl_scalar.proofs.OfLanes.{as_many, number_of_item}
use Rattle.apl_folds.proofs.Runs.{behind, begun, written_back, written_in_room}
use Rattle.apl_folds.proofs.running.run_line.Goals as goal

pub loop-at-init : goal.loop-at-init
loop-at-init g c =
    let f = g.R.Running.meaning in
    let raw = c.args.numbers.now in
    let zs = g.L.Lane.numbers raw in
    let from = c.args.from in
    let fold = g.M.Lane.value c.first-fold.result in
    let there : from < length raw = omega (arith, c.requires.within, c.requires.whole.long) in
    let within : from < length zs = omega (arith, as_many g.L.Lane.value g.L.Lane.numbers g.met.L.Lane.each raw) in
    let told : prefix_fold f zs c.args.axis from ≡ Ok fold =
    begun f g.R.Running.room zs c.args.axis from (g.L.Lane.value c.index-numbers-from.result) fold c.requires.whole c.requires.room within c.requires.line
    (number_of_item g.L.Lane.value g.L.Lane.numbers g.met.L.Lane.each raw from c.index-numbers-from.result there c.index-numbers-from.is) c.first-fold.ensures in
    let room = c.make_room.new.out.items in
    let made = c.in_ok-make_room.ensures in
    let back = written_back room c.as_mut_slice.result.now from c.first-fold.result c.make_room.new.out.len c.as_mut_slice.ensures.value (search rules) in
    let size = ap length back ∙ length-set room from c.first-fold.result in
    record {
      begun = omega arith;
      within = omega (arith, c.requires.whole.long);
      enough = omega (arith, size, made.enough);
      few = omega (arith, size, made.few);
      told = ap (prefix_fold f zs c.args.axis) (behind from) ∙ told;
      prefixes =
          written_in_room g.M.Lane.value g.M.Lane.numbers g.met.M.Lane.each f zs c.args.axis from (g.M.Lane.numbers c.args.out.now.items) room _ c.first-fold.result back made.enough made.kept told c.requires.so_far;
    }

pub run_block-fold-requires-clause-later : goal.run_block-fold-requires-clause-later
run_block-fold-requires-clause-later g c = λ q above below.
    let Later : ℕ → Type 0 = λ k. 0 < index_along c.args.axis k in
    let same : c.args.from + (q - c.args.from) ≡ q = omega (arith, above, c.loop-at.invariant.begun) in
    let index : index_along c.args.axis (c.args.from + (q - c.args.from)) ≡ q - c.args.from = index_beside c.args.axis c.args.from (q - c.args.from) c.requires.beside c.requires.line (omega (arith, below)) in
    subst Later same (omega (arith, index, above, c.loop-at.invariant.begun))
