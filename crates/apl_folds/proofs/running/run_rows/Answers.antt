use Rattle.std.proofs.Common.{arith, ◌≡◌, ◌*◌, ◌/◌, length, ap, sym, ◌∙◌}
use Rattle.apl_folds.proofs.ByPlaces.{all_rows, prefixes_whole}
use Rattle.apl_scalar.proofs.OfLanes.{as_many}
use Rattle.apl_folds.proofs.running.run_rows.Goals as goal

pub returns : goal.returns
returns g c =
    let zs = g.L.Lane.numbers c.args.numbers.now in
    let size : length zs ≡ length c.args.numbers.now = as_many g.L.Lane.value g.L.Lane.numbers g.met.L.Lane.each c.args.numbers.now in
    let all : c.loop-row.row ≡ length c.args.numbers.now / c.args.axis.up = omega arith in
    let whole : c.loop-row.row * c.args.axis.up ≡ length zs =
    ap (λ m. m * c.args.axis.up) all ∙ ap (λ n. n / c.args.axis.up * c.args.axis.up) (sym size) ∙ all_rows zs c.args.axis c.requires.whole in
    let full : length (g.M.Lane.numbers c.loop-row.out.items) ≡ length zs =
    omega (arith, as_many g.M.Lane.value g.M.Lane.numbers g.met.M.Lane.each c.loop-row.out.items, c.loop-row.invariant.enough, c.loop-row.invariant.few) in
    prefixes_whole g.R.Running.meaning zs c.args.axis (g.M.Lane.numbers c.loop-row.out.items) full (λ q h. c.loop-row.invariant.prefixes q (omega arith))
