use Rattle.std.proofs.Common.{arith, ◌≡◌, ◌*◌, ◌/◌, length, ap, sym, ◌∙◌}
use Rattle.apl_folds.proofs.ByPlaces.{line_begins, all_lines, prefixes_whole}
use Rattle.apl_scalar.proofs.OfLanes.{as_many}
use Rattle.apl_folds.proofs.running.run_lines.Goals as goal

pub run_line-requires-clause-line : goal.run_line-requires-clause-line
run_line-requires-clause-line g c = line_begins c.args.axis c.loop-line.line c.requires.whole.long c.requires.beside

pub returns : goal.returns
returns g c =
    let zs = g.L.Lane.numbers c.args.numbers.now in
    let size : length zs ≡ length c.args.numbers.now = as_many g.L.Lane.value g.L.Lane.numbers g.met.L.Lane.each c.args.numbers.now in
    let all : c.loop-line.line ≡ length c.args.numbers.now / c.args.axis.length = omega arith in
    let whole : c.loop-line.line * c.args.axis.length ≡ length zs =
    ap (λ m. m * c.args.axis.length) all ∙ ap (λ n. n / c.args.axis.length * c.args.axis.length) (sym size) ∙ all_lines zs c.args.axis c.requires.whole c.requires.beside in
    let full : length (g.M.Lane.numbers c.loop-line.out.items) ≡ length zs =
    omega (arith, as_many g.M.Lane.value g.M.Lane.numbers g.met.M.Lane.each c.loop-line.out.items, c.loop-line.invariant.enough, c.loop-line.invariant.few) in
    prefixes_whole g.R.Running.meaning zs c.args.axis (g.M.Lane.numbers c.loop-line.out.items) full (λ q h. c.loop-line.invariant.prefixes q (omega arith))
