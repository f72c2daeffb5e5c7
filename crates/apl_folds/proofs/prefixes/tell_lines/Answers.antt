use Rattle.std.proofs.Common.{arith, ◌≡◌, ◌*◌, ◌/◌, ℤ, List, length, ap, sym, ◌∙◌}
use Rattle.apl_folds.proofs.ByPlaces.{line_begins, all_lines}
use Rattle.apl_scalar.proofs.OfLanes.{as_many}
use Rattle.apl_folds.proofs.Rows.{whole_row}
use Rattle.apl_folds.proofs.prefixes.tell_lines.Goals as goal

pub tell_line-told-requires-clause-line : goal.tell_line-told-requires-clause-line
tell_line-told-requires-clause-line g c = line_begins c.args.axis c.loop-line.line c.requires.whole.long c.requires.beside

pub returns-clause-prefixes : goal.returns-clause-prefixes
returns-clause-prefixes g c =
    λ q h.
    let zs : List ℤ = g.L.Lane.numbers c.args.numbers.now in
    let size : length zs ≡ length c.args.numbers.now = as_many g.L.Lane.value g.L.Lane.numbers g.met.L.Lane.each c.args.numbers.now in
    let all : c.loop-line.line ≡ length c.args.numbers.now / c.args.axis.length = omega arith in
    let whole : c.loop-line.line * c.args.axis.length ≡ length zs =
    ap (λ m. m * c.args.axis.length) all ∙ ap (λ n. n / c.args.axis.length * c.args.axis.length) (sym size) ∙ all_lines zs c.args.axis c.requires.whole c.requires.beside in
    c.loop-line.invariant.prefixes q (omega arith)

pub overflow_mul-from : goal.overflow_mul-from
overflow_mul-from g c = record {
  fits =
      let row = whole_row (length c.args.numbers.now) c.args.axis.length c.loop-line.line c.loop-line-test.true in
      omega (arith, row);
}

pub overflow_add-result : goal.overflow_add-result
overflow_add-result g c = record {
  fits =
      let row = whole_row (length c.args.numbers.now) c.args.axis.length c.loop-line.line c.loop-line-test.true in
      omega (arith, row, c.tell_line-told.ensures.few);
}
