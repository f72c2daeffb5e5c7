use Rattle.std.proofs.Common.{arith, ◌≡◌, ◌<◌, ◌+◌, ◌*◌, ◌/◌, ◌%◌, ℕ, ℤ, List, length, get_or, ap, sym, subst, ◌∙◌}
use Rattle.apl_folds.specs.inside.Prefixes.{index_along}
use Rattle.apl_folds.proofs.ByPlaces.{before_step, index_in_row, all_rows}
use Rattle.apl_scalar.proofs.OfLanes.{as_many}
use Rattle.apl_folds.proofs.Rows.{whole_row}
use Rattle.apl_folds.proofs.prefixes.tell_rows.Goals as goal

next_row : (r w : ℕ) → (r + 1) * w ≡ r * w + w
next_row r w = omega arith

pub loop-row-preserved : goal.loop-row-preserved
loop-row-preserved g c =
    let all : c.tell_row-told.result ≡ c.args.axis.up = omega (arith, c.tell_row-told.ensures.few) in
    let next : (c.loop-row.row + 1) * c.args.axis.up ≡ c.loop-row.row * c.args.axis.up + c.args.axis.up = next_row c.loop-row.row c.args.axis.up in
    record {
      columns = c.tell_row-told.ensures.columns ∙ c.loop-row.invariant.columns;
      size = c.tell_row-told.ensures.size ∙ c.loop-row.invariant.size;
      kept = λ later j d h.
          let low : j < c.args.axis.up = omega (arith, c.tell_row-told.ensures.columns, c.loop-row.invariant.columns) in
          let index : index_along c.args.axis ((c.loop-row.row + 1) * c.args.axis.up + j) ≡ (c.loop-row.row + 1) % c.args.axis.length =
          index_in_row c.args.axis (c.loop-row.row + 1) ((c.loop-row.row + 1) * c.args.axis.up + j) (omega arith) (omega arith) in
          let P : List ℤ → Type 0 = λ zs. g.K.Kept.knows (get_or c.tell_row-told.new.all j d) zs in
          subst P (before_step (g.L.Lane.numbers c.args.numbers.now) c.args.axis (c.loop-row.row * c.args.axis.up + j) ((c.loop-row.row + 1) * c.args.axis.up + j) c.requires.whole.long c.requires.whole.apart c.requires.whole.forward
          (omega (arith, next)) (omega (arith, index))) (c.tell_row-told.ensures.kept all j d h);
      prefixes = λ q h. c.tell_row-told.ensures.prefixes q (omega (arith, next));
    }

pub returns-clause-prefixes : goal.returns-clause-prefixes
returns-clause-prefixes g c =
    λ q h.
    let zs : List ℤ = g.L.Lane.numbers c.args.numbers.now in
    let size : length zs ≡ length c.args.numbers.now = as_many g.L.Lane.value g.L.Lane.numbers g.met.L.Lane.each c.args.numbers.now in
    let all : c.loop-row.row ≡ length c.args.numbers.now / c.args.axis.up = omega arith in
    let whole : c.loop-row.row * c.args.axis.up ≡ length zs =
    ap (λ m. m * c.args.axis.up) all ∙ ap (λ n. n / c.args.axis.up * c.args.axis.up) (sym size) ∙ all_rows zs c.args.axis c.requires.whole in
    c.loop-row.invariant.prefixes q (omega arith)

pub overflow_mul-result : goal.overflow_mul-result
overflow_mul-result g c = record {
  fits =
      let row = whole_row (length c.args.numbers.now) c.args.axis.up c.loop-row.row c.loop-row-test.true in
      omega (arith, row);
}

pub overflow_add-result : goal.overflow_add-result
overflow_add-result g c = record {
  fits =
      let row = whole_row (length c.args.numbers.now) c.args.axis.up c.loop-row.row c.loop-row-test.true in
      omega (arith, row, c.tell_row-told.ensures.few);
}

pub returns-then-told-axis-clause-few : goal.returns-then-told-axis-clause-few
returns-then-told-axis-clause-few g c =
    let row = whole_row (length c.args.numbers.now) c.args.axis.up c.loop-row.row c.loop-row-test.true in
    omega (arith, row, c.tell_row-told.ensures.few)
