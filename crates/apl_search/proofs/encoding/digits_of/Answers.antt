use Rattle.std.proofs.Common.{◌≡◌, ◌++◌, ◌+◌, ℤ, List, length, take, drop, sym, subst, ap, ◌∙◌, rules}
use Rattle.apl_search.proofs.Rows.{HasBefore, before_step, written_back, digits_in_rows, fault_in_rows}
use Rattle.apl_search.proofs.encoding.digits_of.Goals as goal

pub returns-in-Err : goal.returns-in-Err
returns-in-Err c = fault_in_rows c.args.bases.now c.args.numbers.now c.loop-place.place c.in-Err.fault c.loop-place-test.true c.in-Err.ensures.fault

pub loop-place-preserved : goal.loop-place-preserved
loop-place-preserved c =
    let seen : c.as_mut_slice.result.now ≡ c.loop-place.rows.items = c.as_mut_slice.ensures.value in
    let as_long : length c.write_digits.new.rows ≡ length c.as_mut_slice.result.now = c.in_default.ensures.size in
    let size : length c.write_digits.new.rows ≡ length c.loop-place.rows.items = as_long ∙ ap (λ (l : List ℤ). length l) seen in
    let back : take c.loop-place.rows.len (c.write_digits.new.rows ++ drop (length c.write_digits.new.rows) c.loop-place.rows.items) ≡ c.write_digits.new.rows =
    written_back c.loop-place.rows.items c.write_digits.new.rows c.loop-place.rows.len (search rules) size
    in
    let P : List ℤ → Type 0 = λ l. HasBefore c.args.bases.now c.args.numbers.now c.loop-place.place l in
    let Q : List ℤ → Type 0 = λ l. HasBefore c.args.bases.now c.args.numbers.now (c.loop-place.place + 1) l in
    let before : HasBefore c.args.bases.now c.args.numbers.now c.loop-place.place c.as_mut_slice.result.now = subst P (sym seen) c.loop-place.invariant.digits in
    let next : HasBefore c.args.bases.now c.args.numbers.now (c.loop-place.place + 1) c.write_digits.new.rows =
    before_step c.args.bases.now c.args.numbers.now c.loop-place.place c.as_mut_slice.result.now c.write_digits.new.rows before c.in_default.ensures.kept c.in_default.ensures.digits
    in
    record {
      size = ap (λ (l : List ℤ). length l) back ∙ size ∙ c.loop-place.invariant.size;
      digits = subst Q (sym back) next;
    }

pub returns : goal.returns
returns c = digits_in_rows c.args.bases.now c.args.numbers.now c.loop-place.rows.items c.loop-place.place c.loop-place.invariant.size c.loop-place-test.false c.loop-place.invariant.digits
