use Rattle.std.proofs.Common.{◌≡◌, ◌≤◌, ◌+◌, ◌*◌, ℕ, List, ℤ, length, refl, ap, sym, ◌∙◌, subst, rules, arith}
use Rattle.std.specs.List.{slice_range}
use Rattle.apl_scalar.proofs.OfLanes.{as_many, numbers-append}
use Rattle.apl_scalar.proofs.Rooms.{room_size, written_over}
use Rattle.apl_operators.specs.inside.SumsOfProducts.{FitTogether, AreSums, product_of, sum_from, row_in}
use Rattle.apl_operators.proofs.SumsOfProducts.{fit_part, row_made}
use Rattle.apl_operators.proofs.Tables.{row_within, numbers_part, part_whole, row_added, zeros_behind}
use Rattle.apl_operators.proofs.sums_of_products.sums_in.Goals as goal

pub sum_row-requires-clause-none : goal.sum_row-requires-clause-none
sum_row-requires-clause-none g c = λ q h.
    let columns = c.args.joint.now.columns in
    let old = c.loop-r.sums.items in
    let back = c.split_at_mut.result.1.now in
    let grown = c.in_ok-before.ensures in
    let room : length back ≡ columns =
    room_size old c.grow.new.out.items c.as_mut_slice.result.now back back grown.items.0 columns c.in_ok-before.before grown.items.1 grown.place c.as_mut_slice.ensures.value c.split_at_mut.ensures.back_len refl
    in
    zeros_behind g.M.Lane.value g.M.Lane.numbers g.met.M.Lane.each old c.grow.new.out.items c.as_mut_slice.result.now back columns c.in_ok-before.before q grown.grown grown.place c.as_mut_slice.ensures.value c.split_at_mut.ensures.back
    (omega arith)

pub sum_row-requires-clause-small : goal.sum_row-requires-clause-small
sum_row-requires-clause-small g c =
    let from = c.loop-r.r * c.args.joint.now.joined in
    let till = from + c.args.joint.now.joined in
    let within : till ≤ length c.args.xs.now = row_within c.loop-r.r c.args.joint.now.rows c.args.joint.now.joined (length c.args.xs.now) c.loop-r-test.true c.requires.left in
    let P : List ℤ → Type 0 = λ zs. FitTogether g.M.Lane.width zs (g.L.Lane.numbers c.args.ys.now) c.args.joint.now.joined in
    let Q : ℕ → Type 0 =
    λ n. FitTogether g.M.Lane.width (g.L.Lane.numbers (slice_range c.args.xs.now (c.loop-r.r * c.args.joint.now.joined) (c.loop-r.r * c.args.joint.now.joined + c.args.joint.now.joined))) (g.L.Lane.numbers c.args.ys.now) n
    in
    subst Q (sym (part_whole c.args.xs.now from c.args.joint.now.joined within))
    (subst P (sym (numbers_part g.L.Lane.value g.L.Lane.numbers g.met.L.Lane.each c.args.xs.now from till))
    (fit_part g.M.Lane.width (g.L.Lane.numbers c.args.xs.now) (g.L.Lane.numbers c.args.ys.now) from till c.args.joint.now.joined c.requires.small))

pub loop-r-preserved : goal.loop-r-preserved
loop-r-preserved g c =
    let value = g.M.Lane.value in
    let numbers = g.M.Lane.numbers in
    let j = c.args.joint.now in
    let xs = g.L.Lane.numbers c.args.xs.now in
    let ys = g.L.Lane.numbers c.args.ys.now in
    let from = c.loop-r.r * j.joined in
    let old = c.loop-r.sums.items in
    let back = c.split_at_mut.result.1.now in
    let row = c.sum_row.new.sums in
    let grown = c.in_ok-before.ensures in
    let within : from + j.joined ≤ length c.args.xs.now = row_within c.loop-r.r j.rows j.joined (length c.args.xs.now) c.loop-r-test.true c.requires.left in
    let room : length back ≡ j.columns =
    room_size old c.grow.new.out.items c.as_mut_slice.result.now back back grown.items.0 j.columns c.in_ok-before.before grown.items.1 grown.place c.as_mut_slice.ensures.value c.split_at_mut.ensures.back_len refl
    in
    let same : length row ≡ length back = search rules in
    let P : List ℤ → Type 0 = λ zs. AreSums (g.L.Lane.numbers c.args.xs.now) (g.L.Lane.numbers c.args.ys.now) c.args.joint.now (c.loop-r.r + 1) zs in
    subst P
    (sym (ap numbers (written_over old c.grow.new.out.items c.as_mut_slice.result.now c.split_at_mut.result.0.now back row grown.items.0 j.columns c.in_ok-before.before c.grow.new.out.len
    grown.items.1 grown.place c.as_mut_slice.ensures.value c.split_at_mut.ensures.front c.split_at_mut.ensures.back_len same (search rules))
    ∙ numbers-append value numbers g.met.M.Lane.each old row))
    (row_added (λ r q z. z ≡ sum_from (product_of (row_in (g.L.Lane.numbers c.args.xs.now) c.args.joint.now r) (g.L.Lane.numbers c.args.ys.now) c.args.joint.now.columns q) 0 c.args.joint.now.joined) j.columns c.loop-r.r
    (numbers old) (numbers row) c.loop-r.invariant (as_many value numbers g.met.M.Lane.each row ∙ same ∙ room)
    (row_made (g.L.Lane.numbers (slice_range c.args.xs.now from (from + j.joined))) (row_in xs j c.loop-r.r) ys (numbers row) (length back) j.columns (length (slice_range c.args.xs.now from (from + j.joined))) j.joined
    (numbers_part g.L.Lane.value g.L.Lane.numbers g.met.L.Lane.each c.args.xs.now from (from + j.joined)) room (part_whole c.args.xs.now from j.joined within) c.sum_row.ensures))
