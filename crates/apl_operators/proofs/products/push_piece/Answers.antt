use Rattle.std.proofs.Common.{◌≡◌, ◌<◌, ◌*ℤ◌, ℕ, ℤ, List, Result, Ok, ◌++◌, length, get_or, pos, ap, sym, ◌∙◌, rules, arith}
use Rattle.std.proofs.lemmas.Int.{to_z-of_z}
use Rattle.apl_faults.specs.declared.fault.Fault.{Fault}
use Rattle.apl_arrays.specs.Results.{ok_map}
use Rattle.apl_scalar.proofs.OfLanes.{as_many, numbers-append}
use Rattle.apl_scalar.proofs.Rooms.{room_size, written_over}
use Rattle.apl_operators.proofs.SmallProducts.{row_products}
use Rattle.apl_operators.proofs.products.push_piece.Goals as goal

pub returns : goal.returns
returns g c =
    let numbers = g.M.Lane.numbers in
    let old = c.args.out.now.items in
    let filled = c.multiply.new.out in
    let grown = c.in_ok-before.ensures in
    let ys = g.L.Lane.numbers c.args.ys.now in
    let size : length filled ≡ length c.args.ys.now =
    room_size old c.grow.new.out.items c.as_mut_slice.result.now c.split_at_mut.result.1.now filled grown.items.0 (length c.args.ys.now) c.in_ok-before.before grown.items.1 grown.place c.as_mut_slice.ensures.value
    c.split_at_mut.ensures.back_len (search rules)
    in
    let all : length (numbers filled) ≡ length filled = as_many g.M.Lane.value numbers g.met.M.Lane.each filled in
    let many : length ys ≡ length c.args.ys.now = as_many g.L.Lane.value g.L.Lane.numbers g.met.L.Lane.each c.args.ys.now in
    let made : (k : ℕ) → k < length c.args.ys.now → get_or (g.M.Lane.numbers c.multiply.new.out) k (pos 0) ≡ c.args.x *ℤ get_or (g.L.Lane.numbers c.args.ys.now) k (pos 0) = simp (to_z-of_z, c.ranges.x) at c.multiply.ensures in
    ap (λ (r : Result (List ℤ) Fault). ok_map (λ row. g.M.Lane.numbers c.args.out.now.items ++ row) r)
    (row_products c.args.x ys (numbers filled) (all ∙ size ∙ sym many) (λ k h. g.met.M.Lane.bounded (c.args.x *ℤ get_or (g.L.Lane.numbers c.args.ys.now) k (pos 0)) (c.requires k (omega arith))) (λ k h. made k (omega arith)))
    ∙ ap (λ (l : List ℤ). Ok l)
    (sym (ap numbers (written_over old c.grow.new.out.items c.as_mut_slice.result.now c.split_at_mut.result.0.now c.split_at_mut.result.1.now filled grown.items.0 (length c.args.ys.now) c.in_ok-before.before c.grow.new.out.len
    grown.items.1 grown.place c.as_mut_slice.ensures.value c.split_at_mut.ensures.front c.split_at_mut.ensures.back_len (search rules) (search rules))
    ∙ numbers-append g.M.Lane.value numbers g.met.M.Lane.each old filled))
