use Rattle.std.proofs.Common.{◌≡◌, pos, length, get_or, arith, sym, ◌∙◌}
use Rattle.apl_arrays.proofs.InTurn.{turns_start, turns_step, turns_fault, turns_end}
use Rattle.apl_select.specs.Indexing.{place_numbered}
use Rattle.apl_select.proofs.Lanes.{length-numbers}
use Rattle.apl_select.proofs.Picking.{by_number}
use Rattle.apl_select.proofs.slots.places_of.Goals as goal

pub loop-k-init : goal.loop-k-init
loop-k-init g c =
    let zs = g.L.Lane.numbers c.args.numbers.now in
    turns_start (λ k. place_numbered c.args.len c.args.origin (get_or zs k (pos 0))) c.in_ok-places.places.items (length zs) c.in_ok-places.ensures.items ∙ by_number (place_numbered c.args.len c.args.origin) zs

pub loop-k-preserved : goal.loop-k-preserved
loop-k-preserved g c =
    let zs = g.L.Lane.numbers c.args.numbers.now in
    let long : length zs ≡ length c.args.numbers.now = length-numbers g.L.Lane.value g.L.Lane.numbers g.met.L.Lane.each c.args.numbers.now in
    turns_step (λ k. place_numbered c.args.len c.args.origin (get_or zs k (pos 0))) c.loop-k.places.items _ c.in-Ok.place c.loop-k.k (length zs) (omega (arith, c.loop-k-test.true))
    (sym c.in-Ok.ensures) c.in_ok-push-in-Ok.ensures.items
    ∙ c.loop-k.invariant

pub returns-in-Err : goal.returns-in-Err
returns-in-Err g c =
    let zs = g.L.Lane.numbers c.args.numbers.now in
    let long : length zs ≡ length c.args.numbers.now = length-numbers g.L.Lane.value g.L.Lane.numbers g.met.L.Lane.each c.args.numbers.now in
    sym c.loop-k.invariant
    ∙ turns_fault (λ k. place_numbered c.args.len c.args.origin (get_or zs k (pos 0))) c.loop-k.places.items c.in-Err.fault c.loop-k.k (length zs) (omega (arith, c.loop-k-test.true)) (sym c.in-Err.ensures)

pub returns : goal.returns
returns g c =
    let zs = g.L.Lane.numbers c.args.numbers.now in
    let long : length zs ≡ length c.args.numbers.now = length-numbers g.L.Lane.value g.L.Lane.numbers g.met.L.Lane.each c.args.numbers.now in
    sym c.loop-k.invariant ∙ turns_end (λ k. place_numbered c.args.len c.args.origin (get_or zs k (pos 0))) c.loop-k.places.items c.loop-k.k (length zs) (omega arith)
