use Rattle.std.proofs.Common.{◌≡◌, Ok, Err, sym, ◌∙◌, rules, arith, w64}
use Rattle.std.proofs.lemmas.Int.{to_z-of_z}
use Rattle.std.proofs.lemmas.Grind.{common_steps}
use mir.Val.{SFits}
use Rattle.apl_scalar.specs.Operands.{number_at, shown}
use Rattle.apl_scalar.proofs.OfLanes.{as_many}
use Rattle.apl_scalar.proofs.Begun.{at_place, begun_push, begun_fault}
use Rattle.apl_scalar.proofs.values.finish.Goals as goal

pub loop-k-preserved : goal.loop-k-preserved
loop-k-preserved g c =
    let f = g.T.Tested.meaning in
    let value = g.M.Lane.value in
    let x = number_at (shown c.args.a) in
    let y = number_at (shown c.args.b) in
    let k = c.loop-k.k in
    let i = c.at.result in
    let j = c.at-in-loop-k.result in
    let z = c.in-Ok.value in
    let fits_i : SFits w64 i = search rules in
    let fits_j : SFits w64 j = search rules in
    let there : f i j ≡ Ok (value z) = simp to_z-of_z at c.in-Ok.ensures.value in
    let before = c.loop-k.invariant in
    record {
      here = let e = before.here in grind (arith, common_steps);
      begun =
          begun_push value g.M.Lane.numbers g.met.M.Lane.each f x y c.args.count k c.loop-k.made.items c.push.new.self.items z before.here c.in_ok-push-in-Ok.ensures.items c.loop-k-test.true
          (at_place f (x k) (y k) i j (Ok (value z)) c.at.ensures c.at-in-loop-k.ensures there) before.begun;
    }

pub returns-in-Err : goal.returns-in-Err
returns-in-Err g c =
    let f = g.T.Tested.meaning in
    let numbers = g.M.Lane.numbers in
    let x = number_at (shown c.args.a) in
    let y = number_at (shown c.args.b) in
    let k = c.loop-k.k in
    let i = c.at.result in
    let j = c.at-in-loop-k.result in
    let old = c.loop-k.made.items in
    let fits_i : SFits w64 i = search rules in
    let fits_j : SFits w64 j = search rules in
    let there : f i j ≡ Err c.in-Err.fault = simp to_z-of_z at c.in-Err.ensures.fault in
    begun_fault f x y c.args.count k (numbers old) c.in-Err.fault (c.loop-k.invariant.here ∙ sym (as_many g.M.Lane.value numbers g.met.M.Lane.each old)) c.loop-k-test.true
    (at_place f (x k) (y k) i j (Err c.in-Err.fault) c.at.ensures c.at-in-loop-k.ensures there) c.loop-k.invariant.begun
