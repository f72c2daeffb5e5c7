use Rattle.std.proofs.Common.{◌≡◌, ◌<◌, length, get_or, pos, FitsSigned, w64, ap, sym, ◌∙◌, rules, arith}
use Rattle.std.proofs.lemmas.Int.{to_z-of_z}
use Rattle.apl_arrays.specs.Numbers.{values}
use Rattle.apl_turns.specs.Turns.{axis_from}
use Rattle.apl_turns.proofs.Numbered.{axes_step}
use Rattle.apl_turns.proofs.numbered_axes.axes_from.Goals as goal

pub loop-k-preserved : goal.loop-k-preserved
loop-k-preserved c =
    let fits : FitsSigned w64 c.at.result = search rules in
    let within : c.loop-k.k < length (values c.args.numbers) = omega (arith, c.len-k-end.ensures, c.loop-k-test.true) in
    let here : c.axis_from.result ≡ axis_from c.args.origin (get_or (values c.args.numbers) c.loop-k.k (pos 0)) =
    c.axis_from.ensures ∙ ap (axis_from c.args.origin) (to_z-of_z w64 c.at.result fits ∙ c.at.ensures) in
    record {
      so_far = axes_step (axis_from c.args.origin) c.loop-k.axes.items c.push.new.self.items (values c.args.numbers) c.loop-k.k c.in-Ok.axis within (sym here ∙ c.in-Ok.is) c.push.ensures.items
          ∙ c.loop-k.invariant.so_far;
      count = omega (arith, c.push.ensures.len, c.loop-k.invariant.count);
    }
