use Rattle.std.proofs.Common.{◌≡◌, length, sym, ◌∙◌, rules, arith}
use Rattle.apl_scalar.proofs.OfLanes.{as_many}
use Rattle.apl_scalar.proofs.Begun.{begun_more}
use Rattle.apl_scalar.proofs.blocks.push_lines.Goals as goal

pub returns-then-not-branch : goal.returns-then-not-branch
returns-then-not-branch g c =
    let numbers = g.M.Lane.numbers in
    let old = c.loop-x.out.items in
    let here : c.len-from.result ≡ length old = search rules in
    begun_more g.K.Kernel.meaning (g.X.Line.number c.args.x) (g.Y.Line.number c.args.y) (g.X.Line.number c.after.result) (g.Y.Line.number c.after-in-loop-x.result) c.args.count c.len-from.result c.min-some.result
    (numbers old) (numbers c.push_block.new.out.items) (here ∙ sym (as_many g.M.Lane.value numbers g.met.M.Lane.each old)) (omega arith) (λ k h. c.after.ensures.number k) (λ k h. c.after-in-loop-x.ensures.number k)
    c.loop-x.invariant c.in_ok-push_block.ensures.adds

pub loop-x-preserved : goal.loop-x-preserved
loop-x-preserved g c =
    let numbers = g.M.Lane.numbers in
    let old = c.loop-x.out.items in
    let here : c.len-from.result ≡ length old = search rules in
    begun_more g.K.Kernel.meaning (g.X.Line.number c.args.x) (g.Y.Line.number c.args.y) (g.X.Line.number c.after.result) (g.Y.Line.number c.after-in-loop-x.result) c.args.count c.len-from.result c.min-some.result
    (numbers old) (numbers c.push_block.new.out.items) (here ∙ sym (as_many g.M.Lane.value numbers g.met.M.Lane.each old)) (omega arith) (λ k h. c.after.ensures.number k) (λ k h. c.after-in-loop-x.ensures.number k)
    c.loop-x.invariant c.in_ok-push_block.ensures.adds
