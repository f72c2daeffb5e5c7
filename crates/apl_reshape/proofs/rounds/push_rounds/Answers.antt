use Rattle.std.proofs.Common.{◌++◌, ap, ◌∙◌, arith}
use Rattle.apl_reshape.proofs.InRounds.{round_step, round_last}
use Rattle.apl_reshape.proofs.rounds.push_rounds.Goals as goal

pub loop-preserved : goal.loop-preserved
loop-preserved g c = λ d.
    c.in_ok-extend_from_slice.ensures.items
    ∙ ap (λ l. l ++ c.args.items.now) (c.loop.invariant d)
    ∙ round_step c.args.items.now d c.args.out.now.items c.loop.counter

pub returns : goal.returns
returns g c = λ d.
    round_last c.args.items.now c.split_at.result.0.now d c.args.out.now.items c.loop.out.items c.extend_from_slice-2.new.self.items c.loop.counter c.args.count c.requires (omega arith) (c.loop.invariant d) c.split_at.ensures.front c.in_ok-extend_from_slice-2.ensures.items
