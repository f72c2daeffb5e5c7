use Rattle.std.proofs.Common.{◌+◌, ◌*◌, ◌<◌, [], map, length, get_or, arith, ap, ◌∙◌}
use Rattle.std.proofs.lemmas.List.{take_all}
use Rattle.apl_select.specs.inside.Reached.{crossed}
use Rattle.apl_select.proofs.Lists.{all_piece}
use Rattle.apl_select.proofs.Crossing.{crossed_more}
use Rattle.apl_select.proofs.reach.ReadingStructural.make.Goals as goal

pub gather_line-requires-clause-within : goal.gather_line-requires-clause-within
gather_line-requires-clause-within g c =
    all_piece (λ q. q < length c.args.items.now) (λ s. map (λ k. s * c.args.self.len + k) c.args.self.places.now) c.args.self.starts.now c.loop-start.start-index 0 c.loop-start-test.true c.requires.within

pub loop-start-preserved : goal.loop-start-preserved
loop-start-preserved g c =
    λ d. crossed_more (λ q. get_or c.args.items.now q d) [] c.loop-start.out.items c.gather_line.new.out.items c.args.self.starts.now c.args.self.places.now c.args.self.len c.loop-start.start-index c.loop-start-test.true
    (c.loop-start.invariant d) (c.in_ok-gather_line.ensures d)

pub returns : goal.returns
returns g c =
    λ d. c.loop-start.invariant d
    ∙ ap (λ z. map (λ q. get_or c.args.items.now q d) (crossed z c.args.self.len c.args.self.places.now)) (take_all c.loop-start.start-index c.args.self.starts.now (omega arith))
