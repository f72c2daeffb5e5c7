use Rattle.std.proofs.Common.{ℕ, ◌+◌, ◌*◌, [], List, map, ap, ◌∙◌}
use Rattle.std.proofs.lemmas.List.{take_all}
use Rattle.apl_select.specs.inside.Reached.{crossed}
use Rattle.apl_select.proofs.Lists.{flat_next}
use Rattle.apl_select.proofs.reach.cross.Goals as goal

pub loop-start-preserved : goal.loop-start-preserved
loop-start-preserved c = flat_next (λ s. map (λ k. s * c.args.len + k) c.args.places.now) [] c.loop-start.out.items c.cross_row.new.out.items c.args.starts.now c.loop-start.start-index 0 c.loop-start-test.true c.loop-start.invariant c.in_ok-cross_row.ensures

pub returns : goal.returns
returns c = c.loop-start.invariant ∙ ap (λ (z : List ℕ). crossed z c.args.len c.args.places.now) (take_all c.loop-start.start-index c.args.starts.now c.loop-start-test.false)
