use Rattle.std.proofs.Common.{ℕ, ◌++◌, [], List, ap, ◌∙◌}
use Rattle.std.proofs.lemmas.List.{take_all}
use Rattle.apl_select.specs.Indexing.{Places, joined_shape}
use Rattle.apl_select.proofs.Lists.{flat_next}
use Rattle.apl_select.proofs.slots.joined_shape.Goals as goal

pub loop-picked-preserved : goal.loop-picked-preserved
loop-picked-preserved c =
    flat_next (λ (p : Places). p.shape) [] c.loop-picked.shape.items c.extend_from_slice.new.self.items c.args.picks.now c.loop-picked.picked-index c.picked-item.result c.loop-picked-test.true c.loop-picked.invariant
    (c.in_ok-extend_from_slice.ensures.items ∙ ap (λ (l : List ℕ). c.loop-picked.shape.items ++ l) (c.shape.ensures ∙ ap (λ (p : Places). p.shape) c.picked-item.is))

pub returns : goal.returns
returns c = c.loop-picked.invariant ∙ ap joined_shape (take_all c.loop-picked.picked-index c.args.picks.now c.loop-picked-test.false)
