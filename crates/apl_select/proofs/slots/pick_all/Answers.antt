use Rattle.std.proofs.Common.{get_or, arith, ap, sym, ◌∙◌, ℕ, List, subst}
use Rattle.apl_select.specs.Indexing.{picked_by}
use Rattle.std.proofs.lemmas.List.{take_all}
use Rattle.apl_select.specs.inside.Reached.{AreOnAxes}
use Rattle.apl_select.proofs.Picking.{picked_step, on_axes_more, picked_end}
use Rattle.apl_select.proofs.slots.pick_all.Goals as goal

pub loop-k-preserved : goal.loop-k-preserved
loop-k-preserved c = record {
  so_far =
      picked_step c.args.shape.now c.args.slots.now c.loop-k.k c.args.origin c.index-slots-k.result c.in_ok-picked.picked c.loop-k.picks.items c.push.new.self.items c.loop-k-test.true (omega arith)
      (ap (picked_by (get_or c.args.shape.now c.loop-k.k 0) c.args.origin) (sym c.index-slots-k.is) ∙ c.in_ok-picked.ensures.value) c.in_ok-push.ensures.items
      ∙ c.loop-k.invariant.so_far;
  on_axes =
      on_axes_more c.args.shape.now c.loop-k.k c.loop-k.picks.items c.push.new.self.items c.in_ok-picked.picked c.loop-k-test.true c.loop-k.invariant.on_axes c.in_ok-push.ensures.items
      c.in_ok-picked.ensures.full c.in_ok-picked.ensures.within;
}

pub returns-clause-value : goal.returns-clause-value
returns-clause-value c = sym c.loop-k.invariant.so_far ∙ picked_end c.args.shape.now c.args.slots.now c.loop-k.k c.args.origin c.loop-k.picks.items c.loop-k-test.false

pub returns-clause-on_axes : goal.returns-clause-on_axes
returns-clause-on_axes c =
    let P : List ℕ → Type 0 = λ s. AreOnAxes s c.loop-k.picks.items in
    subst P (take_all c.loop-k.k c.args.shape.now c.loop-k-test.false) c.loop-k.invariant.on_axes
