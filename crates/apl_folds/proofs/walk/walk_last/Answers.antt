use Rattle.std.proofs.Common.{rules, ◌≡◌, ◌∷◌, [], ℕ, ℤ, List, Result, Err, refl, ap, sym, subst, ◌∙◌, w64}
use Rattle.std.proofs.lemmas.Int.{to_z-of_z}
use mir.Val.{SFits}
use Rattle.apl_faults.specs.declared.fault.Fault.{Fault}
use Rattle.apl_arrays.specs.declared.axis.Axis.{Axis}
use Rattle.apl_arrays.specs.declared.stop.Stop.TheVariants as stop
use Rattle.apl_arrays.proofs.InTurn.{after}
use Rattle.apl_arrays.proofs.Order.{within_cons}
use Rattle.apl_arrays.proofs.Steps.{near_axis}
use Rattle.apl_folds.specs.Lines.{start_at, count_at, made}
use Rattle.apl_folds.proofs.Leaves.{made_row, asked, leaf_pushed, leaf_fault}
use Rattle.apl_folds.proofs.Walks.{rows_step, rows_stop}
use Rattle.apl_folds.proofs.walk.walk_last.Goals as goal

pub stepped-line-requires-clause-near : goal.stepped-line-requires-clause-near
stepped-line-requires-clause-near g c = near_axis c.args.start.at c.args.axis.now [] _ c.requires.near

pub value-requires : goal.value-requires
value-requires g c =
    let axes : List Axis = c.args.axis.now ∷ [] in
    let index = c.loop-index.index in
    let Has : ℕ → ℕ → Type 0 = λ p n. g.L.Leaf.has c.args.leaf.now p n in
    let At : ℕ → Type 0 = λ p. Has p (count_at c.args.start.count c.args.start.depth (index ∷ [])) in
    let Count : ℕ → Type 0 = λ n. Has (start_at c.stepped-line.result.at c.stepped-line.result.depth [] []) n in
    asked Has c.stepped-line.result.at c.stepped-line.result.count c.stepped-line.result.depth [] refl (c.stepped-line.ensures.depth 0 c.requires.depth)
    (subst Count (sym (c.stepped-line.ensures.count []))
    (subst At (sym (c.stepped-line.ensures.at [] [])) (c.requires.lines (index ∷ []) (within_cons c.args.axis.now.length index [] [] c.loop-index-test.true refl))))

pub loop-index-preserved : goal.loop-index-preserved
loop-index-preserved g c =
    let gives : ℕ → ℕ → Result ℤ Fault = λ p n. g.L.Leaf.gives c.args.leaf.now p n in
    let axis : Axis = c.args.axis.now in
    let start = c.args.start in
    let line = c.stepped-line.result in
    let fits : SFits w64 c.in-Ok.value = search rules in
    rows_step (λ is. gives (start_at start.at start.depth (axis ∷ []) is) (count_at start.count start.depth is)) [] c.loop-index.index axis.length c.loop-index.out.items c.push.new.self.items c.loop-index-test.true
    (ap (after c.loop-index.out.items) (sym (made_row gives start.at start.count start.depth line.at line.count line.depth axis [] c.loop-index.index c.stepped-line.ensures.at c.stepped-line.ensures.count))
    ∙ leaf_pushed gives line.at line.count line.depth [] c.loop-index.out.items c.push.new.self.items c.in-Ok.value refl (c.stepped-line.ensures.depth 0 c.requires.depth)
    (sym c.value.ensures ∙ c.in-Ok.is) (simp to_z-of_z at c.in_ok-push-in-Ok.ensures.items))
    ∙ c.loop-index.invariant

pub returns-in-Err : goal.returns-in-Err
returns-in-Err g c =
    let gives : ℕ → ℕ → Result ℤ Fault = λ p n. g.L.Leaf.gives c.args.leaf.now p n in
    let axis : Axis = c.args.axis.now in
    let start = c.args.start in
    let line = c.stepped-line.result in
    let e : made gives line.at line.count line.depth [] ≡ Err c.in-Err.fault =
    leaf_fault gives line.at line.count line.depth [] c.in-Err.fault refl (c.stepped-line.ensures.depth 0 c.requires.depth) (sym c.value.ensures ∙ c.in-Err.is) in
    rows_stop (λ is. gives (start_at start.at start.depth (axis ∷ []) is) (count_at start.count start.depth is)) [] c.loop-index.index axis.length
    c.args.out.now.items c.loop-index.out.items c.loop-index.out.items c.loop-index.out.items (stop.Fault c.in-Err.fault) c.loop-index-test.true c.loop-index.invariant
    (sym (made_row gives start.at start.count start.depth line.at line.count line.depth axis [] c.loop-index.index c.stepped-line.ensures.at c.stepped-line.ensures.count) ∙ e)
