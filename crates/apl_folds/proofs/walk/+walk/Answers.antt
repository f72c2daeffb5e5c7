use Rattle.std.proofs.Common.{rules, arith, ◌≡◌, ◌+◌, ◌-◌, ◌∷◌, [], ◌++◌, ℕ, ℤ, List, Result, Err, refl, ap, sym, subst, ◌∙◌, w64}
use Rattle.std.specs.List.{range_with_len}
use Rattle.std.proofs.lemmas.Int.{to_z-of_z}
use mir.Val.{SFits}
use Rattle.std.proofs.lemmas.List.{nil_from_length}
use Rattle.std.proofs.lemmas.Result.{err_from_is_err_and}
use Rattle.apl_faults.specs.declared.fault.Fault.{Fault}
use Rattle.apl_arrays.specs.declared.axis.Axis.{Axis}
use Rattle.apl_arrays.specs.Answers.{Appends}
use Rattle.apl_arrays.specs.Results.{ok_map, all_ok}
use Rattle.apl_arrays.specs.Strides.{lengths}
use Rattle.apl_arrays.proofs.Exits.{appends_err}
use Rattle.apl_arrays.proofs.Gathers.{first_axis, other_axes, parts}
use Rattle.apl_arrays.proofs.InTurn.{after}
use Rattle.apl_arrays.proofs.Steps.{near_axis}
use Rattle.apl_folds.specs.Lines.{start_at, count_at, made}
use Rattle.apl_folds.proofs.Leaves.{made_row, asked, leaf_pushed, leaf_fault, columns_asked, columns_made}
use Rattle.apl_folds.proofs.Walks.{rows_step, rows_stop}
use Rattle.apl_folds.proofs.walk.+walk.Goals as goal

pub value-requires : goal.value-requires
value-requires g t c =
    let e : c.args.axes.now ≡ [] = nil_from_length c.args.axes.now (omega arith) in
    asked (λ p n. g.L.Leaf.has c.args.leaf.now p n) c.args.start.at c.args.start.count c.args.start.depth c.args.axes.now e c.requires.depth ((rw e at c.requires.lines) [] refl)

pub stepped-requires-clause-near : goal.stepped-requires-clause-near
stepped-requires-clause-near g t c = near_axis c.args.start.at (first_axis c.args.axes.now) (other_axes c.args.axes.now) _ (rw (parts c.args.axes.now c.in-len1-up.len_at_least) at c.requires.near)

pub returns-in-Err-walk : goal.returns-in-Err-walk
returns-in-Err-walk g t c =
    let axis : Axis = first_axis c.args.axes.now in
    let rest : List Axis = other_axes c.args.axes.now in
    let P : List Axis → Type 0 = λ xs. Appends c.args.out.now.items c.walk.new.out.items (made (λ p n. g.L.Leaf.gives c.args.leaf.now p n) c.args.start.at c.args.start.count c.args.start.depth xs) (Err c.in-Err-walk.stop) in
    let Q : Result (List ℤ) Fault → Type 0 = λ r. Appends c.loop-index.out.items c.walk.new.out.items r (Err c.in-Err-walk.stop) in
    subst P (sym (parts c.args.axes.now c.in-len1-up.len_at_least))
    (rows_stop (λ is. g.L.Leaf.gives c.args.leaf.now (start_at c.args.start.at c.args.start.depth (axis ∷ rest) is) (count_at c.args.start.count c.args.start.depth is)) (lengths rest) c.loop-index.index axis.length
    c.args.out.now.items c.loop-index.out.items c.walk.new.out.items c.walk.new.out.items c.in-Err-walk.stop c.loop-index-test.true c.loop-index.invariant
    (subst Q (made_row (λ p n. g.L.Leaf.gives c.args.leaf.now p n) c.args.start.at c.args.start.count c.args.start.depth c.stepped.result.at c.stepped.result.count c.stepped.result.depth axis rest c.loop-index.index c.stepped.ensures.at c.stepped.ensures.count) c.in-Err-walk.ensures))

pub loop-index-preserved : goal.loop-index-preserved
loop-index-preserved g t c =
    let axis : Axis = first_axis c.args.axes.now in
    let rest : List Axis = other_axes c.args.axes.now in
    rows_step (λ is. g.L.Leaf.gives c.args.leaf.now (start_at c.args.start.at c.args.start.depth (axis ∷ rest) is) (count_at c.args.start.count c.args.start.depth is)) (lengths rest) c.loop-index.index axis.length
    c.loop-index.out.items c.walk.new.out.items c.loop-index-test.true
    (ap (after c.loop-index.out.items) (sym (made_row (λ p n. g.L.Leaf.gives c.args.leaf.now p n) c.args.start.at c.args.start.count c.args.start.depth c.stepped.result.at c.stepped.result.count c.stepped.result.depth axis rest c.loop-index.index c.stepped.ensures.at c.stepped.ensures.count))
    ∙ c.in-Ok-walk.ensures)
    ∙ c.loop-index.invariant

pub returns-in_ok-push-in-Ok : goal.returns-in_ok-push-in-Ok
returns-in_ok-push-in-Ok g t c =
    let e : c.args.axes.now ≡ [] = nil_from_length c.args.axes.now (omega arith) in
    let fits : SFits w64 c.in-Ok.value = search rules in
    leaf_pushed (λ p n. g.L.Leaf.gives c.args.leaf.now p n) c.args.start.at c.args.start.count c.args.start.depth c.args.axes.now c.args.out.now.items c.push.new.self.items c.in-Ok.value e c.requires.depth
    (sym c.value.ensures ∙ c.in-Ok.is) (simp to_z-of_z at c.in_ok-push-in-Ok.ensures.items)

pub returns-in-Err : goal.returns-in-Err
returns-in-Err g t c =
    let e : c.args.axes.now ≡ [] = nil_from_length c.args.axes.now (omega arith) in
    leaf_fault (λ p n. g.L.Leaf.gives c.args.leaf.now p n) c.args.start.at c.args.start.count c.args.start.depth c.args.axes.now c.in-Err.fault e c.requires.depth (sym c.value.ensures ∙ c.in-Err.is)

pub push_columns-requires-clause-lines : goal.push_columns-requires-clause-lines
push_columns-requires-clause-lines g t c =
    let a = c.if-is_beside.ensures refl in
    columns_asked (λ p n. g.L.Leaf.has c.args.leaf.now p n) c.args.start.at c.args.start.count c.args.start.depth c.args.axes.now (first_axis c.args.axes.now) (other_axes c.args.axes.now) (parts c.args.axes.now c.in-len1-up.len_at_least) a.0 a.1 a.2 a.3 c.requires.lines

pub returns-then-is_beside : goal.returns-then-is_beside
returns-then-is_beside g t c =
    let a = c.if-is_beside.ensures refl in
    ap (ok_map (λ ys. c.args.out.now.items ++ ys))
    (sym (columns_made (λ p n. g.L.Leaf.gives c.args.leaf.now p n) c.args.start.at c.args.start.count c.args.start.depth c.args.axes.now (first_axis c.args.axes.now) (other_axes c.args.axes.now) (parts c.args.axes.now c.in-len1-up.len_at_least) a.0 a.1 a.2 a.3))
    ∙ c.in_ok-push_columns-in-len1-up.ensures

pub returns-in_err-push_columns-in-len1-up : goal.returns-in_err-push_columns-in-len1-up
returns-in_err-push_columns-in-len1-up g t c =
    let a = c.if-is_beside.ensures refl in
    let axis : Axis = first_axis c.args.axes.now in
    let rest : List Axis = other_axes c.args.axes.now in
    let gives : ℕ → ℕ → Result ℤ Fault = λ p n. g.L.Leaf.gives c.args.leaf.now p n in
    let p = err_from_is_err_and c.from_residual-in_err-push_columns-in-len1-up.result c.from_residual-in_err-push_columns-in-len1-up.ensures.1 in
    rw (p.1, p.2)
    (appends_err c.args.out.now.items c.push_columns.new.out.items c.args.out.now.items c.push_columns.new.out.items
    (all_ok (λ q. gives q c.args.start.count) (range_with_len c.args.start.at (c.args.start.at + axis.length - c.args.start.at))) (made gives c.args.start.at c.args.start.count c.args.start.depth c.args.axes.now) c.in_err-push_columns-in-len1-up.field-0.0
    (λ e h. sym (columns_made gives c.args.start.at c.args.start.count c.args.start.depth c.args.axes.now axis rest (parts c.args.axes.now c.in-len1-up.len_at_least) a.0 a.1 a.2 a.3) ∙ h)
    c.in_err-push_columns-in-len1-up.ensures)
