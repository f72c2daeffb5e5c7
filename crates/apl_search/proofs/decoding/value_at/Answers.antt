use Rattle.std.proofs.Common.{rules, sym, ◌∙◌, to_z, w64}
use mir.Val.{SFits}
use Rattle.std.proofs.lemmas.Int.{to_z-of_z}
use Rattle.apl_search.specs.inside.Flat.{pair_at}
use Rattle.apl_search.proofs.Values.{value_step, value_fault, value_end}
use Rattle.apl_search.proofs.decoding.value_at.Goals as goal

pub loop-k-preserved : goal.loop-k-preserved
loop-k-preserved c =
    let fits : SFits w64 c.in-Ok.next = search rules in
    simp to_z-of_z
    (value_step (pair_at c.args.bases.now c.args.digits.now c.args.along c.args.width c.args.place) (to_z w64 c.loop-k.value-bits) c.in-Ok.next c.loop-k.k c.args.count c.loop-k-test.true
    (sym c.next_value.ensures ∙ c.in-Ok.is)
    ∙ c.loop-k.invariant)

pub returns-in-Err : goal.returns-in-Err
returns-in-Err c =
    sym (value_fault (pair_at c.args.bases.now c.args.digits.now c.args.along c.args.width c.args.place) (to_z w64 c.loop-k.value-bits) c.in-Err.fault c.loop-k.k c.args.count c.loop-k-test.true
    (sym c.next_value.ensures ∙ c.in-Err.is))
    ∙ c.loop-k.invariant

pub returns : goal.returns
returns c =
    sym (value_end (pair_at c.args.bases.now c.args.digits.now c.args.along c.args.width c.args.place) (to_z w64 c.loop-k.value-bits) c.loop-k.k c.args.count c.loop-k-test.false)
    ∙ c.loop-k.invariant
