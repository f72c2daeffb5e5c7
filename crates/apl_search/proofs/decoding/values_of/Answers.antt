use Rattle.std.proofs.Common.{rules, ℕ, ℤ, pos, map, Result, sym, ◌∙◌, w64}
use mir.Val.{SFits}
use Rattle.std.specs.List.{range_with_len}
use Rattle.std.proofs.lemmas.Int.{to_z-of_z}
use Rattle.apl_faults.specs.declared.fault.Fault.{Fault}
use Rattle.apl_arrays.proofs.InTurn.{turns_step, turns_fault}
use Rattle.apl_search.specs.Decoded.{valued}
use Rattle.apl_search.specs.inside.Flat.{pair_at}
use Rattle.apl_search.proofs.decoding.values_of.Goals as goal

pub value_at-requires-clause-digits : goal.value_at-requires-clause-digits
value_at-requires-clause-digits c = λ k h. c.requires.digits k c.loop-place.place h c.loop-place-test.true

pub loop-place-preserved : goal.loop-place-preserved
loop-place-preserved c =
    let fits : SFits w64 c.in-Ok.value = search rules in
    let f : ℕ → Result ℤ Fault = λ p. valued (pos 0) (map (pair_at c.args.bases.now c.args.digits.now c.args.along c.args.width p) (range_with_len 0 c.args.count)) in
    turns_step f c.loop-place.out.items _ c.in-Ok.value c.loop-place.place c.args.width c.loop-place-test.true (sym c.value_at.ensures ∙ c.in-Ok.is) (simp to_z-of_z at c.in_ok-push-in-Ok.ensures.items)
    ∙ c.loop-place.invariant

pub returns-in-Err : goal.returns-in-Err
returns-in-Err c =
    let f : ℕ → Result ℤ Fault = λ p. valued (pos 0) (map (pair_at c.args.bases.now c.args.digits.now c.args.along c.args.width p) (range_with_len 0 c.args.count)) in
    sym c.loop-place.invariant ∙ turns_fault f c.loop-place.out.items c.in-Err.fault c.loop-place.place c.args.width c.loop-place-test.true (sym c.value_at.ensures ∙ c.in-Err.is)
