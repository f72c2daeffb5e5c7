use Rattle.std.proofs.Common.{◌≡◌, ◌∙◌, ◌≤◌, ℕ, length, drop, ap, subst, arith, rules}
use Rattle.std.specs.Prelude.{IfOk}
use Rattle.std.specs.Map.{keys_of}
use Rattle.std.specs.BTreeMap.{insert_entry}
use Rattle.indexmap.specs.IndexMap.{keys}
use Rattle.apl_names.specs.Maps.{name_cmp, said, last_map, kinds_in}
use Rattle.apl_names.specs.Slots.{held_of, maps_of, listed}
use Rattle.apl_names.proofs.Symbols.{length-keys_of}
use Rattle.apl_names.proofs.GlobalKinds.{one_added, all_listed}
use Rattle.apl_names.proofs.global_scope.kinds.Goals as goal

pub loop-slot-preserved-in_ok-insert : goal.loop-slot-preserved-in_ok-insert
loop-slot-preserved-in_ok-insert c =
    let m = c.args.symbols.now in
    let es = c.loop-slot.kinds.entries in
    let i = c.loop-slot.slot in
    let le : i ≤ length (keys m) = omega (arith, c.loop-slot.auto.slot, c.len-slot.ensures.len, length-keys_of m.entries) in
    c.in_ok-insert.ensures.entries
    ∙ ap (insert_entry name_cmp es c.in-Some.name.now) c.is_function.ensures
    ∙ one_added (keys m) (said (last_map (maps_of (held_of m.entries c.args.scopes.now)))) i c.loop-slot-test.true le es c.loop-slot.invariant c.in-Some.name.now c.in-Some.binding.now c.in-Some.ensures

pub returns : goal.returns
returns c =
    let es = c.args.symbols.now.entries in
    let global = last_map (maps_of (held_of es c.args.scopes.now)) in
    let collected : IfOk c.collect.result (λ kinds. kinds.items ≡ c.loop-slot.kinds.entries) = search rules in
    let none_left : c.loop-slot.slot ≡ 0 = omega (arith, c.loop-slot-test.false) in
    let all = c.loop-slot.invariant ∙ ap (λ (i : ℕ). kinds_in (listed (drop i (keys_of es)) (said global))) none_left ∙ ap kinds_in (all_listed es c.args.scopes.now c.requires.within) in
    subst (λ l. IfOk c.collect.result (λ kinds. kinds.items ≡ l)) all collected
