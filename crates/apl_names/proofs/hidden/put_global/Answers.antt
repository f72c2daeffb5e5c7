use Rattle.std.proofs.Common.{◌≡◌, ◌∙◌, ◌<◌, List, ap, arith, set, subst, sym, take}
use Rattle.std.proofs.Math.Seq.{take-set-lt}
use Rattle.std.proofs.lemmas.List.{get_or-take, length-take-le, with_items_is}
use Rattle.std.specs.Global.{Vec}
use Rattle.std.specs.Vec.{with_items}
use Rattle.indexmap.specs.IndexMap.{keys}
use Rattle.apl_names.specs.declared.slots.SlotContent.{SlotContent}
use Rattle.apl_names.specs.Slots.{IsSound, IsOldest, NoneHides, stack_of, held_of, last_updated, name_at, with_first}
use Rattle.apl_names.proofs.GlobalSlots.{slot_given, content_given}
use Rattle.apl_names.proofs.hidden.put_global.Goals as goal

hidden_given : (c : goal.After-scopes-1) → IsSound c.args.symbols.now.entries (take c.args.count (set c.args.scopes.now.items c.in-Some.scope (with_items c.index_mut.result.now c.put_first.new.hidden)))
    × (stack_of (held_of c.args.symbols.now.entries (take c.args.count (set c.args.scopes.now.items c.in-Some.scope (with_items c.index_mut.result.now c.put_first.new.hidden))))
    ≡ last_updated (name_at (keys c.args.symbols.now) c.args.slot) c.args.content (stack_of (held_of c.args.symbols.now.entries (take c.args.count c.args.scopes.now.items))))
hidden_given c =
    let v = c.index_mut.result.now in
    let w = with_items v c.put_first.new.hidden in
    let fs = c.args.scopes.now.items in
    let n = c.args.count in
    let i = c.in-Some.scope in
    let es = c.args.symbols.now.entries in
    let whole = with_items_is v c.put_first.new.hidden (c.put_first.auto.hidden ∙ c.as_mut_slice.ensures.len) in
    let oldest = subst (λ l. IsOldest c.args.slot l i) (ap (take n) c.deref.ensures.value) c.in-Some.ensures in
    let lt : i < n = omega (arith, oldest.0, length-take-le n fs c.requires.count) in
    let at = c.index_mut.ensures.value ∙ sym (get_or-take n fs i v lt) in
    let given = content_given es (take n fs) c.args.slot c.args.content c.requires.within c.requires.unique c.requires.sound i v w oldest
    (whole ∙ c.put_first.ensures ∙ ap (with_first c.args.slot c.args.content) (c.as_mut_slice.ensures.value ∙ ap (λ w. w.items) at)) in
    subst (λ (l : List (Vec SlotContent)). IsSound es l × (stack_of (held_of es l) ≡ last_updated (name_at (keys c.args.symbols.now) c.args.slot) c.args.content (stack_of (held_of es (take n fs)))))
    (sym (take-set-lt n fs i w lt)) given

pub returns-in-Some-clause-sound : goal.returns-in-Some-clause-sound
returns-in-Some-clause-sound c = (hidden_given c).0

pub returns-in-Some-clause-stack : goal.returns-in-Some-clause-stack
returns-in-Some-clause-stack c = (hidden_given c).1

pub returns-in-None-clause-sound : goal.returns-in-None-clause-sound
returns-in-None-clause-sound c = (slot_given c.args.symbols.now.entries (take c.args.count c.args.scopes.now.items) c.args.slot c.args.content c.requires.within c.requires.unique c.requires.sound c.put.new.symbols.entries c.put.ensures.keys c.put.ensures.scope (subst (NoneHides c.args.slot) (ap (take c.args.count) c.deref.ensures.value) c.in-None.ensures)).0

pub returns-in-None-clause-stack : goal.returns-in-None-clause-stack
returns-in-None-clause-stack c = (slot_given c.args.symbols.now.entries (take c.args.count c.args.scopes.now.items) c.args.slot c.args.content c.requires.within c.requires.unique c.requires.sound c.put.new.symbols.entries c.put.ensures.keys c.put.ensures.scope (subst (NoneHides c.args.slot) (ap (take c.args.count) c.deref.ensures.value) c.in-None.ensures)).1
