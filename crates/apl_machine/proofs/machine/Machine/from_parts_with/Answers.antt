use Rattle.apl_arrays.specs.Origins.{origin_number}
use Rattle.apl_machine.specs.Worlds.{settings}
use Rattle.apl_machine.proofs.Held.{restored_held}
use Rattle.apl_machine.proofs.Restored.{restored_is}
use Rattle.apl_machine.proofs.machine.Machine.from_parts_with.Goals as goal

pub invariant_of-result : goal.invariant_of-result
invariant_of-result c =
    let r = c.in_ok-names.field-0 in
    let e = c.in_ok-names.ensures in
    restored_held c.args.parts (record { maps = r.names; kept = settings r.stops r.traces (origin_number r.origin); contexts = r.contexts; output = c.new-2.result.items }) c.requires
    (record { contexts = e.sound })
    (restored_is c.args.parts r.names r.stops r.traces (origin_number r.origin) r.contexts c.new-2.result.items e.globals e.stops e.traces e.origin e.contexts c.new-2.ensures.items)
