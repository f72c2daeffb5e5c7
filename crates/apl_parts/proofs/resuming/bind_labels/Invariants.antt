use Rattle.std.proofs.Common.{◌≡◌, ◌≤◌, All, length, map}
use Rattle.apl_machine_state.specs.Calls.{label_of}
use Rattle.apl_names.specs.Maps.{AreBeneath, with_locals}
use Rattle.apl_parts.proofs.resuming.bind_labels.Given as goal

abbrev pub invariant-loop-name : goal.invariant-loop-name
invariant-loop-name l = (with_locals (map label_of l.left) l.names ≡ with_locals (map label_of l.fn.labels) l.fn.names) × AreBeneath l.fn.names l.names × All (λ l. l.1 ≤ 999) l.left

abbrev pub decreases-loop-name : goal.decreases-loop-name
decreases-loop-name l = length l.left
