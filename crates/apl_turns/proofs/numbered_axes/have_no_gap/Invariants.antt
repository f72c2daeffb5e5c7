use Rattle.std.proofs.Common.{◌≡◌, drop}
use Rattle.std.specs.List.{list_all}
use Rattle.apl_turns.specs.Turns.{has_its_place}
use Rattle.apl_turns.proofs.numbered_axes.have_no_gap.Given as goal

abbrev pub invariant-loop-axis : goal.invariant-loop-axis
invariant-loop-axis l = list_all (has_its_place l.axes) (drop l.axis-index l.axes) ≡ list_all (has_its_place l.axes) l.axes
