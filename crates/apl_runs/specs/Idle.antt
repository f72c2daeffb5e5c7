-- Nothing runs between two lines.
use Rattle.std.specs.Prelude.{◌≡◌, ℕ, List, true}
use Rattle.apl_machine_state.specs.State.{State, is_idle}
use Rattle.apl_order.specs.Order.{AreInOrder}
use Rattle.apl_runs.specs.Sessions.{plain, answered}
use Rattle.apl_runs.specs.Ways.{Way}

-- where the contexts stand in order, they do after a line that is done in this way, and nothing runs then
abbrev pub LeavesIdle : Way State → Type 0
LeavesIdle way = (s : State) (line : List ℕ) → AreInOrder s.contexts → AreInOrder (way.after_line s line).contexts × (is_idle (way.after_line s line) ≡ true)

-- in either way
abbrev pub LinesLeaveIdle : Type 0
LinesLeaveIdle = ((n : ℕ) → LeavesIdle (plain n)) × ((n : ℕ) → LeavesIdle (answered n))
