use Rattle.std.proofs.Common.{arith, ◌≡◌, [], length, ap, sym, ◌∙◌}
use Rattle.apl_arrays.specs.Cells.{cells_of}
use Rattle.apl_arrays.specs.Left.{listed}
use Rattle.apl_arrays.specs.Strides.{seen}
use Rattle.apl_arrays.proofs.Nth.{next_left, none_left, nth_small}
use Rattle.apl_arrays.proofs.view_elements.ViewElementsIterator.next.Goals as goal

pub returns-in_err-cell-clause-steps : goal.returns-in_err-cell-clause-steps
returns-in_err-cell-clause-steps c =
    let none : cells_of c.args.self.now ≡ [] = ap cells_of (sym c.self.view_is) ∙ none_left _ c.self.inside.given (sym c.in_err-cell.ensures) in
    rw c.from_residual.ensures (none, none)

pub overflow_add-self : goal.overflow_add-self
overflow_add-self c =
    omega (arith, nth_small (listed c.self.inside.strided.items) c.self.inside.strided.offset c.self.inside.strided.axes.now c.self.inside.given c.in_ok-cell.cell c.self.invariant.0 (sym c.in_ok-cell.ensures))

pub returns-clause-steps : goal.returns-clause-steps
returns-clause-steps c = ap cells_of (sym c.self.view_is) ∙ next_left _ c.self.inside.given c.in_ok-cell.cell (sym c.in_ok-cell.ensures)

pub returns-clause-goes : goal.returns-clause-goes
returns-clause-goes c =
    let step = ap cells_of (sym c.self.view_is) ∙ next_left (seen (listed c.self.inside.strided.items) c.self.inside.strided.offset c.self.inside.strided.axes.now) c.self.inside.given c.in_ok-cell.cell (sym c.in_ok-cell.ensures) in
    record { on = λ h. (tt, tt, omega (arith, ap length step)); keeps = tt; rests = λ h. tt }
