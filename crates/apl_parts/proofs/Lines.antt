-- What is kept of a line that is being done.
use Rattle.std.proofs.Common.{◌≡◌, ℕ, List, ap, ◌∙◌}
use Rattle.apl_symbols.specs.declared.class.Class.{Class}
use Rattle.apl_machine_state.specs.declared.operand.Operand.{Operand}
use Rattle.apl_frames.specs.Flat.{Flat, Stands, flat_rest}
use Rattle.apl_frames.proofs.Standing.{is_frame}
use Rattle.apl_parts.specs.Pieces.{Waiting}
use Rattle.apl_parts.specs.Taken.{classes_of, waiting_of}

pub rest_is : (f : Flat) (w : Waiting) (classes : List Class) (done : ℕ) (operands : List Operand) → Stands f → w ≡ record { classes = classes; done = done; operands = operands }
    → classes ≡ classes_of f.bound.items → done ≡ f.done → operands ≡ f.operands → w ≡ waiting_of (flat_rest f)
rest_is f w classes done operands s is a b e =
    let frame = is_frame f s in
    is
    ∙ ap (λ cs. record { classes = cs; done = done; operands = operands }) a
    ∙ ap (λ n. record { classes = classes_of f.bound.items; done = n; operands = operands }) b
    ∙ ap (λ os. record { classes = classes_of f.bound.items; done = f.done; operands = os }) (e ∙ frame.stack)
