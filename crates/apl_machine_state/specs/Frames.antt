-- What is borrowed of a frame's line that is being done.
use Rattle.std.specs.Prelude.{◌≡◌, ℕ, false, List}
use Rattle.apl_code.specs.declared.instr.Instr.{Instr}
use Rattle.apl_translate.specs.Translation.{Translates}
use Rattle.apl_machine_state.specs.declared.operand.Operand.{Operand}
use Rattle.apl_machine_state.specs.Items.{Rest, operand_stack}

-- the code of the line, how many of its phrases are done, and the operand stack, its top last
pub record IsFrame (rest : Rest) (code : List Instr) (done : ℕ) (operands : List Operand) : Type 0 where
  pub translates : Translates code false rest.bound.items
  pub as_many : done ≡ rest.done
  pub stack : operands ≡ operand_stack rest.items
