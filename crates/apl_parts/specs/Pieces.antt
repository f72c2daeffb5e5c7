-- The parts of a workspace: the fields in which it is kept beyond a session.
use Rattle.std.specs.Prelude.{ℕ, List, Option}
use Rattle.apl_arrays.specs.Cells.{Arr}
use Rattle.apl_symbols.specs.declared.class.Class.{Class}
use Rattle.apl_defn.specs.Definitions.{Text, Definition}
use Rattle.apl_machine_state.specs.declared.operand.Operand.{Operand}

-- A line that awaits an answer: the classes with which its names were bound, in the order of the text, how many of its phrases are done, the last of
-- them the one that awaits, and the operand stack, its top last.
pub record Waiting : Type 0 where
  pub classes : List Class
  pub done : ℕ
  pub operands : List Operand

-- A standing call: its function as it was defined when the call began, its line, what its result, arguments and locals stand for, in the order of
-- the header, and its line where it awaits an answer. Without that it is suspended before the line.
pub record Standing : Type 0 where
  pub definition : Definition
  pub at : ℕ
  pub locals : List (Text × Option Arr)
  pub rest : Option Waiting

-- a global function with its stop and trace vectors
pub record Watched : Type 0 where
  pub definition : Definition
  pub stops : List ℕ
  pub traces : List ℕ
