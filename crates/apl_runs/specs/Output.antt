-- Output as it is written.
use Rattle.std.specs.Prelude.{List, ℕ, [], ◌∷◌, ◌++◌}
use Rattle.apl_charset.specs.Text.{bytes}
use Rattle.apl_machine_state.specs.declared.output.OutLine.{OutLine}
use Rattle.apl_machine_state.specs.State.{State}

-- output in UTF-8, each line with its line feed
abbrev pub written : List OutLine → List ℕ
written [] = []
written (line ∷ lines) = bytes line.text ++ 10 ∷ written lines

-- the same, each line behind a label
abbrev pub labelled : List ℕ → List OutLine → List ℕ
labelled label [] = []
labelled label (line ∷ lines) = label ++ bytes line.text ++ 10 ∷ labelled label lines

-- with its output taken
abbrev pub silent : State → State
silent s = record s { output = [] }
