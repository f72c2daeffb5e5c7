-- How lines are spelled.
use Rattle.std.specs.Prelude.{ℕ, List, [], ◌∷◌, ◌++◌, map}
use Rattle.std.specs.List.{flat_map}
use Rattle.apl_charset.specs.Text.{bytes}
use Rattle.apl_defn.specs.Definitions.{Text}
use Rattle.apl_machine_state.specs.declared.output.OutLine.{OutLine}

-- a line in UTF-8, with its line feed
abbrev pub line_bytes : Text → List ℕ
line_bytes line = bytes line ++ 10 ∷ []

abbrev pub spelled : List Text → List ℕ
spelled lines = flat_map line_bytes lines

abbrev pub texts_of : List OutLine → List Text
texts_of lines = map (λ line. line.text) lines
