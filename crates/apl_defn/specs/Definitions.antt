-- Functions as they are defined.
use Rattle.std.specs.Prelude.{ℕ, ◌-◌, ◌==◌, ◌&&◌, nat_le, Bool, List, [], length, Option, Some, None, unwrap_or, slice_get, if◌then◌else◌}
use Rattle.apl_symbols.specs.declared.class.Class.{Class}
use Rattle.apl_symbols.specs.declared.class.Class.TheVariants.{Niladic, Function}
use Rattle.apl_defn.specs.declared.parts.Header.{Header as Parts}

-- a text is the list of its characters, by their code points
abbrev pub Text : Type 0
Text = List ℕ

-- the names of a header: the result, the left argument, the function, the right argument, the locals
abbrev pub Header : Type 0
Header = Parts

-- a function: its header, its lines, and its labels, each with the number of its line
pub record Definition : Type 0 where
  pub header : Header
  pub lines : List Text
  pub labels : List (Text × ℕ)

-- the text of a line, counted from 1
abbrev pub line_of : Definition → ℕ → Text
line_of d n = unwrap_or (slice_get d.lines (n - 1)) []

-- the text of the line of that number, from 1, where there is one
abbrev pub line_at : List Text → ℕ → Option Text
line_at lines n = if n == 0 then None else slice_get lines (n - 1)

-- n is the number of a line
abbrev pub is_line : Definition → ℕ → Bool
is_line d n = nat_le 1 n && nat_le n (length d.lines)

-- without arguments a function is niladic
abbrev pub class_by : Option Text → Class
class_by None = Niladic
class_by (Some right) = Function

-- the class of a function, by its header
abbrev pub class_of : Definition → Class
class_of d = class_by d.header.right
