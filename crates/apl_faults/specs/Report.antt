-- Faults, and the report of one.
use Rattle.std.specs.Prelude.{ℕ, ◌+◌, ◌-◌, Bool, true, false, List, [], ◌∷◌, ◌++◌, length, replicate, Option, Some, None, codes, decimal, if◌then◌else◌}
use Rattle.apl_faults.specs.declared.reports.Call.{Call}
use Rattle.apl_faults.specs.declared.fault.Fault.{Fault}
use Rattle.apl_faults.specs.declared.fault.Fault.TheVariants.{Syntax, Value, Domain, Rank, Length, Index, Axis, Limit, Defn, Interrupt, Character, Command}

-- a fault's number
abbrev pub number_of : Fault → ℕ
number_of Syntax = 1
number_of Value = 2
number_of Domain = 3
number_of Rank = 4
number_of Length = 5
number_of Index = 6
number_of Axis = 7
number_of Limit = 8
number_of Defn = 9
number_of Interrupt = 10
number_of Character = 11
number_of Command = 12

-- a fault's name
unfoldable pub name_of : Fault → List ℕ
name_of Syntax = codes "SYNTAX ERROR"
name_of Value = codes "VALUE ERROR"
name_of Domain = codes "DOMAIN ERROR"
name_of Rank = codes "RANK ERROR"
name_of Length = codes "LENGTH ERROR"
name_of Index = codes "INDEX ERROR"
name_of Axis = codes "AXIS ERROR"
name_of Limit = codes "LIMIT ERROR"
name_of Defn = codes "DEFN ERROR"
name_of Interrupt = codes "INTERRUPT"
name_of Character = codes "CHARACTER ERROR"
name_of Command = codes "INCORRECT COMMAND"

-- its report is its name alone
abbrev pub is_alone : Fault → Bool
is_alone Defn = true
is_alone Character = true
is_alone Command = true
is_alone _ = false

-- a call's name and line number
abbrev pub call_of : Option Call → Option (List ℕ × ℕ)
call_of None = None
call_of (Some call) = Some (call.name.now, call.line)

-- a line of a call: the name and the line number
unfoldable pub place : List ℕ × ℕ → List ℕ
place call = call.0 ++ codes "[" ++ decimal call.1 ++ codes "]"

-- what stands before the line's text: a call's name and line number, or six blanks
unfoldable pub prefix : Option (List ℕ × ℕ) → List ℕ
prefix None = replicate 6 32
prefix (Some call) = place call ++ codes " "

-- the name, the line, and a caret under the column
unfoldable pub report : Fault → Option (List ℕ × ℕ) → List ℕ → ℕ → List (List ℕ)
report fault call text column =
    if is_alone fault then name_of fault ∷ []
    else name_of fault ∷ (prefix call ++ text) ∷ (replicate (length (prefix call) + (column - 1)) 32 ++ codes "^") ∷ []
