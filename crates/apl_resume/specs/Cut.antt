-- A run that is cut at its stops, and the same run without them.
use Rattle.std.specs.Prelude.{◌≡◌, ℕ, zero, suc, ◌+◌, List, [], ◌∷◌, filter, Bool, true, false, ◌&&◌, not, if◌then◌else◌}
use Rattle.apl_defn.specs.Definitions.{is_line}
use Rattle.apl_vectors.specs.Vectors.{Vectors, has_line}
use Rattle.apl_machine_state.specs.declared.output.LineKind.{LineKind}
use Rattle.apl_machine_state.specs.declared.output.LineKind.TheVariants as line_kind
use Rattle.apl_machine_state.specs.declared.output.OutLine.{OutLine}
use Rattle.apl_machine_state.specs.declared.watch.Watch.TheVariants.{Stop}
use Rattle.apl_machine_state.specs.Changes.{Change, Arrives, Asks, change}
use Rattle.apl_machine_state.specs.State.{State, Turn, turn, step, steps, is_idle, interrupt}
use Rattle.apl_session.specs.Events.{typed}

abbrev pub reports_stop : LineKind → Bool
reports_stop line_kind.Stop = true
reports_stop kind = false

-- the output without stop reports
abbrev pub plain : List OutLine → List OutLine
plain output = filter (λ l. not (reports_stop l.kind)) output

-- a state without its stop vectors and stop reports
abbrev pub free : State → State
free s = record s { stops = []; output = plain s.output }

-- a state with its stop vectors emptied
abbrev pub unstopped : State → State
unstopped s = record s { stops = [] }

-- the bytes of the line →⎕LC
abbrev pub resume_line : List ℕ
resume_line = 0xE2 ∷ 0x86 ∷ 0x92 ∷ 0xE2 ∷ 0x8E ∷ 0x95 ∷ 0x4C ∷ 0x43 ∷ []

-- the line →⎕LC is typed, and given two steps
abbrev pub resumed : State → State
resumed s = steps 2 (typed s resume_line)

-- a step's state, where a stop is answered so
abbrev pub after_stop : Turn → State
after_stop t = if t.stopped then resumed t.state else t.state

-- n steps, and two more at each stop for the line →⎕LC
abbrev pub cut_steps : ℕ → State → State
cut_steps zero s = s
cut_steps (suc n) s = cut_steps n (after_stop (turn s))

-- a test as a number
abbrev pub count : Bool → ℕ
count true = 1
count false = 0

-- how many stops there are on the way
abbrev pub stops_in : ℕ → State → ℕ
stops_in zero s = 0
stops_in (suc n) s = count (turn s).stopped + stops_in n (after_stop (turn s))

-- a line is typed and given n steps, each stop is answered, and what still runs is interrupted
abbrev pub cut : State → List ℕ → ℕ → State
cut x line n = interrupt (cut_steps n (typed x line))

-- the same without stops
abbrev pub uncut : State → List ℕ → ℕ → State
uncut x line n = interrupt (steps n (typed (unstopped x) line))

-- a change asks no stop vector
abbrev pub is_quiet : Change → Bool
is_quiet (Asks Stop world name lines given) = false
is_quiet change = true

-- a run of n steps reduces no phrase of ⎕STOP
abbrev pub IsQuietRun : ℕ → State → Type 0
IsQuietRun zero s = Unit {0}
IsQuietRun (suc n) s = (is_quiet (change s.world s.contexts) ≡ true) × IsQuietRun n (step s)

-- a change comes to a line that these vectors name, other than by a typed branch
abbrev pub is_named_by : Vectors → Change → Bool
is_named_by stops (Arrives w d n locals below lines ended) = is_line d n && has_line d.header.name n stops
is_named_by stops change = false

-- how many such lines a run of n steps comes to
abbrev pub named_in : Vectors → ℕ → State → ℕ
named_in stops zero s = 0
named_in stops (suc n) s = count (is_named_by stops (change s.world s.contexts)) + named_in stops n (step s)

-- how many of n steps don't begin idle
abbrev pub moves : ℕ → State → ℕ
moves zero s = 0
moves (suc n) s = count (not (is_idle s)) + moves n (step s)

-- single steps, where each stop is answered at once by the line →⎕LC
abbrev pub answered : Turn → State
answered t = if t.stopped then typed t.state resume_line else t.state

abbrev pub cut_by : ℕ → State → State
cut_by zero s = s
cut_by (suc n) s = cut_by n (answered (turn s))

-- how many stops there are in single steps
abbrev pub stops_by : ℕ → State → ℕ
stops_by zero s = 0
stops_by (suc n) s = count (turn s).stopped + stops_by n (answered (turn s))

-- how many of n single steps don't begin idle
abbrev pub moves_by : ℕ → State → ℕ
moves_by zero s = 0
moves_by (suc n) s = count (not (is_idle s)) + moves_by n (answered (turn s))
