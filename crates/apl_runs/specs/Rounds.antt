-- A run over the sessions of a desk: a line is for one of them, and then each makes its steps.
use Rattle.std.specs.Prelude.{ℕ, zero, suc, ◌+◌, ◌==◌, List, [], ◌∷◌, ◌++◌, length, map, Option, Some, None, slice_set, codes, decimal, if◌then◌else◌}
use Rattle.apl_machine_state.specs.State.{State, is_idle, steps, interrupt}
use Rattle.apl_session.specs.Events.{typed}
use Rattle.apl_desk.specs.Desk.{session}
use Rattle.apl_runs.specs.Output.{labelled, silent}
use Rattle.apl_runs.specs.Ways.{Way}

-- the states of the sessions, and the bytes that stand to be written
pub record Board : Type 0 where
  pub sessions : List State
  pub unwritten : List ℕ

-- sessions before anything is written
abbrev pub board : List State → Board
board sessions = record { sessions = sessions; unwritten = [] }

-- what stands before the lines that a session is typed, and before those that it writes: its number and a blank
abbrev pub label : ℕ → List ℕ
label k = decimal k ++ 32 ∷ []

-- what follows a prefix of a line, if the line begins with that
abbrev pub behind : List ℕ → List ℕ → Option (List ℕ)
behind [] line = Some line
behind (c ∷ prefix) [] = None
behind (c ∷ prefix) (d ∷ line) = if d == c then behind prefix line else None

-- what a line says: the number of a session, and what is typed to it
pub record Spoken : Type 0 where
  pub number : ℕ
  pub text : List ℕ

-- what it says to session k, if it begins with that one's label, or else to others
abbrev pub spoken_or : ℕ → Option (List ℕ) → Option Spoken → Option Spoken
spoken_or k (Some text) others = Some (record { number = k; text = text })
spoken_or k None others = others

-- what it says to one of n sessions from number k on
abbrev pub spoken_from : ℕ → ℕ → List ℕ → Option Spoken
spoken_from k zero line = None
spoken_from k (suc n) line = spoken_or k (behind (label k) line) (spoken_from (k + 1) n line)

-- what it says to one of so many sessions
abbrev pub spoken : ℕ → List ℕ → Option Spoken
spoken count line = spoken_from 0 count line

-- what the desk itself answers: a line may be for no session, and one for a session that runs is lost
abbrev pub answer_to : List State → Option Spoken → List ℕ
answer_to sessions None = codes "NO SESSION\n"
answer_to sessions (Some s) = if is_idle (session sessions s.number) then [] else label s.number ++ codes "BUSY\n"

-- the sessions when it is typed, which changes nothing in one that runs
abbrev pub fed_by : List State → Option Spoken → List State
fed_by sessions None = sessions
fed_by sessions (Some s) = slice_set sessions s.number (typed (session sessions s.number) s.text)

-- the output of sessions from number k on, each line behind its session's label
abbrev pub outputs : ℕ → List State → List ℕ
outputs k [] = []
outputs k (s ∷ sessions) = labelled (label k) s.output ++ outputs (k + 1) sessions

-- sessions, whose output is taken behind what stands to be written
abbrev pub told : List State → List ℕ → Board
told sessions unwritten = record { sessions = map silent sessions; unwritten = unwritten ++ outputs 0 sessions }

-- A round: a line is answered or typed, and then each session makes n steps.
abbrev pub after_round : ℕ → Board → List ℕ → Board
after_round n b line =
    let said = spoken (length b.sessions) line in
    told (map (steps n) (fed_by b.sessions said)) (b.unwritten ++ answer_to b.sessions said)

-- the end of the input: what still runs is interrupted
abbrev pub after_end : Board → Board
after_end b = told (map interrupt b.sessions) b.unwritten

-- rounds of n steps
abbrev pub rounds : ℕ → Way Board
rounds n = record { after_line = after_round n; at_end = after_end; unwritten = λ b. b.unwritten; quiet = λ b. board b.sessions }
