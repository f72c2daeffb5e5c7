-- What runs leave can be kept.
use Rattle.std.proofs.Common.{◌≡◌, ℕ, zero, suc, Bool, true, false, List, [], ◌∷◌, None, ◌∙◌, refl}
use Rattle.std.specs.Prelude.{if◌then◌else◌}
use Rattle.apl_machine_state.specs.State.{State, is_idle, turn}
use Rattle.apl_savable.specs.Reached.{IsReached, defining, output_taken}
use Rattle.apl_savable.proofs.Reached.{reached-savable, reached-same}
use Rattle.apl_session.specs.Defining.{closed}
use Rattle.apl_session.specs.Events.{Interrupt, Line, Steps, typed}
use Rattle.apl_resume.specs.Cut.{after_stop, cut, cut_steps, resume_line, resumed}
use Rattle.apl_runs.specs.Idle.{LeavesIdle, LinesLeaveIdle}
use Rattle.apl_runs.specs.Output.{silent}
use Rattle.apl_runs.specs.Sessions.{answered, line_events, plain}
use Rattle.apl_runs.specs.Transcript.{after_lines}
use Rattle.apl_runs.specs.Ways.{Way}
use Rattle.apl_kept_sessions.proofs.Sessions.{sessions-reached}
use Rattle.apl_kept_runs.proofs.Kept.{without-definition}
use Rattle.apl_kept_runs.specs.Promises.{CanBeKept, CutRunsCanBeKept, LeavesWhole, RunsCanBeKept, left_by}

-- an idle state to which a machine comes, with no definition open
kept-left : (s : State) → IsReached s → is_idle s ≡ true → s.definition ≡ None → CanBeKept s
kept-left s h idle none =
    let same = reached-same s h idle in
    record { idle = idle; closed = none; savable = reached-savable s h; ruled = same.0; same = same.1 ∙ without-definition s none }

-- ---- the cut run

stop-reached : (b : Bool) (t : State) → IsReached t → IsReached (if b then resumed t else t)
stop-reached true t h = sessions-reached t (Line resume_line ∷ Steps 2 ∷ []) h
stop-reached false t h = h

cut_steps-reached : (n : ℕ) (s : State) → IsReached s → IsReached (cut_steps n s)
cut_steps-reached zero s h = h
cut_steps-reached (suc n) s h = cut_steps-reached n (after_stop (turn s)) (stop-reached (turn s).stopped (turn s).state (sessions-reached s (Steps 1 ∷ []) h))

cut-reached : (x : State) (line : List ℕ) (n : ℕ) → IsReached x → IsReached (cut x line n)
cut-reached x line n h = sessions-reached (cut_steps n (typed x line)) (Interrupt ∷ []) (cut_steps-reached n (typed x line) (sessions-reached x (Line line ∷ []) h))

-- ---- lines, one after another

-- what a way keeps of a state
record Keeps (way : Way State) : Type 0 where
  reached : (s : State) (line : List ℕ) → IsReached s → IsReached (way.after_line s line)
  idle : LeavesIdle way

lines-reached : (way : Way State) → Keeps way → (lines : List (List ℕ)) (s : State) → IsReached s → IsReached (after_lines way s lines)
lines-reached way k [] s h = h
lines-reached way k (line ∷ lines) s h = lines-reached way k lines (way.after_line s line) (k.reached s line h)

lines-idle : (way : Way State) → Keeps way → (lines : List (List ℕ)) (s : State) → IsReached s → is_idle s ≡ true → is_idle (after_lines way s lines) ≡ true
lines-idle way k [] s h idle = idle
lines-idle way k (line ∷ lines) s h idle = lines-idle way k lines (way.after_line s line) (k.reached s line h) (k.idle s line (reached-savable s h).kept.order).1

left-by : (way : Way State) → Keeps way → LeavesWhole way
left-by way k x lines h idle =
    let begun = defining x None h in
    let after = after_lines way (closed x) lines in
    let taken = output_taken after (lines-reached way k lines (closed x) begun) in
    let reached = defining (silent after) None taken in
    record { reached = reached; kept = kept-left (left_by way x lines) reached (lines-idle way k lines (closed x) begun idle) refl }

-- ---- the laws

module _ (leave : LinesLeaveIdle) where
  pub cut-left : CutRunsCanBeKept
  cut-left x line n h =
      let reached = defining (cut x line n) None (cut-reached x line n h) in
      let idle = (leave.1 n x line (reached-savable x h).kept.order).1 in
      record { reached = reached; kept = kept-left (closed (cut x line n)) reached idle refl }

  pub runs-left : RunsCanBeKept
  runs-left = (
    λ n. left-by (plain n) (record { reached = λ s line h. sessions-reached s (line_events n line) h; idle = leave.0 n }),
    λ n. left-by (answered n) (record { reached = λ s line h. cut-reached s line n h; idle = leave.1 n }),
  )
