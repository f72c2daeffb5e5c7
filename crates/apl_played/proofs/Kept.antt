-- Lines leave nothing running, and a state to which a machine comes, which a workspace file can hold.
use Rattle.std.proofs.Common.{◌≡◌, ℕ, List, [], ◌∷◌, true, None, sym, subst}
use Rattle.apl_machine_state.specs.State.{State, is_idle}
use Rattle.apl_savable.specs.Reached.{IsReached, ReachedIsSavable, new, loaded, output_taken, defining}
use Rattle.apl_kept_sessions.specs.Promises.{SessionsKeepReached}
use Rattle.apl_runs.specs.Idle.{LeavesIdle}
use Rattle.apl_runs.specs.Sessions.{line_events, plain}
use Rattle.apl_runs.specs.Transcript.{after_lines, lines_of}
use Rattle.apl_workspace.specs.Saved.{settled}
use Rattle.apl_played.specs.Laws.{LinesKeepReached, LinesKeepSavable}
use Rattle.apl_played.specs.Playing.{BeginsWith, state_after}

module _ (reached-savable : ReachedIsSavable) (sessions-reached : SessionsKeepReached) (leaves-idle : (n : ℕ) → LeavesIdle (plain n)) where
  begun-reached : (bytes : List ℕ) (s : State) → BeginsWith bytes s → IsReached s
  begun-reached [] s e = subst IsReached (sym e) new
  begun-reached (b ∷ bytes) s h = subst IsReached (sym h.2.state) (loaded h.2.parts h.2.ruled)

  lines-reached : (n : ℕ) (s : State) (lines : List (List ℕ)) → IsReached s → IsReached (after_lines (plain n) s lines)
  lines-reached n s [] h = h
  lines-reached n s (line ∷ lines) h = lines-reached n ((plain n).after_line s line) lines (sessions-reached s (line_events n line) h)

  lines-idle : (n : ℕ) (s : State) (lines : List (List ℕ)) → IsReached s → is_idle s ≡ true → is_idle (after_lines (plain n) s lines) ≡ true
  lines-idle n s [] h idle = idle
  lines-idle n s (line ∷ lines) h idle =
      lines-idle n ((plain n).after_line s line) lines (sessions-reached s (line_events n line) h) (leaves-idle n s line (reached-savable s h).kept.order).1

  settled-reached : (s : State) → IsReached s → IsReached (settled s)
  settled-reached s h = output_taken (record s { definition = None }) (defining s None h)

  pub lines-kept-reached : LinesKeepReached
  lines-kept-reached steps workspace s lines begun idle =
      let h = begun-reached workspace s begun in
      (lines-idle steps s (lines_of lines) h idle, settled-reached (after_lines (plain steps) s (lines_of lines)) (lines-reached steps s (lines_of lines) h))

  pub lines-kept-savable : LinesKeepSavable
  lines-kept-savable steps workspace s lines begun idle =
      let h = lines-kept-reached steps workspace s lines begun idle in
      (h.0, reached-savable (state_after steps s lines) h.1)
