-- Nothing runs between two lines, where the contexts stand in order.
use Rattle.std.proofs.Common.{◌≡◌, ℕ, zero, suc, List, [], ◌∷◌, Bool, true, false, Option, Some, None, refl}
use Rattle.std.specs.Prelude.{if◌then◌else◌}
use Rattle.apl_machine_state.specs.Items.{Rest}
use Rattle.apl_machine_state.specs.Environment.{Context, Statement, Call, Execute, is_idle_in, is_suspended, rest_of}
use Rattle.apl_machine_state.specs.Reports.{abandoned}
use Rattle.apl_machine_state.specs.State.{State, turn, is_idle, interrupt, interrupted, steps}
use Rattle.apl_order.specs.Order.{AreInOrder, IsBelow, IsSuspended}
use Rattle.apl_session.specs.Events.{Line, Steps, Interrupt, typed}
use Rattle.apl_resume.specs.Cut.{after_stop, cut_steps, resume_line, resumed}
use Rattle.apl_resume.specs.Standing.{AlwaysInOrder}
use Rattle.apl_runs.specs.Sessions.{plain, answered, line_events}
use Rattle.apl_runs.specs.Idle.{LeavesIdle, LinesLeaveIdle}

suspended : (rest : Option Rest) → IsSuspended rest → is_suspended rest ≡ true
suspended None h = refl
suspended (Some rest) h = absurd h

-- beneath a fault's context the newest is suspended, or nothing stands
abandoned-idle : (context : Context) (below : List Context) → IsBelow context below → is_idle_in (abandoned (context ∷ below)) ≡ true
abandoned-idle (Statement text rest) [] b = refl
abandoned-idle (Statement text rest) (context ∷ below) b = suspended (rest_of context) b.1
abandoned-idle (Call d n locals rest) below b = refl
abandoned-idle (Execute text rest) [] b = refl
abandoned-idle (Execute text rest) (context ∷ below) b = abandoned-idle context below b.2

dropped-idle : (contexts : List Context) → AreInOrder contexts → is_idle_in (abandoned contexts) ≡ true
dropped-idle [] h = refl
dropped-idle (context ∷ below) h = abandoned-idle context below h.2

interrupted-idle : (b : Bool) (s : State) → is_idle s ≡ b → AreInOrder s.contexts → is_idle (interrupted b s) ≡ true
interrupted-idle true s e h = e
interrupted-idle false s e h = dropped-idle s.contexts h

interrupt-idle : (s : State) → AreInOrder s.contexts → is_idle (interrupt s) ≡ true
interrupt-idle s h = interrupted-idle (is_idle s) s refl h

module _ (always : AlwaysInOrder) where
  -- an answer is a line and two steps
  stop-order : (b : Bool) (t : State) → AreInOrder t.contexts → AreInOrder (if b then resumed t else t).contexts
  stop-order true t h = always t (Line resume_line ∷ Steps 2 ∷ []) h
  stop-order false t h = h

  cut-order : (n : ℕ) (s : State) → AreInOrder s.contexts → AreInOrder (cut_steps n s).contexts
  cut-order zero s h = h
  cut-order (suc n) s h = cut-order n (after_stop (turn s)) (stop-order (turn s).stopped (turn s).state (always s (Steps 1 ∷ []) h))

  plain-idle : (n : ℕ) → LeavesIdle (plain n)
  plain-idle n s line h =
      let made : AreInOrder (steps n (typed s line)).contexts = always s (Line line ∷ Steps n ∷ []) h in
      (always s (line_events n line) h, interrupt-idle (steps n (typed s line)) made)

  answered-idle : (n : ℕ) → LeavesIdle (answered n)
  answered-idle n s line h =
      let made : AreInOrder (cut_steps n (typed s line)).contexts = cut-order n (typed s line) (always s (Line line ∷ []) h) in
      (always (cut_steps n (typed s line)) (Interrupt ∷ []) made, interrupt-idle (cut_steps n (typed s line)) made)

  -- THE LAW, from that of the order of contexts
  pub lines-leave_idle : LinesLeaveIdle
  lines-leave_idle = (plain-idle, answered-idle)
