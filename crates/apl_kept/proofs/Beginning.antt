-- Which state a session begins with, and that a machine comes to it and to all after it.
use Rattle.std.proofs.Common.{◌≡◌, ℕ, List, [], ◌∷◌, None, sym, subst}
use Rattle.std.specs.Prelude.{Result, Ok, Err, IfErr, OnErr, OnOk}
use Rattle.apl_machine_state.specs.State.{State, interrupt, steps}
use Rattle.apl_session.specs.Defining.{closed}
use Rattle.apl_session.specs.Events.{Line, Steps, Interrupt, typed}
use Rattle.apl_savable.specs.Reached.{IsReached, new, loaded, defining, output_taken}
use Rattle.apl_kept_sessions.proofs.Sessions.{sessions-reached}
use Rattle.apl_kept.specs.Keeping.{BeginsWith}

begun-reached : (bytes : List ℕ) (s : State) → BeginsWith bytes s → IsReached s
begun-reached [] s e = subst IsReached (sym e) new
begun-reached (b ∷ bytes) s h = subst IsReached (sym h.2.state) (loaded h.2.parts h.2.ruled)

pub open_reached : (bytes : List ℕ) (s t : State) → BeginsWith bytes s → t ≡ closed s → IsReached t
open_reached bytes s t h e = subst IsReached (sym e) (defining s None (begun-reached bytes s h))

pub closed_reached : (s : State) → IsReached s → IsReached (closed s)
closed_reached s h = defining s None h

-- ---- what happens to a session

typed-reached : (s : State) (line : List ℕ) → IsReached s → IsReached (typed s line)
typed-reached s line h = sessions-reached s (Line line ∷ []) h

steps-reached : (s : State) (count : ℕ) → IsReached s → IsReached (steps count s)
steps-reached s count h = sessions-reached s (Steps count ∷ []) h

interrupt-reached : (s : State) → IsReached s → IsReached (interrupt s)
interrupt-reached s h = sessions-reached s (Interrupt ∷ []) h

-- a call that may be refused leads from one state to another, or leaves it
either : {A E : Type 0} (r : Result A E) (s t u : State) → OnOk r (t ≡ u) → OnErr r (t ≡ s) → IsReached s → IsReached u → IsReached t
either (Ok x) s t u ok err h g = subst IsReached (sym ok) g
either (Err e) s t u ok err h g = subst IsReached (sym err) h

pub fed : {A E : Type 0} (r : Result A E) (s t : State) (line : List ℕ) → OnOk r (t ≡ typed s line) → OnErr r (t ≡ s) → IsReached s → IsReached t
fed r s t line ok err h = either r s t (typed s line) ok err h (typed-reached s line h)

pub stopped : {A E : Type 0} (r : Result A E) (s t : State) → OnOk r (t ≡ interrupt s) → OnErr r (t ≡ s) → IsReached s → IsReached t
stopped r s t ok err h = either r s t (interrupt s) ok err h (interrupt-reached s h)

pub made : {A : Type 0} (r : Result A ℕ) (s t : State) (count : ℕ) → OnOk r (t ≡ steps count s) → IfErr r (λ done. t ≡ steps done s) → IsReached s → IsReached t
made (Ok x) s t count ok err h = subst IsReached (sym ok) (steps-reached s count h)
made (Err done) s t count ok err h = subst IsReached (sym err) (steps-reached s done h)

pub taken : (s t : State) → t ≡ record s { output = [] } → IsReached s → IsReached t
taken s t e h = subst IsReached (sym e) (output_taken s h)
