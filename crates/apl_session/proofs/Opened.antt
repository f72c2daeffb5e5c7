-- Steps neither see nor change the open definition.
use Rattle.std.proofs.Common.{◌≡◌, ℕ, zero, suc, List, Option, Bool, true, false, cond, ap, ◌∙◌, refl}
use Rattle.apl_defn.specs.Definitions.{Text, Definition, is_line}
use Rattle.apl_names.specs.Maps.{Map}
use Rattle.apl_machine_state.specs.declared.output.OutLine.{OutLine}
use Rattle.apl_machine_state.specs.declared.output.Progress.{Progress}
use Rattle.apl_machine_state.specs.Environment.{World, Context}
use Rattle.apl_machine_state.specs.declared.watch.Watch.TheVariants.{Stop, Trace}
use Rattle.apl_machine_state.specs.Changes.{Change, Rests, Moves, Asks, Arrives, change}
use Rattle.apl_machine_state.specs.State.{State, is_idle, step, steps, steps_progress, last_progress, progress_at, progress, turn, applied, arrived, comes_to}
use Rattle.apl_vectors.specs.Vectors.{has_line}
use Rattle.apl_machine.specs.Counts.{steps_made}

-- the state with that definition open, if any
abbrev pub within : Option (List Text) → State → State
within d s = record s { definition = d }

comes-within : (d : Option (List Text)) (stops : Bool) (s : State) (w : World) (f : Definition) (n : ℕ) (locals : Map) (below : List Context) (lines : List OutLine) (ended : Bool) →
    (comes_to stops (within d s) w f n locals below lines ended).state ≡ within d (comes_to stops s w f n locals below lines ended).state
comes-within d true s w f n locals below lines ended = refl
comes-within d false s w f n locals below lines ended = refl

arrived-within : (d : Option (List Text)) (is_there : Bool) (s : State) (w : World) (f : Definition) (n : ℕ) (locals : Map) (below : List Context) (lines : List OutLine) (ended : Bool) →
    (arrived is_there (within d s) w f n locals below lines ended).state ≡ within d (arrived is_there s w f n locals below lines ended).state
arrived-within d true s w f n locals below lines ended = comes-within d (has_line f.header.name n s.stops) s w f n locals below lines ended
arrived-within d false s w f n locals below lines ended = refl

applied-within : (d : Option (List Text)) (s : State) (c : Change) → (applied (within d s) c).state ≡ within d (applied s c).state
applied-within d s Rests = refl
applied-within d s (Moves w contexts lines ended) = refl
applied-within d s (Asks Stop w name lines given) = refl
applied-within d s (Asks Trace w name lines given) = refl
applied-within d s (Arrives w f n locals below lines ended) = arrived-within d (is_line f n) s w f n locals below lines ended

pub steps-within : (d : Option (List Text)) (n : ℕ) (s : State) → steps n (within d s) ≡ within d (steps n s)
steps-within d zero s = refl
steps-within d (suc n) s = ap (steps n) (applied-within d s (change s.world s.contexts)) ∙ steps-within d n (step s)

comes-progress : (d : Option (List Text)) (stops : Bool) (s : State) (w : World) (f : Definition) (n : ℕ) (locals : Map) (below : List Context) (lines : List OutLine) (ended : Bool) →
    progress (comes_to stops (within d s) w f n locals below lines ended) ≡ progress (comes_to stops s w f n locals below lines ended)
comes-progress d true s w f n locals below lines ended = refl
comes-progress d false s w f n locals below lines ended = refl

arrived-progress : (d : Option (List Text)) (is_there : Bool) (s : State) (w : World) (f : Definition) (n : ℕ) (locals : Map) (below : List Context) (lines : List OutLine) (ended : Bool) →
    progress (arrived is_there (within d s) w f n locals below lines ended) ≡ progress (arrived is_there s w f n locals below lines ended)
arrived-progress d true s w f n locals below lines ended = comes-progress d (has_line f.header.name n s.stops) s w f n locals below lines ended
arrived-progress d false s w f n locals below lines ended = refl

applied-progress : (d : Option (List Text)) (s : State) (c : Change) → progress (applied (within d s) c) ≡ progress (applied s c)
applied-progress d s Rests = refl
applied-progress d s (Moves w contexts lines ended) = refl
applied-progress d s (Asks Stop w name lines given) = refl
applied-progress d s (Asks Trace w name lines given) = refl
applied-progress d s (Arrives w f n locals below lines ended) = arrived-progress d (is_line f n) s w f n locals below lines ended

last_progress-within : (d : Option (List Text)) (before : Progress) (n : ℕ) (s : State) → last_progress before n (within d s) ≡ last_progress before n s
last_progress-within d before zero s = refl
last_progress-within d before (suc n) s =
    ap (λ (p : Progress). cond (is_idle s) before (last_progress p n (step (within d s)))) (applied-progress d s (change s.world s.contexts))
    ∙ ap (λ (t : State). cond (is_idle s) before (last_progress (progress (turn s)) n t)) (applied-within d s (change s.world s.contexts))
    ∙ ap (λ (p : Progress). cond (is_idle s) before p) (last_progress-within d (progress (turn s)) n (step s))

pub progress-within : (d : Option (List Text)) (n : ℕ) (s : State) → steps_progress n (within d s) ≡ steps_progress n s
progress-within d n s = last_progress-within d (progress_at s) n s

-- and they are as many
pub made-within : (d : Option (List Text)) (n : ℕ) (s : State) → steps_made n (within d s) ≡ steps_made n s
made-within d zero s = refl
made-within d (suc n) s =
    ap (λ (t : State). cond (is_idle s) 0 (suc (steps_made n t))) (applied-within d s (change s.world s.contexts))
    ∙ ap (λ (m : ℕ). cond (is_idle s) 0 (suc m)) (made-within d n (step s))

pub ruleset same_steps = (steps-within, progress-within, made-within)
