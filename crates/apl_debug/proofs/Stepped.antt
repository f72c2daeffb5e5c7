-- Runs of steps, from their last step and over idle states.
use Rattle.std.proofs.Common.{◌≡◌, ℕ, zero, suc, ◌+◌, ◌-◌, ◌<◌, List, Bool, true, false, cond, arith, ap, ◌∙◌, sym, refl}
use Rattle.apl_machine_state.specs.declared.output.OutLine.{OutLine}
use Rattle.apl_machine_state.specs.declared.output.Progress.{Progress}
use Rattle.apl_machine_state.specs.declared.output.Progress.TheVariants.{Idle, Stopped, LineEnd, Running}
use Rattle.apl_defn.specs.Definitions.{Definition, is_line}
use Rattle.apl_names.specs.Maps.{Map}
use Rattle.apl_vectors.specs.Vectors.{has_line}
use Rattle.apl_machine_state.specs.Environment.{World, Context}
use Rattle.apl_machine_state.specs.declared.watch.Watch.TheVariants.{Stop, Trace}
use Rattle.apl_machine_state.specs.Changes.{Change, Rests, Moves, Asks, Arrives, change}
use Rattle.apl_machine_state.specs.State.{State, is_idle, step, steps, turn, applied, arrived, comes_to, progress}
use Rattle.apl_machine.proofs.ManySteps.{steps-idle, steps-more}
use Rattle.apl_debug.specs.Stepping.{Run, is_over, run_from}

-- a run of an idle state is over
pub run-idle : (ends : Progress → Bool) (before : Progress) (n : ℕ) (s : State) → is_idle s ≡ true → run_from ends before n s ≡ record { state = s; answer = before }
run-idle ends before zero s idle = refl
run-idle ends before (suc n) s idle = rw idle refl

abbrev after : (Progress → Bool) → ℕ → State → Run
after ends n s = cond (ends (progress (turn s))) (record { state = step s; answer = progress (turn s) }) (run_from ends (progress (turn s)) n (step s))

first : (ends : Progress → Bool) (before : Progress) (n i : ℕ) (s : State) → i < n → is_idle s ≡ false → run_from ends before (n - i) s ≡ after ends (n - (i + 1)) s
first ends before n i s lt runs =
    let e : n - i ≡ suc (n - (i + 1)) = omega arith in
    ap (λ (k : ℕ). run_from ends before k s) e
    ∙ ap (λ (b : Bool). cond b (record { state = s; answer = before }) (after ends (n - (i + 1)) s)) runs

-- a run ends with a step whose answer ends it
pub run-ends : (ends : Progress → Bool) (before : Progress) (n i : ℕ) (s : State) → i < n → is_idle s ≡ false → ends (progress (turn s)) ≡ true → run_from ends before (n - i) s ≡ record { state = step s; answer = progress (turn s) }
run-ends ends before n i s lt runs ended =
    first ends before n i s lt runs
    ∙ ap (λ (b : Bool). cond b (record { state = step s; answer = progress (turn s) }) (run_from ends (progress (turn s)) (n - (i + 1)) (step s))) ended

-- and goes on after another
pub run-goes_on : (ends : Progress → Bool) (before : Progress) (n i : ℕ) (s : State) → i < n → is_idle s ≡ false → ends (progress (turn s)) ≡ false → run_from ends before (n - i) s ≡ run_from ends (progress (turn s)) (n - (i + 1)) (step s)
run-goes_on ends before n i s lt runs ended =
    first ends before n i s lt runs
    ∙ ap (λ (b : Bool). cond b (record { state = step s; answer = progress (turn s) }) (run_from ends (progress (turn s)) (n - (i + 1)) (step s))) ended

-- where a state runs, a run of it does not hang on what was answered before
pub run-begins : (ends : Progress → Bool) (before again : Progress) (n i : ℕ) (s : State) → i < n → is_idle s ≡ false → run_from ends again (n - i) s ≡ run_from ends before (n - i) s
run-begins ends before again n i s lt runs = first ends again n i s lt runs ∙ sym (first ends before n i s lt runs)

pub ruleset runs = (steps-more, run-idle, run-ends, run-goes_on, run-begins)

-- ---- the run until nothing runs

comes-idle : (stops : Bool) (s : State) (w : World) (d : Definition) (n : ℕ) (locals : Map) (below : List Context) (lines : List OutLine) (ended : Bool) → (comes_to stops s w d n locals below lines ended).stopped ≡ true → is_idle (comes_to stops s w d n locals below lines ended).state ≡ true
comes-idle true s w d n locals below lines ended h = refl
comes-idle false s w d n locals below lines ended h = cc

arrived-idle : (is_there : Bool) (s : State) (w : World) (d : Definition) (n : ℕ) (locals : Map) (below : List Context) (lines : List OutLine) (ended : Bool) → (arrived is_there s w d n locals below lines ended).stopped ≡ true → is_idle (arrived is_there s w d n locals below lines ended).state ≡ true
arrived-idle true s w d n locals below lines ended h = comes-idle (has_line d.header.name n s.stops) s w d n locals below lines ended h
arrived-idle false s w d n locals below lines ended h = cc

-- where a step stops, nothing runs
stopped-idle : (s : State) (c : Change) → (applied s c).stopped ≡ true → is_idle (applied s c).state ≡ true
stopped-idle s Rests h = cc
stopped-idle s (Moves world contexts lines ended) h = cc
stopped-idle s (Asks Stop world name lines given) h = cc
stopped-idle s (Asks Trace world name lines given) h = cc
stopped-idle s (Arrives w d n locals below lines ended) h = arrived-idle (is_line d n) s w d n locals below lines ended h

answers-idle : (stopped idle ended : Bool) → (stopped ≡ true → idle ≡ true) → is_over (cond stopped Stopped (cond idle Idle (cond ended LineEnd Running))) ≡ true → idle ≡ true
answers-idle true idle ended stops over = stops refl
answers-idle false true ended stops over = refl
answers-idle false false true stops over = over
answers-idle false false false stops over = over

-- where a step's answer ends the run, nothing runs
over-idle : (s : State) → is_over (progress (turn s)) ≡ true → is_idle (step s) ≡ true
over-idle s over = answers-idle (turn s).stopped (is_idle (step s)) (turn s).ended (stopped-idle s (change s.world s.contexts)) over

after-over : (n : ℕ) (s : State) (over : Bool) → is_over (progress (turn s)) ≡ over → (run_from is_over (progress (turn s)) n (step s)).state ≡ steps n (step s) → (cond over (record { state = step s; answer = progress (turn s) }) (run_from is_over (progress (turn s)) n (step s))).state ≡ steps n (step s)
after-over n s true over more = sym (steps-idle n (step s) (over-idle s over))
after-over n s false over more = more

after-test : (before : Progress) (n : ℕ) (s : State) (idle : Bool) → is_idle s ≡ idle → (after is_over n s).state ≡ steps n (step s) → (cond idle (record { state = s; answer = before }) (after is_over n s)).state ≡ steps n (step s)
after-test before n s true idle more = sym (steps-idle (suc n) s idle)
after-test before n s false idle more = more

-- a run until nothing runs stands after as many steps
pub over-steps : (before : Progress) (n : ℕ) (s : State) → (run_from is_over before n s).state ≡ steps n s
over-steps before zero s = refl
over-steps before (suc n) s = after-test before n s (is_idle s) refl (after-over n s (is_over (progress (turn s))) refl (over-steps (progress (turn s)) n (step s)))
