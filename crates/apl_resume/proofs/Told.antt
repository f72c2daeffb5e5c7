-- What the answer to one step tells of a stop.
use Rattle.std.proofs.Common.{◌≡◌, Bool, true, false, ap, ◌∙◌, sym, refl}
use Rattle.std.specs.Prelude.{if◌then◌else◌}
use Rattle.apl_machine_state.specs.declared.output.Progress.{Progress}
use Rattle.apl_machine_state.specs.declared.output.Progress.TheVariants.{Idle, Stopped, LineEnd, Running}
use Rattle.apl_machine_state.specs.State.{State, Turn, turn, is_idle, progress, steps_progress}
use Rattle.apl_resume.proofs.Stops.{turn-idle}

abbrev pub is_stop : Progress → Bool
is_stop Stopped = true
is_stop Idle = false
is_stop LineEnd = false
is_stop Running = false

told-by : (stopped idle ended : Bool) → is_stop (if stopped then Stopped else (if idle then Idle else (if ended then LineEnd else Running))) ≡ stopped
told-by true idle ended = refl
told-by false true ended = refl
told-by false false true = refl
told-by false false false = refl

told-idle : (idle : Bool) (s : State) → is_idle s ≡ idle → is_stop (if idle then (if idle then Idle else Running) else progress (turn s)) ≡ (turn s).stopped
told-idle true s e = sym (ap (λ (t : Turn). t.stopped) (turn-idle s e))
told-idle false s e = told-by (turn s).stopped (is_idle (turn s).state) (turn s).ended

told : (s : State) → is_stop (steps_progress 1 s) ≡ (turn s).stopped
told s = told-idle (is_idle s) s refl

pub told-stop : (s : State) (p : Progress) → p ≡ steps_progress 1 s → p ≡ Stopped → true ≡ (turn s).stopped
told-stop s p e stop = sym (ap is_stop stop) ∙ ap is_stop e ∙ told s

not-stop : (p : Progress) → ((p ≡ Stopped) → ⊥) → is_stop p ≡ false
not-stop Stopped other = absurd (other refl)
not-stop Idle other = refl
not-stop LineEnd other = refl
not-stop Running other = refl

pub told-none : (s : State) (p : Progress) → p ≡ steps_progress 1 s → ((p ≡ Stopped) → ⊥) → false ≡ (turn s).stopped
told-none s p e other = sym (not-stop p other) ∙ ap is_stop e ∙ told s
