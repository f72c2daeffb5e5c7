-- Lines and steps in slices.
use Rattle.std.proofs.Common.{◌≡◌, ℕ, List, [], ◌∷◌, sum, refl, sym, ap, ◌∙◌}
use Rattle.std.proofs.lemmas.List.{append-nil}
use Rattle.std.proofs.lemmas.List.Sums.{sum_by-cons}
use Rattle.apl_machine_state.specs.declared.output.OutLine.{OutLine}
use Rattle.apl_machine_state.specs.State.{State, steps}
use Rattle.apl_session.specs.Events.{Event, after, typed}
use Rattle.apl_machine.proofs.ManySteps.{steps-add}
use Rattle.apl_kept_sessions.proofs.Behind.{after-behind}
use Rattle.apl_kept.specs.Promises.{OutputMayBeTaken, SlicedLinesAreOne, SlicesAreOne, sliced}

pub slices-one : SlicesAreOne
slices-one s first second = sym (steps-add first second s)

sliced-steps : (counts : List ℕ) (s : State) → sliced counts s ≡ steps (sum counts) s
sliced-steps [] s = refl
sliced-steps (count ∷ counts) s =
    sliced-steps counts (steps count s) ∙ slices-one s count (sum counts) ∙ ap (λ (n : ℕ). steps n s) (sym (sum_by-cons (λ (n : ℕ). n) count counts))

pub sliced-line : SlicedLinesAreOne
sliced-line s line counts = sliced-steps counts (typed s line)

abbrev writing : State → List OutLine → State
writing s output = record s { output = output }

pub output-taken : OutputMayBeTaken
output-taken s events =
    let quiet : State = writing s [] in
    ap (λ (t : State). after t events) (sym (ap (writing s) (append-nil s.output))) ∙ after-behind s.output quiet events
