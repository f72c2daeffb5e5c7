use Rattle.std.proofs.Common.{◌≡◌, ◌+◌, arith, ap, ◌∙◌, sym, true, false}
use Rattle.apl_machine_state.specs.State.{State, turn, is_idle}
use Rattle.apl_resume.specs.Cut.{after_stop, cut_steps, stops_in, count}
use Rattle.apl_resume.proofs.Rest.{cut_steps-more, cut_steps-rest, stops_in-more, stops_in-rest}
use Rattle.apl_resume.proofs.resume.steps_on.Goals as goal
use Rattle.apl_resume.proofs.resume.steps_on.Goals.{then-branch, else-branch}

pub returns-then-is_idle-clause-ok : goal.returns-then-is_idle-clause-ok
returns-then-is_idle-clause-ok c =
    let x : State = c.args.session.now in
    let here : is_idle c.machine.result.now ≡ is_idle c.loop-done.session = ap is_idle c.machine.ensures in
    let idle : is_idle (cut_steps c.loop-done._done x) ≡ true = sym (ap is_idle c.loop-done.invariant.state) ∙ sym here ∙ sym c.is_idle.ensures ∙ c.if-is_idle.true in
    c.loop-done.invariant.state ∙ sym (cut_steps-rest c.loop-done._done c.args.count x (omega arith) idle)

pub returns-then-is_idle-clause-stops : goal.returns-then-is_idle-clause-stops
returns-then-is_idle-clause-stops c =
    let x : State = c.args.session.now in
    let here : is_idle c.machine.result.now ≡ is_idle c.loop-done.session = ap is_idle c.machine.ensures in
    let idle : is_idle (cut_steps c.loop-done._done x) ≡ true = sym (ap is_idle c.loop-done.invariant.state) ∙ sym here ∙ sym c.is_idle.ensures ∙ c.if-is_idle.true in
    c.loop-done.invariant.stops ∙ sym (stops_in-rest c.loop-done._done c.args.count x (omega arith) idle)

pub loop-done-preserved : goal.loop-done-preserved
loop-done-preserved c =
    let x : State = c.args.session.now in
    let s : State = c.loop-done.session in
    let same : s ≡ cut_steps c.loop-done._done x = c.loop-done.invariant.state in
    let state : c.step_on.new.session ≡ cut_steps (c.loop-done._done + 1) x =
    c.in_ok-step_on.ensures.ok ∙ ap (λ (t : State). after_stop (turn t)) same ∙ sym (cut_steps-more c.loop-done._done x) in
    let more : stops_in (c.loop-done._done + 1) x ≡ stops_in c.loop-done._done x + count (turn (cut_steps c.loop-done._done x)).stopped = stops_in-more c.loop-done._done x in
    let here : count (turn s).stopped ≡ count (turn (cut_steps c.loop-done._done x)).stopped = ap (λ (t : State). count (turn t).stopped) same in
    elim c.if-branch.branch [
      | then-branch w ↦
          let k : count (turn s).stopped ≡ count true = ap count (sym c.in_ok-step_on.ensures.stopped ∙ w.if-branch.true) in
          record { state = state; stops = omega arith; few = omega arith }
      | else-branch w ↦
          let k : count (turn s).stopped ≡ count false = ap count (sym c.in_ok-step_on.ensures.stopped ∙ w.if-branch.false) in
          record { state = state; stops = omega arith; few = omega arith }
    ]
