use Rattle.std.proofs.Common.{◌≡◌, ◌≤◌}
use Rattle.apl_resume.specs.Cut.{cut_steps, stops_in}
use Rattle.apl_resume.proofs.resume.steps_on.Given as goal

abbrev pub invariant-loop-done : goal.invariant-loop-done
invariant-loop-done l = record {
  state : l.session ≡ cut_steps l._done l.fn.session;
  stops : l.stops ≡ stops_in l._done l.fn.session;
  few : l.stops ≤ l._done;
}
