use Rattle.std.proofs.Common.{◌≡◌, drop, map}
use Rattle.std.specs.Prelude.{IsTrue}
use Rattle.apl_machine_state.specs.State.{State}
use Rattle.apl_session.specs.Events.{after_event}
use Rattle.apl_session.specs.Views.{event as event_view}
use Rattle.apl_devices.specs.Devices.{Wrote}
use Rattle.apl_runs.specs.Rounds.{outputs}
use Rattle.apl_runs.proofs.Served.{served}
use Rattle.apl_runs.proofs.rounds.serve_all.Given as goal

abbrev pub invariant-loop-number : goal.invariant-loop-number
invariant-loop-number g l =
    let f : State → State = λ s. after_event s (event_view l.event) in
    record {
      sessions : l.sessions ≡ served f l.number l.fn.sessions;
      bytes : IsTrue g.W.Sink.tells → Wrote (g.W.Sink.written l.fn.writer) (g.W.Sink.written l.writer) (outputs 0 (map f l.fn.sessions)) (outputs l.number (map f (drop l.number l.fn.sessions)));
      writer : g.W.Sink.failed l.writer ≡ g.W.Sink.failed l.fn.writer;
    }
