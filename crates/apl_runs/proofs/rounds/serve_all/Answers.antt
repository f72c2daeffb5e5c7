use Rattle.std.proofs.Common.{◌∙◌, ◌<◌, length, get_or, arith}
use Rattle.std.proofs.lemmas.Result.{err_from_is_err_and}
use Rattle.apl_machine_state.specs.State.{State}
use Rattle.apl_session.specs.Events.{after_event}
use Rattle.apl_session.specs.Views.{event as event_view}
use Rattle.apl_runs.proofs.Served.{served-more, served-all, next-session, wrote-session, extends-session}
use Rattle.apl_runs.proofs.rounds.serve_all.Goals as goal

pub returns-in_err-serve-clause-wrote : goal.returns-in_err-serve-clause-wrote
returns-in_err-serve-clause-wrote g c =
    let f : State → State = λ s. after_event s (event_view c.args.event.now) in
    let next : State = get_or c.loop-number.sessions c.loop-number.number c.index-sessions-number.result in
    let within : c.loop-number.number < length c.args.sessions.now = omega arith in
    let read = next-session f c.loop-number.number c.args.sessions.now c.loop-number.sessions c.index-sessions-number.result c.loop-number.invariant.sessions c.index-sessions-number.is in
    let p = err_from_is_err_and c.from_residual.result c.from_residual.ensures.1 in
    rw (p.1, p.2) (
      c.in_err-serve.ensures.wrote.0,
      λ t. extends-session f (g.W.Sink.written c.args.writer.now) (g.W.Sink.written c.loop-number.writer) (g.W.Sink.written c.serve.new.writer) c.loop-number.number c.args.sessions.now
          next within read (c.loop-number.invariant.bytes t) (c.in_err-serve.ensures.wrote.1 t),
    )

pub loop-number-preserved : goal.loop-number-preserved
loop-number-preserved g c =
    let f : State → State = λ s. after_event s (event_view c.args.event.now) in
    let next : State = get_or c.loop-number.sessions c.loop-number.number c.index-sessions-number.result in
    let within : c.loop-number.number < length c.args.sessions.now = omega arith in
    let read = next-session f c.loop-number.number c.args.sessions.now c.loop-number.sessions c.index-sessions-number.result c.loop-number.invariant.sessions c.index-sessions-number.is in
    record {
      sessions = served-more f c.loop-number.number c.args.sessions.now c.loop-number.sessions next c.serve.new.session within read c.loop-number.invariant.sessions c.in_ok-serve.ensures.state;
      bytes = λ t. wrote-session f (g.W.Sink.written c.args.writer.now) (g.W.Sink.written c.loop-number.writer) (g.W.Sink.written c.serve.new.writer) c.loop-number.number c.args.sessions.now
          next within read (c.loop-number.invariant.bytes t) (c.in_ok-serve.ensures.wrote t);
      writer = c.in_ok-serve.ensures.writer ∙ c.loop-number.invariant.writer;
    }

pub returns-clause-state : goal.returns-clause-state
returns-clause-state g c =
    let f : State → State = λ s. after_event s (event_view c.args.event.now) in
    c.loop-number.invariant.sessions ∙ served-all f c.loop-number.number c.args.sessions.now (omega arith)
