use Rattle.std.proofs.Common.{List, map, length, subst}
use Rattle.std.proofs.lemmas.Result.{err_from_is_err_and}
use Rattle.apl_machine_state.specs.State.{State, steps}
use Rattle.apl_runs.specs.Rounds.{answer_to, fed_by, outputs, spoken}
use Rattle.apl_runs.specs.Runs.{Writes}
use Rattle.apl_runs.proofs.Writing.{writes-first, writes-second}
use Rattle.apl_runs.proofs.rounds.round.Goals as goal

pub returns-in_err-take_line-clause-wrote : goal.returns-in_err-take_line-clause-wrote
returns-in_err-take_line-clause-wrote g c =
    let said = spoken (length c.args.sessions.now) c.args.line.now in
    let p = err_from_is_err_and c.from_residual.result c.from_residual.ensures.1 in
    rw (p.1, p.2) (writes-first c.in_err-take_line.field-0.0 (answer_to c.args.sessions.now said) (outputs 0 (map (steps c.args.steps) (fed_by c.args.sessions.now said)))
    g.W.Sink.tells (g.W.Sink.written c.args.writer.now) (g.W.Sink.written c.take_line.new.writer) c.in_err-take_line.ensures.wrote)

pub returns-clause-wrote : goal.returns-clause-wrote
returns-clause-wrote g c =
    let said = spoken (length c.args.sessions.now) c.args.line.now in
    let written : List State → Type 0 = λ sessions. Writes c.serve_all.result (outputs 0 (map (steps c.args.steps) sessions)) g.W.Sink.tells (g.W.Sink.written c.take_line.new.writer) (g.W.Sink.written c.serve_all.new.writer) in
    writes-second c.serve_all.result (answer_to c.args.sessions.now said) (outputs 0 (map (steps c.args.steps) (fed_by c.args.sessions.now said)))
    g.W.Sink.tells (g.W.Sink.written c.args.writer.now) (g.W.Sink.written c.take_line.new.writer) (g.W.Sink.written c.serve_all.new.writer) c.in_ok-take_line.ensures.wrote
    (subst written c.in_ok-take_line.ensures.state c.serve_all.ensures.wrote)
