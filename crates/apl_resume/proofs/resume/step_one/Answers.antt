use Rattle.apl_resume.proofs.Told.{told-none, told-stop}
use Rattle.apl_resume.proofs.resume.step_one.Goals as goal

pub returns-in-Stopped-clause-stopped : goal.returns-in-Stopped-clause-stopped
returns-in-Stopped-clause-stopped c = told-stop c.args.session.now c.in_ok-advance.field-0 c.in_ok-advance.ensures.progress c.in-Stopped.is

pub returns-in_default : goal.returns-in_default
returns-in_default c = record {
  ok = c.in_ok-advance.ensures.ok;
  stopped = told-none c.args.session.now c.in_ok-advance.field-0 c.in_ok-advance.ensures.progress c.in_default.not-Stopped;
  err = tt;
}
