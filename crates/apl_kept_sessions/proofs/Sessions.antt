-- What is typed makes a state that can be saved of such a state, and one to which a machine comes of such a one.
use Rattle.apl_machine_state.specs.State.{clear}
use Rattle.apl_session.specs.Events.{after}
use Rattle.apl_savable.specs.Savable.{IsSavable}
use Rattle.apl_savable.specs.Reached.{IsReached, stepped, interrupted, typed, with_definition, without_objects, emptied, told, defining}
use Rattle.apl_savable.proofs.Clear.{clear-savable}
use Rattle.apl_savable.proofs.Keeping.{definition-savable, interrupt-savable, statement-savable, step-savable}
use Rattle.apl_savable.proofs.Reached.{cleared-savable, defining-savable, erasures-savable, with_lines-savable}
use Rattle.apl_savable.proofs.Ruled.{parts-ruled}
use Rattle.apl_savable.proofs.Same.{saved-same}
use Rattle.apl_kept_sessions.specs.Promises.{SessionsAreTheSame, SessionsKeepReached, SessionsKeepSavable}
use Rattle.apl_kept_sessions.proofs.Lasting.{IsLasting, events-keep}

pub savable-lasts : IsLasting IsSavable
savable-lasts = record {
  told = with_lines-savable;
  defining = defining-savable;
  with_definition = definition-savable;
  without_objects = λ s names h. erasures-savable names s h;
  emptied = λ s h. cleared-savable s;
  begins = statement-savable;
  stepped = step-savable;
  interrupted = interrupt-savable;
}

pub reached-lasts : IsLasting IsReached
reached-lasts = record {
  told = λ s lines h. told s lines h;
  defining = λ s lines h. defining s lines h;
  with_definition = λ s d whole h. with_definition s d whole h;
  without_objects = λ s names h. without_objects s names h;
  emptied = λ s h. emptied s h;
  begins = λ s text idle h. typed s text idle h;
  stepped = λ s h. stepped s h;
  interrupted = λ s h. interrupted s h;
}

pub sessions-savable : SessionsKeepSavable
sessions-savable = events-keep IsSavable savable-lasts

pub sessions-reached : SessionsKeepReached
sessions-reached = events-keep IsReached reached-lasts

pub sessions-same : SessionsAreTheSame
sessions-same events idle =
    let h = sessions-savable clear events clear-savable in
    (parts-ruled (after clear events) h idle, saved-same (after clear events) h idle)
