-- What is loaded goes on as what it was saved of.
use Rattle.std.proofs.Common.{◌≡◌, List, [], Option, None, ap, sym, ◌∙◌}
use Rattle.std.proofs.lemmas.List.{append-nil}
use Rattle.apl_defn.specs.Definitions.{Text}
use Rattle.apl_machine_state.specs.declared.output.OutLine.{OutLine}
use Rattle.apl_machine_state.specs.State.{State}
use Rattle.apl_parts.specs.Taken.{parts_of}
use Rattle.apl_parts.specs.Restored.{state_of}
use Rattle.apl_session.specs.Events.{after}
use Rattle.apl_savable.proofs.Reached.{reached-savable}
use Rattle.apl_savable.proofs.Same.{saved-same}
use Rattle.apl_kept_sessions.specs.Promises.{ReachedSessionsGoOn, SessionsGoOn, behind}
use Rattle.apl_kept_sessions.proofs.Behind.{after-behind}

abbrev standing : State → Option (List Text) → List OutLine → State
standing s definition output = record s { definition = definition; output = output }

-- nothing is lost of a state without an open definition whose output was taken
whole : (s t : State) → t ≡ record s { definition = None; output = [] } → s.definition ≡ None → behind s.output t ≡ s
whole s t same closed =
    ap (behind s.output) same
    ∙ ap (standing s None) (append-nil s.output)
    ∙ ap (λ (definition : Option (List Text)). standing s definition s.output) (sym closed)

pub sessions-go-on : SessionsGoOn
sessions-go-on s events h idle closed =
    let loaded : State = state_of (parts_of s) in
    ap (λ (t : State). after t events) (sym (whole s loaded (saved-same s h idle) closed)) ∙ after-behind s.output loaded events

pub reached-sessions-go-on : ReachedSessionsGoOn
reached-sessions-go-on s events h idle closed = sessions-go-on s events (reached-savable s h) idle closed
