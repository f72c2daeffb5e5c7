-- One event more.
use Rattle.std.proofs.Common.{◌≡◌, ℕ, ◌+◌, ◌<◌, List, [], ◌∷◌, ◌++◌, take, length, get_or, map, ap, ◌∙◌, sym, refl}
use Rattle.std.proofs.lemmas.List.{take-map, take_more, map-append}
use Rattle.apl_machine_state.specs.State.{State}
use Rattle.apl_session.specs.Events.{Event, after, after_event}
use Rattle.apl_session.specs.Views.{event, event_list}
use Rattle.apl_session.specs.declared.session.Event.{Event as CodeEvent}

pub after-append : (s : State) (first then : List Event) → after s (first ++ then) ≡ after (after s first) then
after-append s [] then = refl
after-append s (event ∷ first) then = after-append (after_event s event) first then

-- after the event at a place
pub after-more : (s : State) (events : List CodeEvent) (i : ℕ) (x : CodeEvent) → i < length events → x ≡ get_or events i x →
    after_event (after s (take i (event_list events))) (event x) ≡ after s (take (i + 1) (event_list events))
after-more s events i x within read =
    sym (after-append s (take i (event_list events)) (event x ∷ []))
    ∙ ap (after s) (ap (λ (prefix : List Event). prefix ++ event x ∷ []) (take-map event i events)
    ∙ sym (map-append event (take i events) (x ∷ []))
    ∙ ap (λ (y : CodeEvent). map event (take i events ++ y ∷ [])) read
    ∙ ap (map event) (sym (take_more events i x within))
    ∙ sym (take-map event (i + 1) events))

pub ruleset in_order = (after-more)
