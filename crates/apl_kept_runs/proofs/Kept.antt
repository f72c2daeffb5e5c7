-- A run that is saved and loaded again at its stops is the cut run.
use Rattle.std.proofs.Common.{◌≡◌, ℕ, zero, suc, ◌+◌, Bool, true, false, List, [], ◌∷◌, ◌++◌, Option, None, arith, ap, ◌∙◌, sym, refl, subst, inl, inr}
use Rattle.std.specs.Prelude.{if◌then◌else◌}
use Rattle.std.proofs.lemmas.List.{append_assoc}
use Rattle.apl_defn.specs.Definitions.{Text, Definition, is_line}
use Rattle.apl_names.specs.Maps.{Map}
use Rattle.apl_vectors.specs.Vectors.{has_line}
use Rattle.apl_machine_state.specs.declared.output.OutLine.{OutLine}
use Rattle.apl_machine_state.specs.declared.watch.Watch.TheVariants.{Stop, Trace}
use Rattle.apl_machine_state.specs.Changes.{Change, Rests, Moves, Asks, Arrives, change}
use Rattle.apl_machine_state.specs.Environment.{World, Context}
use Rattle.apl_machine_state.specs.State.{State, Turn, applied, arrived, comes_to, interrupt, is_idle, turn}
use Rattle.apl_parts.specs.Taken.{parts_of}
use Rattle.apl_parts.specs.Restored.{state_of}
use Rattle.apl_savable.specs.Savable.{IsSavable}
use Rattle.apl_savable.proofs.Keeping.{step-savable}
use Rattle.apl_savable.proofs.Reached.{reached-savable}
use Rattle.apl_savable.proofs.Ruled.{parts-ruled}
use Rattle.apl_savable.proofs.Same.{saved-same}
use Rattle.apl_session.specs.Events.{Event, Line, Steps, after, typed}
use Rattle.apl_resume.specs.Cut.{after_stop, count, cut_steps, resume_line, resumed, stops_in}
use Rattle.apl_resume.proofs.Stops.{IsReady, ready-next, turn-idle}
use Rattle.apl_resume.proofs.Typing.{IsSettled, settled_line, typed_line}
use Rattle.apl_kept_sessions.specs.Promises.{behind}
use Rattle.apl_kept_sessions.proofs.Behind.{after-behind, interrupt-behind, turn-behind}
use Rattle.apl_kept_sessions.proofs.Going.{sessions-go-on}
use Rattle.apl_kept_sessions.proofs.Sessions.{sessions-savable}
use Rattle.apl_kept_runs.specs.Kept.{Run, after_turn, from, gone_on, kept_steps, reloaded, reloaded_at, whole, with_state}
use Rattle.apl_kept_runs.specs.Promises.{CanBeKept, KeptRunsAreTheSame, ReachedRunsAreTheSame}

-- ---- a stop

-- the answer to a stop
abbrev answer : List Event
answer = Line resume_line ∷ Steps 2 ∷ []

-- where a step comes to a stop nothing runs, and an open definition is as it was
record Stands (s t : State) : Type 0 where
  idle : is_idle t ≡ true
  opened : t.definition ≡ s.definition

comes-stands : (b : Bool) (s : State) (w : World) (d : Definition) (n : ℕ) (locals : Map) (below : List Context) (lines : List OutLine) (ended : Bool)
    → (comes_to b s w d n locals below lines ended).stopped ≡ true → Stands s (comes_to b s w d n locals below lines ended).state
comes-stands true s w d n locals below lines ended stops = record { idle = refl; opened = refl }
comes-stands false s w d n locals below lines ended stops = cc

arrived-stands : (b : Bool) (s : State) (w : World) (d : Definition) (n : ℕ) (locals : Map) (below : List Context) (lines : List OutLine) (ended : Bool)
    → (arrived b s w d n locals below lines ended).stopped ≡ true → Stands s (arrived b s w d n locals below lines ended).state
arrived-stands true s w d n locals below lines ended stops = comes-stands (has_line d.header.name n s.stops) s w d n locals below lines ended stops
arrived-stands false s w d n locals below lines ended stops = cc

applied-stands : (s : State) (c : Change) → (applied s c).stopped ≡ true → Stands s (applied s c).state
applied-stands s Rests stops = cc
applied-stands s (Moves w contexts lines ended) stops = cc
applied-stands s (Asks Stop w name lines given) stops = cc
applied-stands s (Asks Trace w name lines given) stops = cc
applied-stands s (Arrives w d n locals below lines ended) stops = arrived-stands (is_line d n) s w d n locals below lines ended stops

turn-stands : (s : State) → (turn s).stopped ≡ true → Stands s (turn s).state
turn-stands s stops = applied-stands s (change s.world s.contexts) stops

-- what is idle comes to no stop, and what runs has no definition open
closed-at : (s : State) → IsReady s → (turn s).stopped ≡ true → s.definition ≡ None
closed-at s (inl closed) stops = closed
closed-at s (inr idle) stops = let never : (turn s).stopped ≡ false = ap (λ (t : Turn). t.stopped) (turn-idle s idle) in cc

pub without-definition : (s : State) → s.definition ≡ None → record s { definition = None; output = [] } ≡ record s { output = [] }
without-definition s closed = ap (λ (d : Option (List Text)). record { world = s.world; stops = s.stops; contexts = s.contexts; definition = d; output = [] }) (sym closed)

-- AT A STOP the machine can be saved.
kept-at : (s : State) → IsSavable s → IsReady s → (turn s).stopped ≡ true → CanBeKept (turn s).state
kept-at s savable ready stops =
    let stands : Stands s (turn s).state = turn-stands s stops in
    let closed = stands.opened ∙ closed-at s ready stops in
    let h : IsSavable (turn s).state = step-savable s savable in
    record {
      idle = stands.idle;
      closed = closed;
      savable = h;
      ruled = parts-ruled (turn s).state h stands.idle;
      same = saved-same (turn s).state h stands.idle ∙ without-definition (turn s).state closed;
    }

-- ---- one step

-- what is loaded is answered as the state that was saved, behind what was written before
answers-kept : (before : List OutLine) (t : State) → CanBeKept t → behind (before ++ t.output) (resumed (state_of (parts_of t))) ≡ resumed (behind before t)
answers-kept before t kept =
    let loaded : State = resumed (state_of (parts_of t)) in
    ap (λ (output : List OutLine). record loaded { output = output }) (append_assoc before t.output loaded.output)
    ∙ ap (behind before) (sym (sessions-go-on t answer kept.savable kept.idle kept.closed))
    ∙ sym (after-behind before t answer)

-- b: the stop is one at which the run is saved
answers : (b : Bool) (r : Run) (t : State) → CanBeKept t → whole (gone_on (if b then reloaded (with_state t r) else with_state t r)) ≡ resumed (behind r.taken t)
answers true r t kept = answers-kept r.taken t kept
answers false r t kept = sym (after-behind r.taken t answer)

turns : (asked : ℕ → Bool) (r : Run) (b : Bool) (t : State) → (b ≡ true → CanBeKept t)
    → whole (if b then gone_on (reloaded_at asked (with_state t r)) else with_state t r) ≡ (if b then resumed (behind r.taken t) else behind r.taken t)
turns asked r true t kept = answers (asked r.stops) r t (kept refl)
turns asked r false t kept = refl

-- the state of a run, without what was written before, is as good to be saved
bare-savable : (r : Run) → IsSavable (whole r) → IsSavable r.state
bare-savable r h = record { kept = record { order = h.kept.order; keeps = h.kept.keeps }; origin = h.origin; named = h.named; contexts = h.contexts }

-- ONE STEP of the run that is saved is one of the cut run.
step-same : (asked : ℕ → Bool) (r : Run) → IsSavable (whole r) → IsReady (whole r) → whole (after_turn asked r (turn r.state)) ≡ after_stop (turn (whole r))
step-same asked r savable ready =
    turns asked r (turn r.state).stopped (turn r.state).state (kept-at r.state (bare-savable r savable) ready)
    ∙ ap after_stop (sym (turn-behind r.taken r.state))

answer-savable : (b : Bool) (t : State) → IsSavable t → IsSavable (if b then resumed t else t)
answer-savable true t h = sessions-savable t answer h
answer-savable false t h = h

-- a run that goes on as it began
record Goes (r : Run) : Type 0 where
  savable : IsSavable (whole r)
  ready : IsReady (whole r)

goes-on : (asked : ℕ → Bool) (r : Run) → Goes r → Goes (after_turn asked r (turn r.state))
goes-on asked r g =
    let same = step-same asked r g.savable g.ready in
    let t : Turn = turn (whole r) in
    record {
      savable = subst IsSavable (sym same) (answer-savable t.stopped t.state (step-savable (whole r) g.savable));
      ready = subst IsReady (sym same) (ready-next (whole r) g.ready);
    }

-- ---- the run

steps-go : (asked : ℕ → Bool) (n : ℕ) (r : Run) → Goes r → Goes (kept_steps asked n r)
steps-go asked zero r g = g
steps-go asked (suc n) r g = steps-go asked n (after_turn asked r (turn r.state)) (goes-on asked r g)

steps-same : (asked : ℕ → Bool) (n : ℕ) (r : Run) → Goes r → whole (kept_steps asked n r) ≡ cut_steps n (whole r)
steps-same asked zero r g = refl
steps-same asked (suc n) r g =
    steps-same asked n (after_turn asked r (turn r.state)) (goes-on asked r g) ∙ ap (cut_steps n) (step-same asked r g.savable g.ready)

-- the number of stops
kept-stops : (b : Bool) (r : Run) → (if b then reloaded r else r).stops ≡ r.stops
kept-stops true r = refl
kept-stops false r = refl

turn-stops : (asked : ℕ → Bool) (r : Run) (b : Bool) (t : State) → (if b then gone_on (reloaded_at asked (with_state t r)) else with_state t r).stops ≡ r.stops + count b
turn-stops asked r true t =
    let same : (reloaded_at asked (with_state t r)).stops ≡ r.stops = kept-stops (asked r.stops) (with_state t r) in
    let one : suc (reloaded_at asked (with_state t r)).stops ≡ r.stops + 1 = omega arith in
    one
turn-stops asked r false t = let none : r.stops ≡ r.stops + 0 = omega arith in none

stops-same : (asked : ℕ → Bool) (n : ℕ) (r : Run) → Goes r → (kept_steps asked n r).stops ≡ r.stops + stops_in n (whole r)
stops-same asked zero r g = omega arith
stops-same asked (suc n) r g =
    let next : Run = after_turn asked r (turn r.state) in
    let more : (kept_steps asked n next).stops ≡ next.stops + stops_in n (whole next) = stops-same asked n next (goes-on asked r g) in
    let here : next.stops ≡ r.stops + count (turn r.state).stopped = turn-stops asked r (turn r.state).stopped (turn r.state).state in
    let same : stops_in n (whole next) ≡ stops_in n (after_stop (turn (whole r))) = ap (stops_in n) (step-same asked r g.savable g.ready) in
    let stopped : count (turn (whole r)).stopped ≡ count (turn r.state).stopped = ap (λ (t : Turn). count t.stopped) (turn-behind r.taken r.state) in
    omega arith

-- ---- the law

ready-line : (x t : State) → IsSettled x t → IsReady t
ready-line x t (inl p) = inl p.0
ready-line x t (inr idle) = inr idle

begun-goes : (x : State) (line : List ℕ) → IsSavable x → is_idle x ≡ true → Goes (from (typed x line))
begun-goes x line savable idle = record {
  savable = sessions-savable x (Line line ∷ []) savable;
  ready = ready-line x (typed x line) (settled_line x line idle (typed_line x line idle)).settled;
}

pub kept-runs : KeptRunsAreTheSame
kept-runs asked x line n savable idle =
    let r : Run = from (typed x line) in
    let g : Goes r = begun-goes x line savable idle in
    record {
      kept = λ k stops.
          let there : Goes (kept_steps asked k r) = steps-go asked k r g in
          kept-at (kept_steps asked k r).state (bare-savable (kept_steps asked k r) there.savable) there.ready stops;
      on_the_way = λ k. steps-same asked k r g;
      stops = λ k. let e : (kept_steps asked k r).stops ≡ 0 + stops_in k (typed x line) = stops-same asked k r g in omega arith;
      at_the_end = sym (interrupt-behind (kept_steps asked n r).taken (kept_steps asked n r).state) ∙ ap interrupt (steps-same asked n r g);
    }

pub reached-runs : ReachedRunsAreTheSame
reached-runs asked x line n reached idle = kept-runs asked x line n (reached-savable x reached) idle
