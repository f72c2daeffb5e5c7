-- A run that is cut at its stops does what the same run does without them.
use Rattle.std.proofs.Common.{◌≡◌, ℕ, zero, suc, ◌+◌, ◌≤◌, List, [], ◌∷◌, ◌++◌, Bool, true, false, Option, Some, None, arith, ap, ◌∙◌, sym, refl, subst, ◌⊎◌, inl, inr}
use Rattle.std.specs.Prelude.{if◌then◌else◌, not, ◌&&◌}
use Rattle.apl_defn.specs.Definitions.{Definition, is_line}
use Rattle.apl_faults.specs.declared.fault.Fault.TheVariants.{Interrupt}
use Rattle.apl_names.specs.Maps.{Map}
use Rattle.apl_vectors.specs.Vectors.{Vectors, after_asking, has_line, vector_of}
use Rattle.apl_machine_state.specs.declared.output.OutLine.{OutLine}
use Rattle.apl_machine_state.specs.declared.watch.Watch.TheVariants.{Stop, Trace}
use Rattle.apl_machine_state.specs.Items.{Rest}
use Rattle.apl_machine_state.specs.Watching.{lines_array}
use Rattle.apl_machine_state.specs.Environment.{World, Context, is_idle_in, is_suspended, nearest, rest_of}
use Rattle.apl_machine_state.specs.Reports.{abandoned}
use Rattle.apl_machine_state.specs.Calls.{begun_line, result_of, returned}
use Rattle.apl_machine_state.specs.Changes.{Change, Rests, Moves, Asks, Arrives, change, change_in}
use Rattle.apl_machine_state.specs.State.{State, Turn, turn, step, steps, is_idle, interrupt, interrupted, moved, comes_to, arrived, applied}
use Rattle.apl_resume.specs.Cut.{free, resumed, after_stop, cut_steps, stops_in, is_quiet, IsQuietRun, is_named_by, named_in, moves, count}
use Rattle.apl_resume.proofs.Output.{IsPlain, plain-both, plain-more, plain-stop}
use Rattle.apl_resume.proofs.Plain.{IsPlainChange, change-plain, fault-plain, given-plain}
use Rattle.apl_resume.proofs.Resuming.{IsResumed, gone_on, resumed-by}

-- a step's state, where the newest call begins the line of a stop
abbrev pub going : Turn → State
going t = if t.stopped then gone_on t.state else t.state

abbrev freed : State → World → List Context → List OutLine → State
freed s w contexts output = record { world = w; stops = []; contexts = contexts; definition = s.definition; output = output }

moved-free : (s : State) (w : World) (contexts : List Context) (lines : List OutLine) (ended : Bool) → IsPlain lines → free (moved s w contexts lines ended).state ≡ (moved (free s) w contexts lines ended).state
moved-free s w contexts lines ended h = ap (freed s w contexts) (plain-more s.output lines h)

comes-free : (b : Bool) (s : State) (w : World) (d : Definition) (n : ℕ) (locals : Map) (below : List Context) (lines : List OutLine) (ended : Bool) →
    IsPlain lines → free (going (comes_to b s w d n locals below lines ended)) ≡ (comes_to false (free s) w d n locals below lines ended).state
comes-free true s w d n locals below lines ended h = ap (freed s w (begun_line w d n locals below)) (plain-stop s.output lines d n h)
comes-free false s w d n locals below lines ended h = moved-free s w (begun_line w d n locals below) lines ended h

arrived-free : (b : Bool) (s : State) (w : World) (d : Definition) (n : ℕ) (locals : Map) (below : List Context) (lines : List OutLine) (ended : Bool) →
    IsPlain lines → free (going (arrived b s w d n locals below lines ended)) ≡ (arrived b (free s) w d n locals below lines ended).state
arrived-free true s w d n locals below lines ended h = comes-free (has_line d.header.name n s.stops) s w d n locals below lines ended h
arrived-free false s w d n locals below lines ended h =
    let back = returned d locals below in
    moved-free s w back.contexts (lines ++ back.lines) ended (plain-both lines back.lines h (given-plain below (result_of d.header.result locals)))

-- One change, on a state with stops and on the same state without: where it stops, going on gives the other state.
applied-free : (s : State) (c : Change) → IsPlainChange c → is_quiet c ≡ true → free (going (applied s c)) ≡ (applied (free s) c).state
applied-free s Rests p q = refl
applied-free s (Moves w contexts lines ended) p q = moved-free s w contexts lines ended p
applied-free s (Asks Stop w name lines given) p q = cc
applied-free s (Asks Trace w name lines given) p q = moved-free s (record w { traces = after_asking name lines w.traces }) (given (lines_array (vector_of name w.traces))) [] false refl
applied-free s (Arrives w d n locals below lines ended) p q = arrived-free (is_line d n) s w d n locals below lines ended p

comes-keeps : (b : Bool) (s : State) (w : World) (d : Definition) (n : ℕ) (locals : Map) (below : List Context) (lines : List OutLine) (ended : Bool) →
    ((going (comes_to b s w d n locals below lines ended)).definition ≡ s.definition) × ((going (comes_to b s w d n locals below lines ended)).stops ≡ s.stops)
comes-keeps true s w d n locals below lines ended = (refl, refl)
comes-keeps false s w d n locals below lines ended = (refl, refl)

arrived-keeps : (b : Bool) (s : State) (w : World) (d : Definition) (n : ℕ) (locals : Map) (below : List Context) (lines : List OutLine) (ended : Bool) →
    ((going (arrived b s w d n locals below lines ended)).definition ≡ s.definition) × ((going (arrived b s w d n locals below lines ended)).stops ≡ s.stops)
arrived-keeps true s w d n locals below lines ended = comes-keeps (has_line d.header.name n s.stops) s w d n locals below lines ended
arrived-keeps false s w d n locals below lines ended = (refl, refl)

-- a step keeps the open definition and, where it reduces no phrase of ⎕STOP, the stop vectors
applied-keeps : (s : State) (c : Change) → is_quiet c ≡ true → ((going (applied s c)).definition ≡ s.definition) × ((going (applied s c)).stops ≡ s.stops)
applied-keeps s Rests q = (refl, refl)
applied-keeps s (Moves w contexts lines ended) q = (refl, refl)
applied-keeps s (Asks Stop w name lines given) q = cc
applied-keeps s (Asks Trace w name lines given) q = (refl, refl)
applied-keeps s (Arrives w d n locals below lines ended) q = arrived-keeps (is_line d n) s w d n locals below lines ended

comes-resumed : (b : Bool) (s : State) (w : World) (d : Definition) (n : ℕ) (locals : Map) (below : List Context) (lines : List OutLine) (ended : Bool) →
    is_line d n ≡ true → s.definition ≡ None → (comes_to b s w d n locals below lines ended).stopped ≡ true → IsResumed (comes_to b s w d n locals below lines ended).state
comes-resumed true s w d n locals below lines ended h none stops = resumed-by s.definition none w s.stops d n locals below _ h
comes-resumed false s w d n locals below lines ended h none stops = cc

arrived-resumed : (b : Bool) (s : State) (w : World) (d : Definition) (n : ℕ) (locals : Map) (below : List Context) (lines : List OutLine) (ended : Bool) →
    is_line d n ≡ b → s.definition ≡ None → (arrived b s w d n locals below lines ended).stopped ≡ true → IsResumed (arrived b s w d n locals below lines ended).state
arrived-resumed true s w d n locals below lines ended h none stops = comes-resumed (has_line d.header.name n s.stops) s w d n locals below lines ended h none stops
arrived-resumed false s w d n locals below lines ended h none stops = cc

-- at a stop →⎕LC and two steps begin the line
applied-resumed : (s : State) (c : Change) → s.definition ≡ None → (applied s c).stopped ≡ true → IsResumed (applied s c).state
applied-resumed s Rests none stops = cc
applied-resumed s (Moves w contexts lines ended) none stops = cc
applied-resumed s (Asks Stop w name lines given) none stops = cc
applied-resumed s (Asks Trace w name lines given) none stops = cc
applied-resumed s (Arrives w d n locals below lines ended) none stops = arrived-resumed (is_line d n) s w d n locals below lines ended refl none stops

-- An idle state stays; a state that runs has no definition open.
abbrev pub IsReady : State → Type 0
IsReady s = (s.definition ≡ None) ⊎ (is_idle s ≡ true)

rests-in : (w : World) (context : Context) (below : List Context) (rest : Option Rest) → is_suspended rest ≡ true → change_in w context below rest ≡ Rests
rests-in w context below None idle = refl
rests-in w context below (Some rest) idle = cc

pub idle-rests : (w : World) (contexts : List Context) → is_idle_in contexts ≡ true → change w contexts ≡ Rests
idle-rests w [] idle = refl
idle-rests w (context ∷ below) idle = rests-in w context below (rest_of context) idle

-- the step of an idle state
pub turn-idle : (s : State) → is_idle s ≡ true → turn s ≡ record { state = s; stopped = false; ended = false }
turn-idle s idle = ap (applied s) (idle-rests s.world s.contexts idle)

pub step-idle : (s : State) → is_idle s ≡ true → step s ≡ s
step-idle s idle = ap (λ (t : Turn). t.state) (turn-idle s idle)

-- a step's stop is one that →⎕LC answers
pub turn-resumed : (s : State) → IsReady s → (turn s).stopped ≡ true → IsResumed (turn s).state
turn-resumed s (inl none) stops = applied-resumed s (change s.world s.contexts) none stops
turn-resumed s (inr idle) stops = let never : (turn s).stopped ≡ false = ap (λ (t : Turn). t.stopped) (turn-idle s idle) in cc

goes_on : (b : Bool) (s : State) → (b ≡ true → IsResumed s) → (if b then resumed s else s) ≡ (if b then gone_on s else s)
goes_on true s r = (r refl).begins
goes_on false s r = refl

-- a step keeps the open definition
applied-opens : (s : State) (c : Change) → (going (applied s c)).definition ≡ s.definition
applied-opens s Rests = refl
applied-opens s (Moves w contexts lines ended) = refl
applied-opens s (Asks Stop w name lines given) = refl
applied-opens s (Asks Trace w name lines given) = refl
applied-opens s (Arrives w d n locals below lines ended) = (arrived-keeps (is_line d n) s w d n locals below lines ended).0

pub ready-next : (s : State) → IsReady s → IsReady (after_stop (turn s))
ready-next s (inl none) = inl (ap (λ (t : State). t.definition) (goes_on (turn s).stopped (turn s).state (turn-resumed s (inl none))) ∙ applied-opens s (change s.world s.contexts) ∙ none)
ready-next s (inr idle) = inr (ap is_idle (ap after_stop (turn-idle s idle)) ∙ idle)

-- what one step of the cut run is to the other run
pub record StepMatches (s : State) : Type 0 where
  pub same : free (after_stop (turn s)) ≡ step (free s)
  pub ready : IsReady (after_stop (turn s))
  pub stops : (after_stop (turn s)).stops ≡ s.stops

-- ONE STEP: where it stops, →⎕LC and two steps more, it is the step without stops.
pub matches : (s : State) → IsReady s → is_quiet (change s.world s.contexts) ≡ true → StepMatches s
matches s (inl none) q =
    let c : Change = change s.world s.contexts in
    let goes : after_stop (turn s) ≡ going (turn s) = goes_on (turn s).stopped (turn s).state (turn-resumed s (inl none)) in
    let keeps : ((going (applied s c)).definition ≡ s.definition) × ((going (applied s c)).stops ≡ s.stops) = applied-keeps s c q in
    record {
      same = ap free goes ∙ applied-free s c (change-plain s.world s.contexts) q;
      ready = inl (ap (λ (t : State). t.definition) goes ∙ keeps.0 ∙ none);
      stops = ap (λ (t : State). t.stops) goes ∙ keeps.1;
    }
matches s (inr idle) q =
    let stays : after_stop (turn s) ≡ s = ap after_stop (turn-idle s idle) in
    record {
      same = ap free stays ∙ sym (step-idle (free s) idle);
      ready = inr (ap is_idle stays ∙ idle);
      stops = ap (λ (t : State). t.stops) stays;
    }

-- STEP BY STEP: after n steps of the one run and the cut run of n steps
pub cut-free : (n : ℕ) (s : State) → IsReady s → IsQuietRun n (free s) → free (cut_steps n s) ≡ steps n (free s)
cut-free zero s ready q = refl
cut-free (suc n) s ready q =
    let m : StepMatches s = matches s ready q.0 in
    cut-free n (after_stop (turn s)) m.ready (subst (IsQuietRun n) (sym m.same) q.1) ∙ ap (steps n) m.same

comes-stops : (b : Bool) (s : State) (w : World) (d : Definition) (n : ℕ) (locals : Map) (below : List Context) (lines : List OutLine) (ended : Bool) → (comes_to b s w d n locals below lines ended).stopped ≡ b
comes-stops true s w d n locals below lines ended = refl
comes-stops false s w d n locals below lines ended = refl

arrived-stops : (b : Bool) (s : State) (w : World) (d : Definition) (n : ℕ) (locals : Map) (below : List Context) (lines : List OutLine) (ended : Bool) →
    (arrived b s w d n locals below lines ended).stopped ≡ (b && has_line d.header.name n s.stops)
arrived-stops true s w d n locals below lines ended = comes-stops (has_line d.header.name n s.stops) s w d n locals below lines ended
arrived-stops false s w d n locals below lines ended = refl

-- a step comes to a stop exactly where it comes to a line that the vectors name
pub applied-stops : (s : State) (c : Change) → (applied s c).stopped ≡ is_named_by s.stops c
applied-stops s Rests = refl
applied-stops s (Moves w contexts lines ended) = refl
applied-stops s (Asks Stop w name lines given) = refl
applied-stops s (Asks Trace w name lines given) = refl
applied-stops s (Arrives w d n locals below lines ended) = arrived-stops (is_line d n) s w d n locals below lines ended

-- THE STOPS are the lines named among those that the other run comes to.
pub stops-named : (n : ℕ) (s : State) → IsReady s → IsQuietRun n (free s) → stops_in n s ≡ named_in s.stops n (free s)
stops-named zero s ready q = refl
stops-named (suc n) s ready q =
    let m : StepMatches s = matches s ready q.0 in
    let next : State = after_stop (turn s) in
    let here : (turn s).stopped ≡ is_named_by s.stops (change s.world s.contexts) = applied-stops s (change s.world s.contexts) in
    let there : stops_in n next ≡ named_in next.stops n (free next) = stops-named n next m.ready (subst (IsQuietRun n) (sym m.same) q.1) in
    ap (λ (k : ℕ). count (turn s).stopped + k) (there ∙ ap (λ (v : Vectors). named_in v n (free next)) m.stops ∙ ap (named_in s.stops n) m.same)
    ∙ ap (λ (b : Bool). count b + named_in s.stops n (step (free s))) here

count-most : (b : Bool) → count b ≤ 1
count-most true = omega arith
count-most false = omega arith

stopped-by : (s : State) (idle : Bool) → is_idle s ≡ idle → count (turn s).stopped ≤ count (not idle)
stopped-by s true e = let f : count (turn s).stopped ≡ 0 = ap (λ (t : Turn). count t.stopped) (turn-idle s e) in omega arith
stopped-by s false e = count-most (turn s).stopped

-- There are at most as many stops as steps.
pub stops-most : (n : ℕ) (s : State) → IsReady s → IsQuietRun n (free s) → stops_in n s ≤ moves n (free s)
stops-most zero s ready q = omega arith
stops-most (suc n) s ready q =
    let m : StepMatches s = matches s ready q.0 in
    let next : State = after_stop (turn s) in
    let there : stops_in n next ≤ moves n (free next) = stops-most n next m.ready (subst (IsQuietRun n) (sym m.same) q.1) in
    let here : count (turn s).stopped ≤ count (not (is_idle s)) = stopped-by s (is_idle s) refl in
    let same : moves n (free next) ≡ moves n (step (free s)) = ap (moves n) m.same in
    omega arith

interrupted-free : (b : Bool) (s : State) → free (interrupted b s) ≡ interrupted b (free s)
interrupted-free true s = refl
interrupted-free false s = ap (freed s s.world (abandoned s.contexts)) (plain-more s.output _ (fault-plain Interrupt 1 (nearest s.contexts)))

pub interrupt-free : (s : State) → free (interrupt s) ≡ interrupt (free s)
interrupt-free s = interrupted-free (is_idle s) s
