-- The law of cut runs.
use Rattle.std.proofs.Common.{◌≡◌, ℕ, zero, suc, ◌+◌, ◌*◌, ◌≤◌, [], Bool, true, false, arith, ap, ◌∙◌, sym, refl, subst, ◌⊎◌, inl, inr, zero-add}
use Rattle.std.specs.Prelude.{if◌then◌else◌, not, ◌&&◌}
use Rattle.apl_defn.specs.Definitions.{is_line}
use Rattle.apl_vectors.specs.Vectors.{Vectors}
use Rattle.apl_machine_state.specs.Changes.{Change, Rests, Moves, Asks, Arrives, change}
use Rattle.apl_machine_state.specs.State.{State, turn, step, steps, is_idle, interrupt}
use Rattle.apl_session.specs.Events.{typed}
use Rattle.apl_resume.specs.Cut.{free, unstopped, resumed, after_stop, cut_steps, cut_by, stops_in, stops_by, IsQuietRun, is_named_by, named_in, moves, moves_by, count}
use Rattle.apl_resume.specs.Law.{CutIsUncut, CutInSingleSteps, IsSameAfter}
use Rattle.apl_resume.proofs.Typing.{IsLine, IsSettled, settled_line, typed_line}
use Rattle.apl_resume.proofs.Stops.{IsReady, StepMatches, matches, cut-free, stops-named, stops-most, interrupt-free, applied-stops, idle-rests, step-idle}
use Rattle.apl_resume.proofs.Single.{single-steps, single-stops, single-moves, budget-lasts}

-- in a run without stop vectors nothing stops
never : (b : Bool) → (b && false) ≡ false
never true = refl
never false = refl

named-nothing : (c : Change) → is_named_by [] c ≡ false
named-nothing Rests = refl
named-nothing (Moves w contexts lines ended) = refl
named-nothing (Asks which w name lines given) = refl
named-nothing (Arrives w d n locals below lines ended) = never (is_line d n)

unstopped-step : (u : State) → u.stops ≡ [] → after_stop (turn u) ≡ step u
unstopped-step u e =
    let c : Change = change u.world u.contexts in
    let no : (turn u).stopped ≡ false = applied-stops u c ∙ ap (λ (v : Vectors). is_named_by v c) e ∙ named-nothing c in
    ap (λ (b : Bool). if b then resumed (turn u).state else (turn u).state) no

-- what a run without stop vectors is to the same run on the state freed
record IsFreed (n : ℕ) (u : State) : Type 0 where
  states : free (steps n u) ≡ steps n (free u)
  quiet : IsQuietRun n (free u)
  lines : (v : Vectors) → named_in v n u ≡ named_in v n (free u)
  taken : moves n u ≡ moves n (free u)

freed_run : (n : ℕ) (u : State) → u.stops ≡ [] → IsReady u → IsQuietRun n u → IsFreed n u
freed_run zero u e ready q = record { states = refl; quiet = tt; lines = λ v. refl; taken = refl }
freed_run (suc n) u e ready q =
    let m : StepMatches u = matches u ready q.0 in
    let one : after_stop (turn u) ≡ step u = unstopped-step u e in
    let same : free (step u) ≡ step (free u) = sym (ap free one) ∙ m.same in
    let rest : IsFreed n (step u) = freed_run n (step u) (sym (ap (λ (t : State). t.stops) one) ∙ m.stops ∙ e) (subst IsReady one m.ready) q.1 in
    record {
      states = rest.states ∙ ap (steps n) same;
      quiet = (q.0, subst (IsQuietRun n) same rest.quiet);
      lines = λ v. ap (λ (k : ℕ). count (is_named_by v (change u.world u.contexts)) + k) (rest.lines v ∙ ap (named_in v n) same);
      taken = ap (λ (k : ℕ). count (not (is_idle u)) + k) (rest.taken ∙ ap (moves n) same);
    }

quiet-front : (k n : ℕ) (u : State) → k ≤ n → IsQuietRun n u → IsQuietRun k u
quiet-front zero n u le q = tt
quiet-front (suc k) zero u le q = absurd (omega arith)
quiet-front (suc k) (suc n) u le q = (q.0, quiet-front k n (step u) (omega arith) q.1)

-- after a line
ready-line : (x t : State) → IsSettled x t → IsReady t
ready-line x t (inl p) = inl p.0
ready-line x t (inr idle) = inr idle

stops-line : (x t : State) → IsSettled x t → (is_idle t ≡ true) ⊎ (t.stops ≡ x.stops)
stops-line x t (inl p) = inr p.1
stops-line x t (inr idle) = inl idle

-- an idle state comes to no line
idle-names : (v : Vectors) (n : ℕ) (s : State) → is_idle s ≡ true → named_in v n s ≡ 0
idle-names v zero s idle = refl
idle-names v (suc n) s idle =
    ap (λ (c : Change). count (is_named_by v c) + named_in v n (step s)) (idle-rests s.world s.contexts idle)
    ∙ zero-add (named_in v n (step s)) ∙ ap (named_in v n) (step-idle s idle) ∙ idle-names v n s idle

named-vectors : (v w : Vectors) (n : ℕ) (s u : State) → (is_idle s ≡ true) ⊎ (w ≡ v) → is_idle u ≡ is_idle s → named_in w n u ≡ named_in v n u
named-vectors v w n s u (inl idle) e = idle-names w n u (e ∙ idle) ∙ sym (idle-names v n u (e ∙ idle))
named-vectors v w n s u (inr same) e = ap (λ (a : Vectors). named_in a n u) same

-- an idle state stays
steps-idle : (n : ℕ) (s : State) → is_idle s ≡ true → steps n s ≡ s
steps-idle zero s idle = refl
steps-idle (suc n) s idle = ap (steps n) (step-idle s idle) ∙ steps-idle n s idle

-- a state that runs after n steps has made all of them
all-but : (b : Bool) (n : ℕ) (s : State) → is_idle s ≡ b → is_idle (steps n (step s)) ≡ false → moves n (step s) ≡ n → count (not b) + moves n (step s) ≡ suc n
all-but false n s idle runs later = let one : 1 + moves n (step s) ≡ suc n = omega arith in one
all-but true n s idle runs later = let stays : is_idle (steps n (step s)) ≡ true = ap is_idle (ap (steps n) (step-idle s idle) ∙ steps-idle n s idle) ∙ idle in cc

all-moves : (n : ℕ) (s : State) → is_idle (steps n s) ≡ false → moves n s ≡ n
all-moves zero s runs = refl
all-moves (suc n) s runs = all-but (is_idle s) n s refl runs (all-moves n (step s) runs)

-- IN SINGLE STEPS
pub cut_in_single_steps : CutInSingleSteps
cut_in_single_steps x line n idle =
    let s : State = typed x line in
    let known : IsLine x s (typed (free x) line) = settled_line x line idle (typed_line x line idle) in
    let ready : IsReady s = ready-line x s known.settled in
    record {
      made = n + 2 * stops_in n s;
      spent = ap (λ (k : ℕ). n + 2 * k) (sym (single-stops n s ready));
      lasts = budget-lasts n s ready;
      state = ap interrupt (sym (single-steps n s ready));
      stops = sym (single-stops n s ready);
      on_the_way = λ k. single-steps k s ready;
      stops_on_the_way = λ k. single-stops k s ready;
    }

-- what is known of k steps of both runs, over the single steps of the one
same-after : (vectors : Vectors) (s u : State) (k : ℕ) → IsReady s → IsQuietRun k (free s) → stops_in k s ≡ named_in vectors k u → free (cut_steps k s) ≡ free (steps k u)
    → moves k (free s) ≡ moves k u → IsSameAfter vectors s u k
same-after vectors s u k ready quiet named same taken =
    let here : cut_by (k + 2 * named_in vectors k u) s ≡ cut_steps k s = ap (λ (j : ℕ). cut_by (k + 2 * j) s) (sym named) ∙ single-steps k s ready in
    let by_stops : moves_by (k + 2 * named_in vectors k u) s ≡ moves_by (k + 2 * stops_in k s) s = ap (λ (j : ℕ). moves_by (k + 2 * j) s) (sym named) in
    let made : moves_by (k + 2 * stops_in k s) s ≡ moves k (free s) + 2 * stops_in k s = single-moves k s ready quiet in
    record {
      same = ap free here ∙ same;
      stops = ap (λ (j : ℕ). stops_by (k + 2 * j) s) (sym named) ∙ single-stops k s ready ∙ named;
      steps_taken = omega arith;
      both_idle = ap is_idle (ap free here ∙ same);
    }

-- THE LAW
pub cut_is_uncut : CutIsUncut
cut_is_uncut x line n idle quiet =
    let s : State = typed x line in
    let u : State = typed (unstopped x) line in
    let known : IsLine x s (typed (free x) line) = settled_line x line idle (typed_line x line idle) in
    let other : IsLine (unstopped x) u (typed (free x) line) = settled_line (unstopped x) line idle (typed_line (unstopped x) line idle) in
    let ready : IsReady s = ready-line x s known.settled in
    let both : free s ≡ free u = known.freed ∙ sym other.freed in
    let freed : (k : ℕ) → k ≤ n → IsFreed k u = λ (k : ℕ) (le : k ≤ n). freed_run k u (other.emptied refl) (ready-line (unstopped x) u other.settled) (quiet-front k n u le quiet) in
    let quiet_s : (k : ℕ) → k ≤ n → IsQuietRun k (free s) = λ (k : ℕ) (le : k ≤ n). subst (IsQuietRun k) (sym both) (freed k le).quiet in
    let way : (k : ℕ) → k ≤ n → free (cut_steps k s) ≡ free (steps k u) = λ (k : ℕ) (le : k ≤ n). cut-free k s ready (quiet_s k le) ∙ ap (steps k) both ∙ sym (freed k le).states in
    let taken : (k : ℕ) → k ≤ n → moves k (free s) ≡ moves k u = λ (k : ℕ) (le : k ≤ n). ap (moves k) both ∙ sym (freed k le).taken in
    let named : (k : ℕ) → k ≤ n → stops_in k s ≡ named_in x.stops k u = λ (k : ℕ) (le : k ≤ n).
    stops-named k s ready (quiet_s k le) ∙ ap (named_in s.stops k) both ∙ sym ((freed k le).lines s.stops) ∙ named-vectors x.stops s.stops k s u (stops-line x s known.settled) (sym (ap is_idle both)) in
    let all : n ≤ n = omega arith in
    record {
      at_the_end = interrupt-free (cut_steps n s) ∙ ap interrupt (way n all) ∙ sym (interrupt-free (steps n u));
      on_the_way = λ k le. same-after x.stops s u k ready (quiet_s k le) (named k le) (way k le) (taken k le);
      stops = named;
      at_most =
          let a : stops_in n s ≤ moves n (free s) = stops-most n s ready (quiet_s n all) in
          let b : moves n (free s) ≡ moves n u = taken n all in
          omega arith;
      interrupted = λ runs.
          let made : moves n u ≡ n = all-moves n u runs in
          let a : moves_by (n + 2 * stops_in n s) s ≡ moves n (free s) + 2 * stops_in n s = single-moves n s ready (quiet_s n all) in
          let b : moves n (free s) ≡ moves n u = taken n all in
          (made, omega arith, ap free (single-steps n s ready) ∙ way n all);
    }
