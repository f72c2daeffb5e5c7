-- The cut run in single steps, where each stop is answered at once by the line →⎕LC.
use Rattle.std.proofs.Common.{◌≡◌, ℕ, zero, suc, ◌+◌, ◌*◌, ◌<◌, Bool, true, false, arith, ap, ◌∙◌, sym, refl, subst, zero-add}
use Rattle.std.specs.Prelude.{if◌then◌else◌, not}
use Rattle.apl_machine_state.specs.State.{State, turn, step, is_idle}
use Rattle.apl_session.specs.Events.{typed}
use Rattle.apl_resume.specs.Cut.{resume_line, resumed, after_stop, answered, cut_steps, cut_by, free, stops_in, stops_by, moves, moves_by, count, IsQuietRun}
use Rattle.apl_resume.proofs.Resuming.{IsResumed}
use Rattle.apl_resume.proofs.Stops.{IsReady, StepMatches, matches, ready-next, turn-resumed}

-- a step that comes to no stop
passes : (b : Bool) (s : State) → b ≡ false → (if b then typed s resume_line else s) ≡ s
passes true s e = cc
passes false s e = refl

cut-passes : (k : ℕ) (s : State) → (turn s).stopped ≡ false → cut_by (suc k) s ≡ cut_by k (step s)
cut-passes k s passed = ap (cut_by k) (passes (turn s).stopped (turn s).state passed)

stops-pass : (k : ℕ) (s : State) → (turn s).stopped ≡ false → stops_by (suc k) s ≡ stops_by k (step s)
stops-pass k s passed =
    ap (λ (b : Bool). count b + stops_by k (answered (turn s))) passed
    ∙ zero-add (stops_by k (answered (turn s)))
    ∙ ap (stops_by k) (passes (turn s).stopped (turn s).state passed)

moves-pass : (k : ℕ) (s : State) → (turn s).stopped ≡ false → moves_by (suc k) s ≡ count (not (is_idle s)) + moves_by k (step s)
moves-pass k s passed = ap (λ (t : State). count (not (is_idle s)) + moves_by k t) (passes (turn s).stopped (turn s).state passed)

-- the two steps that answer a stop
cut-resumes : (k : ℕ) (s : State) → IsResumed s → cut_by (suc (suc k)) (typed s resume_line) ≡ cut_by k (resumed s)
cut-resumes k s r = cut-passes (suc k) (typed s resume_line) r.first ∙ cut-passes k (step (typed s resume_line)) r.second

stops-resume : (k : ℕ) (s : State) → IsResumed s → stops_by (suc (suc k)) (typed s resume_line) ≡ stops_by k (resumed s)
stops-resume k s r = stops-pass (suc k) (typed s resume_line) r.first ∙ stops-pass k (step (typed s resume_line)) r.second

moves-resume : (k : ℕ) (s : State) → IsResumed s → moves_by (suc (suc k)) (typed s resume_line) ≡ 2 + moves_by k (resumed s)
moves-resume k s r =
    let t : State = typed s resume_line in
    let one : moves_by (suc (suc k)) t ≡ count (not (is_idle t)) + moves_by (suc k) (step t) = moves-pass (suc k) t r.first in
    let two : moves_by (suc k) (step t) ≡ count (not (is_idle (step t))) + moves_by k (resumed s) = moves-pass k (step t) r.second in
    let taken : count (not (is_idle t)) + (count (not (is_idle (step t))) + 0) ≡ 2 = r.taken in
    omega arith

cut-answers : (b : Bool) (k : ℕ) (s : State) → (b ≡ true → IsResumed s) → cut_by (k + 2 * count b) (if b then typed s resume_line else s) ≡ cut_by k (if b then resumed s else s)
cut-answers true k s r = let e : k + 2 * 1 ≡ suc (suc k) = omega arith in ap (λ (j : ℕ). cut_by j (typed s resume_line)) e ∙ cut-resumes k s (r refl)
cut-answers false k s r = let e : k + 2 * 0 ≡ k = omega arith in ap (λ (j : ℕ). cut_by j s) e

stops-answer : (b : Bool) (k : ℕ) (s : State) → (b ≡ true → IsResumed s) → stops_by (k + 2 * count b) (if b then typed s resume_line else s) ≡ stops_by k (if b then resumed s else s)
stops-answer true k s r = let e : k + 2 * 1 ≡ suc (suc k) = omega arith in ap (λ (j : ℕ). stops_by j (typed s resume_line)) e ∙ stops-resume k s (r refl)
stops-answer false k s r = let e : k + 2 * 0 ≡ k = omega arith in ap (λ (j : ℕ). stops_by j s) e

moves-answer : (b : Bool) (k : ℕ) (s : State) → (b ≡ true → IsResumed s) → moves_by (k + 2 * count b) (if b then typed s resume_line else s) ≡ 2 * count b + moves_by k (if b then resumed s else s)
moves-answer true k s r =
    let e : k + 2 * 1 ≡ suc (suc k) = omega arith in
    let made : moves_by (k + 2 * 1) (typed s resume_line) ≡ 2 + moves_by k (resumed s) = ap (λ (j : ℕ). moves_by j (typed s resume_line)) e ∙ moves-resume k s (r refl) in
    omega arith
moves-answer false k s r =
    let e : k + 2 * 0 ≡ k = omega arith in
    let made : moves_by (k + 2 * 0) s ≡ moves_by k s = ap (λ (j : ℕ). moves_by j s) e in
    omega arith

pub single-steps : (n : ℕ) (s : State) → IsReady s → cut_by (n + 2 * stops_in n s) s ≡ cut_steps n s
single-steps zero s ready = refl
single-steps (suc n) s ready =
    let next : State = after_stop (turn s) in
    let more : ℕ = stops_in n next in
    let e : suc n + 2 * (count (turn s).stopped + more) ≡ suc ((n + 2 * more) + 2 * count (turn s).stopped) = omega arith in
    ap (λ (j : ℕ). cut_by j s) e
    ∙ cut-answers (turn s).stopped (n + 2 * more) (turn s).state (turn-resumed s ready)
    ∙ single-steps n next (ready-next s ready)

pub single-stops : (n : ℕ) (s : State) → IsReady s → stops_by (n + 2 * stops_in n s) s ≡ stops_in n s
single-stops zero s ready = refl
single-stops (suc n) s ready =
    let next : State = after_stop (turn s) in
    let more : ℕ = stops_in n next in
    let e : suc n + 2 * (count (turn s).stopped + more) ≡ suc ((n + 2 * more) + 2 * count (turn s).stopped) = omega arith in
    ap (λ (j : ℕ). stops_by j s) e
    ∙ ap (λ (j : ℕ). count (turn s).stopped + j) (stops-answer (turn s).stopped (n + 2 * more) (turn s).state (turn-resumed s ready) ∙ single-stops n next (ready-next s ready))

-- THE STEPS: those of the run without stops, and two for each stop
pub single-moves : (n : ℕ) (s : State) → IsReady s → IsQuietRun n (free s) → moves_by (n + 2 * stops_in n s) s ≡ moves n (free s) + 2 * stops_in n s
single-moves zero s ready q = refl
single-moves (suc n) s ready q =
    let m : StepMatches s = matches s ready q.0 in
    let next : State = after_stop (turn s) in
    let stop : ℕ = count (turn s).stopped in
    let more : ℕ = stops_in n next in
    let e : suc n + 2 * (stop + more) ≡ suc ((n + 2 * more) + 2 * stop) = omega arith in
    let first : moves_by (suc n + 2 * (stop + more)) s ≡ count (not (is_idle s)) + moves_by ((n + 2 * more) + 2 * stop) (answered (turn s)) = ap (λ (j : ℕ). moves_by j s) e in
    let here : moves_by ((n + 2 * more) + 2 * stop) (answered (turn s)) ≡ 2 * stop + moves_by (n + 2 * more) next = moves-answer (turn s).stopped (n + 2 * more) (turn s).state (turn-resumed s ready) in
    let there : moves_by (n + 2 * more) next ≡ moves n (free next) + 2 * more = single-moves n next m.ready (subst (IsQuietRun n) (sym m.same) q.1) in
    let same : moves n (free next) ≡ moves n (step (free s)) = ap (moves n) m.same in
    omega arith

-- the budget lasts: behind a step, where b tells of a stop, t is the state that it came to
lasts-behind : (b : Bool) (m : ℕ) (t : State) → (b ≡ true → IsResumed t)
    → ((k : ℕ) → k < m + 2 * stops_in m (if b then resumed t else t) → k < m + 2 * stops_by k (if b then resumed t else t))
    → (j : ℕ) → suc j < suc m + 2 * (count b + stops_in m (if b then resumed t else t)) → suc j < suc m + 2 * (count b + stops_by j (if b then typed t resume_line else t))
lasts-behind false m t r later j w = let l : j < m + 2 * stops_by j t = later j (omega arith) in omega arith
lasts-behind true m t r later zero w = omega arith
lasts-behind true m t r later (suc zero) w = omega arith
lasts-behind true m t r later (suc (suc k)) w =
    let e : stops_by (suc (suc k)) (typed t resume_line) ≡ stops_by k (resumed t) = stops-resume k t (r refl) in
    let l : k < m + 2 * stops_by k (resumed t) = later k (omega arith) in
    omega arith

-- THE BUDGET: n steps at first and two more for each stop so far, of which some are left at each step before the last
pub budget-lasts : (n : ℕ) (s : State) → IsReady s → (i : ℕ) → i < n + 2 * stops_in n s → i < n + 2 * stops_by i s
budget-lasts zero s ready i w = absurd (omega arith)
budget-lasts (suc n) s ready zero w = omega arith
budget-lasts (suc n) s ready (suc j) w =
    lasts-behind (turn s).stopped n (turn s).state (turn-resumed s ready) (budget-lasts n (after_stop (turn s)) (ready-next s ready)) j w
