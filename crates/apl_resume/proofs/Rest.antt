-- One more step of a cut run, and the steps that are left where it is idle.
use Rattle.std.proofs.Common.{◌≡◌, ℕ, zero, suc, ◌+◌, ◌≤◌, true, arith, ap, ◌∙◌, refl, zero-add}
use Rattle.apl_machine_state.specs.State.{State, Turn, turn, is_idle}
use Rattle.apl_resume.specs.Cut.{after_stop, cut_steps, stops_in, count}
use Rattle.apl_resume.proofs.Stops.{turn-idle}

pub cut_steps-more : (k : ℕ) (s : State) → cut_steps (k + 1) s ≡ after_stop (turn (cut_steps k s))
cut_steps-more zero s = refl
cut_steps-more (suc k) s = let e : suc k + 1 ≡ suc (k + 1) = omega arith in ap (λ (j : ℕ). cut_steps j s) e ∙ cut_steps-more k (after_stop (turn s))

pub stops_in-more : (k : ℕ) (s : State) → stops_in (k + 1) s ≡ stops_in k s + count (turn (cut_steps k s)).stopped
stops_in-more zero s = let e : count (turn s).stopped + 0 ≡ 0 + count (turn s).stopped = omega arith in e
stops_in-more (suc k) s =
    let e : suc k + 1 ≡ suc (k + 1) = omega arith in
    let r : stops_in (k + 1) (after_stop (turn s)) ≡ stops_in k (after_stop (turn s)) + count (turn (cut_steps k (after_stop (turn s)))).stopped = stops_in-more k (after_stop (turn s)) in
    ap (λ (j : ℕ). stops_in j s) e ∙ (omega arith)

stays : (s : State) → is_idle s ≡ true → after_stop (turn s) ≡ s
stays s idle = ap after_stop (turn-idle s idle)

cut_steps-idle : (n : ℕ) (s : State) → is_idle s ≡ true → cut_steps n s ≡ s
cut_steps-idle zero s idle = refl
cut_steps-idle (suc n) s idle = ap (cut_steps n) (stays s idle) ∙ cut_steps-idle n s idle

stops_in-idle : (n : ℕ) (s : State) → is_idle s ≡ true → stops_in n s ≡ 0
stops_in-idle zero s idle = refl
stops_in-idle (suc n) s idle =
    ap (λ (t : Turn). count t.stopped + stops_in n (after_stop t)) (turn-idle s idle)
    ∙ zero-add (stops_in n s)
    ∙ stops_in-idle n s idle

-- an idle state stays for the steps that are left
pub cut_steps-rest : (k n : ℕ) (s : State) → k ≤ n → is_idle (cut_steps k s) ≡ true → cut_steps n s ≡ cut_steps k s
cut_steps-rest zero n s le idle = cut_steps-idle n s idle
cut_steps-rest (suc k) zero s le idle = absurd (omega arith)
cut_steps-rest (suc k) (suc n) s le idle = cut_steps-rest k n (after_stop (turn s)) (omega arith) idle

pub stops_in-rest : (k n : ℕ) (s : State) → k ≤ n → is_idle (cut_steps k s) ≡ true → stops_in n s ≡ stops_in k s
stops_in-rest zero n s le idle = stops_in-idle n s idle
stops_in-rest (suc k) zero s le idle = absurd (omega arith)
stops_in-rest (suc k) (suc n) s le idle = ap (λ (j : ℕ). count (turn s).stopped + j) (stops_in-rest k n (after_stop (turn s)) (omega arith) idle)
