-- The standing calls, one by one.
use Rattle.std.proofs.Common.{◌≡◌, ◌<◌, ℕ, zero, suc, ◌+◌, List, [], ◌∷◌, ◌++◌, drop, length, Option, Some, None, refl, sym, ap, ◌∙◌, append_assoc, add-one}
use Rattle.std.specs.Prelude.{slice_get, option_map}
use Rattle.std.proofs.lemmas.List.{append-nil}
use Rattle.std.proofs.lemmas.Option.{slice_get_within}
use Rattle.apl_names.specs.Maps.{first_map}
use Rattle.apl_machine_state.specs.Environment.{World, Context, Statement, Call, Execute, environment}
use Rattle.apl_machine_state.specs.State.{State}
use Rattle.apl_machine.specs.Standing.{Seen, calls_in}
use Rattle.apl_kept.specs.declared.indicator.StandingCall.{StandingCall}
use Rattle.apl_kept.specs.Indicator.{indicator}
use Rattle.apl_kept.specs.inside.Calls.{map_at, standing_call}

call_in : World → List Context → ℕ → Option Seen → Option StandingCall
call_in w contexts k call = option_map (λ c. standing_call c (first_map (drop k (environment w contexts)))) call

-- the k-th newest of them
call-is : (w : World) (contexts : List Context) (k : ℕ) → slice_get (indicator contexts) k ≡ call_in w contexts k (slice_get (calls_in contexts) k)
unfolding call_in
call-is w [] k = refl
call-is w (Statement text rest ∷ below) k = call-is w below k
call-is w (Execute text rest ∷ below) k = call-is w below k
call-is w (Call d n locals rest ∷ below) zero = refl
call-is w (Call d n locals rest ∷ below) (suc k) = call-is w below k

got : (s : State) (k : ℕ) (call : Option Seen) → call ≡ slice_get (calls_in s.contexts) k → slice_get (indicator s.contexts) k ≡ call_in s.world s.contexts k call
got s k call e = call-is s.world s.contexts k ∙ ap (call_in s.world s.contexts k) (sym e)

some-left : (calls : List StandingCall) (k : ℕ) (c : StandingCall) → slice_get calls k ≡ Some c → drop k calls ≡ c ∷ drop (suc k) calls
some-left [] k c h = cc
some-left (d ∷ calls) zero c h = let e : d ≡ c = cc in ap (λ (x : StandingCall). x ∷ calls) e
some-left (d ∷ calls) (suc k) c h = some-left calls k c h

none-left : (calls : List StandingCall) (k : ℕ) → slice_get calls k ≡ None → drop k calls ≡ []
none-left [] zero h = refl
none-left [] (suc k) h = refl
none-left (d ∷ calls) zero h = cc
none-left (d ∷ calls) (suc k) h = none-left calls k h

-- one more is told
pub told_more : (s : State) (told new : List StandingCall) (k m : ℕ) (seen : Seen) (c : StandingCall) → Some seen ≡ slice_get (calls_in s.contexts) k → c ≡ standing_call seen (map_at s k) → new ≡ told ++ c ∷ [] → m ≡ k + 1
    → told ++ drop k (indicator s.contexts) ≡ indicator s.contexts → new ++ drop m (indicator s.contexts) ≡ indicator s.contexts
unfolding call_in
told_more s told new k m seen c at is pushed next h =
    ap (λ (cs : List StandingCall). cs ++ drop m (indicator s.contexts)) pushed
    ∙ ap (λ (n : ℕ). (told ++ c ∷ []) ++ drop n (indicator s.contexts)) (next ∙ add-one k)
    ∙ append_assoc told (c ∷ []) (drop (suc k) (indicator s.contexts))
    ∙ ap (λ (cs : List StandingCall). told ++ cs) (sym (some-left (indicator s.contexts) k c (got s k (Some seen) at ∙ ap Some (sym is))))
    ∙ h

-- those that are left grow fewer
pub fewer : (s : State) (k : ℕ) (seen : Seen) → Some seen ≡ slice_get (calls_in s.contexts) k → k < length (indicator s.contexts)
unfolding call_in
fewer s k seen at = slice_get_within (indicator s.contexts) k (standing_call seen (map_at s k)) (got s k (Some seen) at)

pub all_told : (s : State) (told : List StandingCall) (k : ℕ) → None ≡ slice_get (calls_in s.contexts) k → told ++ drop k (indicator s.contexts) ≡ indicator s.contexts → told ≡ indicator s.contexts
unfolding call_in
all_told s told k at h = sym (append-nil told) ∙ ap (λ (cs : List StandingCall). told ++ cs) (sym (none-left (indicator s.contexts) k (got s k None at))) ∙ h
