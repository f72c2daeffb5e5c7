-- Where neither ⎕STOP nor ⍎ stands, no run reduces a phrase of ⎕STOP.
use Rattle.std.proofs.Common.{◌≡◌, ℕ, zero, suc, List, true, Option, Some, None, ap, sym, subst, inl, inr}
use Rattle.std.specs.Prelude.{Ok, Err}
use Rattle.apl_charset.specs.Decoding.{decoded}
use Rattle.apl_tokens.specs.declared.token.Token.{Token}
use Rattle.apl_tokens.specs.Tokens.{Answer, tokens_of}
use Rattle.apl_defn.specs.Definitions.{Text}
use Rattle.apl_machine_state.specs.State.{State, is_idle, step}
use Rattle.apl_machine_state.specs.Beginning.{begun_by, started}
use Rattle.apl_machine_state.specs.Texts.{colon_of}
use Rattle.apl_resume.specs.Cut.{unstopped, is_quiet, IsQuietRun}
use Rattle.apl_resume.specs.Quiet.{AreCleanTokens, AreCleanIfAny, IsClean, IsCleanLine, QuietWhereClean}
use Rattle.apl_resume.proofs.Typing.{IsTyped, typed_line}
use Rattle.apl_resume.proofs.Stops.{idle-rests, step-idle}
use Rattle.apl_resume.proofs.CleanItems.{fresh-clean}
use Rattle.apl_resume.proofs.CleanChanges.{step-clean}

clean-run : (n : ℕ) (s : State) → IsClean s → IsQuietRun n s
clean-run zero s h = tt
clean-run (suc n) s h = ((step-clean s h).0, clean-run n (step s) (step-clean s h).1)

idle-run : (n : ℕ) (s : State) → is_idle s ≡ true → IsQuietRun n s
idle-run zero s idle = tt
idle-run (suc n) s idle =
    (ap is_quiet (idle-rests s.world s.contexts idle), subst (IsQuietRun n) (sym (step-idle s idle)) (idle-run n s idle))

started-run : (n : ℕ) (x : State) (text : Text) (tokens : List Token) (colon : Option ℕ) → is_idle x ≡ true → IsClean x → AreCleanTokens tokens → IsQuietRun n (started x text tokens colon)
started-run n x text tokens (Some at) idle h k = idle-run n (started x text tokens (Some at)) idle
started-run n x text tokens None idle h k =
    clean-run n (started x text tokens None) (record { globals = h.globals; contexts = (fresh-clean x.world x.contexts tokens k, h.contexts) })

begun-run : (n : ℕ) (x : State) (text : Text) (r : Answer) → is_idle x ≡ true → IsClean x → AreCleanIfAny r → IsQuietRun n (begun_by x text r)
begun-run n x text (Ok tokens) idle h k = started-run n x text tokens (colon_of tokens) idle h k
begun-run n x text (Err error) idle h k = idle-run n (begun_by x text (Err error)) idle

typed-run : (n : ℕ) (x : State) (line : List ℕ) {t u : State} → is_idle x ≡ true → IsClean x → IsCleanLine (decoded line) → IsTyped x line t u → IsQuietRun n t
typed-run n x line {t} {u} idle h k (inl done) = idle-run n t done.idle
typed-run n x line idle h k (inr b) =
    subst (IsQuietRun n) (sym b.begins) (begun-run n x b.text (tokens_of b.text) idle h (subst IsCleanLine b.is_text k))

-- THE PREMISE of the law holds where neither ⎕STOP nor ⍎ stands.
pub quiet_where_clean : QuietWhereClean
quiet_where_clean x line n idle h k =
    typed-run n (unstopped x) line idle (record { globals = h.globals; contexts = h.contexts }) k (typed_line (unstopped x) line idle)
