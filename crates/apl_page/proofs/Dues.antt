-- What is due comes, or memory has run out.
use Rattle.std.proofs.Common.{◌≡◌, inl, inr, ℕ, List, ap, ◌∙◌}
use Rattle.std.specs.Prelude.{Result, Ok, Err, IfOk, MatchResult}
use Rattle.apl_page.specs.Answers.{IsDue}
use Rattle.apl_page.specs.declared.refusal.Refusal.{Refusal}
use Rattle.apl_page.specs.declared.refusal.Refusal.TheVariants.{Memory}

pub due_or_memory : {E : Type 0} (due : List ℕ) (r : Result (List ℕ) E) (outcome : Result (List ℕ) Refusal) → IfOk r (λ b. b ≡ due)
    → MatchResult r (λ b. outcome ≡ Ok b) (λ e. outcome ≡ Err Memory) → IsDue (Ok due) outcome
due_or_memory due (Ok b) outcome e m = inl (m ∙ ap Ok e)
due_or_memory due (Err x) outcome e m = inr m
