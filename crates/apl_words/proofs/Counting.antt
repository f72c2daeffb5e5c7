-- The most steps of a line, as they are read.
use Rattle.std.proofs.Common.{◌≡◌, ◌∙◌, ℕ, List, Option, Some, None, Result, Ok, Err, refl, ap}
use Rattle.std.specs.Prelude.{unwrap_or}
use Rattle.std.specs.Str.Parse.{ParsesUnsigned}
use Rattle.clap.specs.Words.{ReadsOne, Text}
use Rattle.apl_words.specs.Planning.{IsSteps}

pub steps_read : (E : Type 0) (G : List ℕ → Result ℕ E → Type 0) (o : Option Text) (r : Option ℕ) (n : ℕ)
    → ((u : List ℕ) (x : Result ℕ E) → G u x → ParsesUnsigned 64 10 u x)
    → (o ≡ None → r ≡ None) → ((t : List ℕ) → o ≡ Some t → ReadsOne G t r) → n ≡ unwrap_or r 1000000 → IsSteps o n
steps_read E G None r n only none read is = is ∙ ap (λ x. unwrap_or x 1000000) (none refl)
steps_read E G (Some t) None n only none read is =
    let got = read t refl in
    let parsed = only t (Err got.0) got.1 in
    (λ count. absurd (parsed count), λ no. is)
steps_read E G (Some t) (Some v) n only none read is =
    let parsed = only t (Ok v) (read t refl) in
    (λ count. is ∙ parsed.1, λ no. absurd (no parsed.0))
