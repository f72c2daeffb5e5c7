-- A text laid over blanks.
use Rattle.std.proofs.Common.{◌≡◌, ◌≤◌, ◌-◌, ◌+◌, ℕ, List, ◌++◌, drop, take, length, replicate, sym, ◌∙◌, ap, subst, length-append, arith}
use Rattle.std.proofs.lemmas.List.{drop-replicate, length-replicate}
use Rattle.std.proofs.Math.Seq.{take-append_seam}
use Rattle.apl_symbols.specs.Padded.{IsPadded}

pub over_blanks : (text : List ℕ) → length text ≤ 32 → IsPadded (length text) (text ++ replicate (32 - length text) 32)
over_blanks text h = record {
  fits = h;
  whole = length-append text (replicate (32 - length text) 32) ∙ ap (λ (n : ℕ). length text + n) (length-replicate (32 - length text) 32) ∙ omega arith;
  blank = ap (λ (t : List ℕ). t ++ replicate (32 - length text) 32) (sym (take-append_seam text (replicate (32 - length text) 32)));
}

pub laid_over : (text prefix : List ℕ) (blank : ℕ) → prefix ≡ text → blank ≡ 32 → length text ≤ 32 → IsPadded (length text) (prefix ++ drop (length text) (replicate 32 blank))
laid_over text prefix blank e b h =
    subst (λ (p : List ℕ). IsPadded (length text) p) (sym (ap (λ (f : List ℕ). f ++ drop (length text) (replicate 32 blank)) e ∙ ap (λ (r : List ℕ). text ++ r) (ap (λ (x : ℕ). drop (length text) (replicate 32 x)) b ∙ drop-replicate (length text) 32 32))) (over_blanks text h)

-- the text is the start of what it was laid over
pub front_of : (text prefix rest : List ℕ) → prefix ≡ text → text ≡ take (length text) (prefix ++ rest)
front_of text prefix rest e = sym (take-append_seam text rest) ∙ ap (λ (f : List ℕ). take (length text) (f ++ rest)) (sym e)
