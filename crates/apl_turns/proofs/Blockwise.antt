-- Lists taken the other way, element by element from the end.
use Rattle.std.proofs.Common.{◌≡◌, ℕ, ◌+◌, ◌-◌, ◌<◌, List, [], ◌∷◌, ◌++◌, length, get_or, take, ap, sym, ◌∙◌, arith}
use Rattle.std.specs.Prelude.{reverse}
use Rattle.std.proofs.lemmas.List.{append_assoc, get_or-reverse, length-reverse, take_more}

-- one element more
pub one_more : {A : Type 0} (old out new line : List A) (k : ℕ) (x : A) → k < length line → x ≡ get_or line (length line - 1 - k) x → new ≡ out ++ x ∷ [] → out ≡ old ++ take k (reverse line) →
    new ≡ old ++ take (k + 1) (reverse line)
one_more {A = A} old out new line k x h e n f =
    n
    ∙ ap (λ (l : List A). l ++ x ∷ []) f
    ∙ append_assoc old (take k (reverse line)) (x ∷ [])
    ∙ ap (λ (l : List A). old ++ l)
    (ap (λ (y : A). take k (reverse line) ++ y ∷ []) (e ∙ sym (get_or-reverse line k x h)) ∙ sym (take_more (reverse line) k x (omega (arith, length-reverse line))))
