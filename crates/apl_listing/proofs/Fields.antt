-- Words with blanks behind them.
use Rattle.std.proofs.Common.{◌≡◌, ℕ, List, [], ◌∷◌, ◌++◌, refl, sym, ap, ◌∙◌, append_assoc}
use Rattle.apl_listing.specs.Listing.{fields}

pub fields_then : (ws : List (List ℕ)) (rest : List ℕ) → fields ws rest ≡ fields ws [] ++ rest
fields_then [] rest = refl
fields_then (w ∷ ws) rest = ap (λ t. w ++ 32 ∷ t) (fields_then ws rest) ∙ sym (append_assoc w (32 ∷ fields ws []) rest)

pub fields_both : (ws vs : List (List ℕ)) (rest : List ℕ) → fields (ws ++ vs) rest ≡ fields ws (fields vs rest)
fields_both [] vs rest = refl
fields_both (w ∷ ws) vs rest = ap (λ t. w ++ 32 ∷ t) (fields_both ws vs rest)

-- words in the order in which they are written
pub body_written : (out number : List ℕ) (ws vs : List (List ℕ)) (place : List ℕ) → (((((out ++ number) ++ 32 ∷ []) ++ fields ws []) ++ fields vs []) ++ 64 ∷ []) ++ place ≡ out ++ (number ++ 32 ∷ fields (ws ++ vs) (64 ∷ place))
body_written out number ws vs place =
    let e : fields (ws ++ vs) (64 ∷ place) ≡ fields ws [] ++ (fields vs [] ++ (64 ∷ place)) = fields_both ws vs (64 ∷ place) ∙ fields_then ws (fields vs (64 ∷ place)) ∙ ap (λ t. fields ws [] ++ t) (fields_then vs (64 ∷ place)) in
    simp append_assoc (ap (λ t. out ++ (number ++ (32 ∷ t))) (sym e))
