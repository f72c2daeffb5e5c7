-- Lists that stand in a relation pair by pair, one pair more.
use Rattle.std.proofs.Common.{◌≡◌, ℕ, ◌+◌, ◌<◌, List, [], ◌∷◌, ◌++◌, length, take, get_or, sym, subst, ap, ◌∙◌}
use Rattle.std.proofs.lemmas.List.{take_more}
use Rattle.apl_saved.specs.Spelled.{Pairwise}

pub pairs_push : {A B : Type 0} (R : A → B → Type 0) (xs : List A) (ys : List B) (x : A) (y : B) → Pairwise R xs ys → R x y → Pairwise R (xs ++ x ∷ []) (ys ++ y ∷ [])
pairs_push R [] [] x y h r = (r, tt)
pairs_push R [] (b ∷ ys) x y h r = absurd h
pairs_push R (a ∷ xs) [] x y h r = absurd h
pairs_push R (a ∷ xs) (b ∷ ys) x y h r = (h.0, pairs_push R xs ys x y h.1 r)

pub pairs_more : {A B : Type 0} (R : A → B → Type 0) (fields new : List A) (items : List B) (i : ℕ) (x : A) (y : B) → Pairwise R fields (take i items) → new ≡ fields ++ x ∷ [] → R x y → i < length items → y ≡ get_or items i y → Pairwise R new (take (i + 1) items)
pairs_more R fields new items i x y h pushed r lt at =
    let more : take (i + 1) items ≡ take i items ++ y ∷ [] = take_more items i y lt ∙ ap (λ z. take i items ++ z ∷ []) (sym at) in
    subst (λ zs. Pairwise R zs (take (i + 1) items)) (sym pushed) (subst (λ zs. Pairwise R (fields ++ x ∷ []) zs) (sym more) (pairs_push R fields (take i items) x y h r))
