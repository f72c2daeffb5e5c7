-- Names that are made the newest scope's one after another, the last first.
use Rattle.std.proofs.Common.{◌≡◌, zero, suc, List, [], ◌∷◌, ◌++◌, drop, length, map, All, ap, subst, ◌∙◌, arith}
use Rattle.std.proofs.lemmas.List.{map_push}
use Rattle.apl_names.specs.declared.binding.Binding.{Binding}
use Rattle.apl_names.specs.Maps.{AreBeneath, Map, Text, with_local, with_locals}
use Rattle.apl_names.proofs.Binds.{local_beneath, with_locals-append}

-- the last is made first
pub locals_pushed : {A : Type 0} (f : A → Text × Binding) (all prefix : List A) (last : A) (ms : List Map) → all ≡ prefix ++ last ∷ [] → with_locals (map f all) ms ≡ with_locals (map f prefix) (with_local (f last).0 (f last).1 ms)
locals_pushed f all prefix last ms e =
    ap (λ l. with_locals (map f l) ms) e
    ∙ ap (λ l. with_locals l ms) (map_push f prefix last)
    ∙ with_locals-append (map f prefix) (f last ∷ []) ms

-- and the older maps stay
pub beneath_pushed : (old ms new : List Map) (n : Text) (b : Binding) → AreBeneath old ms → new ≡ with_local n b ms → AreBeneath old new
beneath_pushed old ms new n b h e =
    let here = local_beneath n b ms in
    (ap length e ∙ here.0 ∙ h.0, ap (drop 1) e ∙ here.1 ∙ h.1)

-- what holds of all holds of the last and of those before it
pub all_split : {A : Type 0} (P : A → Type 0) (all prefix : List A) (last : A) → all ≡ prefix ++ last ∷ [] → All P all → All P prefix × P last
all_split {A = A} P all prefix last e h = parts prefix (subst (All P) e h)
  where
    kept : (x : A) (xs : List A) → P x → All P xs → All P (x ∷ xs)
    kept x xs p g zero d lt = p
    kept x xs p g (suc k) d lt = g k d (omega arith)

    parts : (prefix : List A) → All P (prefix ++ last ∷ []) → All P prefix × P last
    parts [] g = (λ k d lt. absurd (omega arith), g 0 last (omega arith))
    parts (x ∷ prefix) g =
        let rest = parts prefix (λ k d lt. g (suc k) d (omega arith)) in
        (kept x prefix (g 0 x (omega arith)) rest.0, rest.1)
