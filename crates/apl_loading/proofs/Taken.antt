-- Lists whose fields are taken from the left.
use Rattle.std.proofs.Common.{◌≡◌, inl, inr, ℕ, ◌+◌, ◌<◌, List, [], ◌∷◌, ◌++◌, length, drop, get_or, sym, subst, append_assoc}
use Rattle.apl_loading.specs.Refusals.{AreTaken, IsRefusedIn}
use Rattle.apl_loading.specs.declared.error.LoadFault.{LoadFault}
use Rattle.apl_loading.proofs.Lists.{next_at, append_nil}

-- The first fields are taken as these parts, and what holds of the rest then holds of the whole.
pub record HasTaken {S F P : Type 0} (Takes : S → List F → F → P → Type 0) (Refuses : S → List F → F → LoadFault → Type 0) (next : S → P → S) (s : S) (fs : List F) (now : S) (rest : List F) (ps : List P) : Type 0 where
  pub found : (qs : List P) → AreTaken Takes next now rest qs → AreTaken Takes next s fs (ps ++ qs)
  pub only : (e : LoadFault) → IsRefusedIn Takes Refuses next now rest e → IsRefusedIn Takes Refuses next s fs e

pub none_taken : {S F P : Type 0} (Takes : S → List F → F → P → Type 0) (Refuses : S → List F → F → LoadFault → Type 0) (next : S → P → S) (s : S) (fs : List F) → HasTaken Takes Refuses next s fs s fs []
none_taken Takes Refuses next s fs = record { found = λ qs h. h; only = λ e h. h }

pub more_taken : {S F P : Type 0} (Takes : S → List F → F → P → Type 0) (Refuses : S → List F → F → LoadFault → Type 0) (next : S → P → S) (s : S) (fs : List F) (now : S) (i : ℕ) (ps : List P) (f : F) (p : P)
    → HasTaken Takes Refuses next s fs now (drop i fs) ps → i < length fs → f ≡ get_or fs i f → Takes now (drop (i + 1) fs) f p → HasTaken Takes Refuses next s fs (next now p) (drop (i + 1) fs) (ps ++ p ∷ [])
more_taken {S} {F} {P} Takes Refuses next s fs now i ps f p h lt e t =
    let g = subst (λ rest. HasTaken Takes Refuses next s fs now rest ps) (next_at fs i f lt e) h in
    record {
      found = λ qs k. subst (AreTaken Takes next s fs) (sym (append_assoc ps (p ∷ []) qs)) (g.found (p ∷ qs) (t, k));
      only = λ x k. g.only x (inr (p, t, k));
    }

pub all_taken : {S F P : Type 0} (Takes : S → List F → F → P → Type 0) (Refuses : S → List F → F → LoadFault → Type 0) (next : S → P → S) (s : S) (fs : List F) (now : S) (rest : List F) (ps : List P)
    → HasTaken Takes Refuses next s fs now rest ps → rest ≡ [] → AreTaken Takes next s fs ps
all_taken Takes Refuses next s fs now rest ps h e = subst (AreTaken Takes next s fs) (append_nil ps) (h.found [] (subst (λ rs. AreTaken Takes next now rs []) (sym e) tt))

pub not_taken : {S F P : Type 0} (Takes : S → List F → F → P → Type 0) (Refuses : S → List F → F → LoadFault → Type 0) (next : S → P → S) (s : S) (fs : List F) (now : S) (i : ℕ) (ps : List P) (f : F) (x : LoadFault)
    → HasTaken Takes Refuses next s fs now (drop i fs) ps → i < length fs → f ≡ get_or fs i f → Refuses now (drop (i + 1) fs) f x → IsRefusedIn Takes Refuses next s fs x
not_taken Takes Refuses next s fs now i ps f x h lt e r = (subst (λ rest. HasTaken Takes Refuses next s fs now rest ps) (next_at fs i f lt e) h).only x (inl r)
