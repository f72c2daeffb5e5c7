-- What maps say when entries come or go.
use Rattle.std.proofs.Common.{◌≡◌, Bool, true, false, cond, List, [], ◌∷◌, ◌++◌, Option, Some, None, refl, sym, ap, subst, ◌∙◌, true≢false}
use Rattle.std.specs.Option.{option_or}
use Rattle.std.specs.Str.{bytes_eq}
use Rattle.apl_names.specs.declared.binding.Binding.{Binding}
use Rattle.apl_names.specs.Maps.{IsAbove, IsMap, Map, Text, map_of, said, without_entry}
use Rattle.apl_names.proofs.Texts.{same, flip}
use Rattle.apl_names.proofs.Maps.{lower, none_above, said_with, with_map}

-- what is listed first stands
pub said-listed : (es : List (Text × Binding)) (q : Text) → said (map_of es) q ≡ said es q
said-listed [] q = refl
said-listed (e ∷ es) q = said_with e.0 e.1 (map_of es) q ∙ ap (λ b. cond b (Some e.1) (said (map_of es) q)) (flip e.0 q) ∙ ap (λ o. cond (bytes_eq q e.0) (Some e.1) o) (said-listed es q)

pub listed-map : (es : List (Text × Binding)) → IsMap (map_of es)
listed-map [] = tt
listed-map (e ∷ es) = with_map e.0 e.1 (map_of es) (listed-map es)

said-case : (b : Bool) (x : Binding) (o p : Option Binding) → cond b (Some x) (option_or o p) ≡ option_or (cond b (Some x) o) p
said-case true x o p = refl
said-case false x o p = refl

pub said-append : (es fs : List (Text × Binding)) (q : Text) → said (es ++ fs) q ≡ option_or (said es q) (said fs q)
said-append [] fs q = refl
said-append (e ∷ es) fs q = ap (λ o. cond (bytes_eq q e.0) (Some e.1) o) (said-append es fs q) ∙ said-case (bytes_eq q e.0) e.1 (said es q) (said fs q)

-- ---- without an entry

without-above : (l n : Text) (m : Map) → IsAbove l m → IsAbove l (without_entry n m)
without-above l n [] h = tt
without-above l n (e ∷ es) h = by (bytes_eq n e.0) (without-above e.0 n es h.1)
  where
    by : (b : Bool) → IsAbove e.0 (without_entry n es) → IsAbove l (cond b es (e ∷ without_entry n es))
    by true later = lower l e.0 es h.0 h.1
    by false later = (h.0, later)

pub later-map : (n : Text) (m : Map) → IsAbove n m → IsMap m
later-map n [] h = tt
later-map n (e ∷ es) h = h.1

pub without-map : (n : Text) (m : Map) → IsMap m → IsMap (without_entry n m)
without-map n [] h = tt
without-map n (e ∷ es) h = by (bytes_eq n e.0)
  where
    by : (b : Bool) → IsMap (cond b es (e ∷ without_entry n es))
    by true = later-map e.0 es h
    by false = without-above e.0 n es h

nothing-by : (b : Bool) (o : Option Binding) → o ≡ None → o ≡ cond b None o
nothing-by true o e = e
nothing-by false o e = refl

pub said-without : (n : Text) (m : Map) (q : Text) → IsMap m → said (without_entry n m) q ≡ cond (bytes_eq n q) None (said m q)
said-without n [] q h = nothing-by (bytes_eq n q) None refl
said-without n (e ∷ es) q h = by (bytes_eq n e.0) (bytes_eq n q) (bytes_eq q e.0) refl refl refl (said-without n es q (later-map e.0 es h))
  where
    by : (b c d : Bool) → bytes_eq n e.0 ≡ b → bytes_eq n q ≡ c → bytes_eq q e.0 ≡ d → said (without_entry n es) q ≡ cond c None (said es q) → said (cond b es (e ∷ without_entry n es)) q ≡ cond c None (said (e ∷ es) q)
    by true true d x y z i = subst (λ (k : Text). said es k ≡ None) (sym (same n e.0 x) ∙ same n q y) (none_above e.0 es h)
    by true false true x y z i = absurd (true≢false (sym x ∙ ap (bytes_eq n) (sym (same q e.0 z)) ∙ y))
    by true false false x y z i = sym (ap (λ b. cond b (Some e.1) (said es q)) z)
    by false true true x y z i = absurd (true≢false (sym y ∙ ap (bytes_eq n) (same q e.0 z) ∙ x))
    by false true false x y z i = ap (λ b. cond b (Some e.1) (said (without_entry n es) q)) z ∙ i
    by false false d x y z i = ap (λ o. cond (bytes_eq q e.0) (Some e.1) o) i
