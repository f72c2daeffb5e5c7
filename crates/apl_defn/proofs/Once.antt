-- The test that no text stands twice.
use Rattle.std.proofs.Common.{◌≡◌, Bool, true, false, not, ◌&&◌, ◌||◌, List, [], ◌∷◌, refl, ap, ◌∙◌, sym}
use Rattle.std.specs.Bool.{Decides}
use Rattle.std.specs.List.{list_any, AllByRecursion, IsDistinct}
use Rattle.std.specs.Str.{bytes_eq}
use Rattle.std.proofs.lemmas.Slice.Eq.{bytes_eq-Decides}
use Rattle.std.proofs.lemmas.Map.Made.{AllPairs-from_IsDistinct, IsDistinct-from_AllPairs}
use Rattle.apl_defn.specs.Definitions.{Text}
use Rattle.apl_defn.specs.Headers.{EachOnce}
use Rattle.apl_defn.specs.Reading.{are_distinct}

-- the test of the first of two, by the second
abbrev same : Text → Text → Bool
same a b = bytes_eq b a

same_decides : (a b : Text) → Decides (same a b) (a ≡ b)
same_decides a b = (λ e. sym ((bytes_eq-Decides b a).0 e), λ e. (bytes_eq-Decides b a).1 (sym e))

none_found : (b : Bool) (word w : Text) (ws : List Text) → same word w ≡ b → (b || list_any (λ other. bytes_eq other word) ws) ≡ false → (same word w ≡ false) × (list_any (λ other. bytes_eq other word) ws ≡ false)
none_found true word w ws e h = cc
none_found false word w ws e h = (e, h)

none_same : (word : Text) (ws : List Text) → list_any (λ other. bytes_eq other word) ws ≡ false → AllByRecursion (λ y. same word y ≡ false) ws
none_same word [] h = tt
none_same word (w ∷ ws) h = let p = none_found (same word w) word w ws refl h in (p.0, none_same word ws p.1)

same_none : (word : Text) (ws : List Text) → AllByRecursion (λ y. same word y ≡ false) ws → list_any (λ other. bytes_eq other word) ws ≡ false
same_none word [] h = refl
same_none word (w ∷ ws) h = ap (λ b. b || list_any (λ other. bytes_eq other word) ws) h.0 ∙ same_none word ws h.1

none_twice : (b c : Bool) → (not b && c) ≡ true → (b ≡ false) × (c ≡ true)
none_twice true c h = cc
none_twice false c h = (refl, h)

distinct : (ws : List Text) → are_distinct ws ≡ true → IsDistinct same ws
unfolding IsDistinct
distinct [] h = tt
distinct (w ∷ ws) h = let p = none_twice (list_any (λ other. bytes_eq other w) ws) (are_distinct ws) h in (none_same w ws p.0, distinct ws p.1)

distinct_back : (ws : List Text) → IsDistinct same ws → are_distinct ws ≡ true
unfolding IsDistinct
distinct_back [] h = refl
distinct_back (w ∷ ws) h = ap (λ b. not b && are_distinct ws) (same_none w ws h.0) ∙ distinct_back ws h.1

pub each_once : (ws : List Text) → are_distinct ws ≡ true → EachOnce ws
each_once ws h = AllPairs-from_IsDistinct same_decides ws (distinct ws h)

pub once_each : (ws : List Text) → EachOnce ws → are_distinct ws ≡ true
once_each ws h = distinct_back ws (IsDistinct-from_AllPairs same_decides ws h)
