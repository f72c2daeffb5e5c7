-- Loops that make something of each item, and put it behind what they have or write it at its place.
use Rattle.std.proofs.Common.{◌≡◌, ◌+◌, ◌<◌, ◌≤◌, ◌++◌, ◌^◌, ◌∷◌, [], ℕ, ℤ, pos, to_z, w32, List, length, get_or, set, map, take, ap, sym, ◌∙◌, arith}
use Rattle.std.proofs.lemmas.Int.{ints}
use Rattle.std.proofs.lemmas.List.{map_more, take_all, take_more_set}
use Rattle.apl_arrays.proofs.Order.{map_map}

-- one more item is mapped
pub map_next : {X Y : Type 0} (f : X → Y) (xs : List X) (i : ℕ) (d : X) (y : Y) (made more : List Y) → i < length xs → made ≡ map f (take i xs) → more ≡ made ++ y ∷ [] → y ≡ f (get_or xs i d) → more ≡ map f (take (i + 1) xs)
map_next f xs i d y made more h e n s =
    n ∙ ap (λ l. l ++ y ∷ []) e ∙ ap (λ z. map f (take i xs) ++ z ∷ []) s ∙ sym (map_more f xs i d h)

-- all items are mapped
pub map_whole : {X Y : Type 0} (f : X → Y) (xs : List X) (i : ℕ) (made : List Y) → length xs ≤ i → made ≡ map f (take i xs) → made ≡ map f xs
map_whole f xs i made h e = e ∙ ap (map f) (take_all i xs h)

-- what one more item is mapped to is written at its place
pub write_next : {X Y : Type 0} (f : X → Y) (xs : List X) (i : ℕ) (d : X) (y : Y) (out : List Y) → i < length xs → length out ≡ length xs → take i out ≡ map f (take i xs) → y ≡ f (get_or xs i d)
    → take (i + 1) (set out i y) ≡ map f (take (i + 1) xs)
write_next f xs i d y out h l e s = map_next f xs i d y (take i out) (take (i + 1) (set out i y)) h e (take_more_set out i y (omega arith)) s

-- all are written
pub write_whole : {X Y : Type 0} (f : X → Y) (xs : List X) (i : ℕ) (out : List Y) → length xs ≤ i → length out ≡ length xs → take i out ≡ map f (take i xs) → out ≡ map f xs
write_whole f xs i out h l e = sym (take_all i out (omega arith)) ∙ map_whole f xs i (take i out) h e

-- numbers of one type are mapped
pub map_numbers : {X Y : Type 0} (value : X → ℤ) (numbers : List X → List ℤ) → ((xs : List X) → numbers xs ≡ map value xs)
    → (f : ℤ → Y) (xs : List X) (made : List Y) → made ≡ map (λ x. f (value x)) xs → made ≡ map f (numbers xs)
map_numbers value numbers each f xs made e = e ∙ sym (ap (map f) (each xs) ∙ map_map f value xs)

-- a number below 2 ^ 31 is itself among numbers with a sign
pub cast_small : (n : ℕ) → n < 2 ^ 31 → to_z w32 n ≡ pos n
cast_small n h = omega (arith, ints)
