-- Items taken round.
use Rattle.std.proofs.Common.{pos, ◌≡◌, ℕ, ◌+◌, ◌*◌, ◌/◌, ◌%◌, ◌<◌, ◌≤◌, List, [], ◌∷◌, ◌++◌, map, length, replicate, take, get_or, refl, ap, sym, ◌∙◌, arith, append_assoc, Ok}
use Rattle.std.specs.List.{range_with_len}
use Rattle.std.proofs.lemmas.List.{get_or-take, length-map, length-take-le}
use Rattle.std.proofs.lemmas.List.FromFn.{fill_by_all, length-map-range_with_len}
use Rattle.std.proofs.lemmas.Nat.{mod-mul-add, mod_below}
use Rattle.std.proofs.Math.Nat.{mod-add-div'}
use Rattle.std.proofs.Math.Seq.{take-length}
use Rattle.apl_arrays.specs.declared.cell.Cell.TheVariants.{Num, Char}
use Rattle.apl_arrays.specs.Index.{size_of}
use Rattle.apl_arrays.specs.Cells.{Arr, Items, Numbers, Characters, cells_of}
use Rattle.apl_arrays.specs.Results.{ok_map}
use Rattle.apl_arrays.specs.Structural.{made_of}
use Rattle.apl_reshape.specs.Reshape.{item_round, named_shape, reshaped, taken_round}
use Rattle.apl_reshape.proofs.Ranges.{map_parts, map_one}

-- some of the items after whole rounds
part_round : {A : Type 0} (xs : List A) (d : A) (k n : ℕ) → n ≤ length xs → map (λ r. item_round xs d (k * length xs + r)) (range_with_len 0 n) ≡ take n xs
part_round xs d k n h =
    sym (fill_by_all (λ r. item_round xs d (k * length xs + r)) (take n xs) n d (length-take-le n xs h)
    (λ j l. get_or-take n xs j d l ∙ ap (λ p. get_or xs p d) (sym (mod-mul-add k (length xs) j (below j n (length xs) l h)))))
  where
    below : (j n m : ℕ) → j < n → n ≤ m → j < m
    below j n m l h = omega arith

-- one round more
pub round_step : {A : Type 0} (xs : List A) (d : A) (out : List A) (k : ℕ) →
    (out ++ map (item_round xs d) (range_with_len 0 (k * length xs))) ++ xs ≡ out ++ map (item_round xs d) (range_with_len 0 ((k + 1) * length xs))
round_step {A = A} xs d out k =
    append_assoc out (map (item_round xs d) (range_with_len 0 (k * length xs))) xs
    ∙ ap (λ (l : List A). out ++ (map (item_round xs d) (range_with_len 0 (k * length xs)) ++ l)) (sym (take-length xs) ∙ sym (part_round xs d k (length xs) (same (length xs))))
    ∙ ap (λ (l : List A). out ++ l) (map_parts (item_round xs d) (k * length xs) (length xs) ((k + 1) * length xs) (more k (length xs)))
  where
    same : (n : ℕ) → n ≤ n
    same n = omega arith

    more : (k n : ℕ) → k * n + n ≡ (k + 1) * n
    more k n = omega arith

-- the items of a last round that isn't whole
pub round_end : {A : Type 0} (xs : List A) (d : A) (out : List A) (n : ℕ) → 0 < length xs →
    (out ++ map (item_round xs d) (range_with_len 0 (n / length xs * length xs))) ++ take (n % length xs) xs ≡ out ++ map (item_round xs d) (range_with_len 0 n)
round_end {A = A} xs d out n h =
    append_assoc out (map (item_round xs d) (range_with_len 0 (n / length xs * length xs))) (take (n % length xs) xs)
    ∙ ap (λ (l : List A). out ++ (map (item_round xs d) (range_with_len 0 (n / length xs * length xs)) ++ l)) (sym (part_round xs d (n / length xs) (n % length xs) (less (n % length xs) (length xs) (mod_below n (length xs) h))))
    ∙ ap (λ (l : List A). out ++ l) (map_parts (item_round xs d) (n / length xs * length xs) (n % length xs) n (turn (n / length xs * length xs) (n % length xs) n (mod-add-div' n (length xs))))
  where
    less : (a b : ℕ) → a < b → a ≤ b
    less a b h = omega arith

    turn : (a b n : ℕ) → b + a ≡ n → a + b ≡ n
    turn a b n e = omega arith

-- where there is none, and where there is one
pub round_none : {A : Type 0} (d : A) (n : ℕ) → replicate n d ≡ map (item_round [] d) (range_with_len 0 n)
round_none d n = sym (map_one (item_round [] d) d (λ k. refl) 0 n)

pub round_one : {A : Type 0} (x d : A) (n : ℕ) → replicate n x ≡ map (item_round (x ∷ []) d) (range_with_len 0 n)
round_one x d n = sym (map_one (item_round (x ∷ []) d) x (λ k. ap (λ p. get_or (x ∷ []) p d) (first k)) 0 n)
  where
    first : (k : ℕ) → k % 1 ≡ 0
    first k = omega (arith, mod_below k 1 (omega arith))

-- the whole rounds so far, and then a last part
pub round_last : {A : Type 0} (xs part : List A) (d : A) (start out new : List A) (k n : ℕ) → 0 < length xs → k ≡ n / length xs → out ≡ start ++ map (item_round xs d) (range_with_len 0 (k * length xs)) →
    part ≡ take (n % length xs) xs → new ≡ out ++ part → new ≡ start ++ map (item_round xs d) (range_with_len 0 n)
round_last {A = A} xs part d start out new k n h e f g i =
    i
    ∙ ap (λ (l : List A). l ++ part) f
    ∙ ap (λ (l : List A). (start ++ map (item_round xs d) (range_with_len 0 (k * length xs))) ++ l) g
    ∙ ap (λ (j : ℕ). (start ++ map (item_round xs d) (range_with_len 0 (j * length xs))) ++ take (n % length xs) xs) e
    ∙ round_end xs d start n h

-- a vector without items, and one with one
pub filled_round : {A : Type 0} (xs old new : List A) (d : A) (n : ℕ) → length xs < 1 → old ≡ [] → new ≡ old ++ replicate n d → new ≡ map (item_round xs d) (range_with_len 0 n)
filled_round {A = A} [] old new d n h e f = f ∙ ap (λ (l : List A). l ++ replicate n d) e ∙ round_none d n
filled_round (x ∷ xs) old new d n h e f = absurd (omega arith)

pub single_round : {A : Type 0} (xs old new : List A) (x d : A) (n : ℕ) → 1 ≤ length xs → length xs < 2 → x ≡ get_or xs 0 x → old ≡ [] → new ≡ old ++ replicate n x → new ≡ map (item_round xs d) (range_with_len 0 n)
single_round [] old new x d n l h g e f = absurd (omega arith)
single_round {A = A} (y ∷ []) old new x d n l h g e f =
    f ∙ ap (λ (l : List A). l ++ replicate n x) e ∙ ap (λ (z : A). replicate n z) g ∙ round_one y d n
single_round (y ∷ z ∷ xs) old new x d n l h g e f = absurd (omega arith)

-- items taken round are elements taken round
pub made_round : (n : ℕ) (items : Items) → made_of (λ A d fill xs. map (item_round xs fill) (range_with_len 0 n)) items ≡ taken_round n items
made_round n (Numbers zs) = refl
made_round n (Characters cs) = refl

-- what is reshaped, part by part
pub reshaped_as : (a b r : Arr) (s t u : List ℕ) (made items : Items) (n : ℕ) → named_shape a ≡ Ok s → t ≡ s → u ≡ s → items ≡ b.items → made ≡ taken_round n items → n ≡ size_of t →
    r ≡ record { shape = u; items = made } → reshaped a b ≡ Ok r
reshaped_as a b r s t u made items n e f g h m k l =
    ap (ok_map (λ s. record { shape = s; items = taken_round (size_of s) b.items })) e
    ∙ ap (λ (x : Arr). Ok x)
    (sym
    (l ∙ ap (λ (v : List ℕ). record { shape = v; items = made }) g
    ∙ ap (λ (i : Items). record { shape = s; items = i }) (m ∙ ap (λ (j : ℕ). taken_round j items) (k ∙ ap size_of f) ∙ ap (taken_round (size_of s)) h)))

-- as many elements as are taken round
pub length-round : (n : ℕ) (items : Items) → length (cells_of (taken_round n items)) ≡ n
length-round n (Numbers zs) = length-map (map (item_round zs (pos 0)) (range_with_len 0 n)) Num ∙ length-map-range_with_len (item_round zs (pos 0)) 0 n
length-round n (Characters cs) = length-map (map (item_round cs 32) (range_with_len 0 n)) Char ∙ length-map-range_with_len (item_round cs 32) 0 n

pub full_round : (n : ℕ) (made items : Items) (s t u : List ℕ) → made ≡ taken_round n items → n ≡ size_of s → s ≡ t → u ≡ t → length (cells_of made) ≡ size_of u
full_round n made items s t u e f g h = ap (λ (m : Items). length (cells_of m)) e ∙ length-round n items ∙ f ∙ ap size_of g ∙ ap size_of (sym h)
