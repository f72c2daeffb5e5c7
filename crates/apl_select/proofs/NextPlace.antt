-- Items that are written where the next one stands.
use Rattle.std.proofs.Common.{zero, suc, ◌≡◌, ℕ, ℤ, pos, ◌+◌, ◌*◌, ◌<◌, ◌≤◌, Bool, true, false, cond, List, [], ◌∷◌, ◌++◌, map, set, take, length, get_or, refl, ap, sym, ◌∙◌, arith, add-one, append-nil, Option, None, Some, Ok}
use Rattle.std.specs.Prelude.{count_by, max, ◌==◌}
use Rattle.std.specs.Option.{option_map}
use Rattle.std.specs.List.{filter, range_with_len}
use Rattle.std.proofs.lemmas.Bool.{le-leb, eqb-true}
use Rattle.std.proofs.lemmas.List.{get_or_read, map-append, length-map}
use Rattle.std.proofs.lemmas.List.FromFn.{length-range_with_len}
use Rattle.std.proofs.lemmas.List.Sums.{length-filter}
use Rattle.apl_faults.specs.declared.fault.Fault.TheVariants.{Limit}
use Rattle.apl_arrays.specs.Cells.{Arr, Items, Numbers, Characters, cells_of}
use Rattle.apl_arrays.specs.Checks.{demand}
use Rattle.apl_arrays.specs.Index.{indices}
use Rattle.apl_arrays.specs.Results.{ok_map}
use Rattle.apl_arrays.specs.Simple.{vector}
use Rattle.apl_arrays.specs.Structural.{made_of}
use Rattle.apl_arrays.specs.Views.{on_axis}
use Rattle.apl_arrays.proofs.Order.{length-indices}
use Rattle.apl_select.specs.Compress.{is_one, kept}
use Rattle.apl_select.specs.inside.Laying.{plane_of}
use Rattle.apl_select.specs.inside.Masks.{kept_all}
use Rattle.apl_select.specs.Lined.{item_or, laid, laid_within, place_served}
use Rattle.apl_select.proofs.Choosing.{kept_more}
use Rattle.apl_select.proofs.Laying.{layout_laid, length-filled, plane_single, source_of}
use Rattle.apl_select.proofs.Lists.{map_equal}

-- an item written behind others, and the same without it
take_set : {A : Type 0} (xs : List A) (k : ℕ) (x : A) → k < length xs → take (suc k) (set xs k x) ≡ take k xs ++ x ∷ []
take_set [] k x l = absurd (omega arith)
take_set (y ∷ ys) zero x l = refl
take_set {A = A} (y ∷ ys) (suc k) x l = ap (λ (zs : List A). y ∷ zs) (take_set ys k x (omega arith))

take_before : {A : Type 0} (xs : List A) (k : ℕ) (x : A) → take k (set xs k x) ≡ take k xs
take_before [] k x = refl
take_before (y ∷ ys) zero x = refl
take_before {A = A} (y ∷ ys) (suc k) x = ap (λ (zs : List A). y ∷ zs) (take_before ys k x)

-- so many are ones of the first ones
ones_more : (bits : List ℤ) (k : ℕ) → k < length bits → length (filter is_one (take (suc k) bits)) ≡ length (filter is_one (take k bits)) + cond (is_one (get_or bits k (pos 0))) 1 0
ones_more [] k l = absurd (omega arith)
ones_more (x ∷ xs) zero l = first (is_one x)
  where
    first : (b : Bool) → length (cond b (x ∷ []) []) ≡ 0 + cond b 1 0
    first true = refl
    first false = refl
ones_more (x ∷ xs) (suc k) l = each (is_one x) (filter is_one (take (suc k) xs)) (filter is_one (take k xs)) (cond (is_one (get_or xs k (pos 0))) 1 0) (ones_more xs k (omega arith))
  where
    each : (b : Bool) (ys zs : List ℤ) (n : ℕ) → length ys ≡ length zs + n → length (cond b (x ∷ ys) ys) ≡ length (cond b (x ∷ zs) zs) + n
    each true ys zs n h = omega arith
    each false ys zs n h = h

ones_within : (bits : List ℤ) (k : ℕ) → length (filter is_one (take k bits)) ≤ length (filter is_one bits)
ones_within bits zero = omega arith
ones_within [] (suc k) = omega arith
ones_within (x ∷ xs) (suc k) = each (is_one x) (filter is_one (take k xs)) (filter is_one xs) (ones_within xs k)
  where
    each : (b : Bool) (ys zs : List ℤ) → length ys ≤ length zs → length (cond b (x ∷ ys) ys) ≤ length (cond b (x ∷ zs) zs)
    each true ys zs h = omega arith
    each false ys zs h = h

count_more : (bits : List ℤ) (k : ℕ) → k < length bits → count_by is_one (take (suc k) bits) ≡ count_by is_one (take k bits) + cond (is_one (get_or bits k (pos 0))) 1 0
count_more bits k l = omega (arith, ones_more bits k l, length-filter is_one (take (suc k) bits), length-filter is_one (take k bits))

pub count_within : (bits : List ℤ) (k : ℕ) → count_by is_one (take k bits) ≤ count_by is_one bits
count_within bits k = omega (arith, ones_within bits k, length-filter is_one (take k bits), length-filter is_one bits)

-- one step
pub kept_step : {A : Type 0} (fill : A) (raw out : List A) (bits : List ℤ) (k next step : ℕ) (v : A) → k < length bits → length bits ≡ length raw → next < length out → v ≡ get_or raw k v →
    step ≡ cond (is_one (get_or bits k (pos 0))) 1 0 → take next out ≡ map (item_or fill raw) (kept bits (length bits) k) →
    take (next + step) (set out next v) ≡ map (item_or fill raw) (kept bits (length bits) (k + 1))
kept_step {A = A} fill raw out bits k next step v l e room r s h = by (is_one (get_or bits k (pos 0))) refl s
  where
    -- which of the bits and items serves
    here : (n k : ℕ) → k < n → place_served n k ≡ k
    here n k l = each (n == 1) (λ t. eqb-true n 1 t)
      where
        each : (b : Bool) → (b ≡ true → n ≡ 1) → cond b 0 k ≡ k
        each true f = omega (arith, f refl)
        each false f = refl

    bit : (t : Bool) → is_one (get_or bits k (pos 0)) ≡ t → is_one (get_or bits (place_served (length bits) k) (pos 0)) ≡ t
    bit t f = ap (λ (j : ℕ). is_one (get_or bits j (pos 0))) (here (length bits) k l) ∙ f

    by : (t : Bool) → is_one (get_or bits k (pos 0)) ≡ t → step ≡ cond t 1 0 → take (next + step) (set out next v) ≡ map (item_or fill raw) (kept bits (length bits) (k + 1))
    by true f g =
        ap (λ (n : ℕ). take (next + n) (set out next v)) g
        ∙ ap (λ (n : ℕ). take n (set out next v)) (add-one next)
        ∙ take_set out next v room
        ∙ ap (λ (zs : List A). zs ++ v ∷ []) h
        ∙ ap (λ (x : A). map (item_or fill raw) (kept bits (length bits) k) ++ x ∷ []) (get_or_read raw k v (omega arith) r fill ∙ ap (λ (j : ℕ). get_or raw j fill) (sym (here (length bits) k l)))
        ∙ sym (map-append (item_or fill raw) (kept bits (length bits) k) (Some (place_served (length bits) k) ∷ []))
        ∙ ap (map (item_or fill raw)) (sym (kept_more bits (length bits) k true (bit true f)))
    by false f g =
        ap (λ (n : ℕ). take (next + n) (set out next v)) g
        ∙ ap (λ (n : ℕ). take n (set out next v)) (none next)
        ∙ take_before out next v
        ∙ h
        ∙ ap (map (item_or fill raw)) (sym (append-nil (kept bits (length bits) k)))
        ∙ ap (map (item_or fill raw)) (sym (kept_more bits (length bits) k false (bit false f)))
      where
        none : (n : ℕ) → n + 0 ≡ n
        none n = omega arith

pub next_step : (bits : List ℤ) (k next step : ℕ) → k < length bits → step ≡ cond (is_one (get_or bits k (pos 0))) 1 0 → next ≡ count_by is_one (take k bits) → next + step ≡ count_by is_one (take (k + 1) bits)
next_step bits k next step l e h =
    ap (λ (n : ℕ). n + step) h ∙ ap (λ (n : ℕ). count_by is_one (take k bits) + n) e ∙ sym (count_more bits k l) ∙ ap (λ (n : ℕ). count_by is_one (take n bits)) (sym (add-one k))

-- items at places of a vector, as they are laid
pub vector_laid : {A : Type 0} (fill : A) (xs : List A) (n : ℕ) (places : List (Option ℕ)) →
    map (item_or fill xs) places ≡ map (λ i. item_or fill xs (source_of (n ∷ []) 0 places i)) (indices (on_axis 0 (λ m. length places) (n ∷ [])))
vector_laid {A = A} fill xs n places =
    map_equal (item_or fill xs) (λ o. item_or fill xs (option_map (λ k. 0 * n + k) o)) (λ o. ap (item_or fill xs) (sym (none o))) places
    ∙ sym (plane_single (item_or fill xs) (0 * n) places)
    ∙ sym (append-nil (plane_of (item_or fill xs) (0 * n) 1 places))
    ∙ layout_laid fill xs (n ∷ []) 0 1 n 1 places (omega arith) refl refl refl
  where
    turn : (k : ℕ) → 0 * n + k ≡ k
    turn k = omega arith

    none : (o : Option ℕ) → option_map (λ k. 0 * n + k) o ≡ o
    none None = refl
    none (Some k) = ap (λ (j : ℕ). Some j) (turn k)

-- the elements at ones are those that are laid
pub kept_laid : (bits : List ℤ) (items : Items) → made_of (λ A d fill xs. map (item_or fill xs) (kept_all bits)) items ≡ (laid 0 (kept_all bits) (record { shape = length bits ∷ []; items = items })).items
kept_laid bits (Numbers zs) = ap (λ (l : List ℤ). Numbers l) (vector_laid (pos 0) zs (length bits) (kept_all bits))
kept_laid bits (Characters cs) = ap (λ (l : List ℕ). Characters l) (vector_laid 32 cs (length bits) (kept_all bits))

-- no more than the bits are kept
fewer_pass : (p : ℕ → Bool) (xs : List ℕ) → length (filter p xs) ≤ length xs
fewer_pass p [] = omega arith
fewer_pass p (x ∷ xs) = each (p x) (filter p xs) (fewer_pass p xs)
  where
    each : (b : Bool) (ys : List ℕ) → length ys ≤ length xs → length (cond b (x ∷ ys) ys) ≤ length (x ∷ xs)
    each true ys h = omega arith
    each false ys h = omega arith

pub length-kept : (bits : List ℤ) (n : ℕ) → length (kept bits n n) ≤ n
length-kept bits n =
    omega (
      arith,
      length-map (filter (λ k. is_one (get_or bits (place_served (length bits) k) (pos 0))) (range_with_len 0 n)) (λ k. Some (place_served n k)),
      fewer_pass (λ k. is_one (get_or bits (place_served (length bits) k) (pos 0))) (range_with_len 0 n),
      length-range_with_len 0 n,
    )

-- as many elements as places
pub length-laid : (items : Items) (n : ℕ) (places : List (Option ℕ)) → length (cells_of (laid 0 places (record { shape = n ∷ []; items = items })).items) ≡ length places
length-laid items n places =
    length-filled items (source_of (n ∷ []) 0 places) (indices (length places ∷ [])) ∙ length-indices (length places ∷ []) ∙ one (length places)
  where
    one : (m : ℕ) → m * 1 ≡ m
    one m = omega arith

-- the vector of what is laid is within the limits
pub vector_within : (items : Items) (n : ℕ) (places : List (Option ℕ)) (found : Items) (array : Arr) → length places ≤ n → n ≤ 1000000 → found ≡ (laid 0 places (record { shape = n ∷ []; items = items })).items → array ≡ vector found →
    laid_within 0 places (record { shape = n ∷ []; items = items }) ≡ Ok array
vector_within items n places found array l m f a =
    ap (λ (b : Bool). ok_map (λ shape. laid 0 places (record { shape = n ∷ []; items = items })) (ok_map (λ u. length places ∷ []) (demand b Limit)))
    (le-leb (max (length places) 1 * 1) 1000000 (omega arith))
    ∙ ap (λ (x : Arr). Ok x) (sym (a ∙ ap vector f ∙ ap (λ (k : ℕ). record { shape = k ∷ []; items = (laid 0 places (record { shape = n ∷ []; items = items })).items }) (length-laid items n places)))
