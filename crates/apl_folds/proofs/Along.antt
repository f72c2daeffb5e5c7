-- Lines of a ravel are the items along an axis of what steps show.
use Rattle.std.proofs.Common.{◌≡◌, ℕ, ℤ, pos, ◌+◌, ◌*◌, ◌<◌, ◌≤◌, ◌^◌, true, List, map, length, get_or, take, Result, Ok, Err, Some, None, refl, ap, sym, ◌∙◌, arith, subst}
use Rattle.std.specs.List.{range_with_len}
use Rattle.std.proofs.Math.Nat.{mul-le-mul_left}
use Rattle.apl_faults.specs.declared.fault.Fault.{Fault}
use Rattle.apl_arrays.specs.declared.axis.Axis.{Axis}
use Rattle.apl_arrays.specs.declared.cell.Cell.{Cell}
use Rattle.apl_arrays.specs.declared.cell.Cell.TheVariants.{Num, Char}
use Rattle.apl_arrays.specs.Index.{indices, is_within, position_in}
use Rattle.apl_arrays.specs.Cells.{Arr, Items, Numbers, Characters}
use Rattle.apl_arrays.specs.Strides.{lengths, step_at, place_at, reach_of, AllPlaced}
use Rattle.apl_arrays.specs.Axes.{without, inserted}
use Rattle.apl_arrays.specs.Results.{all_ok, ok_map}
use Rattle.apl_arrays.proofs.AtPlace.{at_place}
use Rattle.apl_arrays.proofs.InOrder.{map_same}
use Rattle.apl_arrays.proofs.InTurn.{all_ok-same, range_below}
use Rattle.apl_arrays.proofs.Moves.{shown}
use Rattle.apl_arrays.proofs.Order.{all_within, map_map}
use Rattle.apl_arrays.proofs.Steps.{get_or-lengths, length-lengths, place_le_reach}
use Rattle.apl_scalar.specs.declared.function.Dyadic.{Dyadic}
use Rattle.apl_scalar.specs.Functions.{dyadic_of}
use Rattle.apl_scalar.specs.Extension.{compared}
use Rattle.apl_folds.specs.Folds.{identity, number_in, item_at, items_along, folded, folds_along}
use Rattle.apl_folds.specs.Scans.{items_up_to, prefixes_along}
use Rattle.apl_folds.specs.Lines.{fold_by, line_of, made, agree, IsLine}
use Rattle.apl_folds.proofs.Comparisons.{folded_characters}
use Rattle.apl_folds.proofs.Rights.{folded_numbers}
use Rattle.apl_folds.proofs.Rows.{length-line, take_range}
use Rattle.apl_folds.proofs.Taken.{lengths-without, place_at-inserted, within-inserted, within-without, index_within, reach-without}

-- the item that steps show at an index list
number_shown : (zs : List ℤ) (p : ℕ) (xs : List Axis) (i : List ℕ) → is_within (lengths xs) i ≡ true → item_at (shown (Numbers zs) p xs) i ≡ Num (get_or zs (place_at p xs i) (pos 0))
number_shown zs p xs i w =
    ap (λ (l : List Cell). get_or l (position_in (lengths xs) i) (Num (pos 0))) (map_map Num (λ i. get_or zs (place_at p xs i) (pos 0)) (indices (lengths xs)))
    ∙ at_place (λ i. Num (get_or zs (place_at p xs i) (pos 0))) (Num (pos 0)) (lengths xs) i w

character_shown : (cs : List ℕ) (p : ℕ) (xs : List Axis) (i : List ℕ) → is_within (lengths xs) i ≡ true → item_at (shown (Characters cs) p xs) i ≡ Char (get_or cs (place_at p xs i) 0)
character_shown cs p xs i w =
    ap (λ (l : List Cell). get_or l (position_in (lengths xs) i) (Num (pos 0))) (map_map Char (λ i. get_or cs (place_at p xs i) 0) (indices (lengths xs)))
    ∙ at_place (λ i. Char (get_or cs (place_at p xs i) 0)) (Num (pos 0)) (lengths xs) i w

-- the items along an axis are a line
along_by : {A : Type 0} (c : A → Cell) (none : A) (raw : List A) (a : Arr) (p : ℕ) (xs : List Axis) (d : Axis) (axis : ℕ) (r : List ℕ) → a.shape ≡ lengths xs →
    ((i : List ℕ) → is_within (lengths xs) i ≡ true → item_at a i ≡ c (get_or raw (place_at p xs i) none)) → axis < length xs → is_within (lengths (without axis xs)) r ≡ true →
    items_along axis a r ≡ map c (line_of none raw (get_or xs axis d) (place_at p (without axis xs) r) (get_or xs axis d).length)
along_by {A = A} c none raw a p xs d axis r s item h w =
    ap (λ (n : ℕ). map (λ k. item_at a (inserted axis k r)) (range_with_len 0 n)) (ap (λ (l : List ℕ). get_or l axis 0) s ∙ get_or-lengths xs axis d h)
    ∙ map_same (λ k. k < (get_or xs axis d).length) (λ k. item_at a (inserted axis k r)) (λ k. c (get_or raw (place_at p (without axis xs) r + step_at (get_or xs axis d) k) none))
    (λ k l. item (inserted axis k r) (within-inserted xs d axis k r h l w) ∙ ap (λ (q : ℕ). c (get_or raw q none)) (place_at-inserted xs d axis p k r h w))
    (range_with_len 0 (get_or xs axis d).length) (range_below 0 (get_or xs axis d).length (get_or xs axis d).length (omega arith))
    ∙ sym (map_map c (λ k. get_or raw (place_at p (without axis xs) r + step_at (get_or xs axis d) k) none) (range_with_len 0 (get_or xs axis d).length))

pub numbers_along : (zs : List ℤ) (p : ℕ) (xs : List Axis) (d : Axis) (axis : ℕ) (r : List ℕ) → axis < length xs → is_within (lengths (without axis xs)) r ≡ true →
    items_along axis (shown (Numbers zs) p xs) r ≡ map Num (line_of (pos 0) zs (get_or xs axis d) (place_at p (without axis xs) r) (get_or xs axis d).length)
numbers_along zs p xs d axis r h w = along_by Num (pos 0) zs (shown (Numbers zs) p xs) p xs d axis r refl (number_shown zs p xs) h w

pub characters_along : (cs : List ℕ) (p : ℕ) (xs : List Axis) (d : Axis) (axis : ℕ) (r : List ℕ) → axis < length xs → is_within (lengths (without axis xs)) r ≡ true →
    items_along axis (shown (Characters cs) p xs) r ≡ map Char (line_of 0 cs (get_or xs axis d) (place_at p (without axis xs) r) (get_or xs axis d).length)
characters_along cs p xs d axis r h w = along_by Char 0 cs (shown (Characters cs) p xs) p xs d axis r refl (character_shown cs p xs) h w

-- the fold of a line
pub folded_line : (f : Dyadic) (zs : List ℤ) (axis : Axis) (p count : ℕ) → 0 < count → folded f (map Num (line_of (pos 0) zs axis p count)) ≡ fold_by (dyadic_of f) (line_of (pos 0) zs axis p count)
folded_line f zs axis p count h = folded_numbers f (line_of (pos 0) zs axis p count) (omega (arith, length-line (pos 0) zs axis p count))

-- a line's part of the reach
near : (a : Axis) (p q r : ℕ) → p ≤ q → q + (a.up + a.down) * (a.length + 1) ≡ r → r < 2 ^ 62 → p + (a.up + a.down) * a.length < 2 ^ 63
near a p q r h e l = omega (arith, mul-le-mul_left (a.up + a.down) (less a.length))
  where
    less : (n : ℕ) → n ≤ n + 1
    less n = omega arith

-- what is made of each index list of the other axes
folds_by : (f : Dyadic) (a : Arr) (xs others : List Axis) (axis : ℕ) (g : List ℕ → Result ℤ Fault) → a.shape ≡ lengths xs → others ≡ without axis xs →
    ((r : List ℕ) → is_within (lengths (without axis xs)) r ≡ true → g r ≡ folded f (items_along axis a r)) → all_ok g (indices (lengths others)) ≡ folds_along f axis a
folds_by f a xs others axis g s eo h =
    ap (λ (ys : List Axis). all_ok g (indices (lengths ys))) eo
    ∙ all_ok-same (λ r. is_within (lengths (without axis xs)) r ≡ true) g (λ r. folded f (items_along axis a r)) h (indices (lengths (without axis xs))) (all_within (lengths (without axis xs)))
    ∙ ap (λ (t : List ℕ). all_ok (λ r. folded f (items_along axis a r)) (indices t)) (lengths-without xs axis ∙ ap (without axis) (sym s))

-- the folds along an axis are those of the lines
pub folds_of_lines : (f : Dyadic) (zs : List ℤ) (p : ℕ) (xs others : List Axis) (inner : Axis) (axis : ℕ) → axis < length xs → others ≡ without axis xs → inner ≡ get_or xs axis inner → 0 < inner.length →
    made (λ p count. fold_by (dyadic_of f) (line_of (pos 0) zs inner p count)) p inner.length None others ≡ folds_along f axis (shown (Numbers zs) p xs)
folds_of_lines f zs p xs others inner axis h eo ei some =
    folds_by f (shown (Numbers zs) p xs) xs others axis (λ r. fold_by (dyadic_of f) (line_of (pos 0) zs inner (place_at p others r) inner.length)) refl eo
    (λ r w. ap (λ (ys : List Axis). fold_by (dyadic_of f) (line_of (pos 0) zs inner (place_at p ys r) inner.length)) eo
    ∙ sym (folded_line f zs inner (place_at p (without axis xs) r) inner.length some)
    ∙ ap (λ (a : Axis). folded f (map Num (line_of (pos 0) zs a (place_at p (without axis xs) r) a.length))) ei
    ∙ ap (folded f) (sym (numbers_along zs p xs inner axis r h w)))

-- also of characters, where there are two or more along it
pub comparisons_of_lines : (f : Dyadic) (cs : List ℕ) (p : ℕ) (xs others : List Axis) (inner : Axis) (axis : ℕ) → axis < length xs → others ≡ without axis xs → inner ≡ get_or xs axis inner → 2 ≤ inner.length →
    made (λ p count. compared f (agree (line_of 0 cs inner p count))) p inner.length None others ≡ folds_along f axis (shown (Characters cs) p xs)
comparisons_of_lines f cs p xs others inner axis h eo ei two =
    folds_by f (shown (Characters cs) p xs) xs others axis (λ r. compared f (agree (line_of 0 cs inner (place_at p others r) inner.length))) refl eo
    (λ r w. ap (λ (ys : List Axis). compared f (agree (line_of 0 cs inner (place_at p ys r) inner.length))) eo
    ∙ sym (folded_characters f (line_of 0 cs inner (place_at p (without axis xs) r) inner.length) (omega (arith, length-line 0 cs inner (place_at p (without axis xs) r) inner.length)))
    ∙ ap (λ (a : Axis). folded f (map Char (line_of 0 cs a (place_at p (without axis xs) r) a.length))) ei
    ∙ ap (folded f) (sym (characters_along cs p xs inner axis r h w)))

-- along an axis of length 0
pub folds_of_none : (f : Dyadic) (items : Items) (p : ℕ) (xs others : List Axis) (inner : Axis) (axis : ℕ) → axis < length xs → others ≡ without axis xs → inner ≡ get_or xs axis inner → inner.length ≡ 0 →
    made (λ p count. identity f) p inner.length None others ≡ folds_along f axis (shown items p xs)
folds_of_none f items p xs others inner axis h eo ei none =
    folds_by f (shown items p xs) xs others axis (λ r. identity f) refl eo
    (λ r w. each (identity f) ∙ ap (λ (n : ℕ). folded f (map (λ k. item_at (shown items p xs) (inserted axis k r)) (range_with_len 0 n))) (sym (get_or-lengths xs axis inner h ∙ ap (λ (a : Axis). a.length) (sym ei) ∙ none)))
  where
    each : (r : Result ℤ Fault) → r ≡ ok_map number_in (ok_map Num r)
    each (Ok z) = refl
    each (Err e) = refl

-- the lines lie within what steps show
pub is_line : (n p : ℕ) (xs others : List Axis) (inner : Axis) (axis : ℕ) → axis < length xs → others ≡ without axis xs → inner ≡ get_or xs axis inner → 0 < inner.length →
    AllPlaced n p xs → reach_of p xs < 2 ^ 62 → (i : List ℕ) → is_within (lengths others) i ≡ true → IsLine n inner (place_at p others i) inner.length
is_line n p xs others inner axis h eo ei some placed small i w =
    let v : is_within (lengths (without axis xs)) i ≡ true = rw (← eo) w in
    let P : List Axis → Type 0 = λ ys. IsLine n inner (place_at p ys i) inner.length in
    let Q : Axis → Type 0 = λ a. 0 < a.length → IsLine n a (place_at p (without axis xs) i) a.length in
    subst P (sym eo) (subst Q (sym ei) (λ some. record {
      some = some;
      within = omega arith;
      near = near (get_or xs axis inner) (place_at p (without axis xs) i) (reach_of p (without axis xs)) (reach_of p xs) (place_le_reach (without axis xs) p i v) (reach-without xs inner axis p h) small;
      placed = λ k l. rw (← (place_at-inserted xs inner axis p k i h v)) (placed (inserted axis k i) (within-inserted xs inner axis k i h l v));
    }) some)

pub near_others : (p : ℕ) (xs others : List Axis) (axis : ℕ) (d : Axis) → axis < length xs → others ≡ without axis xs → reach_of p xs < 2 ^ 62 → reach_of p others < 2 ^ 63
near_others p xs others axis d h eo small = rw eo (omega (arith, reach-without xs d axis p h))

-- the folds of the first items are those of the lines' first items
pub prefixes_of_lines : (f : Dyadic) (zs : List ℤ) (p : ℕ) (xs : List Axis) (inner : Axis) (axis : ℕ) → axis < length xs → inner ≡ get_or xs axis inner →
    made (λ p count. fold_by (dyadic_of f) (line_of (pos 0) zs inner p count)) p 0 (Some axis) xs ≡ prefixes_along f axis (shown (Numbers zs) p xs)
prefixes_of_lines f zs p xs inner axis h ei =
    all_ok-same (λ i. is_within (lengths xs) i ≡ true) _ (λ i. folded f (items_up_to axis (shown (Numbers zs) p xs) i))
    (λ i w.
    let r : List ℕ = without axis i in
    let there : is_within (lengths (without axis xs)) r ≡ true = ap (λ (s : List ℕ). is_within s r) (lengths-without xs axis) ∙ within-without (lengths xs) i axis w in
    let within : get_or i axis 0 + 1 ≤ (get_or xs axis inner).length = omega (arith, index_within (lengths xs) i axis (omega (arith, length-lengths xs)) w, get_or-lengths xs axis inner h) in
    sym (folded_line f zs inner (place_at p (without axis xs) r) (get_or i axis 0 + 1) (omega arith))
    ∙ ap (λ (a : Axis). folded f (map Num (line_of (pos 0) zs a (place_at p (without axis xs) r) (get_or i axis 0 + 1)))) ei
    ∙ ap (folded f) (prefix (get_or i axis 0 + 1) (get_or xs axis inner).length (λ k. get_or zs (place_at p (without axis xs) r + step_at (get_or xs axis inner) k) (pos 0)) within)
    ∙ ap (λ (l : List Cell). folded f (take (get_or i axis 0 + 1) l)) (sym (numbers_along zs p xs inner axis r h there)))
    (indices (lengths xs)) (all_within (lengths xs))
  where
    prefix : (m n : ℕ) (g : ℕ → ℤ) → m ≤ n → map Num (map g (range_with_len 0 m)) ≡ take m (map Num (map g (range_with_len 0 n)))
    prefix m n g l = map_map Num g (range_with_len 0 m) ∙ sym (take_range (λ k. Num (g k)) 0 m n l) ∙ ap (take m) (sym (map_map Num g (range_with_len 0 n)))

pub is_prefix : (n p : ℕ) (xs : List Axis) (inner : Axis) (axis : ℕ) → axis < length xs → inner ≡ get_or xs axis inner → AllPlaced n p xs → reach_of p xs < 2 ^ 62 →
    (i : List ℕ) → is_within (lengths xs) i ≡ true → IsLine n inner (place_at p (without axis xs) (without axis i)) (get_or i axis 0 + 1)
is_prefix n p xs inner axis h ei placed small i w =
    let there : is_within (lengths (without axis xs)) (without axis i) ≡ true = ap (λ (s : List ℕ). is_within s (without axis i)) (lengths-without xs axis) ∙ within-without (lengths xs) i axis w in
    let long : get_or i axis 0 + 1 ≤ inner.length = omega (arith, index_within (lengths xs) i axis (omega (arith, length-lengths xs)) w, get_or-lengths xs axis inner h, ap (λ (a : Axis). a.length) ei) in
    let line : IsLine n inner (place_at p (without axis xs) (without axis i)) inner.length = is_line n p xs (without axis xs) inner axis h refl ei (omega arith) placed small (without axis i) there in
    record { some = omega arith; within = long; near = line.near; placed = line.placed }
