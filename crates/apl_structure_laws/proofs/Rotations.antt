-- Lines turned there and back.
use Rattle.std.proofs.Common.{◌≡◌, ℕ, zero, suc, ℤ, pos, negsuc, neg_ℤ, ◌+ℤ◌, ◌+◌, ◌-◌, ◌*◌, ◌%◌, ◌<◌, true, cond, List, [], ◌∷◌, map, length, get_or, Option, None, Some, Result, Ok, Err, refl, sym, ap, ◌∙◌, subst, arith}
use Rattle.std.specs.Prelude.{unsigned_abs}
use Rattle.std.proofs.lemmas.Int.{ints, int_rem_euclid_is}
use Rattle.std.proofs.Math.Nat.{mod-add-mod, add-mul-mod_self_right, mod-eq_of_lt, mod-lt}
use Rattle.apl_faults.specs.declared.fault.Fault.{Fault}
use Rattle.apl_arrays.specs.declared.axis_choice.Along.{Along}
use Rattle.apl_arrays.specs.Index.{is_within, position_in}
use Rattle.apl_arrays.specs.Along.{axis_along}
use Rattle.apl_arrays.specs.Axes.{without}
use Rattle.apl_arrays.specs.Cells.{Arr, Items, Numbers, Characters, IsArray}
use Rattle.apl_arrays.specs.Checks.{is_single, numbers_of}
use Rattle.apl_arrays.specs.Results.{and_then, ok_map}
use Rattle.apl_arrays.specs.Views.{length_of, on_axis}
use Rattle.apl_turns.specs.Turns.{fits_lines, rotated, round_index, turn_at, turned_round}
use Rattle.apl_turns.proofs.Rotated.{rotated_by}
use Rattle.apl_structure_laws.specs.Rotations.{RotatesBack, opposite, opposites}
use Rattle.apl_structure_laws.proofs.Axes.{length-within, on_axis-on_axis, on_axis-stays, within-at, within-stays, without-on_axis}
use Rattle.apl_structure_laws.proofs.Selections.{selected-back}

-- ---- an index modulo a length

up : (n b i : ℕ) → 0 < n → round_index n (pos b) i ≡ (i + b) % n
up n b i h = ap unsigned_abs (int_rem_euclid_is (pos i +ℤ pos b) (pos n) n 0 (i + b) h refl (omega (arith, ints)))

down : (n b i : ℕ) → 0 < n → round_index n (neg_ℤ (pos b)) i ≡ (i + (b * n - b)) % n
down n b i h = ap unsigned_abs (int_rem_euclid_is (pos i +ℤ neg_ℤ (pos b)) (pos n) n b (i + (b * n - b)) h refl (sums (b * n) b i (enough b n h)))
  where
    enough : (b n : ℕ) → 0 < n → b * n - b + b ≡ b * n
    enough b n h = grind arith

    sums : (m b i : ℕ) → m - b + b ≡ m → (pos i +ℤ neg_ℤ (pos b)) +ℤ pos m ≡ pos (i + (m - b))
    sums m b i e = omega (arith, ints)

-- by two numbers that make up whole rounds
whole : (n i x y b : ℕ) → i < n → x + y ≡ b * n → ((i + x) % n + y) % n ≡ i
whole n i x y b h e = mod-add-mod (i + x) n y ∙ ap (λ s. s % n) (sums i x y (b * n) e) ∙ add-mul-mod_self_right i b n ∙ mod-eq_of_lt h
  where
    sums : (i x y m : ℕ) → x + y ≡ m → (i + x) + y ≡ i + m
    sums i x y m e = omega arith

made_up : (n b : ℕ) → 0 < n → (b * n - b) + b ≡ b * n
made_up n b h = grind arith

made_up_too : (n b : ℕ) → 0 < n → b + (b * n - b) ≡ b * n
made_up_too n b h = grind arith

first_up : (n b i : ℕ) → i < n → round_index n (neg_ℤ (pos b)) (round_index n (pos b) i) ≡ i
first_up n b i h =
    let some : 0 < n = omega arith in
    ap (round_index n (neg_ℤ (pos b))) (up n b i some) ∙ down n b ((i + b) % n) some ∙ whole n i b (b * n - b) b h (made_up_too n b some)

first_down : (n b i : ℕ) → i < n → round_index n (pos b) (round_index n (neg_ℤ (pos b)) i) ≡ i
first_down n b i h =
    let some : 0 < n = omega arith in
    ap (round_index n (pos b)) (down n b i some) ∙ up n b ((i + (b * n - b)) % n) some ∙ whole n i (b * n - b) b b h (made_up n b some)

rounds : (n : ℕ) (z : ℤ) (i : ℕ) → i < n → round_index n z (round_index n (neg_ℤ z) i) ≡ i
rounds n (pos b) i h = first_down n b i h
rounds n (negsuc b) i h = first_up n (suc b) i h

below : (n : ℕ) (z : ℤ) (i : ℕ) → i < n → round_index n z i < n
below n (pos b) i h = subst (λ r. r < n) (sym (up n b i (omega arith))) (mod-lt (i + b) (omega arith))
below n (negsuc b) i h = subst (λ r. r < n) (sym (down n (suc b) i (omega arith))) (mod-lt (i + (suc b * n - suc b)) (omega arith))

-- ---- the numbers and their opposites

get_or-opposites : (zs : List ℤ) (p : ℕ) → get_or (map neg_ℤ zs) p (pos 0) ≡ neg_ℤ (get_or zs p (pos 0))
get_or-opposites [] p = refl
get_or-opposites (z ∷ zs) zero = refl
get_or-opposites (z ∷ zs) (suc p) = get_or-opposites zs p

numbers_of-opposites : (items : Items) (zs : List ℤ) → numbers_of items ≡ Ok zs → numbers_of (opposites items) ≡ Ok (map neg_ℤ zs)
numbers_of-opposites (Numbers ys) zs e = let s : ys ≡ zs = cc in ap (λ (l : List ℤ). Ok (map neg_ℤ l)) s
numbers_of-opposites (Characters []) zs e = let s : [] ≡ zs = cc in ap (λ (l : List ℤ). Ok (map neg_ℤ l)) s
numbers_of-opposites (Characters (c ∷ cs)) zs e = absurd (cc)

-- ---- lines

module _ (along : Along) (origin : ℕ) (a b : Arr) (full : IsArray b.shape b.items) (zs : List ℤ) where
  there : ℕ → List ℕ → List ℕ
  there axis i = on_axis axis (round_index (length_of b axis) (turn_at a zs axis i)) i

  back : ℕ → List ℕ → List ℕ
  back axis i = on_axis axis (round_index (length_of b axis) (turn_at (opposite a) (map neg_ℤ zs) axis i)) i

  turn-back : (axis : ℕ) (i : List ℕ) → turn_at (opposite a) (map neg_ℤ zs) axis i ≡ neg_ℤ (turn_at a zs axis i)
  turn-back axis i = get_or-opposites zs (cond (is_single a.shape) 0 (position_in a.shape (without axis i)))

  turn-same : (axis : ℕ) (f : ℕ → ℕ) (i : List ℕ) → turn_at a zs axis (on_axis axis f i) ≡ turn_at a zs axis i
  turn-same axis f i = ap (λ (j : List ℕ). get_or zs (cond (is_single a.shape) 0 (position_in a.shape j)) (pos 0)) (without-on_axis axis f i)

  back_within : (axis : ℕ) (i : List ℕ) → is_within b.shape i ≡ true → is_within b.shape (back axis i) ≡ true
  unfolding back
  back_within axis i w = within-stays axis (round_index (length_of b axis) (turn_at (opposite a) (map neg_ℤ zs) axis i)) b.shape i w (λ h. below (length_of b axis) (turn_at (opposite a) (map neg_ℤ zs) axis i) (get_or i axis 0) (within-at b.shape i axis w h))

  there_back : (axis : ℕ) (i : List ℕ) → is_within b.shape i ≡ true → there axis (back axis i) ≡ i
  unfolding there back
  there_back axis i w =
      let z : ℤ = turn_at a zs axis i in
      let n : ℕ = length_of b axis in
      ap (λ (y : ℤ). on_axis axis (round_index n (turn_at a zs axis (on_axis axis (round_index n y) i))) (on_axis axis (round_index n y) i)) (turn-back axis i)
      ∙ ap (λ (y : ℤ). on_axis axis (round_index n y) (on_axis axis (round_index n (neg_ℤ z)) i)) (turn-same axis (round_index n (neg_ℤ z)) i)
      ∙ on_axis-on_axis axis (round_index n z) (round_index n (neg_ℤ z)) i
      ∙ on_axis-stays axis (λ k. round_index n z (round_index n (neg_ℤ z) k)) i
      (λ h. let l : axis < length b.shape = omega (arith, length-within b.shape i w) in rounds n z (get_or i axis 0) (within-at b.shape i axis w l))

  turned_back : (axis : Option ℕ) → turned_round (opposite a) (turned_round a b zs axis) (map neg_ℤ zs) axis ≡ b
  unfolding there back
  turned_back None = refl
  turned_back (Some axis) = selected-back b b.shape (there axis) (back axis) full.full (back_within axis) (there_back axis)

  rotated_back : (axis : Option ℕ) → axis_along along (length b.shape) origin ≡ Ok axis → fits_lines a b axis ≡ Ok tt → numbers_of a.items ≡ Ok zs → rotated along origin (opposite a) (turned_round a b zs axis) ≡ Ok b
  rotated_back None e f g = rotated_by along origin (opposite a) b b None (map neg_ℤ zs) e f (numbers_of-opposites a.items zs g) refl
  rotated_back (Some axis) e f g = rotated_by along origin (opposite a) (turned_round a b zs (Some axis)) b (Some axis) (map neg_ℤ zs) e f (numbers_of-opposites a.items zs g) (turned_back (Some axis))

pub rotates_back : RotatesBack
rotates_back along origin a b c full h = axes (axis_along along (length b.shape) origin) refl h
  where
    numbers : (axis : Option ℕ) (r : Result (List ℤ) Fault) → axis_along along (length b.shape) origin ≡ Ok axis → fits_lines a b axis ≡ Ok tt → numbers_of a.items ≡ r → ok_map (λ zs. turned_round a b zs axis) r ≡ Ok c →
        rotated along origin (opposite a) c ≡ Ok b
    numbers axis (Ok zs) e f g h = let same : turned_round a b zs axis ≡ c = cc in subst (λ (x : Arr). rotated along origin (opposite a) x ≡ Ok b) same (rotated_back along origin a b full zs axis e f g)
    numbers axis (Err fault) e f g h = absurd (cc)

    lines : (axis : Option ℕ) (r : Result (Unit {0}) Fault) → axis_along along (length b.shape) origin ≡ Ok axis → fits_lines a b axis ≡ r → and_then r (λ ok. ok_map (λ zs. turned_round a b zs axis) (numbers_of a.items)) ≡ Ok c →
        rotated along origin (opposite a) c ≡ Ok b
    lines axis (Ok u) e f h = numbers axis (numbers_of a.items) e f refl h
    lines axis (Err fault) e f h = absurd (cc)

    axes : (r : Result (Option ℕ) Fault) → axis_along along (length b.shape) origin ≡ r → and_then r (λ axis. and_then (fits_lines a b axis) (λ ok. ok_map (λ zs. turned_round a b zs axis) (numbers_of a.items))) ≡ Ok c →
        rotated along origin (opposite a) c ≡ Ok b
    axes (Ok axis) e h = lines axis (fits_lines a b axis) e refl h
    axes (Err fault) e h = absurd (cc)
