-- Scans by places.
use Rattle.std.proofs.Common.{zero, suc, ◌≡◌, ℕ, ℤ, pos, ◌+◌, ◌-◌, ◌*◌, ◌/◌, ◌%◌, ◌<◌, ◌≤◌, ◌^◌, true, nat_lt, Bool, false, List, [], ◌∷◌, ◌++◌, length, get_or, drop, Result, Ok, Err, refl, ap, sym, ◌∙◌, arith, add-one}
use Rattle.std.specs.List.{range_with_len}
use Rattle.std.proofs.lemmas.Bool.{ltb-true, ltb-false}
use Rattle.std.proofs.lemmas.List.{length-map}
use Rattle.std.proofs.lemmas.Nat.{div-mul-add, mod-mul-add, div-add-mod'}
use Rattle.std.proofs.Math.Nat.{mod-lt, mul-le-mul_right}
use Rattle.apl_faults.specs.declared.fault.Fault.{Fault}
use Rattle.apl_arrays.specs.declared.axis.Axis.{Axis}
use Rattle.apl_arrays.specs.declared.cell.Cell.TheVariants.{Num}
use Rattle.apl_arrays.specs.Axes.{without, inserted}
use Rattle.apl_arrays.specs.Cells.{Arr, Items, Numbers, cells_of}
use Rattle.apl_arrays.specs.Index.{size_of, bound_of, indices, is_within, position_in}
use Rattle.apl_arrays.specs.Results.{all_ok}
use Rattle.apl_arrays.specs.Strides.{lengths, step_at, place_at, whole_axes}
use Rattle.apl_arrays.proofs.InTurn.{all_ok-same}
use Rattle.apl_arrays.proofs.Order.{by_places, all_within}
use Rattle.apl_arrays.proofs.Places.{both, position_in-lt, size_le_bound}
use Rattle.apl_arrays.proofs.Whole.{lengths-whole, place_at-whole, shown_whole}
use Rattle.apl_scalar.specs.declared.function.Dyadic.{Dyadic}
use Rattle.apl_scalar.specs.Functions.{dyadic_of}
use Rattle.apl_scalar.proofs.Whole.{all_values}
use Rattle.apl_folds.specs.inside.Prefixes.{index_along, before, prefix_fold, prefix_folds, ArePrefixes, AreWhole}
use Rattle.apl_folds.specs.Lines.{fold_by, line_of, line_fold, IsLine}
use Rattle.apl_folds.specs.Scans.{prefixes_along}
use Rattle.apl_folds.proofs.Along.{prefixes_of_lines}
use Rattle.apl_folds.proofs.Faults.{first_fault}
use Rattle.apl_folds.proofs.Rows.{line_more}
use Rattle.apl_folds.proofs.Taken.{lengths-without, place_at-inserted, within-without, index_within}

-- the index of what stands in a row
index_of : (axis : Axis) (a k r : ℕ) → k < axis.length → r < axis.up → index_along axis ((a * axis.length + k) * axis.up + r) ≡ k
index_of axis a k r h l = ap (λ m. m % axis.length) (div-mul-add (a * axis.length + k) axis.up r l) ∙ mod-mul-add a axis.length k h

-- what a place says of its row and its index: the row before is that of the index before
before_place : (q w m n a k r : ℕ) → m * w + r ≡ q → a * n + k ≡ m → 0 < k → (a * n + (k - 1)) * w + r ≡ q - w
before_place q w m n a k r e g h = less ((a * n + (k - 1)) * w + r) w q (ring a n (k - 1) w r ∙ ap (λ j. (a * n + j) * w + r) (back k h) ∙ ap (λ j. j * w + r) g ∙ e)
  where
    ring : (a n j w r : ℕ) → ((a * n + j) * w + r) + w ≡ (a * n + (j + 1)) * w + r
    ring a n j w r = omega arith

    back : (k : ℕ) → 0 < k → k - 1 + 1 ≡ k
    back k h = omega arith

    less : (x w q : ℕ) → x + w ≡ q → x ≡ q - w
    less x w q e = omega arith

below_place : (q w m n a k r : ℕ) → m * w + r ≡ q → a * n + k ≡ m → k * w ≤ q
below_place q w m n a k r e g = low (k * w) (a * n * w) r q (ring a n k w r ∙ ap (λ j. j * w + r) g ∙ e)
  where
    ring : (a n k w r : ℕ) → a * n * w + k * w + r ≡ (a * n + k) * w + r
    ring a n k w r = omega arith

    low : (x y r q : ℕ) → y + x + r ≡ q → x ≤ q
    low x y r q e = omega arith

pub index_low : (axis : Axis) (q : ℕ) → index_along axis q * axis.up ≤ q
index_low axis q = below_place q axis.up (q / axis.up) axis.length (q / axis.up / axis.length) (index_along axis q) (q % axis.up) (div-add-mod' q axis.up) (div-add-mod' (q / axis.up) axis.length)

index_before : (axis : Axis) (q : ℕ) → 0 < axis.length → 0 < axis.up → 0 < index_along axis q → index_along axis (q - axis.up) ≡ index_along axis q - 1
index_before axis q h u later =
    let k : ℕ = index_along axis q in
    let below : k < axis.length = mod-lt (q / axis.up) h in
    let rest : q % axis.up < axis.up = mod-lt q u in
    ap (index_along axis) (sym (before_place q axis.up (q / axis.up) axis.length (q / axis.up / axis.length) k (q % axis.up) (div-add-mod' q axis.up) (div-add-mod' (q / axis.up) axis.length) later))
    ∙ index_of axis (q / axis.up / axis.length) (k - 1) (q % axis.up) (omega arith) rest

-- a place by the beginning of its line and its index
on_line : (axis : Axis) (q : ℕ) → axis.down ≡ 0 → q ≡ (q - index_along axis q * axis.up) + step_at axis (index_along axis q)
on_line axis q d = step q (index_along axis q) axis.up axis.down (axis.length - 1 - index_along axis q) d (index_low axis q)
  where
    step : (q k u d m : ℕ) → d ≡ 0 → k * u ≤ q → q ≡ (q - k * u) + (u * k + d * m)
    step q k u d m e h = rw e (there q (k * u) k u m h refl)
      where
        there : (q x k u m : ℕ) → x ≤ q → x ≡ k * u → q ≡ (q - x) + (u * k + 0 * m)
        there q x k u m h e = omega arith

-- all of a row have its index
pub index_in_row : (axis : Axis) (row q : ℕ) → row * axis.up ≤ q → q < row * axis.up + axis.up → index_along axis q ≡ row % axis.length
index_in_row axis row q l h = ap (λ (m : ℕ). m % axis.length) (ap (λ (p : ℕ). p / axis.up) (there q (row * axis.up) l) ∙ div-mul-add row axis.up (q - row * axis.up) (omega arith))
  where
    there : (q x : ℕ) → x ≤ q → q ≡ x + (q - x)
    there q x l = omega arith

-- the line of a prefix is that of the prefix before and the number at its place
pub one_longer : (zs : List ℤ) (axis : Axis) (q : ℕ) → axis.down ≡ 0 →
    line_of (pos 0) zs axis (q - index_along axis q * axis.up) (index_along axis q) ++ get_or zs q (pos 0) ∷ [] ≡ line_of (pos 0) zs axis (q - index_along axis q * axis.up) (index_along axis q + 1)
one_longer zs axis q d =
    let k : ℕ = index_along axis q in
    let p : ℕ = q - k * axis.up in
    ap (λ (r : ℕ). line_of (pos 0) zs axis p k ++ get_or zs r (pos 0) ∷ []) (on_line axis q d) ∙ line_more (pos 0) zs axis p k

-- where a prefix is told from what was kept of the numbers before
pub prefix_told : (f : ℤ → ℤ → Result ℤ Fault) (zs : List ℤ) (axis : Axis) (q : ℕ) (z : ℤ) → axis.down ≡ 0 → fold_by f (before zs axis q ++ get_or zs q (pos 0) ∷ []) ≡ Ok z → prefix_fold f zs axis q ≡ Ok z
prefix_told f zs axis q z d e = ap (fold_by f) (sym (one_longer zs axis q d)) ∙ e

-- the numbers before a place are those before the place a step back, and the number there
pub before_step : (zs : List ℤ) (axis : Axis) (p q : ℕ) → 0 < axis.length → 0 < axis.up → axis.down ≡ 0 → q ≡ p + axis.up → 0 < index_along axis q → before zs axis p ++ get_or zs p (pos 0) ∷ [] ≡ before zs axis q
before_step zs axis p q h u d e later =
    ap (λ (r : ℕ). before zs axis r ++ get_or zs r (pos 0) ∷ []) back
    ∙ one_longer zs axis (q - axis.up) d
    ∙ ap (λ (k : ℕ). line_of (pos 0) zs axis (q - axis.up - k * axis.up) (k + 1)) (index_before axis q h u later)
    ∙ ap (λ (r : ℕ). line_of (pos 0) zs axis r (index_along axis q - 1 + 1)) (start q axis.up (index_along axis q) later)
    ∙ ap (line_of (pos 0) zs axis (q - index_along axis q * axis.up)) (whole (index_along axis q) later)
  where
    back : p ≡ q - axis.up
    back = omega arith

    whole : (k : ℕ) → 0 < k → k - 1 + 1 ≡ k
    whole k h = omega arith

    start : (q w k : ℕ) → 0 < k → q - w - (k - 1) * w ≡ q - k * w
    start q w k h = let e : (k - 1) * w + w ≡ k * w = ring (k - 1) w ∙ ap (λ j. j * w) (one k h) in omega arith
      where
        ring : (j w : ℕ) → j * w + w ≡ (j + 1) * w
        ring j w = omega arith

        one : (k : ℕ) → 0 < k → k - 1 + 1 ≡ k
        one k h = omega arith

-- so the fold of those before a place is the prefix a step back
pub prefix_before : (f : ℤ → ℤ → Result ℤ Fault) (zs : List ℤ) (axis : Axis) (p q : ℕ) → 0 < axis.length → 0 < axis.up → axis.down ≡ 0 → q ≡ p + axis.up → 0 < index_along axis q → prefix_fold f zs axis p ≡ fold_by f (before zs axis q)
prefix_before f zs axis p q h u d e later = ap (fold_by f) (sym (one_longer zs axis p d) ∙ before_step zs axis p q h u d e later)

-- before the first of a line there is none
pub before_first : (zs : List ℤ) (axis : Axis) (q : ℕ) → index_along axis q ≡ 0 → [] ≡ before zs axis q
before_first zs axis q e = ap (λ (k : ℕ). line_of (pos 0) zs axis (q - index_along axis q * axis.up) k) (sym e)

by_one : (axis : Axis) (q : ℕ) → axis.up ≡ 1 → index_along axis q ≡ q % axis.length
by_one axis q u = ap (λ (w : ℕ). q / w % axis.length) u ∙ ap (λ (m : ℕ). m % axis.length) (one q)
  where
    one : (q : ℕ) → q / 1 ≡ q
    one q = omega arith

-- the first of a line of numbers that lie side by side, and the others
pub line_begins : (axis : Axis) (line : ℕ) → 0 < axis.length → axis.up ≡ 1 → index_along axis (line * axis.length) ≡ 0
line_begins axis line h u = by_one axis (line * axis.length) u ∙ ap (λ (m : ℕ). m % axis.length) (more (line * axis.length)) ∙ mod-mul-add line axis.length 0 h
  where
    more : (x : ℕ) → x ≡ x + 0
    more x = omega arith

pub index_beside : (axis : Axis) (from k : ℕ) → axis.up ≡ 1 → index_along axis from ≡ 0 → k < axis.length → index_along axis (from + k) ≡ k
index_beside axis from k u z h =
    by_one axis (from + k) u
    ∙ ap (λ (p : ℕ). (p + k) % axis.length) (sym (whole from axis.length (div-add-mod' from axis.length) (sym (by_one axis from u) ∙ z)))
    ∙ mod-mul-add (from / axis.length) axis.length k h
  where
    whole : (p n : ℕ) → p / n * n + p % n ≡ p → p % n ≡ 0 → p / n * n ≡ p
    whole p n e z = omega arith

-- the lines and the rows are all of the numbers
pub all_lines : (zs : List ℤ) (axis : Axis) → AreWhole zs axis → axis.up ≡ 1 → length zs / axis.length * axis.length ≡ length zs
all_lines zs axis whole u = let e : length zs ≡ whole.blocks * axis.length + 0 = whole.size ∙ ap (λ (w : ℕ). whole.blocks * (axis.length * w)) u ∙ ring whole.blocks axis.length in ap (λ (n : ℕ). n / axis.length * axis.length) e ∙ ap (λ (m : ℕ). m * axis.length) (div-mul-add whole.blocks axis.length 0 whole.long) ∙ sym (e ∙ none (whole.blocks * axis.length))
  where
    ring : (b n : ℕ) → b * (n * 1) ≡ b * n + 0
    ring b n = omega arith

    none : (x : ℕ) → x + 0 ≡ x
    none x = omega arith

pub all_rows : (zs : List ℤ) (axis : Axis) → AreWhole zs axis → length zs / axis.up * axis.up ≡ length zs
all_rows zs axis whole = let e : length zs ≡ (whole.blocks * axis.length) * axis.up + 0 = whole.size ∙ ring whole.blocks axis.length axis.up in ap (λ (n : ℕ). n / axis.up * axis.up) e ∙ ap (λ (m : ℕ). m * axis.up) (div-mul-add (whole.blocks * axis.length) axis.up 0 whole.apart) ∙ sym (e ∙ none (whole.blocks * axis.length * axis.up))
  where
    ring : (b n w : ℕ) → b * (n * w) ≡ b * n * w + 0
    ring b n w = omega arith

    none : (x : ℕ) → x + 0 ≡ x
    none x = omega arith

-- the line of a place lies within the numbers
pub line_of_place : (zs : List ℤ) (axis : Axis) (q : ℕ) → AreWhole zs axis → q < length zs → IsLine (length zs) axis (q - index_along axis q * axis.up) (index_along axis q + 1)
line_of_place zs axis q whole h = record {
  some = omega arith;
  within = omega (arith, mod-lt (q / axis.up) whole.long);
  near = near whole.blocks axis.length axis.up axis.down q (index_along axis q * axis.up) (length zs) whole.forward whole.size whole.few h;
  placed = λ k l.
      let p : ℕ = q - index_along axis q * axis.up in
      let a : ℕ = q / axis.up / axis.length in
      let r : ℕ = q % axis.up in
      let rest : r < axis.up = mod-lt q whole.apart in
      let e : (a * axis.length + index_along axis q) * axis.up + r ≡ q = ap (λ (m : ℕ). m * axis.up + r) (div-add-mod' (q / axis.up) axis.length) ∙ div-add-mod' q axis.up in
      let begin : p ≡ a * axis.length * axis.up + r = begins q a axis.length (index_along axis q) axis.up r e in
      placed whole.blocks axis.length axis.up axis.down a k r (axis.length - 1 - k) p (length zs) whole.forward whole.size begin l rest (blocks_more whole.blocks axis.length axis.up a (index_along axis q) r (omega (arith, e, whole.size)));
}
  where
    near : (b n w d q x m : ℕ) → d ≡ 0 → m ≡ b * (n * w) → m < 2 ^ 61 → q < m → q - x + (w + d) * n < 2 ^ 63
    near zero n w d q x m z e f h = absurd (omega arith)
    near (suc b) n w d q x m z e f h = let s : (w + d) * n ≡ n * w = rw z (ring w n) in let t : n * w ≤ m = rw e (more b (n * w)) in omega arith
      where
        ring : (w n : ℕ) → (w + 0) * n ≡ n * w
        ring w n = omega arith

        more : (b x : ℕ) → x ≤ suc b * x
        more b x = omega arith

    begins : (q a n i w r : ℕ) → (a * n + i) * w + r ≡ q → q - i * w ≡ a * n * w + r
    begins q a n i w r e = let f : a * n * w + r + i * w ≡ q = ring a n i w r ∙ e in omega arith
      where
        ring : (a n i w r : ℕ) → a * n * w + r + i * w ≡ (a * n + i) * w + r
        ring a n i w r = omega arith

    blocks_more : (b n w a i r : ℕ) → (a * n + i) * w + r < b * (n * w) → a < b
    blocks_more b n w a i r h = split (nat_lt a b) refl
      where
        low : (a n i w r : ℕ) → a * (n * w) ≤ (a * n + i) * w + r
        low a n i w r = let e : (a * n + i) * w + r ≡ a * (n * w) + i * w + r = omega arith in omega arith

        split : (t : Bool) → nat_lt a b ≡ t → a < b
        split true t = ltb-true a b t
        split false t = let l : b ≤ a = ltb-false a b t in absurd (omega (arith, low a n i w r, mul-le-mul_right (n * w) l))

    placed : (b n w d a k r o p m : ℕ) → d ≡ 0 → m ≡ b * (n * w) → p ≡ a * n * w + r → k < n → r < w → a < b → p + (w * k + d * o) < m
    placed b n w d a k r o p m z e f l h g =
        let x : suc k * w ≤ n * w = mul-le-mul_right w l in
        let y : suc a * (n * w) ≤ b * (n * w) = mul-le-mul_right (n * w) g in
        rw (z, e, f) (all a n w k r o (b * (n * w)) x y h)
      where
        all : (a n w k r o m : ℕ) → suc k * w ≤ n * w → suc a * (n * w) ≤ m → r < w → a * n * w + r + (w * k + 0 * o) < m
        all a n w k r o m x y h = let e : a * n * w ≡ a * (n * w) = omega arith in let f : suc k * w ≡ w * k + w = omega arith in let g : suc a * (n * w) ≡ a * (n * w) + n * w = omega arith in omega arith

-- how many elements lie between two that are next along an axis
abbrev pub apart : ℕ → List ℕ → ℕ
apart k [] = 1
apart zero (n ∷ ns) = size_of ns
apart (suc k) (n ∷ ns) = apart k ns

pub size_after : (s : List ℕ) (k : ℕ) → size_of (drop (k + 1) s) ≡ apart k s
size_after s k = ap (λ (m : ℕ). size_of (drop m s)) (add-one k) ∙ each s k
  where
    each : (s : List ℕ) (k : ℕ) → size_of (drop (suc k) s) ≡ apart k s
    each [] k = refl
    each (n ∷ ns) zero = refl
    each (n ∷ ns) (suc k) = each ns k

whole_at : (s : List ℕ) (k : ℕ) (d : Axis) → k < length s → get_or (whole_axes s) k d ≡ record { length = get_or s k 0; up = apart k s; down = 0 }
whole_at [] k d h = absurd (omega arith)
whole_at (n ∷ ns) zero d h = refl
whole_at (n ∷ ns) (suc k) d h = whole_at ns k d (omega arith)

-- the size by rows
record ByRows (s : List ℕ) (k : ℕ) : Type 0 where
  blocks : ℕ
  size : size_of s ≡ blocks * (get_or s k 0 * apart k s)

by_rows : (s : List ℕ) (k : ℕ) → k < length s → ByRows s k
by_rows [] k h = absurd (omega arith)
by_rows (n ∷ ns) zero h = record { blocks = 1; size = omega arith }
by_rows (n ∷ ns) (suc k) h =
    let rest = by_rows ns k (omega arith) in
    record { blocks = n * rest.blocks; size = ap (λ m. n * m) rest.size ∙ turn n rest.blocks (get_or ns k 0 * apart k ns) }
  where
    turn : (n b m : ℕ) → n * (b * m) ≡ (n * b) * m
    turn n b m = omega arith

-- the place of an index list by its row and the index along an axis
record Row (s i : List ℕ) (k : ℕ) : Type 0 where
  block : ℕ
  column : ℕ
  place : position_in s i ≡ (block * get_or s k 0 + get_or i k 0) * apart k s + column
  low : column < apart k s

row : (s i : List ℕ) (k : ℕ) → k < length s → is_within s i ≡ true → Row s i k
row [] i k h w = absurd (omega arith)
row (n ∷ ns) [] k h w = absurd (cc)
row (n ∷ ns) (j ∷ js) zero h w =
    record {
      block = 0;
      column = position_in ns js;
      place = turn n j (size_of ns) (position_in ns js);
      low = position_in-lt ns js (both (nat_lt j n) (is_within ns js) w).1;
    }
  where
    turn : (n j s p : ℕ) → j * s + p ≡ (0 * n + j) * s + p
    turn n j s p = omega arith
row (n ∷ ns) (j ∷ js) (suc k) h w =
    let rest = row ns js k (omega arith) (both (nat_lt j n) (is_within ns js) w).1 in
    let sized = by_rows ns k (omega arith) in
    record {
      block = j * sized.blocks + rest.block;
      column = rest.column;
      place = turn j (size_of ns) (position_in ns js) sized.blocks (get_or ns k 0) (apart k ns) rest.block (get_or js k 0) rest.column sized.size rest.place;
      low = rest.low;
    }
  where
    turn : (j s p b n w a x c : ℕ) → s ≡ b * (n * w) → p ≡ (a * n + x) * w + c → j * s + p ≡ ((j * b + a) * n + x) * w + c
    turn j s p b n w a x c e f = rw (e, f) (ring j b n w a x c)
      where
        ring : (j b n w a x c : ℕ) → j * (b * (n * w)) + ((a * n + x) * w + c) ≡ ((j * b + a) * n + x) * w + c
        ring j b n w a x c = omega arith

-- so its index is the index along the axis
index_at : (s i : List ℕ) (k : ℕ) (axis : Axis) → k < length s → is_within s i ≡ true → axis ≡ record { length = get_or s k 0; up = apart k s; down = 0 } → index_along axis (position_in s i) ≡ get_or i k 0
index_at s i k axis h w e =
    let r = row s i k h w in
    let below : get_or i k 0 < get_or s k 0 = index_within s i k h w in
    ap (λ (a : Axis). index_along a (position_in s i)) e
    ∙ ap (index_along (record { length = get_or s k 0; up = apart k s; down = 0 })) r.place
    ∙ index_of (record { length = get_or s k 0; up = apart k s; down = 0 }) r.block (get_or i k 0) r.column below r.low

inserted-without : (i : List ℕ) (k : ℕ) → k < length i → inserted k (get_or i k 0) (without k i) ≡ i
inserted-without [] k h = absurd (omega arith)
inserted-without (j ∷ js) zero h = refl
inserted-without (j ∷ js) (suc k) h = ap (λ (l : List ℕ). j ∷ l) (inserted-without js k (omega arith))

within-length : (s i : List ℕ) → is_within s i ≡ true → length i ≡ length s
within-length [] [] w = refl
within-length [] (j ∷ js) w = absurd (cc)
within-length (n ∷ ns) [] w = absurd (cc)
within-length (n ∷ ns) (j ∷ js) w = ap suc (within-length ns js (both (nat_lt j n) (is_within ns js) w).1)

length-whole : (s : List ℕ) → length (whole_axes s) ≡ length s
length-whole [] = refl
length-whole (n ∷ ns) = ap suc (length-whole ns)

-- and its line begins where the line of the other indices begins
line_start : (s i : List ℕ) (k : ℕ) (axis : Axis) → k < length s → is_within s i ≡ true → axis ≡ record { length = get_or s k 0; up = apart k s; down = 0 } →
    position_in s i - get_or i k 0 * axis.up ≡ place_at 0 (without k (whole_axes s)) (without k i)
line_start s i k axis h w e =
    let there : is_within (lengths (without k (whole_axes s))) (without k i) ≡ true = ap (λ (l : List ℕ). is_within l (without k i)) (lengths-without (whole_axes s) k ∙ ap (without k) (lengths-whole s)) ∙ within-without s i k w in
    let found : position_in s i ≡ place_at 0 (without k (whole_axes s)) (without k i) + step_at axis (get_or i k 0) =
    sym (none (position_in s i)) ∙ sym (place_at-whole s i 0 w)
    ∙ ap (place_at 0 (whole_axes s)) (sym (inserted-without i k (omega (arith, within-length s i w))))
    ∙ place_at-inserted (whole_axes s) axis k 0 (get_or i k 0) (without k i) (omega (arith, length-whole s)) there
    ∙ ap (λ (a : Axis). place_at 0 (without k (whole_axes s)) (without k i) + step_at a (get_or i k 0)) (whole_at s k axis h ∙ sym e) in
    let forward : axis.down ≡ 0 = ap (λ (a : Axis). a.down) e in
    back (position_in s i) (place_at 0 (without k (whole_axes s)) (without k i)) axis.up axis.down (get_or i k 0) (axis.length - 1 - get_or i k 0) forward found
  where
    none : (p : ℕ) → 0 + p ≡ p
    none p = omega arith

    back : (q p u d x m : ℕ) → d ≡ 0 → q ≡ p + (u * x + d * m) → q - x * u ≡ p
    back q p u d x m e f = rest q p u x m (f ∙ ap (λ (z : ℕ). p + (u * x + z * m)) e)
      where
        rest : (q p u x m : ℕ) → q ≡ p + (u * x + 0 * m) → q - x * u ≡ p
        rest q p u x m f = let g : u * x ≡ x * u = omega arith in omega arith

-- the scan of an array by its places
pub prefixes_by_places : (f : Dyadic) (zs : List ℤ) (a : Arr) (k : ℕ) (axis : Axis) → k < length a.shape → a.items ≡ Numbers zs → length (cells_of a.items) ≡ size_of a.shape →
    axis ≡ record { length = get_or a.shape k 0; up = apart k a.shape; down = 0 } → prefixes_along f k a ≡ prefix_folds (dyadic_of f) zs axis
prefixes_by_places f zs a k axis h e full is =
    ap (prefixes_along f k) (sym (shown_whole a (whole_axes a.shape) (Numbers zs) refl (sym e) full))
    ∙ sym (prefixes_of_lines f zs 0 (whole_axes a.shape) axis k (omega (arith, length-whole a.shape)) (is ∙ sym (whole_at a.shape k axis h)))
    ∙ ap (λ (s : List ℕ). all_ok (λ i. line_fold (dyadic_of f) zs axis (place_at 0 (without k (whole_axes a.shape)) (without k i)) (get_or i k 0 + 1)) (indices s)) (lengths-whole a.shape)
    ∙ all_ok-same (λ i. is_within a.shape i ≡ true) _ (λ i. prefix_fold (dyadic_of f) zs axis (position_in a.shape i)) each (indices a.shape) (all_within a.shape)
    ∙ by_places a.shape (prefix_fold (dyadic_of f) zs axis)
    ∙ ap (λ (n : ℕ). all_ok (prefix_fold (dyadic_of f) zs axis) (range_with_len 0 n)) (sym full ∙ ap (λ (i : Items). length (cells_of i)) e ∙ length-map zs Num)
  where
    each : (i : List ℕ) → is_within a.shape i ≡ true →
        line_fold (dyadic_of f) zs axis (place_at 0 (without k (whole_axes a.shape)) (without k i)) (get_or i k 0 + 1) ≡ prefix_fold (dyadic_of f) zs axis (position_in a.shape i)
    each i w =
        ap (λ (p : ℕ). line_fold (dyadic_of f) zs axis p (get_or i k 0 + 1)) (sym (line_start a.shape i k axis h w is))
        ∙ ap (λ (x : ℕ). line_fold (dyadic_of f) zs axis (position_in a.shape i - x * axis.up) (x + 1)) (sym (index_at a.shape i k axis h w is))

-- a fault is the scan's where the prefixes before it are known
pub prefix_fault : (f : ℤ → ℤ → Result ℤ Fault) (zs : List ℤ) (axis : Axis) (at : ℕ) (out : List ℤ) (e : Fault) → ArePrefixes f zs axis at out → at < length zs → prefix_fold f zs axis at ≡ Err e → prefix_folds f zs axis ≡ Err e
prefix_fault f zs axis at out e h l g = first_fault (prefix_fold f zs axis) out e at (length zs) l h g

-- all of them
pub prefixes_whole : (f : ℤ → ℤ → Result ℤ Fault) (zs : List ℤ) (axis : Axis) (out : List ℤ) → length out ≡ length zs → ArePrefixes f zs axis (length zs) out → prefix_folds f zs axis ≡ Ok out
prefixes_whole f zs axis out e h = all_values (prefix_fold f zs axis) out (length zs) e h

-- an array that has elements has whole lines along each axis
pub lines_whole : (s : List ℕ) (k : ℕ) (zs : List ℤ) (axis : Axis) → k < length s → 0 < size_of s → length zs ≡ size_of s → bound_of s ≤ 1000000 → axis.length ≡ get_or s k 0 → axis.up ≡ apart k s → axis.down ≡ 0 → AreWhole zs axis
lines_whole s k zs axis h some count small long up down =
    let r = by_rows s k h in
    let size : length zs ≡ r.blocks * (axis.length * axis.up) = rw (long, up) (count ∙ r.size) in
    let p = parts (length zs) r.blocks axis.length axis.up size (omega arith) in
    record { long = p.0; apart = p.1; forward = down; few = omega (arith, size_le_bound s); blocks = r.blocks; size = size }
  where
    parts : (n b m w : ℕ) → n ≡ b * (m * w) → 0 < n → (0 < m) × (0 < w)
    parts n b zero w e h = absurd (omega arith)
    parts n b (suc m) zero e h = absurd (omega arith)
    parts n b (suc m) (suc w) e h = (omega arith, omega arith)
