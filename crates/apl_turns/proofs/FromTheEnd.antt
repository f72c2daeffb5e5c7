-- Lines taken the other way, by index lists and by places.
use Rattle.std.proofs.Common.{◌≡◌, ℕ, pos, suc, ◌+◌, ◌-◌, ◌*◌, ◌%◌, ◌<◌, ◌≤◌, true, List, ◌++◌, map, length, get_or, take, drop, ap, sym, ◌∙◌, arith}
use Rattle.std.specs.Prelude.{reverse}
use Rattle.std.specs.List.{range_with_len}
use Rattle.std.proofs.lemmas.List.{length-map, length-reverse, get_or-reverse, drop_all}
use Rattle.std.proofs.lemmas.List.FromFn.{length-range_with_len}
use Rattle.std.proofs.lemmas.Nat.{div-mul-add, mod-mul-add}
use Rattle.apl_arrays.specs.declared.cell.Cell.TheVariants.{Num, Char}
use Rattle.apl_arrays.specs.Index.{size_of, indices, is_within, position_in}
use Rattle.apl_arrays.specs.Cells.{Arr, Items, Numbers, Characters, cells_of}
use Rattle.apl_arrays.specs.Views.{picked, on_axis, reversed}
use Rattle.apl_turns.specs.inside.Mirrored.{mirror, mirrored}
use Rattle.apl_turns.proofs.Blocks.{grown_by, piece_get, piece_length}
use Rattle.apl_turns.proofs.Parts.{position_parts, position_on, within_at_axis, behind_below, whole_parts}
use Rattle.apl_turns.proofs.Rotated.{each_sourced}

-- the place from which the element at a place of a line comes
mirror_at : (size line t : ℕ) → t < size → mirror size (line * size + t) ≡ line * size + (size - 1 - t)
mirror_at size line t h =
    ap (λ (k : ℕ). k * size + (size - 1 - (line * size + t) % size)) (div-mul-add line size t h)
    ∙ ap (λ (k : ℕ). line * size + (size - 1 - k)) (mod-mul-add line size t h)

-- the next line
pub line_mirrored : {A : Type 0} (d : A) (raw part : List A) (size line : ℕ) → part ≡ take size (drop (line * size) raw) → line * size + size ≤ length raw →
    map (λ place. get_or raw (mirror size place) d) (range_with_len 0 (line * size)) ++ reverse part ≡ map (λ place. get_or raw (mirror size place) d) (range_with_len 0 (line * size + size))
line_mirrored {A = A} d raw part size line e fits =
    grown_by d (λ place. get_or raw (mirror size place) d) (reverse part) (line * size) size (length-reverse part ∙ all) each
  where
    all : length part ≡ size
    all = ap length e ∙ piece_length raw line size fits

    each : (t : ℕ) → t < size → get_or (reverse part) t d ≡ get_or raw (mirror size (line * size + t)) d
    each t h =
        get_or-reverse part t d (omega (arith, all))
        ∙ ap (λ (n : ℕ). get_or part (n - 1 - t) d) all
        ∙ ap (λ (l : List A). get_or l (size - 1 - t) d) e
        ∙ piece_get raw line size (size - 1 - t) d (omega arith)
        ∙ ap (λ (q : ℕ). get_or raw q d) (sym (mirror_at size line t h))

last_one : (s : List ℕ) (axis : ℕ) → axis + 1 ≡ length s → size_of (drop (suc axis) s) ≡ 1
last_one s axis h = ap size_of (drop_all (suc axis) s (omega arith))

-- an index list's place, and that of the index from the other end on the last axis
place_mirrored : (s i : List ℕ) (axis : ℕ) → is_within s i ≡ true → axis + 1 ≡ length s →
    position_in s (on_axis axis (λ k. get_or s axis 0 - 1 - k) i) ≡ mirror (get_or s axis 0) (position_in s i)
place_mirrored s i axis w h =
    let n : ℕ = get_or s axis 0 in
    let k : ℕ = get_or i axis 0 in
    let W : ℕ = size_of (drop (suc axis) s) in
    let p : ℕ = position_in (take axis s) (take axis i) in
    let j : ℕ = position_in (drop (suc axis) s) (drop (suc axis) i) in
    let one : W ≡ 1 = last_one s axis h in
    let within : axis < length s = omega arith in
    moved (position_in s (on_axis axis (λ k. n - 1 - k) i)) (position_in s i) k (n - 1 - k) n W p j one (behind_below s i (suc axis) w) (position_on s i axis (λ k. n - 1 - k) w within) (position_parts s i axis w within)
    ∙ sym (ap (mirror n) (there (position_in s i) k n W p j one (behind_below s i (suc axis) w) (position_parts s i axis w within)) ∙ mirror_at n p k (within_at_axis s i axis w within))
  where
    moved : (x q k r n W p j : ℕ) → W ≡ 1 → j < W → x + k * W ≡ q + r * W → q ≡ (p * n + k) * W + j → x ≡ p * n + r
    moved x q k r n W p j e h f g = omega (arith, ap (λ (m : ℕ). k * m) e, ap (λ (m : ℕ). r * m) e, ap (λ (m : ℕ). (p * n + k) * m) e)

    there : (q k n W p j : ℕ) → W ≡ 1 → j < W → q ≡ (p * n + k) * W + j → q ≡ p * n + k
    there q k n W p j e h g = omega (arith, ap (λ (m : ℕ). (p * n + k) * m) e)

picked_mirrored : (items : Items) (s : List ℕ) (place : List ℕ → ℕ) (size : ℕ) → length (cells_of items) ≡ size_of s → ((i : List ℕ) → is_within s i ≡ true → place i ≡ mirror size (position_in s i)) →
    picked items place (indices s) ≡ mirrored size items
picked_mirrored (Numbers zs) s place size e h = ap (λ l. Numbers l) (each_sourced zs (pos 0) s place (mirror size) (sym (length-map zs Num) ∙ e) h)
picked_mirrored (Characters cs) s place size e h = ap (λ l. Characters l) (each_sourced cs 0 s place (mirror size) (sym (length-map cs Char) ∙ e) h)

-- the last axis the other way, by places
pub reversed_last : (b : Arr) (axis n : ℕ) → axis + 1 ≡ length b.shape → length (cells_of b.items) ≡ size_of b.shape → n ≡ get_or b.shape axis 0 → record { shape = b.shape; items = mirrored n b.items } ≡ reversed axis b
reversed_last b axis n h full e =
    ap (λ (m : ℕ). record { shape = b.shape; items = mirrored m b.items }) e
    ∙ sym (ap (λ (t : Items). record { shape = b.shape; items = t })
    (picked_mirrored b.items b.shape (λ i. position_in b.shape (on_axis axis (λ k. get_or b.shape axis 0 - 1 - k) i)) (get_or b.shape axis 0) full (λ i w. place_mirrored b.shape i axis w h)))

-- as many elements as before
pub length-mirrored : (size : ℕ) (items : Items) → length (cells_of (mirrored size items)) ≡ length (cells_of items)
length-mirrored size (Numbers zs) =
    length-map (map (λ place. get_or zs (mirror size place) (pos 0)) (range_with_len 0 (length zs))) Num
    ∙ length-map (range_with_len 0 (length zs)) (λ place. get_or zs (mirror size place) (pos 0)) ∙ length-range_with_len 0 (length zs) ∙ sym (length-map zs Num)
length-mirrored size (Characters cs) =
    length-map (map (λ place. get_or cs (mirror size place) 0) (range_with_len 0 (length cs))) Char
    ∙ length-map (range_with_len 0 (length cs)) (λ place. get_or cs (mirror size place) 0) ∙ length-range_with_len 0 (length cs) ∙ sym (length-map cs Char)

-- so many lines, each as long as the last axis
pub whole_lines : (s : List ℕ) (axis p n t : ℕ) → axis + 1 ≡ length s → t ≡ size_of s → p ≡ size_of (take axis s) → n ≡ get_or s axis 0 → t ≡ p * n
whole_lines s axis p n t h e f g =
    whole_parts s axis p n 1 t (omega arith) e f g (sym (ap size_of (drop_all (axis + 1) s (omega arith)))) ∙ one p n
  where
    one : (p n : ℕ) → p * (n * 1) ≡ p * n
    one p n = omega arith
