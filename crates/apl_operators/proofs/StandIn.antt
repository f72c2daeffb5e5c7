-- Numbers that stand for elements.
use Rattle.std.proofs.Common.{◌≡◌, ℕ, ℤ, pos, ◌*◌, ◌/◌, ◌%◌, ◌<◌, Bool, false, nat_eq, List, [], map, length, get_or, replicate, Some, Err, ap, sym, ◌∙◌, arith}
use Rattle.std.specs.List.{range_with_len}
use Rattle.std.proofs.lemmas.List.{length-map, get_or-map, length-replicate, get_or-replicate}
use Rattle.apl_faults.specs.declared.fault.Fault.TheVariants.{Domain}
use Rattle.apl_arrays.specs.declared.cell.Cell.{Cell}
use Rattle.apl_arrays.specs.declared.cell.Cell.TheVariants.{Num, Char}
use Rattle.apl_arrays.specs.Cells.{Items, Numbers, Characters, cells_of}
use Rattle.apl_arrays.specs.Results.{all_ok}
use Rattle.apl_arrays.proofs.InTurn.{turns_same}
use Rattle.apl_arrays.proofs.Nth.{row_below, rest_below}
use Rattle.apl_scalar.specs.declared.function.Dyadic.{Dyadic}
use Rattle.apl_scalar.specs.Functions.{dyadic_of}
use Rattle.apl_scalar.specs.Extension.{dyadic_at, compared}
use Rattle.apl_operators.specs.Places.{cell_of, cells_met, crossed, crossed_cells}
use Rattle.apl_operators.specs.inside.Standing.{Stand}
use Rattle.apl_folds.proofs.Faults.{first_fault}

number_cell : (zs : List ℤ) (i : ℕ) → i < length zs → cell_of (Numbers zs) i ≡ Num (get_or zs i (pos 0))
number_cell zs i h = get_or-map Num zs i (pos 0) (Num (pos 0)) h

character_cell : (cs : List ℕ) (i : ℕ) → i < length cs → cell_of (Characters cs) i ≡ Char (get_or cs i 0)
character_cell cs i h = get_or-map Char cs i 0 (Num (pos 0)) h

two_cells : (g : Dyadic) (a b : Items) (i j : ℕ) (c d : Cell) → cell_of a i ≡ c → cell_of b j ≡ d → cells_met g a b i j ≡ dyadic_at g (Some c) (Some d)
two_cells g a b i j c d e f = ap (λ (x : Cell). dyadic_at g (Some x) (Some (cell_of b j))) e ∙ ap (λ (y : Cell). dyadic_at g (Some c) (Some y)) f

-- numbers stand for themselves
pub numbers_stand : (g : Dyadic) (zs ws : List ℤ) → Stand g (Numbers zs) (Numbers ws) zs ws
numbers_stand g zs ws = record {
  left = sym (length-map zs Num);
  right = sym (length-map ws Num);
  values = λ i j h k. two_cells g (Numbers zs) (Numbers ws) i j (Num (get_or zs i (pos 0))) (Num (get_or ws j (pos 0))) (number_cell zs i h) (number_cell ws j k);
}

-- codes stand for characters
pub codes_stand : (g : Dyadic) (cs ds : List ℕ) (xs ys : List ℤ) → ((c d : ℕ) → compared g (nat_eq c d) ≡ dyadic_of g (pos c) (pos d)) → xs ≡ map pos cs → ys ≡ map pos ds → Stand g (Characters cs) (Characters ds) xs ys
codes_stand g cs ds xs ys each e f = rw (e, f) (record {
  left = length-map cs pos ∙ sym (length-map cs Char);
  right = length-map ds pos ∙ sym (length-map ds Char);
  values = λ i j h k.
      let l : i < length cs = omega (arith, length-map cs pos) in
      let m : j < length ds = omega (arith, length-map ds pos) in
      two_cells g (Characters cs) (Characters ds) i j (Char (get_or cs i 0)) (Char (get_or ds j 0)) (character_cell cs i l) (character_cell ds j m)
      ∙ each (get_or cs i 0) (get_or ds j 0)
      ∙ ap (λ (x : ℤ). dyadic_of g x (pos (get_or ds j 0))) (sym (get_or-map pos cs i 0 (pos 0) l))
      ∙ ap (λ (y : ℤ). dyadic_of g (get_or (map pos cs) i (pos 0)) y) (sym (get_or-map pos ds j 0 (pos 0) m));
})

unlike : (g : Dyadic) (a b : Items) (m n : ℕ) → ((c d : ℕ) → compared g (nat_eq c d) ≡ dyadic_of g (pos c) (pos d)) → m ≡ length (cells_of a) → n ≡ length (cells_of b) →
    ((i j : ℕ) → i < length (cells_of a) → j < length (cells_of b) → cells_met g a b i j ≡ compared g false) → Stand g a b (replicate m (pos 0)) (replicate n (pos 1))
unlike g a b m n each e f met = record {
  left = length-replicate m (pos 0) ∙ e;
  right = length-replicate n (pos 1) ∙ f;
  values = λ i j h k.
      let l : i < m = omega (arith, length-replicate m (pos 0)) in
      let o : j < n = omega (arith, length-replicate n (pos 1)) in
      met i j (omega arith) (omega arith) ∙ each 0 1
      ∙ ap (λ (x : ℤ). dyadic_of g x (pos 1)) (sym (get_or-replicate m i (pos 0) (pos 0) l))
      ∙ ap (λ (y : ℤ). dyadic_of g (get_or (replicate m (pos 0)) i (pos 0)) y) (sym (get_or-replicate n j (pos 1) (pos 0) o));
}

number_and_character : (g : Dyadic) (zs : List ℤ) (cs : List ℕ) (i j : ℕ) → i < length (map Num zs) → j < length (map Char cs) → cells_met g (Numbers zs) (Characters cs) i j ≡ compared g false
number_and_character g zs cs i j h k =
    two_cells g (Numbers zs) (Characters cs) i j (Num (get_or zs i (pos 0))) (Char (get_or cs j 0)) (number_cell zs i (omega (arith, length-map zs Num))) (character_cell cs j (omega (arith, length-map cs Char)))

character_and_number : (g : Dyadic) (cs : List ℕ) (zs : List ℤ) (i j : ℕ) → i < length (map Char cs) → j < length (map Num zs) → cells_met g (Characters cs) (Numbers zs) i j ≡ compared g false
character_and_number g cs zs i j h k =
    two_cells g (Characters cs) (Numbers zs) i j (Char (get_or cs i 0)) (Num (get_or zs j (pos 0))) (character_cell cs i (omega (arith, length-map cs Char))) (number_cell zs j (omega (arith, length-map zs Num)))

-- numbers apart stand for elements of two types
pub apart_from_characters : (g : Dyadic) (zs : List ℤ) (cs : List ℕ) (xs ys : List ℤ) → ((c d : ℕ) → compared g (nat_eq c d) ≡ dyadic_of g (pos c) (pos d)) → xs ≡ replicate (length zs) (pos 0) → ys ≡ replicate (length cs) (pos 1) →
    Stand g (Numbers zs) (Characters cs) xs ys
apart_from_characters g zs cs xs ys each e f = rw (e, f) (unlike g (Numbers zs) (Characters cs) (length zs) (length cs) each (sym (length-map zs Num)) (sym (length-map cs Char)) (number_and_character g zs cs))

pub apart_from_numbers : (g : Dyadic) (cs : List ℕ) (zs : List ℤ) (xs ys : List ℤ) → ((c d : ℕ) → compared g (nat_eq c d) ≡ dyadic_of g (pos c) (pos d)) → xs ≡ replicate (length cs) (pos 0) → ys ≡ replicate (length zs) (pos 1) →
    Stand g (Characters cs) (Numbers zs) xs ys
apart_from_numbers g cs zs xs ys each e f = rw (e, f) (unlike g (Characters cs) (Numbers zs) (length cs) (length zs) each (sym (length-map cs Char)) (sym (length-map zs Num)) (character_and_number g cs zs))

-- where a function takes no characters, they are at fault with each element
pub fails_beside_numbers : (g : Dyadic) (zs : List ℤ) (cs : List ℕ) → ((same : Bool) → compared g same ≡ Err Domain) → (i j : ℕ) → i < length (map Num zs) → j < length (map Char cs) → cells_met g (Numbers zs) (Characters cs) i j ≡ Err Domain
fails_beside_numbers g zs cs each i j h k = number_and_character g zs cs i j h k ∙ each false

pub fails_beside_characters : (g : Dyadic) (cs : List ℕ) (b : Items) → ((same : Bool) → compared g same ≡ Err Domain) → (i j : ℕ) → i < length (map Char cs) → j < length (cells_of b) → cells_met g (Characters cs) b i j ≡ Err Domain
fails_beside_characters g cs (Numbers zs) each i j h k = character_and_number g cs zs i j h k ∙ each false
fails_beside_characters g cs (Characters ds) each i j h k =
    two_cells g (Characters cs) (Characters ds) i j (Char (get_or cs i 0)) (Char (get_or ds j 0)) (character_cell cs i (omega (arith, length-map cs Char))) (character_cell ds j (omega (arith, length-map ds Char)))
    ∙ each (nat_eq (get_or cs i 0) (get_or ds j 0))

-- so a function of each element with each is that of the numbers
pub crossed_by_numbers : (g : Dyadic) (a b : Items) (xs ys : List ℤ) → Stand g a b xs ys →
    all_ok (crossed_cells g a b) (range_with_len 0 (length (cells_of a) * length (cells_of b))) ≡ all_ok (crossed (dyadic_of g) xs ys) (range_with_len 0 (length xs * length ys))
crossed_by_numbers g a b xs ys s =
    turns_same (crossed_cells g a b) (crossed (dyadic_of g) xs ys) (length (cells_of a) * length (cells_of b))
    (λ r h.
    let l : r < length xs * length ys = rw (s.left, s.right) h in
    ap (λ (n : ℕ). cells_met g a b (r / n) (r % n)) (sym s.right) ∙ s.values (r / length ys) (r % length ys) (row_below (length xs) (length ys) r l) (rest_below (length xs) (length ys) r l))
    ∙ ap (λ (n : ℕ). all_ok (crossed (dyadic_of g) xs ys) (range_with_len 0 n)) (ap (λ m. m * length (cells_of b)) (sym s.left) ∙ ap (λ n. length xs * n) (sym s.right))

pub crossed_fails : (g : Dyadic) (a b : Items) → ((i j : ℕ) → i < length (cells_of a) → j < length (cells_of b) → cells_met g a b i j ≡ Err Domain) → 0 < length (cells_of a) * length (cells_of b) →
    all_ok (crossed_cells g a b) (range_with_len 0 (length (cells_of a) * length (cells_of b))) ≡ Err Domain
crossed_fails g a b each some =
    first_fault (crossed_cells g a b) [] Domain 0 (length (cells_of a) * length (cells_of b)) some (λ j h. absurd (omega arith))
    (each (0 / length (cells_of b)) (0 % length (cells_of b)) (row_below (length (cells_of a)) (length (cells_of b)) 0 some) (rest_below (length (cells_of a)) (length (cells_of b)) 0 some))
