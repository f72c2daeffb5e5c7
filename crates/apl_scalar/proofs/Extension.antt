-- What extension does to places.
use Rattle.std.proofs.Common.{get_or, pos, map, ◌≡◌, ◌≢◌, ℕ, ℤ, ◌<◌, Bool, true, false, nat_eq, cond, List, [], ◌∷◌, length, Option, Some, None, Result, Ok, Err, refl, ap, sym, subst, ◌∙◌, arith}
use Rattle.std.specs.Prelude.{slice_get}
use Rattle.std.specs.List.{range_with_len}
use Rattle.std.specs.Option.{option_map}
use Rattle.std.proofs.lemmas.Bool.{eqb-true, eq-eqb}
use Rattle.std.proofs.lemmas.Option.{slice_get-map, slice_get-get_or}
use Rattle.std.proofs.lemmas.List.{length-map}
use Rattle.std.proofs.Math.ListN.{get_or-map}
use Rattle.apl_faults.specs.declared.fault.Fault.{Fault}
use Rattle.apl_faults.specs.declared.fault.Fault.TheVariants.{Domain, Length, Rank}
use Rattle.apl_arrays.specs.declared.cell.Cell.{Cell}
use Rattle.apl_arrays.specs.declared.cell.Cell.TheVariants.{Num, Char}
use Rattle.apl_arrays.specs.Index.{size_of, indices, is_within, position_in}
use Rattle.apl_arrays.specs.Cells.{Arr, Items, Numbers, Characters, cells_of, cell_at}
use Rattle.apl_arrays.specs.Results.{all_ok, and_then, ok_map}
use Rattle.apl_arrays.proofs.InTurn.{all_ok-same}
use Rattle.apl_arrays.proofs.Order.{by_places, all_within, all_ok-fault}
use Rattle.apl_arrays.proofs.Places.{both, position_in-lt}
use Rattle.apl_scalar.specs.declared.function.Monadic.{Monadic}
use Rattle.apl_scalar.specs.declared.function.Dyadic.{Dyadic}
use Rattle.apl_scalar.specs.Functions.{monadic_of, dyadic_of}
use Rattle.apl_scalar.specs.Operands.{Shown, Same, Each, number_at, character_at, Shows, AreCharacters}
use Rattle.apl_arrays.specs.Checks.{is_single, same}
use Rattle.apl_scalar.specs.Extension.{extended, operand_at, monadic_at, compared, dyadic_at, numbers_in, dyadic}

num_at : (zs : List ℤ) (k : ℕ) → k < length zs → slice_get (map Num zs) k ≡ Some (Num (get_or zs k (pos 0)))
num_at zs k h = slice_get-map Num zs k ∙ ap (option_map Num) (slice_get-get_or zs k (pos 0) h)

not_one : (n : ℕ) → n ≢ 1 → nat_eq n 1 ≡ false
not_one n h = cases (nat_eq n 1) (λ e. h (eqb-true n 1 e))
  where
    cases : (b : Bool) → b ≢ true → b ≡ false
    cases true g = absurd (g refl)
    cases false g = refl

many_cells : (items : Items) (zs : List ℤ) (n : ℕ) → length (cells_of items) ≡ n → items ≡ Numbers zs → length zs ≡ n
many_cells items zs n full e = sym (length-map zs Num) ∙ (sym (ap (λ (t : Items). length (cells_of t)) e) ∙ full)

-- an operand's number for the place of each index list of the result
shown_there : (a : Arr) (s i : List ℕ) (x : Shown) → length (cells_of a.items) ≡ size_of a.shape → (is_single a.shape ≡ false → a.shape ≡ s) → Shows x a.items → is_within s i ≡ true →
    operand_at a i ≡ Some (Num (number_at x (position_in s i)))
shown_there a s i (Same z) full fits e w =
    ap (λ (b : Bool). cond b (slice_get (cells_of a.items) 0) (cell_at a i)) (eq-eqb (size_of a.shape) 1 (sym full ∙ ap (λ (t : Items). length (cells_of t)) e))
    ∙ ap (λ (t : Items). slice_get (cells_of t) 0) e
shown_there a s i (Each zs) full fits e w =
    let size : length zs ≡ size_of a.shape = many_cells a.items zs (size_of a.shape) full e.0 in
    let many : is_single a.shape ≡ false = not_one (size_of a.shape) (λ h. e.1 (size ∙ h)) in
    let same : length zs ≡ size_of s = size ∙ ap size_of (fits many) in
    ap (λ (b : Bool). cond b (slice_get (cells_of a.items) 0) (cell_at a i)) many
    ∙ ap (λ (t : List ℕ). cond (is_within t i) (slice_get (cells_of a.items) (position_in t i)) None) (fits many)
    ∙ ap (λ (b : Bool). cond b (slice_get (cells_of a.items) (position_in s i)) None) w
    ∙ ap (λ (t : Items). slice_get (cells_of t) (position_in s i)) e.0
    ∙ num_at zs (position_in s i) (omega (arith, position_in-lt s i w))

pub shows_along : (x : Shown) (t : Items) (zs : List ℤ) → t ≡ Numbers zs → Shows x (Numbers zs) → Shows x t
shows_along x t zs e h = let P : Items → Type 0 = λ t. Shows x t in subst P (sym e) h

-- two operands of numbers
pub by_operands : (f : Dyadic) (a b : Arr) (s : List ℕ) (x y : Shown) → length (cells_of a.items) ≡ size_of a.shape → length (cells_of b.items) ≡ size_of b.shape →
    (is_single a.shape ≡ false → a.shape ≡ s) → (is_single b.shape ≡ false → b.shape ≡ s) → Shows x a.items → Shows y b.items →
    all_ok (λ i. dyadic_at f (operand_at a i) (operand_at b i)) (indices s) ≡ all_ok (λ k. dyadic_of f (number_at x k) (number_at y k)) (range_with_len 0 (size_of s))
by_operands f a b s x y full_a full_b fits_a fits_b shows_a shows_b =
    all_ok-same (λ i. is_within s i ≡ true) (λ i. dyadic_at f (operand_at a i) (operand_at b i)) (λ i. dyadic_of f (number_at x (position_in s i)) (number_at y (position_in s i)))
    (λ i w. ap (λ (o : Option Cell). dyadic_at f o (operand_at b i)) (shown_there a s i x full_a fits_a shows_a w)
    ∙ ap (dyadic_at f (Some (Num (number_at x (position_in s i))))) (shown_there b s i y full_b fits_b shows_b w))
    (indices s) (all_within s)
    ∙ by_places s (λ k. dyadic_of f (number_at x k) (number_at y k))

-- one operand of numbers
pub by_numbers : (f : Monadic) (b : Arr) (zs : List ℤ) (n : ℕ) → length (cells_of b.items) ≡ size_of b.shape → b.items ≡ Numbers zs → n ≡ length zs →
    all_ok (λ i. monadic_at f (cell_at b i)) (indices b.shape) ≡ all_ok (λ k. monadic_of f (get_or zs k (pos 0))) (range_with_len 0 n)
by_numbers f b zs n full e count =
    all_ok-same (λ i. is_within b.shape i ≡ true) (λ i. monadic_at f (cell_at b i)) (λ i. monadic_of f (get_or zs (position_in b.shape i) (pos 0)))
    (λ i w. ap (λ (t : Bool). monadic_at f (cond t (slice_get (cells_of b.items) (position_in b.shape i)) None)) w
    ∙ ap (λ (t : Items). monadic_at f (slice_get (cells_of t) (position_in b.shape i))) e
    ∙ ap (monadic_at f) (num_at zs (position_in b.shape i) (omega (arith, position_in-lt b.shape i w, many_cells b.items zs (size_of b.shape) full e))))
    (indices b.shape) (all_within b.shape)
    ∙ by_places b.shape (λ k. monadic_of f (get_or zs k (pos 0)))
    ∙ ap (λ (m : ℕ). all_ok (λ k. monadic_of f (get_or zs k (pos 0))) (range_with_len 0 m)) (sym (many_cells b.items zs (size_of b.shape) full e) ∙ sym count)

-- the element of an operand for the place of each index list of the result
element_there : (a : Arr) (s i : List ℕ) (d : Cell) → length (cells_of a.items) ≡ size_of a.shape → (is_single a.shape ≡ false → a.shape ≡ s) → is_within s i ≡ true →
    operand_at a i ≡ Some (get_or (cells_of a.items) (cond (is_single a.shape) 0 (position_in s i)) d)
element_there a s i d full fits w = each (is_single a.shape) refl
  where
    each : (b : Bool) → is_single a.shape ≡ b → operand_at a i ≡ Some (get_or (cells_of a.items) (cond (is_single a.shape) 0 (position_in s i)) d)
    each true e =
        ap (λ (b : Bool). cond b (slice_get (cells_of a.items) 0) (cell_at a i)) e
        ∙ slice_get-get_or (cells_of a.items) 0 d (omega (arith, eqb-true (size_of a.shape) 1 e, full))
        ∙ ap (λ (b : Bool). Some (get_or (cells_of a.items) (cond b 0 (position_in s i)) d)) (sym e)
    each false e =
        ap (λ (b : Bool). cond b (slice_get (cells_of a.items) 0) (cell_at a i)) e
        ∙ ap (λ (t : List ℕ). cond (is_within t i) (slice_get (cells_of a.items) (position_in t i)) None) (fits e)
        ∙ ap (λ (b : Bool). cond b (slice_get (cells_of a.items) (position_in s i)) None) w
        ∙ slice_get-get_or (cells_of a.items) (position_in s i) d (omega (arith, position_in-lt s i w, full, ap size_of (fits e)))
        ∙ ap (λ (b : Bool). Some (get_or (cells_of a.items) (cond b 0 (position_in s i)) d)) (sym e)

number_there : (a : Arr) (s i : List ℕ) (zs : List ℤ) → a.items ≡ Numbers zs → length (cells_of a.items) ≡ size_of a.shape → (is_single a.shape ≡ false → a.shape ≡ s) → is_within s i ≡ true →
    operand_at a i ≡ Some (Num (get_or zs (cond (is_single a.shape) 0 (position_in s i)) (pos 0)))
number_there a s i zs e full fits w =
    element_there a s i (Num (pos 0)) full fits w
    ∙ ap (λ (t : Items). Some (get_or (cells_of t) (cond (is_single a.shape) 0 (position_in s i)) (Num (pos 0)))) e
    ∙ ap (λ (c : Cell). Some c) (get_or-map Num zs (cond (is_single a.shape) 0 (position_in s i)) (pos 0))

character_there : (a : Arr) (s i : List ℕ) (cs : List ℕ) → a.items ≡ Characters cs → length (cells_of a.items) ≡ size_of a.shape → (is_single a.shape ≡ false → a.shape ≡ s) → is_within s i ≡ true →
    operand_at a i ≡ Some (Char (character_at cs (position_in s i)))
character_there a s i cs e full fits w =
    element_there a s i (Char 0) full fits w
    ∙ ap (λ (t : Items). Some (get_or (cells_of t) (cond (is_single a.shape) 0 (position_in s i)) (Char 0))) e
    ∙ ap (λ (c : Cell). Some c) (get_or-map Char cs (cond (is_single a.shape) 0 (position_in s i)) 0)
    ∙ ap (λ (n : ℕ). Some (Char (get_or cs (cond (nat_eq n 1) 0 (position_in s i)) 0))) (sym full ∙ ap (λ (t : Items). length (cells_of t)) e ∙ length-map cs Char)

-- two operands of characters
pub by_characters : (f : Dyadic) (a b : Arr) (s cs ds : List ℕ) → a.items ≡ Characters cs → b.items ≡ Characters ds → length (cells_of a.items) ≡ size_of a.shape → length (cells_of b.items) ≡ size_of b.shape →
    (is_single a.shape ≡ false → a.shape ≡ s) → (is_single b.shape ≡ false → b.shape ≡ s) →
    all_ok (λ i. dyadic_at f (operand_at a i) (operand_at b i)) (indices s) ≡ all_ok (λ k. compared f (nat_eq (character_at cs k) (character_at ds k))) (range_with_len 0 (size_of s))
by_characters f a b s cs ds e_a e_b full_a full_b fits_a fits_b =
    all_ok-same (λ i. is_within s i ≡ true) (λ i. dyadic_at f (operand_at a i) (operand_at b i)) (λ i. compared f (nat_eq (character_at cs (position_in s i)) (character_at ds (position_in s i))))
    (λ i w. ap (λ (o : Option Cell). dyadic_at f o (operand_at b i)) (character_there a s i cs e_a full_a fits_a w)
    ∙ ap (dyadic_at f (Some (Char (character_at cs (position_in s i))))) (character_there b s i ds e_b full_b fits_b w))
    (indices s) (all_within s)
    ∙ by_places s (λ k. compared f (nat_eq (character_at cs k) (character_at ds k)))

-- an operand of numbers and one of characters
pub by_number_and_character : (f : Dyadic) (a b : Arr) (s : List ℕ) (zs : List ℤ) (cs : List ℕ) → a.items ≡ Numbers zs → b.items ≡ Characters cs → length (cells_of a.items) ≡ size_of a.shape → length (cells_of b.items) ≡ size_of b.shape →
    (is_single a.shape ≡ false → a.shape ≡ s) → (is_single b.shape ≡ false → b.shape ≡ s) →
    all_ok (λ i. dyadic_at f (operand_at a i) (operand_at b i)) (indices s) ≡ all_ok (λ k. compared f false) (range_with_len 0 (size_of s))
by_number_and_character f a b s zs cs e_a e_b full_a full_b fits_a fits_b =
    all_ok-same (λ i. is_within s i ≡ true) (λ i. dyadic_at f (operand_at a i) (operand_at b i)) (λ i. compared f false)
    (λ i w. ap (λ (o : Option Cell). dyadic_at f o (operand_at b i)) (number_there a s i zs e_a full_a fits_a w)
    ∙ ap (dyadic_at f (Some (Num (get_or zs (cond (is_single a.shape) 0 (position_in s i)) (pos 0))))) (character_there b s i cs e_b full_b fits_b w))
    (indices s) (all_within s)
    ∙ by_places s (λ k. compared f false)

pub by_character_and_number : (f : Dyadic) (a b : Arr) (s : List ℕ) (cs : List ℕ) (zs : List ℤ) → a.items ≡ Characters cs → b.items ≡ Numbers zs → length (cells_of a.items) ≡ size_of a.shape → length (cells_of b.items) ≡ size_of b.shape →
    (is_single a.shape ≡ false → a.shape ≡ s) → (is_single b.shape ≡ false → b.shape ≡ s) →
    all_ok (λ i. dyadic_at f (operand_at a i) (operand_at b i)) (indices s) ≡ all_ok (λ k. compared f false) (range_with_len 0 (size_of s))
by_character_and_number f a b s cs zs e_a e_b full_a full_b fits_a fits_b =
    all_ok-same (λ i. is_within s i ≡ true) (λ i. dyadic_at f (operand_at a i) (operand_at b i)) (λ i. compared f false)
    (λ i w. ap (λ (o : Option Cell). dyadic_at f o (operand_at b i)) (character_there a s i cs e_a full_a fits_a w)
    ∙ ap (dyadic_at f (Some (Char (character_at cs (position_in s i))))) (number_there b s i zs e_b full_b fits_b w))
    (indices s) (all_within s)
    ∙ by_places s (λ k. compared f false)

-- no element is a number
abbrev NoNumber : Option Cell → Type 0
NoNumber (Some (Num z)) = ⊥
NoNumber (Some (Char c)) = Unit {0}
NoNumber None = Unit {0}

no_number_got : (items : Items) (k : ℕ) → AreCharacters items → NoNumber (slice_get (cells_of items) k)
no_number_got (Numbers zs) k h = absurd h
no_number_got (Characters cs) k h = rw (slice_get-map Char cs k) (each (slice_get cs k))
  where
    each : (o : Option ℕ) → NoNumber (option_map Char o)
    each (Some c) = tt
    each None = tt

either_way : (b : Bool) (x y : Option Cell) → NoNumber x → NoNumber y → NoNumber (cond b x y)
either_way true x y p q = p
either_way false x y p q = q

pub no_number_there : (a : Arr) (i : List ℕ) → AreCharacters a.items → NoNumber (cell_at a i)
no_number_there a i h = either_way (is_within a.shape i) _ None (no_number_got a.items (position_in a.shape i) h) tt

no_only : (f : Monadic) (y : Option Cell) → NoNumber y → monadic_at f y ≡ Err Domain
no_only f (Some (Num z)) h = absurd h
no_only f (Some (Char c)) h = refl
no_only f None h = refl

-- characters where numbers are needed are at fault from the first element on
pub only_characters : (f : Monadic) (b : Arr) → AreCharacters b.items → 0 < size_of b.shape → all_ok (λ i. monadic_at f (cell_at b i)) (indices b.shape) ≡ Err Domain
only_characters f b h some = all_ok-fault b.shape _ Domain some (λ i. no_only f (cell_at b i) (no_number_there b i h))

abbrev ok_shape : List ℕ → Result (List ℕ) Fault
ok_shape s = Ok s

-- where the result has the first operand's shape, the second one has it too or is single
pub first_shape : (s t : List ℕ) → extended s t ≡ Ok s → is_single t ≡ false → t ≡ s
first_shape s t e f = first (is_single s) (nat_eq (length s) (length t)) (same s t) s t (λ h. same_is s t h) (rw f at e)
  where
    same_is : (s t : List ℕ) → same s t ≡ true → t ≡ s
    same_is [] [] h = refl
    same_is [] (n ∷ ns) h = absurd (cc)
    same_is (m ∷ ms) [] h = absurd (cc)
    same_is (m ∷ ms) (n ∷ ns) h = let p = both (nat_eq m n) (same ms ns) h in
        ap (λ x. x ∷ ns) (sym (eqb-true m n p.0)) ∙ ap (λ l. m ∷ l) (same_is ms ns p.1)

    first : (b r q : Bool) (s t : List ℕ) → (q ≡ true → t ≡ s) → cond b (ok_shape t) (cond r (cond q (Ok s) (Err Length)) (Err Rank)) ≡ Ok s → t ≡ s
    first true r q s t g e = cc
    first false true true s t g e = g refl
    first false true false s t g e = absurd (cc)
    first false false q s t g e = absurd (cc)

-- the whole definition, where the shape of the result is known
pub dyadic_in_shape : (f : Dyadic) (a b : Arr) (s : List ℕ) → extended a.shape b.shape ≡ Ok s →
    ok_map (numbers_in s) (all_ok (λ i. dyadic_at f (operand_at a i) (operand_at b i)) (indices s)) ≡ dyadic f a b
dyadic_in_shape f a b s e = sym (ap (λ r. and_then r (λ s. ok_map (numbers_in s) (all_ok (λ i. dyadic_at f (operand_at a i) (operand_at b i)) (indices s)))) e)
