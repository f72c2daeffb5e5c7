-- An array is a finite map from the index lists within its shape.
use Rattle.std.proofs.Common.{◌≡◌, ℕ, ℤ, ◌<◌, Bool, true, false, cond, List, [], ◌∷◌, map, length, Option, Some, None, IsSome, is_some, FitsSigned, refl, sym, ap, ◌∙◌, arith}
use Rattle.std.specs.Prelude.{slice_get, option_map}
use Rattle.std.specs.Int.{w64}
use Rattle.std.specs.List.{AllByRecursion, list_all}
use Rattle.std.proofs.lemmas.List.{length-map}
use Rattle.std.proofs.lemmas.List.Elements.{All-from_recursion}
use Rattle.std.proofs.lemmas.Option.{slice_get-get_or, slice_get-map}
use Rattle.apl_charset.specs.Set.{is_member}
use Rattle.apl_arrays.specs.declared.cell.Cell.{Cell}
use Rattle.apl_arrays.specs.declared.cell.Cell.TheVariants.{Num, Char}
use Rattle.apl_arrays.specs.Index.{indices, is_within, position_in, size_of}
use Rattle.apl_arrays.specs.Cells.{Arr, Items, Numbers, Characters, cell_at, cells_of}
use Rattle.apl_arrays.specs.Kinds.{are_numbers}
use Rattle.apl_arrays.proofs.Places.{position_in-lt}
use Rattle.apl_arrays.proofs.Order.{all_within, length-indices}
use Rattle.apl_arrays.proofs.InOrder.{in_order, map_same}
use Rattle.apl_arrays.proofs.AtPlace.{at_place}
use Rattle.apl_array_laws.specs.IndexLists.{LiesWithin}
use Rattle.apl_array_laws.specs.FiniteMaps.{AreEqual, HaveElements, HaveOneType, IsAnArray, NumbersAreArrays, TextsAreArrays, is_number}
use Rattle.apl_array_laws.proofs.Pairs.{all_map, all_so}
use Rattle.apl_array_laws.proofs.IndexLists.{lies, within}

-- ---- where elements are

found : (a : Arr) (i : List ℕ) → is_within a.shape i ≡ true → cell_at a i ≡ slice_get (cells_of a.items) (position_in a.shape i)
found a i w = ap (λ (b : Bool). cond b (slice_get (cells_of a.items) (position_in a.shape i)) None) w

some_there : (cells : List Cell) (p : ℕ) → p < length cells → is_some (slice_get cells p) ≡ true
some_there [] p h = absurd (omega arith)
some_there (c ∷ cells) p h = ap is_some (slice_get-get_or (c ∷ cells) p c h)

pub have_elements : HaveElements
have_elements a i h = (only_within, some_within)
  where
    by : (b : Bool) → is_within a.shape i ≡ b → IsSome (cell_at a i) → LiesWithin a.shape i
    by true w s = lies a.shape i w
    by false w s =
        let e : cell_at a i ≡ None = ap (λ (b : Bool). cond b (slice_get (cells_of a.items) (position_in a.shape i)) None) w in
        let n : is_some (cell_at a i) ≡ false = ap is_some e in
        absurd (cc)

    only_within : IsSome (cell_at a i) → LiesWithin a.shape i
    only_within = by (is_within a.shape i) refl

    some_within : LiesWithin a.shape i → IsSome (cell_at a i)
    some_within l =
        let w : is_within a.shape i ≡ true = within a.shape i l in
        ap is_some (found a i w) ∙ some_there (cells_of a.items) (position_in a.shape i) (omega (arith, position_in-lt a.shape i w, h.full))

-- ---- of one type

taken_number : (zs : List ℤ) (b : Bool) (p : ℕ) (c : Cell) → cond b (slice_get (map Num zs) p) None ≡ Some c → is_number c ≡ true
taken_number zs true p c e = of (slice_get zs p) (sym (slice_get-map Num zs p) ∙ e)
  where
    of : (o : Option ℤ) → option_map Num o ≡ Some c → is_number c ≡ true
    of None e = absurd (cc)
    of (Some z) e = let s : Num z ≡ c = cc in ap is_number (sym s)
taken_number zs false p c e = absurd (cc)

taken_character : (cs : List ℕ) (b : Bool) (p : ℕ) (c : Cell) → cond b (slice_get (map Char cs) p) None ≡ Some c → is_number c ≡ false
taken_character cs true p c e = of (slice_get cs p) (sym (slice_get-map Char cs p) ∙ e)
  where
    of : (o : Option ℕ) → option_map Char o ≡ Some c → is_number c ≡ false
    of None e = absurd (cc)
    of (Some d) e = let s : Char d ≡ c = cc in ap is_number (sym s)
taken_character cs false p c e = absurd (cc)

of_type : (s : List ℕ) (items : Items) (i : List ℕ) (c : Cell) → cond (is_within s i) (slice_get (cells_of items) (position_in s i)) None ≡ Some c → is_number c ≡ are_numbers items
of_type s (Numbers zs) i c e = taken_number zs (is_within s i) (position_in s i) c e
of_type s (Characters cs) i c e = taken_character cs (is_within s i) (position_in s i) c e

pub have_one_type : HaveOneType
have_one_type a i c e = of_type a.shape a.items i c e

-- ---- equal arrays

some_same : {A : Type 0} (xs ys : List A) → map Some xs ≡ map Some ys → xs ≡ ys
some_same [] [] e = refl
some_same [] (y ∷ ys) e = absurd (cc)
some_same (x ∷ xs) [] e = absurd (cc)
some_same {A = A} (x ∷ xs) (y ∷ ys) e =
    let o : Some x ≡ Some y = cc in
    let first : x ≡ y = cc in
    let l : map Some xs ≡ map Some ys = cc in
    let rest : xs ≡ ys = some_same xs ys l in
    λ i. first i ∷ rest i

numbers_same : (xs ys : List ℤ) → map Num xs ≡ map Num ys → xs ≡ ys
numbers_same [] [] e = refl
numbers_same [] (y ∷ ys) e = absurd (cc)
numbers_same (x ∷ xs) [] e = absurd (cc)
numbers_same (x ∷ xs) (y ∷ ys) e =
    let first : x ≡ y = cc in
    let l : map Num xs ≡ map Num ys = cc in
    let rest : xs ≡ ys = numbers_same xs ys l in
    λ i. first i ∷ rest i

characters_same : (xs ys : List ℕ) → map Char xs ≡ map Char ys → xs ≡ ys
characters_same [] [] e = refl
characters_same [] (y ∷ ys) e = absurd (cc)
characters_same (x ∷ xs) [] e = absurd (cc)
characters_same (x ∷ xs) (y ∷ ys) e =
    let first : x ≡ y = cc in
    let l : map Char xs ≡ map Char ys = cc in
    let rest : xs ≡ ys = characters_same xs ys l in
    λ i. first i ∷ rest i

items_same : (xs ys : Items) → are_numbers xs ≡ are_numbers ys → cells_of xs ≡ cells_of ys → xs ≡ ys
items_same (Numbers xs) (Numbers ys) t e = ap Numbers (numbers_same xs ys e)
items_same (Numbers xs) (Characters ys) t e = absurd (cc)
items_same (Characters xs) (Numbers ys) t e = absurd (cc)
items_same (Characters xs) (Characters ys) t e = ap Characters (characters_same xs ys e)

pub are_equal : AreEqual
are_equal a b h k s t same =
    let each : map (cell_at a) (indices a.shape) ≡ map (cell_at b) (indices a.shape) =
    map_same (λ i. is_within a.shape i ≡ true) (cell_at a) (cell_at b) (λ i w. same i (lies a.shape i w)) (indices a.shape) (all_within a.shape)
    in
    let cells : cells_of a.items ≡ cells_of b.items =
    some_same (cells_of a.items) (cells_of b.items) (sym (in_order a h.full) ∙ each ∙ ap (λ (n : List ℕ). map (cell_at b) (indices n)) s ∙ in_order b k.full)
    in
    let items : a.items ≡ b.items = items_same a.items b.items t cells in
    λ i. record { shape = s i; items = items i }

-- ---- each map is an array's

full_by : {A : Type 0} (s : List ℕ) (f : List ℕ → A) (as_cell : A → Cell) → length (map as_cell (map f (indices s))) ≡ size_of s
full_by s f as_cell = length-map (map f (indices s)) as_cell ∙ length-map (indices s) f ∙ length-indices s

there : {A : Type 0} (s : List ℕ) (f : List ℕ → A) (as_cell : A → Cell) (i : List ℕ) → is_within s i ≡ true → slice_get (map as_cell (map f (indices s))) (position_in s i) ≡ Some (as_cell (f i))
there s f as_cell i w =
    let p = position_in-lt s i w in
    let long = length-map (indices s) f in
    let size = length-indices s in
    slice_get-map as_cell (map f (indices s)) (position_in s i)
    ∙ ap (option_map as_cell) (slice_get-get_or (map f (indices s)) (position_in s i) (f i) (omega arith) ∙ ap Some (at_place f (f i) s i w))

abbrev of_numbers : List ℕ → (List ℕ → ℤ) → Arr
of_numbers s f = record { shape = s; items = Numbers (map f (indices s)) }

pub numbers_are_arrays : NumbersAreArrays
numbers_are_arrays s f l fits = (of_numbers s f, record { array = array; shape_is = refl; type_is = refl; elements = elements })
  where
    storable : AllByRecursion (λ z. FitsSigned w64 z) (map f (indices s))
    storable = all_map (λ z. FitsSigned w64 z) f (indices s) (all_so (λ i. is_within s i ≡ true) (λ i. FitsSigned w64 (f i)) (λ i w. fits i (lies s i w)) (indices s) (all_within s))

    array : IsAnArray (of_numbers s f)
    array = record { full = full_by s f Num; small = l.small; few_axes = l.few_axes; storable = All-from_recursion (λ z. FitsSigned w64 z) (map f (indices s)) storable }

    elements : (i : List ℕ) → LiesWithin s i → cell_at (of_numbers s f) i ≡ Some (Num (f i))
    elements i h = let w : is_within s i ≡ true = within s i h in found (of_numbers s f) i w ∙ there s f Num i w

all_members : (cs : List ℕ) → AllByRecursion (λ c. is_member c ≡ true) cs → list_all is_member cs ≡ true
all_members [] h = refl
all_members (c ∷ cs) h = rw (h.0) (all_members cs h.1)

abbrev of_characters : List ℕ → (List ℕ → ℕ) → Arr
of_characters s f = record { shape = s; items = Characters (map f (indices s)) }

pub texts_are_arrays : TextsAreArrays
texts_are_arrays s f l members = (of_characters s f, record { array = array; shape_is = refl; type_is = refl; elements = elements })
  where
    storable : AllByRecursion (λ c. is_member c ≡ true) (map f (indices s))
    storable = all_map (λ c. is_member c ≡ true) f (indices s) (all_so (λ i. is_within s i ≡ true) (λ i. is_member (f i) ≡ true) (λ i w. members i (lies s i w)) (indices s) (all_within s))

    array : IsAnArray (of_characters s f)
    array = record { full = full_by s f Char; small = l.small; few_axes = l.few_axes; storable = all_members (map f (indices s)) storable }

    elements : (i : List ℕ) → LiesWithin s i → cell_at (of_characters s f) i ≡ Some (Char (f i))
    elements i h = let w : is_within s i ≡ true = within s i h in found (of_characters s f) i w ∙ there s f Char i w
