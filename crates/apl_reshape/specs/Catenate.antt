-- Two arrays joined along an axis.
use Rattle.std.specs.Prelude.{ℕ, ℤ, pos, ◌+◌, ◌-◌, ◌==◌, nat_lt, max, List, [], ◌∷◌, map, length, slice_index_or}
use Rattle.std.specs.Prelude.{if◌then◌else◌, Option, None, Some, Result, Ok, Err}
use Rattle.apl_faults.specs.declared.fault.Fault.{Fault}
use Rattle.apl_faults.specs.declared.fault.Fault.TheVariants.{Domain, Rank, Length}
use Rattle.apl_arrays.specs.declared.axis_choice.Along.{Along}
use Rattle.apl_arrays.specs.Along.{axis_along}
use Rattle.apl_arrays.specs.Axes.{without, inserted}
use Rattle.apl_arrays.specs.Index.{indices, position_in}
use Rattle.apl_arrays.specs.Cells.{Arr, Items, Numbers, Characters}
use Rattle.apl_arrays.specs.Views.{on_axis}
use Rattle.apl_arrays.specs.Results.{and_then, ok_map}
use Rattle.apl_arrays.specs.Checks.{demand, limited, same}

-- the elements of two operands, of one type
pub data Both : Type 0 where
  BothNumbers : List ℤ → List ℤ → Both
  BothCharacters : List ℕ → List ℕ → Both

-- an empty operand takes the other's type, two empty ones the second's; else two types are a domain fault
abbrev pub of_one_type : Items → Items → Result Both Fault
of_one_type (Numbers xs) (Numbers ys) = Ok (BothNumbers xs ys)
of_one_type (Characters xs) (Characters ys) = Ok (BothCharacters xs ys)
of_one_type (Numbers []) (Characters ys) = Ok (BothCharacters [] ys)
of_one_type (Numbers (x ∷ xs)) (Characters []) = Ok (BothNumbers (x ∷ xs) [])
of_one_type (Numbers (x ∷ xs)) (Characters (y ∷ ys)) = Err Domain
of_one_type (Characters []) (Numbers ys) = Ok (BothNumbers [] ys)
of_one_type (Characters (x ∷ xs)) (Numbers []) = Ok (BothCharacters (x ∷ xs) [])
of_one_type (Characters (x ∷ xs)) (Numbers (y ∷ ys)) = Err Domain

-- the shape of an operand beside one of shape t: a scalar extends over the other axes, and a rank lower by 1 gets the axis, each as length 1
abbrev pub beside : ℕ → List ℕ → List ℕ → List ℕ
beside axis [] [] = 1 ∷ []
beside axis [] (n ∷ t) = on_axis axis (λ n. 1) (n ∷ t)
beside axis (m ∷ s) t = if length (m ∷ s) + 1 == length t then inserted axis 1 (m ∷ s) else m ∷ s

-- the axis along which they are joined: two scalars are joined as vectors
abbrev pub joining_axis : Option ℕ → ℕ
joining_axis None = 0
joining_axis (Some axis) = axis

-- the place in an operand's ravel of an index list of its part: a scalar's one element serves for all
abbrev pub place_in : List ℕ → List ℕ → List ℕ → ℕ
place_in [] s i = 0
place_in (m ∷ own) s i = position_in s i

-- the element at an index list: the first operand's, or the second's behind it
abbrev pub joined_at : {A : Type 0} → ℕ → ℕ → (List ℕ → ℕ) → (List ℕ → ℕ) → A → List A → List A → List ℕ → A
joined_at axis n first second d xs ys i =
    if nat_lt (slice_index_or i axis 0) n then slice_index_or xs (first i) d else slice_index_or ys (second (on_axis axis (λ k. k - n) i)) d

abbrev pub joined_items : ℕ → ℕ → (List ℕ → ℕ) → (List ℕ → ℕ) → Both → List (List ℕ) → Items
joined_items axis n first second (BothNumbers xs ys) is = Numbers (map (joined_at axis n first second (pos 0) xs ys) is)
joined_items axis n first second (BothCharacters xs ys) is = Characters (map (joined_at axis n first second 0 xs ys) is)

-- the shape of both together
abbrev pub joined_shape : ℕ → List ℕ → List ℕ → List ℕ
joined_shape axis s t = on_axis axis (λ n. n + slice_index_or t axis 0) s

-- both together, in this shape
abbrev pub joined_array : ℕ → List ℕ → List ℕ → Arr → Arr → Both → List ℕ → Arr
joined_array axis s t a b both shape =
    let items = joined_items axis (slice_index_or s axis 0) (place_in a.shape s) (place_in b.shape t) both (indices shape) in
    record { shape = shape; items = items }

-- operands that take part with these lengths
abbrev pub joined_of : ℕ → List ℕ → List ℕ → Arr → Arr → Result Arr Fault
joined_of axis s t a b = and_then (of_one_type a.items b.items) (λ both. ok_map (joined_array axis s t a b both) (limited (joined_shape axis s t)))

-- operands joined along an axis: they take part with as many axes, of which all others are equal
abbrev pub joined_on : ℕ → Arr → Arr → Result Arr Fault
joined_on axis a b = let s = beside axis a.shape b.shape in let t = beside axis b.shape a.shape in
    and_then (demand (length s == length t) Rank) (λ ok.
    and_then (demand (same (without axis s) (without axis t)) Length) (λ ok.
    joined_of axis s t a b))

abbrev pub catenated : Along → ℕ → Arr → Arr → Result Arr Fault
catenated along origin a b = and_then (axis_along along (max (length a.shape) (length b.shape)) origin) (λ named. joined_on (joining_axis named) a b)
