-- Shapes without an axis.
use Rattle.std.proofs.Common.{suc, zero, ◌≡◌, ℕ, ◌*◌, ◌<◌, ◌≤◌, List, [], ◌∷◌, length, get_or, max, ap, sym, ◌∙◌, arith, Result, Ok}
use Rattle.std.proofs.Math.Nat.{mul-le-mul_left, mul-le-mul_right}
use Rattle.apl_arrays.specs.Axes.{without}
use Rattle.apl_arrays.specs.Index.{size_of, bound_of}
use Rattle.apl_faults.specs.declared.fault.Fault.{Fault}
use Rattle.apl_arrays.specs.declared.strided.Strided.{Strided}
use Rattle.apl_arrays.specs.Cells.{Arr, Items}
use Rattle.apl_arrays.specs.Left.{listed}
use Rattle.apl_arrays.specs.Strides.{seen, Shows}
use Rattle.apl_folds.specs.Lines.{shown_by}

pub size-without : (s : List ℕ) (k : ℕ) → k < length s → size_of s ≡ get_or s k 0 * size_of (without k s)
size-without [] k h = absurd (omega arith)
size-without (n ∷ ns) zero h = omega arith
size-without (n ∷ ns) (suc k) h = ap (λ m. n * m) (size-without ns k (omega arith)) ∙ turn n (get_or ns k 0) (size_of (without k ns))
  where
    turn : (a b c : ℕ) → a * (b * c) ≡ b * (a * c)
    turn a b c = omega arith

pub bound-without : (s : List ℕ) (k : ℕ) → bound_of (without k s) ≤ bound_of s
bound-without [] k = omega arith
bound-without (n ∷ ns) zero = more (max n 1) (bound_of ns) (omega arith)
  where
    more : (m b : ℕ) → 1 ≤ m → b ≤ m * b
    more m b h = let g : 1 * b ≤ m * b = mul-le-mul_right b h in omega arith
bound-without (n ∷ ns) (suc k) = mul-le-mul_left (max n 1) (bound-without ns k)

-- without an axis of length 1 there are as many elements
pub size-squeezed : (s : List ℕ) (k : ℕ) → k < length s → get_or s k 0 ≡ 1 → size_of (without k s) ≡ size_of s
size-squeezed s k h one = sym (size-without s k h ∙ ap (λ (n : ℕ). n * size_of (without k s)) one ∙ same (size_of (without k s)))
  where
    same : (n : ℕ) → 1 * n ≡ n
    same n = omega arith

abbrev ok_array : Arr → Result Arr Fault
ok_array a = Ok a

-- arrays of the same shape and items
pub same_array : (s t : List ℕ) (i j : Items) → s ≡ t → i ≡ j → ok_array (record { shape = s; items = i }) ≡ ok_array (record { shape = t; items = j })
same_array s t i j e f = ap (λ (u : List ℕ). ok_array (record { shape = u; items = i })) e ∙ ap (λ (k : Items). ok_array (record { shape = t; items = k })) f

-- steps show one array
pub shows_one : (a : Arr) (s : Strided) → Shows a s → shown_by s ≡ a
shows_one a s h =
    ap (λ (t : List ℕ). record { shape = t; items = seen (listed s.items) s.offset s.axes.now }) (sym h.shape)
    ∙ ap (λ (i : Items). record { shape = a.shape; items = i }) (sym h.items)
