-- What the checks of encoding leave.
use Rattle.std.proofs.Common.{◌≡◌, ℕ, ℤ, ◌*◌, ◌<◌, ◌≤◌, ◌^◌, List, [], ◌∷◌, ◌++◌, length, Result, Ok, Err, ap, sym, ◌∙◌, arith}
use Rattle.apl_faults.specs.declared.fault.Fault.{Fault}
use Rattle.apl_arrays.specs.Index.{size_of, bound_of}
use Rattle.apl_arrays.specs.Cells.{Arr, cells_of}
use Rattle.apl_arrays.specs.Checks.{limited, vector_rank, numbers_of}
use Rattle.apl_arrays.specs.Results.{and_then, ok_map}
use Rattle.apl_arrays.proofs.Places.{size_le_bound}
use Rattle.apl_search.specs.Encoded.{bases_and_numbers, digits_by, digits_in, encode}
use Rattle.apl_search.proofs.Digits.{numbers_length}
use Rattle.apl_search.proofs.Rows.{length-digits}
use Rattle.apl_search.proofs.Shapes.{limits}

parts : {A : Type 0} (r : Result A Fault) (t u : Result (List ℤ) Fault) (p : List ℤ × List ℤ) → and_then r (λ x. and_then t (λ ws. ok_map (λ rs. (ws, rs)) u)) ≡ Ok p → (t ≡ Ok p.0) × (u ≡ Ok p.1)
parts (Ok x) (Ok ws) (Ok rs) p e =
    let same : (ws, rs) ≡ p = cc in
    (ap (λ (q : List ℤ × List ℤ). Ok q.0) same, ap (λ (q : List ℤ × List ℤ). Ok q.1) same)
parts (Ok x) (Ok ws) (Err f) p e = absurd (cc)
parts (Ok x) (Err f) u p e = absurd (cc)
parts (Err f) t u p e = absurd (cc)

size_of-append : (s t : List ℕ) → size_of (s ++ t) ≡ size_of s * size_of t
size_of-append [] t = omega arith
size_of-append (n ∷ s) t = ap (λ m. n * m) (size_of-append s t) ∙ turn n (size_of s) (size_of t)
  where
    turn : (n a b : ℕ) → n * (a * b) ≡ (n * a) * b
    turn n a b = omega arith

-- what the checks let through, as it was read
pub read : (a b : Arr) (xs ys ws rs : List ℤ) → bases_and_numbers a b ≡ Ok (xs, ys) → ws ≡ xs → rs ≡ ys → bases_and_numbers a b ≡ Ok (ws, rs)
read a b xs ys ws rs e f g = rw (f, g) e

-- as many digits as the shape has index lists
pub count : (a b : Arr) (ws rs : List ℤ) → bases_and_numbers a b ≡ Ok (ws, rs) → length (cells_of a.items) ≡ size_of a.shape → length (cells_of b.items) ≡ size_of b.shape →
    length ws * length rs ≡ size_of (a.shape ++ b.shape)
count a b ws rs e full_a full_b =
    let p = parts (vector_rank a) (numbers_of a.items) (numbers_of b.items) (ws, rs) e in
    ap (λ (n : ℕ). n * length rs) (numbers_length a.items ws p.0 ∙ full_a)
    ∙ ap (λ (n : ℕ). size_of a.shape * n) (numbers_length b.items rs p.1 ∙ full_b)
    ∙ sym (size_of-append a.shape b.shape)

-- there are few enough of them
pub small : (a b : Arr) (ws rs : List ℤ) (s t : List ℕ) → bases_and_numbers a b ≡ Ok (ws, rs) → length (cells_of a.items) ≡ size_of a.shape → length (cells_of b.items) ≡ size_of b.shape →
    s ≡ a.shape ++ b.shape → limited s ≡ Ok t → length ws * length rs < 2 ^ 63
small a b ws rs s t e full_a full_b m h =
    let n : length ws * length rs ≡ size_of s = count a b ws rs e full_a full_b ∙ ap size_of (sym m) in
    let l : size_of s ≤ bound_of s = size_le_bound s in
    let k : bound_of s ≤ 1000000 = (limits s t h).1 in
    omega arith

pub filled : (a b : Arr) (ws rs digits : List ℤ) (s : List ℕ) → bases_and_numbers a b ≡ Ok (ws, rs) → length (cells_of a.items) ≡ size_of a.shape → length (cells_of b.items) ≡ size_of b.shape →
    s ≡ a.shape ++ b.shape → length digits ≡ length (digits_by ws rs) → length digits ≡ size_of s
filled a b ws rs digits s e full_a full_b m n = n ∙ length-digits ws rs ∙ count a b ws rs e full_a full_b ∙ ap size_of (sym m)

with_operands : (a b : Arr) (ws rs : List ℤ) → bases_and_numbers a b ≡ Ok (ws, rs) → encode a b ≡ and_then (limited (a.shape ++ b.shape)) (digits_in ws rs)
with_operands a b ws rs e = ap (λ (r : Result (List ℤ × List ℤ) Fault). and_then r (λ p. and_then (limited (a.shape ++ b.shape)) (digits_in p.0 p.1))) e

-- no array may have the shape
pub encode_limit : (a b : Arr) (ws rs : List ℤ) (s : List ℕ) (f : Fault) → bases_and_numbers a b ≡ Ok (ws, rs) → s ≡ a.shape ++ b.shape → limited s ≡ Err f → encode a b ≡ Err f
encode_limit a b ws rs s f e m h = with_operands a b ws rs e ∙ ap (λ (r : Result (List ℕ) Fault). and_then r (digits_in ws rs)) (ap limited (sym m) ∙ h)

-- the digits in the shape
pub encode_ok : (a b : Arr) (ws rs : List ℤ) (s : List ℕ) → bases_and_numbers a b ≡ Ok (ws, rs) → s ≡ a.shape ++ b.shape → limited s ≡ Ok s → encode a b ≡ digits_in ws rs s
encode_ok a b ws rs s e m h = with_operands a b ws rs e ∙ ap (λ (r : Result (List ℕ) Fault). and_then r (digits_in ws rs)) (ap limited (sym m) ∙ h)
