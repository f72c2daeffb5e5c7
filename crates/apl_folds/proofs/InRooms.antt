-- Sums for which a type has room.
use Rattle.std.proofs.Common.{◌≡◌, suc, ℕ, ℤ, pos, ◌+ℤ◌, ◌+◌, ◌*◌, ◌<◌, ◌≤◌, ◌^◌, List, [], ◌∷◌, ◌++◌, length, take, get_or, Ok, FitsSigned, ap, sym, ◌∙◌, subst, arith}
use Rattle.std.specs.Prelude.{unsigned_abs}
use Rattle.std.specs.Int.{Width, w64}
use Rattle.std.proofs.Math.Nat.{mul-le-mul_right}
use Rattle.std.proofs.lemmas.Int.{ints}
use Rattle.std.proofs.lemmas.List.{take_more, get_or-take, length-take-le}
use Rattle.apl_scalar.specs.declared.function.Dyadic.TheVariants as two
use Rattle.apl_scalar.specs.Functions.{dyadic_of}
use Rattle.apl_folds.specs.Lines.{fold_by, line_of, IsLine}
use Rattle.apl_arrays.specs.declared.axis.Axis.{Axis}
use Rattle.apl_arrays.specs.Strides.{step_at}
use Rattle.apl_folds.proofs.Rows.{length-line, line_at}
use Rattle.apl_folds.specs.Rooms.{AreWithin, HaveRoom}
use Rattle.apl_folds.specs.inside.Sums.{total, magnitudes}
use Rattle.apl_folds.proofs.Totals.{total_small, total_more, fold_total}

-- the magnitudes of numbers within a bound
pub magnitudes_within : (bound : ℕ) (zs : List ℤ) → AreWithin bound zs → magnitudes zs ≤ length zs * bound
magnitudes_within bound [] w = omega arith
magnitudes_within bound (z ∷ zs) w =
    let first : unsigned_abs z ≤ bound = w 0 (omega arith) in
    let others : magnitudes zs ≤ length zs * bound = magnitudes_within bound zs (λ k l. w (suc k) (omega arith)) in
    omega arith

-- of the first of them
pub first_within : (bound : ℕ) (zs : List ℤ) (n : ℕ) → AreWithin bound zs → n ≤ length zs → AreWithin bound (take n zs)
first_within bound zs n w l k h =
    let here : k < n = omega (arith, length-take-le n zs l) in
    subst (λ (z : ℤ). unsigned_abs z ≤ bound) (sym (get_or-take n zs k (pos 0) here)) (w k (omega arith))

-- no sum of the first of them is larger than as many times the bound
pub total_within : (bound : ℕ) (zs : List ℤ) (n count : ℕ) → AreWithin bound zs → n ≤ length zs → n ≤ count → unsigned_abs (total (take n zs)) ≤ count * bound
total_within bound zs n count w l m =
    let few : n * bound ≤ count * bound = mul-le-mul_right bound m in
    let magnitude : magnitudes (take n zs) ≤ length (take n zs) * bound = magnitudes_within bound (take n zs) (first_within bound zs n w l) in
    let size : length (take n zs) * bound ≡ n * bound = ap (λ (k : ℕ). k * bound) (length-take-le n zs l) in
    omega (arith, total_small (take n zs))

-- one number more
pub room_more : (w : Width) (zs : List ℤ) (count i : ℕ) (sum next x : ℤ) → HaveRoom w zs count → length zs ≤ count → i < length zs → get_or zs i (pos 0) ≡ x → sum ≡ total (take i zs) →
    (FitsSigned w (sum +ℤ x) → next ≡ sum +ℤ x) → next ≡ total (take (i + 1) zs)
room_more w zs count i sum next x h all l is before added =
    let t : sum +ℤ x ≡ total (take (i + 1) zs) =
    ap (λ (s : ℤ). s +ℤ x) before ∙ sym (total_more (take i zs) x) ∙ ap (λ (z : ℤ). total (take i zs ++ z ∷ [])) (sym is) ∙ ap total (sym (take_more zs i (pos 0) l)) in
    let fits : FitsSigned w (total (take (i + 1) zs)) = h.fits (total (take (i + 1) zs)) (total_within h.bound zs (i + 1) count h.within (omega arith) (omega arith)) in
    added (subst (λ (z : ℤ). FitsSigned w z) (sym t) fits) ∙ t

-- where there is room for all magnitudes, the sum is the fold
pub room_fold : (w : Width) (zs : List ℤ) (count : ℕ) → ((z : ℤ) → FitsSigned w z → FitsSigned w64 z) → HaveRoom w zs count → length zs ≡ count → 0 < count → fold_by (dyadic_of two.Plus) zs ≡ Ok (total zs)
room_fold w zs count bounded h size some =
    let all : FitsSigned w64 (pos (count * h.bound)) = bounded (pos (count * h.bound)) (h.fits (pos (count * h.bound)) (omega arith)) in
    let near : count * h.bound < 2 ^ 63 = omega (arith, ints) in
    let same : length zs * h.bound ≡ count * h.bound = ap (λ (n : ℕ). n * h.bound) size in
    fold_total zs (omega arith) (omega (arith, magnitudes_within h.bound zs h.within))

-- a line of such numbers
pub line_magnitudes : (zs : List ℤ) (n bound : ℕ) (axis : Axis) (p count : ℕ) → AreWithin bound zs → length zs ≡ n → IsLine n axis p count → magnitudes (line_of (pos 0) zs axis p count) ≤ count * bound
line_magnitudes zs n bound axis p count within size line =
    let raw : List ℤ = line_of (pos 0) zs axis p count in
    let few : length raw ≡ count = length-line (pos 0) zs axis p count in
    let each : AreWithin bound raw =
    λ k h. subst (λ (z : ℤ). unsigned_abs z ≤ bound) (sym (line_at (pos 0) zs axis p count k (omega arith))) (within (p + step_at axis k) (omega (arith, line.placed k (omega (arith, line.within))))) in
    let same : length raw * bound ≡ count * bound = ap (λ (m : ℕ). m * bound) few in
    omega (arith, magnitudes_within bound raw each)

pub line_room : (zs : List ℤ) (n bound : ℕ) (axis : Axis) (p count : ℕ) → AreWithin bound zs → length zs ≡ n → IsLine n axis p count → ((z : ℤ) → unsigned_abs z ≤ count * bound → FitsSigned w64 z) →
    magnitudes (line_of (pos 0) zs axis p count) < 2 ^ 63
line_room zs n bound axis p count within size line fits =
    let all : FitsSigned w64 (pos (count * bound)) = fits (pos (count * bound)) (omega arith) in
    let near : count * bound < 2 ^ 63 = omega (arith, ints) in
    omega (arith, line_magnitudes zs n bound axis p count within size line)
