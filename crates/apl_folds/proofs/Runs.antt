-- Prefixes that are made one after another.
use Rattle.std.proofs.Common.{zero, suc, ◌≡◌, ℕ, ℤ, pos, ◌+◌, ◌-◌, ◌*◌, ◌^◌, ◌<◌, ◌≤◌, FitsSigned, List, [], ◌∷◌, ◌++◌, map, length, take, drop, get_or, set, Result, Ok, refl, ap, sym, subst, ◌∙◌, arith, true, Ordering, Less, Equal, Greater}
use Rattle.std.specs.Int.{Width, w64}
use Rattle.std.specs.Ordering.{int_eq, int_cmp, is_eq}
use Rattle.std.proofs.Math.Nat.{mul-le-mul_right}
use Rattle.std.proofs.lemmas.Cmp.{int_ranked}
use Rattle.std.proofs.lemmas.Grind.{common_steps}
use Rattle.std.proofs.lemmas.Int.{ints}
use Rattle.std.proofs.lemmas.List.{length-set}
use Rattle.apl_faults.specs.declared.fault.Fault.{Fault}
use Rattle.apl_arrays.specs.declared.axis.Axis.{Axis}
use Rattle.apl_arrays.proofs.Lanes.{numbers_set}
use Rattle.apl_folds.specs.inside.Prefixes.{before, index_along, prefix_fold, AllHaveRoom, AreLater, ArePrefixes, AreWhole, Stays}
use Rattle.apl_folds.specs.inside.Sums.{total, magnitudes, HasRoom}
use Rattle.apl_folds.specs.Lines.{fold_by, line_of, IsLine}
use Rattle.apl_folds.specs.Rooms.{HaveRoom}
use Rattle.apl_folds.proofs.ByPlaces.{before_first, index_low, line_of_place, one_longer, prefix_told, prefix_before}
use Rattle.apl_folds.proofs.InRooms.{line_magnitudes}
use Rattle.apl_scalar.proofs.OfLanes.{as_many}
use Rattle.apl_folds.proofs.Told.{filled_more}
use Rattle.apl_folds.proofs.Totals.{total_small}

-- one more is written
pub written_one : {A : Type 0} (value : A → ℤ) (numbers : List A → List ℤ) → ((xs : List A) → numbers xs ≡ map value xs) → (f : ℤ → ℤ → Result ℤ Fault) (zs : List ℤ) (axis : Axis) (q : ℕ) (out : List A) (v : A) →
    q < length out → prefix_fold f zs axis q ≡ Ok (value v) → ArePrefixes f zs axis q (numbers out) → ArePrefixes f zs axis (q + 1) (numbers (set out q v))
written_one value numbers each f zs axis q out v h told so_far p l =
    let P : List ℤ → Type 0 = λ ws. prefix_fold f zs axis p ≡ Ok (get_or ws p (pos 0)) in
    subst P (sym (numbers_set value numbers each out q v (value v) refl))
    (filled_more (pos 0) (λ i z. prefix_fold f zs axis i ≡ Ok z) (numbers out) q (value v) (omega (arith, as_many value numbers each out)) told so_far p l)

-- what is left where one is written in a slice of all
pub written_back : {A : Type 0} (room shown : List A) (q : ℕ) (v : A) (len : ℕ) → shown ≡ room → len ≡ length room → take len (set shown q v ++ drop (length (set shown q v)) room) ≡ set room q v
written_back {A = A} room shown q v len same size =
    let all : length (set shown q v) ≡ length room = length-set shown q v ∙ ap length same in
    let after : take len (set shown q v ++ drop (length (set shown q v)) room) ≡ set shown q v = grind (arith, common_steps) in
    after ∙ ap (λ (l : List A). set l q v) same

-- one more is written, in a room that was made behind the others
pub written_in_room : {A : Type 0} (value : A → ℤ) (numbers : List A → List ℤ) → ((xs : List A) → numbers xs ≡ map value xs) → (f : ℤ → ℤ → Result ℤ Fault) (zs : List ℤ) (axis : Axis) (q : ℕ) (old : List ℤ) (room out : List A) (v : A) →
    out ≡ set room q v → q + 1 ≤ length room → ((p : ℕ) → get_or (numbers room) p (pos 0) ≡ get_or old p (pos 0)) → prefix_fold f zs axis q ≡ Ok (value v) → ArePrefixes f zs axis q old → ArePrefixes f zs axis (q + 1) (numbers out)
written_in_room {A = A} value numbers each f zs axis q old room out v same h kept told so_far =
    let Written : List A → Type 0 = λ out. ArePrefixes f zs axis (q + 1) (numbers out) in
    subst Written (sym same) (written_one value numbers each f zs axis q room v (omega arith) told (λ p i. so_far p i ∙ ap (λ (z : ℤ). Ok z) (sym (kept p))))

-- the first of a line
pub begun : (f : ℤ → ℤ → Result ℤ Fault) (room : List ℤ → Type 0) (zs : List ℤ) (axis : Axis) (q : ℕ) (x v : ℤ) → AreWhole zs axis → AllHaveRoom room zs axis → q < length zs → index_along axis q ≡ 0 → get_or zs q (pos 0) ≡ x →
    (room (x ∷ []) → v ≡ x) → prefix_fold f zs axis q ≡ Ok v
begun f room zs axis q x v whole all l first is made =
    let line : before zs axis q ++ get_or zs q (pos 0) ∷ [] ≡ x ∷ [] = ap (λ (l : List ℤ). l ++ get_or zs q (pos 0) ∷ []) (sym (before_first zs axis q first)) ∙ ap (λ (y : ℤ). y ∷ []) is in
    prefix_told f zs axis q v whole.forward (ap (fold_by f) line ∙ ap (λ (y : ℤ). Ok y) (sym (made (subst room line (all q l)))))

-- the next one
pub gone : (f : ℤ → ℤ → Result ℤ Fault) (room : List ℤ → Type 0) (zs : List ℤ) (axis : Axis) (p q : ℕ) (x z v : ℤ) → AreWhole zs axis → AllHaveRoom room zs axis → q < length zs → q ≡ p + axis.up → 0 < index_along axis q →
    get_or zs q (pos 0) ≡ x → prefix_fold f zs axis p ≡ Ok z → ((xs : List ℤ) → room (xs ++ x ∷ []) → fold_by f xs ≡ Ok z → fold_by f (xs ++ x ∷ []) ≡ Ok v) → prefix_fold f zs axis q ≡ Ok v
gone f room zs axis p q x z v whole all l next later is e step =
    let line : before zs axis q ++ get_or zs q (pos 0) ∷ [] ≡ before zs axis q ++ x ∷ [] = ap (λ (y : ℤ). before zs axis q ++ y ∷ []) is in
    prefix_told f zs axis q v whole.forward
    (ap (fold_by f) line ∙ step (before zs axis q) (subst room line (all q l)) (sym (prefix_before f zs axis p q whole.long whole.apart whole.forward next later) ∙ e))

-- the last place before the next one
pub behind : (n : ℕ) → n + 1 - 1 ≡ n
behind n = omega arith

-- the next one of a line of numbers that lie side by side
pub gone_on : (f : ℤ → ℤ → Result ℤ Fault) (room : List ℤ → Type 0) (zs : List ℤ) (axis : Axis) (q : ℕ) (x z v : ℤ) → AreWhole zs axis → AllHaveRoom room zs axis → q < length zs → axis.up ≡ 1 → 0 < index_along axis q →
    get_or zs q (pos 0) ≡ x → prefix_fold f zs axis (q - 1) ≡ Ok z → ((xs : List ℤ) → room (xs ++ x ∷ []) → fold_by f xs ≡ Ok z → fold_by f (xs ++ x ∷ []) ≡ Ok v) → prefix_fold f zs axis q ≡ Ok v
gone_on f room zs axis q x z v whole all l beside later is e step =
    let low : 1 * axis.up ≤ index_along axis q * axis.up = mul-le-mul_right axis.up later in
    let far : axis.up ≤ q = omega (arith, low, index_low axis q) in
    gone f room zs axis (q - 1) q x z v whole all l (omega arith) later is e step

-- and those with which the fold stays the same
pub stays_on : (f : ℤ → ℤ → Result ℤ Fault) (room : List ℤ → Type 0) (zs : List ℤ) (axis : Axis) (from till : ℕ) (fold : ℤ) → AreWhole zs axis → AllHaveRoom room zs axis → axis.up ≡ 1 → till ≤ length zs → AreLater axis from till →
    prefix_fold f zs axis (from - 1) ≡ Ok fold → ((q : ℕ) → from ≤ q → q < till → Stays f fold (get_or zs q (pos 0))) → (k : ℕ) → from + k ≤ till → prefix_fold f zs axis (from + k - 1) ≡ Ok fold
stays_on f room zs axis from till fold whole all beside within later told stays zero l = ap (prefix_fold f zs axis) (omega arith) ∙ told
stays_on f room zs axis from till fold whole all beside within later told stays (suc k) l =
    ap (prefix_fold f zs axis) (omega arith)
    ∙ gone_on f room zs axis (from + k) (get_or zs (from + k) (pos 0)) fold fold whole all (omega arith) beside (later (from + k) (omega arith) (omega arith)) refl
    (stays_on f room zs axis from till fold whole all beside within later told stays k (omega arith)) (λ xs r e. stays (from + k) (omega arith) (omega arith) xs e)

-- there is room for the sum of each prefix
pub prefixes_room : (w : Width) (zs : List ℤ) (axis : Axis) → ((z : ℤ) → FitsSigned w z → FitsSigned w64 z) → AreWhole zs axis → HaveRoom w zs axis.length → AllHaveRoom (HasRoom w) zs axis
prefixes_room w zs axis bounded whole h q l =
    let k : ℕ = index_along axis q in
    let p : ℕ = q - k * axis.up in
    let raw : List ℤ = line_of (pos 0) zs axis p (k + 1) in
    let line : IsLine (length zs) axis p (k + 1) = line_of_place zs axis q whole l in
    let few : (k + 1) * h.bound ≤ axis.length * h.bound = mul-le-mul_right h.bound line.within in
    let small : magnitudes raw ≤ (k + 1) * h.bound = line_magnitudes zs (length zs) h.bound axis p (k + 1) h.within refl line in
    let all : FitsSigned w64 (pos (axis.length * h.bound)) = bounded (pos (axis.length * h.bound)) (h.fits (pos (axis.length * h.bound)) (omega arith)) in
    let near : axis.length * h.bound < 2 ^ 63 = omega (arith, ints) in
    subst (HasRoom w) (sym (one_longer zs axis q whole.forward)) (record { sum = h.fits (total raw) (omega (arith, total_small raw)); magnitudes = omega arith })

-- what compares as the same number is the same
pub same_number : (x y : ℤ) → int_eq x y ≡ true → x ≡ y
same_number x y e = each (int_cmp x y) refl e
  where
    each : (o : Ordering) → int_cmp x y ≡ o → is_eq o ≡ true → x ≡ y
    each Less f e = absurd (cc)
    each Equal f e = int_ranked x y Equal (sym f)
    each Greater f e = absurd (cc)
