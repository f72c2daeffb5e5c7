-- A list that is grown by room, and the room written over.
use Rattle.std.proofs.Common.{◌≡◌, ℕ, ◌+◌, ◌-◌, ◌≤◌, ℤ, pos, List, [], ◌++◌, map, length, take, drop, arith, replicate, append-nil, refl, ap, sym, subst}
use Rattle.std.proofs.lemmas.List.{length-replicate, get_or-replicate}
use Rattle.std.proofs.lemmas.Grind.{common_steps}
use Rattle.apl_scalar.specs.declared.operand.Source.{Source}
use Rattle.apl_scalar.specs.declared.operand.Source.TheVariants.{One}
use Rattle.apl_scalar.specs.inside.Rooms.{IsReady}
use Rattle.apl_scalar.proofs.OfLanes.{numbers-replicate}

-- what stands behind the old elements is as long as the room
pub room_size : {A : Type 0} (old grown shown back filled : List A) (x : A) (n before : ℕ) → grown ≡ old ++ replicate n x → before ≡ length old → shown ≡ grown → length back + before ≡ length shown → length filled ≡ length back → length filled ≡ n
room_size old grown shown back filled x n before g b e h f = grind (arith, common_steps)

-- what was there stays, and the room has what was written
pub written_over : {A : Type 0} (old grown shown front back filled : List A) (x : A) (n before len : ℕ) → grown ≡ old ++ replicate n x → before ≡ length old → shown ≡ grown → front ≡ take before shown →
    length back + before ≡ length shown → length filled ≡ length back → len ≡ length grown → take len (front ++ filled ++ drop (length (front ++ filled)) grown) ≡ old ++ filled
written_over old grown shown front back filled x n before len g b e p h f l =
    let size : length filled ≡ n = room_size old grown shown back filled x n before g b e h f in
    let before_room : take before shown ≡ take before grown = ap (take before) e in
    let same : front ≡ old = grind (arith, common_steps) in
    let whole : length (front ++ filled) ≡ length grown = grind (arith, common_steps) in
    let none : drop (length (front ++ filled)) grown ≡ [] = grind (arith, common_steps) in
    let all : len ≡ length (front ++ filled) = grind (arith, common_steps) in
    let kept : take len (front ++ filled) ≡ front ++ filled = grind (arith, common_steps) in
    rw (none, append-nil, kept, same)

-- the room is taken back
pub taken_back : {A : Type 0} (old filled written kept : List A) (before : ℕ) → written ≡ old ++ filled → before ≡ length old → kept ≡ take before written → kept ≡ old
taken_back old filled written kept before w b k = grind (arith, common_steps)

-- the room that a list is resized by
pub resized : {A : Type 0} (old new : List A) (x : A) (n len all : ℕ) → len ≡ length old → all ≡ len + n → new ≡ take all old ++ replicate (all - len) x → new ≡ old ++ replicate n x
resized old new x n len all l h e = grind (arith, common_steps)

-- one number is laid out
pub ready_one : {A : Type 0} (value : A → ℤ) (numbers : List A → List ℤ) → ((xs : List A) → numbers xs ≡ map value xs) → (source : Source A) (x : A) (m n : ℕ) → source ≡ One x → m ≤ n → IsReady value source m (numbers (replicate n x))
ready_one {A = A} value numbers each source x m n e enough =
    let laid : numbers (replicate n x) ≡ replicate n (value x) = numbers-replicate value numbers each n x (value x) refl in
    subst (λ (s : Source A). IsReady value s m (numbers (replicate n x))) (sym e)
    (subst (λ (l : List ℤ). IsReady value (One x) m l) (sym laid)
    ((λ h. omega (arith, length-replicate n (value x))), λ k h. get_or-replicate n k (value x) (pos 0) (omega (arith, length-replicate n (value x)))))
