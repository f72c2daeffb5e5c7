-- The lines of an input that is read piece by piece.
use Rattle.std.proofs.Common.{◌≡◌, ◌≢◌, ℕ, suc, ◌≤◌, List, [], ◌∷◌, ◌++◌, Bool, true, false, not, cond, ◌==◌, ◌&&◌, ap, ◌∙◌, sym, refl, append_assoc, append-nil, length, length-append, map, arith, ◌+◌}
use Rattle.std.specs.List.{AllByRecursion, list_all}
use Rattle.std.proofs.lemmas.List.Folds.{list_all-append}
use Rattle.apl_devices.specs.Devices.{TakesPiece}
use Rattle.apl_runs.specs.Runs.{IsPiece}
use Rattle.apl_runs.specs.Transcript.{ended, ended_behind, unfinished, unfinished_behind, last_line, without_return}

-- no byte is a line feed
abbrev pub Unbroken : List ℕ → Type 0
Unbroken piece = list_all (λ b. not (b == 10)) piece ≡ true

ended-test : (t : Bool) (b : ℕ) (prefix piece rest : List ℕ) → not t && list_all (λ c. not (c == 10)) piece ≡ true →
    ((prefix' : List ℕ) → Unbroken piece → ended_behind prefix' (piece ++ rest) ≡ ended_behind (prefix' ++ piece) rest) →
    cond t (prefix ∷ ended_behind [] (piece ++ rest)) (ended_behind (prefix ++ b ∷ []) (piece ++ rest)) ≡ ended_behind (prefix ++ b ∷ piece) rest
ended-test true b prefix piece rest h ih = cc
ended-test false b prefix piece rest h ih = ih (prefix ++ b ∷ []) h ∙ ap (λ (f : List ℕ). ended_behind f rest) (append_assoc prefix (b ∷ []) piece)

-- a piece only lengthens what is begun
ended-piece : (piece rest prefix : List ℕ) → Unbroken piece → ended_behind prefix (piece ++ rest) ≡ ended_behind (prefix ++ piece) rest
ended-piece [] rest prefix h = ap (λ (f : List ℕ). ended_behind f rest) (sym (append-nil prefix))
ended-piece (b ∷ piece) rest prefix h = ended-test (b == 10) b prefix piece rest h (λ (prefix' : List ℕ) (k : Unbroken piece). ended-piece piece rest prefix' k)

unfinished-test : (t : Bool) (b : ℕ) (prefix piece rest : List ℕ) → not t && list_all (λ c. not (c == 10)) piece ≡ true →
    ((prefix' : List ℕ) → Unbroken piece → unfinished_behind prefix' (piece ++ rest) ≡ unfinished_behind (prefix' ++ piece) rest) →
    cond t (unfinished_behind [] (piece ++ rest)) (unfinished_behind (prefix ++ b ∷ []) (piece ++ rest)) ≡ unfinished_behind (prefix ++ b ∷ piece) rest
unfinished-test true b prefix piece rest h ih = cc
unfinished-test false b prefix piece rest h ih = ih (prefix ++ b ∷ []) h ∙ ap (λ (f : List ℕ). unfinished_behind f rest) (append_assoc prefix (b ∷ []) piece)

unfinished-piece : (piece rest prefix : List ℕ) → Unbroken piece → unfinished_behind prefix (piece ++ rest) ≡ unfinished_behind (prefix ++ piece) rest
unfinished-piece [] rest prefix h = ap (λ (f : List ℕ). unfinished_behind f rest) (sym (append-nil prefix))
unfinished-piece (b ∷ piece) rest prefix h = unfinished-test (b == 10) b prefix piece rest h (λ (prefix' : List ℕ) (k : Unbroken piece). unfinished-piece piece rest prefix' k)

ended-more : (t : Bool) (b : ℕ) (xs ys prefix : List ℕ) →
    ended_behind [] (xs ++ ys) ≡ ended_behind [] xs ++ ended_behind (unfinished_behind [] xs) ys →
    ended_behind (prefix ++ b ∷ []) (xs ++ ys) ≡ ended_behind (prefix ++ b ∷ []) xs ++ ended_behind (unfinished_behind (prefix ++ b ∷ []) xs) ys →
    cond t (prefix ∷ ended_behind [] (xs ++ ys)) (ended_behind (prefix ++ b ∷ []) (xs ++ ys))
    ≡ cond t (prefix ∷ ended_behind [] xs) (ended_behind (prefix ++ b ∷ []) xs) ++ ended_behind (cond t (unfinished_behind [] xs) (unfinished_behind (prefix ++ b ∷ []) xs)) ys
ended-more true b xs ys prefix e f = ap (λ (x : List (List ℕ)). prefix ∷ x) e
ended-more false b xs ys prefix e f = f

-- one input behind another
pub ended-append : (xs ys prefix : List ℕ) → ended_behind prefix (xs ++ ys) ≡ ended_behind prefix xs ++ ended_behind (unfinished_behind prefix xs) ys
ended-append [] ys prefix = refl
ended-append (b ∷ xs) ys prefix = ended-more (b == 10) b xs ys prefix (ended-append xs ys []) (ended-append xs ys (prefix ++ b ∷ []))

unfinished-more : (t : Bool) (b : ℕ) (xs ys prefix : List ℕ) →
    unfinished_behind [] (xs ++ ys) ≡ unfinished_behind (unfinished_behind [] xs) ys →
    unfinished_behind (prefix ++ b ∷ []) (xs ++ ys) ≡ unfinished_behind (unfinished_behind (prefix ++ b ∷ []) xs) ys →
    cond t (unfinished_behind [] (xs ++ ys)) (unfinished_behind (prefix ++ b ∷ []) (xs ++ ys))
    ≡ unfinished_behind (cond t (unfinished_behind [] xs) (unfinished_behind (prefix ++ b ∷ []) xs)) ys
unfinished-more true b xs ys prefix e f = e
unfinished-more false b xs ys prefix e f = f

pub unfinished-append : (xs ys prefix : List ℕ) → unfinished_behind prefix (xs ++ ys) ≡ unfinished_behind (unfinished_behind prefix xs) ys
unfinished-append [] ys prefix = refl
unfinished-append (b ∷ xs) ys prefix = unfinished-more (b == 10) b xs ys prefix (unfinished-append xs ys []) (unfinished-append xs ys (prefix ++ b ∷ []))

-- behind an input that ends with a line feed, or is empty

pub ended-behind_line : (taken piece : List ℕ) → unfinished taken ≡ [] → Unbroken piece → ended (taken ++ piece ++ 10 ∷ []) ≡ ended taken ++ piece ∷ []
ended-behind_line taken piece e h =
    ap ended (append_assoc taken piece (10 ∷ []))
    ∙ ended-append taken (piece ++ 10 ∷ []) []
    ∙ ap (λ (f : List ℕ). ended taken ++ ended_behind f (piece ++ 10 ∷ [])) e
    ∙ ap (λ (x : List (List ℕ)). ended taken ++ x) (ended-piece piece (10 ∷ []) [] h)

pub unfinished-behind_line : (taken piece : List ℕ) → unfinished taken ≡ [] → Unbroken piece → unfinished (taken ++ piece ++ 10 ∷ []) ≡ []
unfinished-behind_line taken piece e h =
    ap unfinished (append_assoc taken piece (10 ∷ []))
    ∙ unfinished-append taken (piece ++ 10 ∷ []) []
    ∙ ap (λ (f : List ℕ). unfinished_behind f (piece ++ 10 ∷ [])) e
    ∙ unfinished-piece piece (10 ∷ []) [] h

pub ended-behind_piece : (taken piece : List ℕ) → unfinished taken ≡ [] → Unbroken piece → ended (taken ++ piece) ≡ ended taken
ended-behind_piece taken piece e h =
    ended-append taken piece []
    ∙ ap (λ (f : List ℕ). ended taken ++ ended_behind f piece) e
    ∙ ap (λ (x : List (List ℕ)). ended taken ++ x) (ap (ended_behind []) (sym (append-nil piece)) ∙ ended-piece piece [] [] h)
    ∙ append-nil (ended taken)

pub unfinished-behind_piece : (taken piece : List ℕ) → unfinished taken ≡ [] → Unbroken piece → unfinished (taken ++ piece) ≡ piece
unfinished-behind_piece taken piece e h =
    unfinished-append taken piece []
    ∙ ap (λ (f : List ℕ). unfinished_behind f piece) e
    ∙ ap (unfinished_behind []) (sym (append-nil piece))
    ∙ unfinished-piece piece [] [] h

pub map-append_one : (xs : List (List ℕ)) (x : List ℕ) → map without_return (xs ++ x ∷ []) ≡ map without_return xs ++ without_return x ∷ []
map-append_one [] x = refl
map-append_one (y ∷ xs) x = ap (λ (rest : List (List ℕ)). without_return y ∷ rest) (map-append_one xs x)

pub all-append_one : (P : List ℕ → Type 0) (xs : List (List ℕ)) (x : List ℕ) → AllByRecursion P xs → P x → AllByRecursion P (xs ++ x ∷ [])
all-append_one P [] x all here = (here, tt)
all-append_one P (y ∷ xs) x all here = (all.0, all-append_one P xs x all.1 here)

unbroken-test : (t : Bool) (b : ℕ) (piece : List ℕ) (c : ℕ) → not t && list_all (λ d. not (d == 10)) piece ≡ true →
    (Unbroken piece → Unbroken (piece ++ c ∷ [])) → not t && list_all (λ d. not (d == 10)) (piece ++ c ∷ []) ≡ true
unbroken-test true b piece c h ih = cc
unbroken-test false b piece c h ih = ih h

unbroken-byte : (c : ℕ) → c ≢ 10 → not (c == 10) && true ≡ true
unbroken-byte c other = grind arith

pub unbroken-more : (piece : List ℕ) (c : ℕ) → Unbroken piece → c ≢ 10 → Unbroken (piece ++ c ∷ [])
unbroken-more [] c h other = unbroken-byte c other
unbroken-more (b ∷ piece) c h other = unbroken-test (b == 10) b piece c h (λ (k : Unbroken piece). unbroken-more piece c k other)

-- a piece goes on with more of its line
pub more_piece : (most : ℕ) (old new : List ℕ) → IsPiece old → length old + most ≤ 2000 → TakesPiece most old new → IsPiece new
more_piece most old new is_piece room taken =
    let feedless : ℕ → Bool = λ b. not (b == 10) in
    let both : length new ≡ length old + length taken.piece = ap length taken.added ∙ length-append old taken.piece in
    record {
      unbroken = ap (list_all feedless) taken.added ∙ list_all-append feedless old taken.piece ∙ ap (λ b. b && list_all feedless taken.piece) is_piece.unbroken ∙ taken.unbroken;
      short = omega (arith, both, taken.short, room);
    }

pub last_line-length : (rest : List ℕ) → length (last_line rest) ≤ 1
last_line-length [] = omega arith
last_line-length (b ∷ rest) = omega arith

pub complete-length : (xs : List (List ℕ)) → length (map without_return xs) ≡ length xs
complete-length [] = refl
complete-length (x ∷ xs) = ap suc (complete-length xs)
