-- Lines side by side, four at a time.
use Rattle.std.proofs.Common.{◌≡◌, ◌≢◌, ℕ, ◌+◌, ◌-◌, ◌*◌, ◌<◌, ◌≤◌, List, [], ◌∷◌, ◌++◌, map, length, get_or, set, take, drop, replicate, refl, ap, sym, ◌∙◌, arith, append_assoc, append-nil}
use borrow.Author.Count.{below_more}
use Rattle.std.proofs.lemmas.List.{drop_all, get_or_default, get_or-set_other, get_or-set_same, length-append, length-replicate, take_all, take_at}
use Rattle.std.proofs.lemmas.List.FromFn.{fill_by_all}
use Rattle.apl_arrays.specs.declared.axis.Axis.{Axis}
use Rattle.apl_arrays.specs.Index.{indices}
use Rattle.apl_arrays.specs.Strides.{AllPlaced, place_at, reach_of, step_at}
use Rattle.apl_arrays.specs.inside.Rows.{four_from, line_from, rows_from}
use Rattle.apl_arrays.proofs.Gathers.{near_row, one_axis, placed_row, row_step}
use Rattle.apl_arrays.proofs.Steps.{near_axis}

-- a line that is written over another
pub written_line : {A : Type 0} (raw line old : List A) (a : Axis) (p n : ℕ) (d : A) → length line ≡ length old → length old ≡ a.length → a.length ≤ n →
    ((j : ℕ) → j < n → get_or line j d ≡ get_or raw (p + step_at a j) d) → line ≡ line_from raw a p d
written_line raw line old a p n d e f h each = fill_by_all (λ k. get_or raw (p + step_at a k) d) line a.length d (e ∙ f) (λ k l. each k (omega arith))

-- a step of an axis whose elements lie side by side
pub ahead : (a : Axis) (at i p : ℕ) → a.up ≡ 1 → a.down ≡ 0 → p ≡ at + i → p ≡ at + step_at a i
ahead a at i p u v e = e ∙ ap (λ (s : ℕ). at + s) (step a.up a.down i (a.length - 1 - i) u v)
  where
    step : (m n k j : ℕ) → m ≡ 1 → n ≡ 0 → k ≡ m * k + n * j
    step m n k j u v = rw (u, v) (omega arith)

pub fours_placed : (n at i : ℕ) (a b : Axis) → a.up ≡ 1 → a.down ≡ 0 → i + 3 < a.length → AllPlaced n at (a ∷ b ∷ []) → (k : ℕ) → k < b.length → at + i + 3 + step_at b k < n
fours_placed n at i a b u v l f k m =
    placed_row (λ p. p < n) b [] (at + i + 3) k (at + i + 3 + step_at b k) m
    (placed_row (λ p. p < n) a (b ∷ []) at (i + 3) (at + i + 3) l f (ahead a at (i + 3) (at + i + 3) u v (omega arith))) refl [] refl

pub fours_near : (n at i : ℕ) (a b : Axis) → a.up ≡ 1 → a.down ≡ 0 → i < a.length → reach_of at (a ∷ b ∷ []) < n → at + i + (b.up + b.down) * b.length < n
fours_near n at i a b u v l r = near_axis (at + i) b [] n (near_row a (b ∷ []) at i (at + i) n l r (ahead a at i (at + i) u v refl))

-- such a line is a row
line_row : {A : Type 0} (raw : List A) (a b : Axis) (at i p : ℕ) (d : A) → p ≡ at + step_at a i →
    line_from raw b p d ≡ map (λ is. get_or raw (place_at at (a ∷ b ∷ []) (i ∷ is)) d) (indices (b.length ∷ []))
line_row raw a b at i p d e = ap (λ (q : ℕ). line_from raw b q d) e ∙ sym (one_axis (λ is. get_or raw (place_at at (a ∷ b ∷ []) (i ∷ is)) d) b.length)

next_row : {A : Type 0} (h : List ℕ → A) (ns : List ℕ) (i j n : ℕ) (out row : List A) → j ≡ i + 1 → i < n → row ≡ map (λ is. h (i ∷ is)) (indices ns) →
    (out ++ row) ++ map h (rows_from ns j n) ≡ out ++ map h (rows_from ns i n)
next_row {A = A} h ns i j n out row e l f =
    ap (λ (m : ℕ). (out ++ row) ++ map h (rows_from ns m n)) e ∙ row_step h ns i n out (out ++ row) l (ap (λ (z : List A). out ++ z) f)

grouped : {A : Type 0} (out w x y z : List A) → out ++ (w ++ (x ++ (y ++ z))) ≡ (((out ++ w) ++ x) ++ y) ++ z
grouped out w x y z = sym (append_assoc out w (x ++ (y ++ z))) ∙ sym (append_assoc (out ++ w) x (y ++ z)) ∙ sym (append_assoc ((out ++ w) ++ x) y z)

-- four rows more
pub fours_step : {A : Type 0} (raw : List A) (a b : Axis) (at i : ℕ) (d : A) (out new : List A) → a.up ≡ 1 → a.down ≡ 0 → i + 3 < a.length →
    new ≡ out ++ (line_from raw b (at + i) d ++ (line_from raw b (at + i + 1) d ++ (line_from raw b (at + i + 2) d ++ line_from raw b (at + i + 3) d))) →
    new ++ map (λ is. get_or raw (place_at at (a ∷ b ∷ []) is) d) (rows_from (b.length ∷ []) (i + 4) a.length)
    ≡ out ++ map (λ is. get_or raw (place_at at (a ∷ b ∷ []) is) d) (rows_from (b.length ∷ []) i a.length)
fours_step {A = A} raw a b at i d out new u v l e =
    let h : List ℕ → A = λ is. get_or raw (place_at at (a ∷ b ∷ []) is) d in
    let w : List A = line_from raw b (at + i) d in
    let x : List A = line_from raw b (at + i + 1) d in
    let y : List A = line_from raw b (at + i + 2) d in
    let z : List A = line_from raw b (at + i + 3) d in
    ap (λ (all : List A). all ++ map h (rows_from (b.length ∷ []) (i + 4) a.length)) (e ∙ grouped out w x y z)
    ∙ next_row h (b.length ∷ []) (i + 3) (i + 4) a.length (((out ++ w) ++ x) ++ y) z (omega arith) l (line_row raw a b at (i + 3) (at + i + 3) d (ahead a at (i + 3) (at + i + 3) u v (omega arith)))
    ∙ next_row h (b.length ∷ []) (i + 2) (i + 3) a.length ((out ++ w) ++ x) y (omega arith) (omega arith) (line_row raw a b at (i + 2) (at + i + 2) d (ahead a at (i + 2) (at + i + 2) u v (omega arith)))
    ∙ next_row h (b.length ∷ []) (i + 1) (i + 2) a.length (out ++ w) x (omega arith) (omega arith) (line_row raw a b at (i + 1) (at + i + 1) d (ahead a at (i + 1) (at + i + 1) u v (omega arith)))
    ∙ next_row h (b.length ∷ []) i (i + 1) a.length out w refl (omega arith) (line_row raw a b at i (at + i) d (ahead a at i (at + i) u v refl))

-- an element that one of four lines reads
pub read_below : (n at s p i : ℕ) → p ≡ at + s → at + 3 + s < n → i ≤ 3 → p + i < n
read_below n at s p i e h l = omega arith

pub read_first : (n at s p : ℕ) → p ≡ at + s → at + 3 + s < n → p < n
read_first n at s p e h = omega arith

pub read_further : (at s p i : ℕ) → p ≡ at + s → p + i ≡ at + i + s
read_further at s p i e = omega arith

-- one element more of a line
pub line_more : {A : Type 0} (raw line : List A) (a : Axis) (p q k : ℕ) (x : A) → k < length line → q ≡ p + step_at a k → q < length raw → x ≡ get_or raw q x →
    ((d : A) (j : ℕ) → j < k → get_or line j d ≡ get_or raw (p + step_at a j) d) → (d : A) (j : ℕ) → j < k + 1 → get_or (set line k x) j d ≡ get_or raw (p + step_at a j) d
line_more raw line a p q k x within e below is before = λ d.
    below_more (λ j. get_or (set line k x) j d ≡ get_or raw (p + step_at a j) d) k (λ j h. get_or-set_other line k j x d (other j h) ∙ before d j h)
    (get_or-set_same line k x d within ∙ is ∙ get_or_default raw q x d below ∙ ap (λ (m : ℕ). get_or raw m d) e)
  where
    other : (j : ℕ) → j < k → j ≢ k
    other j h = λ same. absurd (omega arith)

-- there is room for four lines behind a list
pub room_begins : {A : Type 0} (old grown shown : List A) (x : A) (count before : ℕ) → grown ≡ old ++ replicate count x → before ≡ length old → shown ≡ grown → before ≤ length shown
room_begins old grown shown x count before g b e =
    let long : length shown ≡ length old + length (replicate count x) = ap length e ∙ ap length g ∙ length-append old (replicate count x) in
    omega arith

pub room_long : {A : Type 0} (old grown shown : List A) (x : A) (count before back n : ℕ) → grown ≡ old ++ replicate count x → before ≡ length old → shown ≡ grown → back + before ≡ length shown → count ≡ n * 4 → back ≡ n * 4
room_long old grown shown x count before back n g b e h c =
    let long : length shown ≡ length old + length (replicate count x) = ap length e ∙ ap length g ∙ length-append old (replicate count x) in
    let many : length (replicate count x) ≡ count = length-replicate count x in
    omega arith

-- four lines of a length fill four times that
pub lines_long : {A : Type 0} (w x y z : List A) (n : ℕ) → length w ≡ n → length x ≡ n → length y ≡ n → length z ≡ n → length (w ++ (x ++ (y ++ z))) ≡ n * 4
lines_long w x y z n e f g h =
    let third : length (y ++ z) ≡ length y + length z = length-append y z in
    let second : length (x ++ (y ++ z)) ≡ length x + length (y ++ z) = length-append x (y ++ z) in
    let first : length (w ++ (x ++ (y ++ z))) ≡ length w + length (x ++ (y ++ z)) = length-append w (x ++ (y ++ z)) in
    omega arith

-- what is written into the room behind a list stands behind it
pub written_behind : {A : Type 0} (old grown shown prefix filled : List A) (x : A) (count before len n : ℕ) → grown ≡ old ++ replicate count x → before ≡ length old → shown ≡ grown → prefix ≡ take before shown →
    len ≡ length grown → count ≡ n * 4 → length filled ≡ n * 4 → take len ((prefix ++ filled) ++ drop (length (prefix ++ filled)) grown) ≡ old ++ filled
written_behind {A = A} old grown shown prefix filled x count before len n g b e f l c m =
    let long : length grown ≡ length old + length (replicate count x) = ap length g ∙ length-append old (replicate count x) in
    let many : length (replicate count x) ≡ count = length-replicate count x in
    let same : prefix ≡ old = f ∙ ap (take before) (e ∙ g) ∙ take_at old (replicate count x) before (sym b) in
    let whole : length (old ++ filled) ≡ length old + length filled = length-append old filled in
    ap (λ (y : List A). take len ((y ++ filled) ++ drop (length (y ++ filled)) grown)) same
    ∙ ap (λ (y : List A). take len ((old ++ filled) ++ y)) (drop_all (length (old ++ filled)) grown (omega arith))
    ∙ ap (take len) (append-nil (old ++ filled))
    ∙ take_all len (old ++ filled) (omega arith)

-- four lines that are those from four places
pub four_lines : {A : Type 0} (raw : List A) (a : Axis) (at : ℕ) (d : A) (w x y z : List A) → w ≡ line_from raw a at d → x ≡ line_from raw a (at + 1) d → y ≡ line_from raw a (at + 2) d → z ≡ line_from raw a (at + 3) d →
    w ++ (x ++ (y ++ z)) ≡ four_from raw a at d
four_lines {A = A} raw a at d w x y z e f g h =
    ap (λ (l : List A). l ++ (x ++ (y ++ z))) e
    ∙ ap (λ (l : List A). line_from raw a at d ++ (l ++ (y ++ z))) f
    ∙ ap (λ (l : List A). line_from raw a at d ++ (line_from raw a (at + 1) d ++ (l ++ z))) g
    ∙ ap (λ (l : List A). line_from raw a at d ++ (line_from raw a (at + 1) d ++ (line_from raw a (at + 2) d ++ l))) h
