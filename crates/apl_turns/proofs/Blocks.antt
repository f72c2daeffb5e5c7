-- Elements appended in runs, and where they come from.
use Rattle.std.proofs.Common.{◌≡◌, ◌==◌, ℕ, zero, suc, ◌+◌, ◌-◌, ◌*◌, ◌/◌, ◌%◌, ◌<◌, ◌≤◌, Bool, true, false, cond, List, [], ◌∷◌, ◌++◌, map, length, get_or, take, drop, refl, ap, sym, ◌∙◌, arith, append_assoc, append-nil, ⊎_elim}
use Rattle.std.specs.List.{range_with_len}
use Rattle.std.proofs.lemmas.List.{get_or_append_left, get_or-append_right, get_or-take, get_or-drop, length-append, length-drop, length-take, length-take-le}
use Rattle.std.proofs.lemmas.List.FromFn.{map-range_with_len_more, fill_by_all}
use Rattle.std.proofs.lemmas.Bool.{cases_lt, eqb-true, eq-eqb}
use Rattle.std.proofs.lemmas.Nat.{div-mul-add, mod-mul-add, div-add-mod', mod_below, mul-add-lt}
use Rattle.std.proofs.Math.Nat.{mul-le-mul_right}
use Rattle.apl_turns.specs.inside.Lines.{source, source_in, shift_at}

-- what goes on with g
pub grown : {A : Type 0} (f g : ℕ → A) (a m : ℕ) → ((t : ℕ) → t < m → f t ≡ g (a + t)) → map g (range_with_len 0 a) ++ map f (range_with_len 0 m) ≡ map g (range_with_len 0 (a + m))
grown f g a zero h = append-nil (map g (range_with_len 0 a)) ∙ ap (λ n. map g (range_with_len 0 n)) (none a)
  where
    none : (a : ℕ) → a ≡ a + 0
    none a = omega arith
grown f g a (suc m) h =
    ap (λ n. map g (range_with_len 0 a) ++ map f (range_with_len 0 n)) (more m)
    ∙ ap (λ l. map g (range_with_len 0 a) ++ l) (map-range_with_len_more f 0 m m (omega arith))
    ∙ sym (append_assoc (map g (range_with_len 0 a)) (map f (range_with_len 0 m)) (f m ∷ []))
    ∙ ap (λ l. l ++ f m ∷ []) (grown f g a m (λ t l. h t (omega arith)))
    ∙ ap (λ x. map g (range_with_len 0 (a + m)) ++ x ∷ []) (h m (omega arith))
    ∙ sym (map-range_with_len_more g 0 (a + m) (a + m) (omega arith))
    ∙ ap (λ n. map g (range_with_len 0 n)) (further a m)
  where
    more : (m : ℕ) → suc m ≡ m + 1
    more m = omega arith

    further : (a m : ℕ) → a + m + 1 ≡ a + suc m
    further a m = omega arith

pub grown_by : {A : Type 0} (d : A) (g : ℕ → A) (xs : List A) (a m : ℕ) → length xs ≡ m → ((t : ℕ) → t < m → get_or xs t d ≡ g (a + t)) → map g (range_with_len 0 a) ++ xs ≡ map g (range_with_len 0 (a + m))
grown_by d g xs a m e h = ap (λ l. map g (range_with_len 0 a) ++ l) (fill_by_all (λ t. g (a + t)) xs m d e h) ∙ grown (λ t. g (a + t)) g a m (λ t l. refl)

-- a run more of w elements
pub run_step : {A : Type 0} (g : ℕ → A) (old out new xs : List A) (k w : ℕ) → out ≡ old ++ map g (range_with_len 0 (k * w)) → new ≡ out ++ xs → map g (range_with_len 0 (k * w)) ++ xs ≡ map g (range_with_len 0 (k * w + w)) →
    new ≡ old ++ map g (range_with_len 0 ((k + 1) * w))
run_step g old out new xs k w e f h =
    f ∙ ap (λ l. l ++ xs) e ∙ append_assoc old (map g (range_with_len 0 (k * w))) xs ∙ ap (λ l. old ++ l) h ∙ ap (λ n. old ++ map g (range_with_len 0 n)) (next k w)
  where
    next : (k w : ℕ) → k * w + w ≡ (k + 1) * w
    next k w = omega arith

-- an element more
pub push_step : {A : Type 0} (h : ℕ → A) (old out new : List A) (x : A) (k : ℕ) → out ≡ old ++ map h (range_with_len 0 k) → new ≡ out ++ x ∷ [] → x ≡ h k → new ≡ old ++ map h (range_with_len 0 (k + 1))
push_step h old out new x k e f g =
    f ∙ ap (λ l. l ++ x ∷ []) e ∙ append_assoc old (map h (range_with_len 0 k)) (x ∷ [])
    ∙ ap (λ y. old ++ (map h (range_with_len 0 k) ++ y ∷ [])) g ∙ ap (λ l. old ++ l) (sym (map-range_with_len_more h 0 k k (omega arith)))

pub small_mod : (n m : ℕ) → n < m → n % m ≡ n
small_mod n m h = ap (λ x. x % m) (none n m) ∙ mod-mul-add 0 m n h
  where
    none : (n m : ℕ) → n ≡ 0 * m + n
    none n m = omega arith

pub once_mod : (n m : ℕ) → m ≤ n → n < m + m → n % m ≡ n - m
once_mod n m h l = ap (λ x. x % m) (once n m h) ∙ mod-mul-add 1 m (n - m) (omega arith)
  where
    once : (n m : ℕ) → m ≤ n → n ≡ 1 * m + (n - m)
    once n m h = omega arith

-- a list from an element on, and then the elements before
pub turned_get : {A : Type 0} (xs : List A) (n from t : ℕ) (d : A) → length xs ≡ n → from ≤ n → t < n → get_or (drop from xs ++ take from xs) t d ≡ get_or xs ((t + from) % n) d
turned_get {A = A} xs n from t d e l h = ⊎_elim near far (cases_lt (t + from) n)
  where
    near : t + from < n → get_or (drop from xs ++ take from xs) t d ≡ get_or xs ((t + from) % n) d
    near k =
        get_or_append_left (drop from xs) (take from xs) d t (omega (arith, length-drop from xs))
        ∙ get_or-drop from xs t d
        ∙ ap (λ p. get_or xs p d) (comm from t ∙ sym (small_mod (t + from) n k))
      where
        comm : (a b : ℕ) → a + b ≡ b + a
        comm a b = omega arith

    far : n ≤ t + from → get_or (drop from xs ++ take from xs) t d ≡ get_or xs ((t + from) % n) d
    far k =
        get_or-append_right (drop from xs) (take from xs) (n - from) t d (omega (arith, length-drop from xs)) (omega arith)
        ∙ get_or-take from xs (t - (n - from)) d (omega arith)
        ∙ ap (λ p. get_or xs p d) (back t n from l k ∙ sym (once_mod (t + from) n k (omega arith)))
      where
        back : (t n from : ℕ) → from ≤ n → n ≤ t + from → t - (n - from) ≡ t + from - n
        back t n from l k = omega arith

pub in_plane : (row line rows w : ℕ) → row < rows → line < w → row * w + line < rows * w
in_plane row line rows w h l = omega (arith, mul-add-lt row w line rows h l)

scaled_mod : (x rows w b : ℕ) → b < w → 0 < rows → (x * w + b) % (rows * w) ≡ x % rows * w + b
scaled_mod x rows w b l h =
    ap (λ y. y % (rows * w)) (split x (x / rows) (x % rows) rows w b (div-add-mod' x rows))
    ∙ mod-mul-add (x / rows) (rows * w) (x % rows * w + b) (in_plane (x % rows) b rows w (mod_below x rows h) l)
  where
    split : (x q r rows w b : ℕ) → q * rows + r ≡ x → x * w + b ≡ q * (rows * w) + (r * w + b)
    split x q r rows w b e = rw (← e) (omega arith)

-- the element at a row and a line
pub source_in_at : (rows w : ℕ) (shift : ℕ → ℕ) (row line : ℕ) → line < w → source_in rows w shift (row * w + line) ≡ (row + shift line) % rows * w + line
source_in_at rows w shift row line l =
    ap (λ k. (k + shift ((row * w + line) % w)) % rows * w + (row * w + line) % w) (div-mul-add row w line l)
    ∙ ap (λ j. (row + shift j) % rows * w + j) (mod-mul-add row w line l)

pub source_in_below : (rows w : ℕ) (shift : ℕ → ℕ) (place : ℕ) → 0 < rows → 0 < w → source_in rows w shift place < rows * w
source_in_below rows w shift place h l =
    in_plane ((place / w + shift (place % w)) % rows) (place % w) rows w (mod_below (place / w + shift (place % w)) rows h) (mod_below place w l)

-- only the lines of a plane count
pub source_in_same : (rows w : ℕ) (f g : ℕ → ℕ) (place : ℕ) → 0 < w → ((line : ℕ) → line < w → f line ≡ g line) → source_in rows w f place ≡ source_in rows w g place
source_in_same rows w f g place l h = ap (λ k. (place / w + k) % rows * w + place % w) (h (place % w) (mod_below place w l))

-- lines that are turned as one
pub source_in_one : (rows w k place : ℕ) → 0 < rows → 0 < w → source_in rows w (λ line. k) place ≡ (place + k * w) % (rows * w)
source_in_one rows w k place h l =
    sym (scaled_mod (place / w + k) rows w (place % w) (mod_below place w l) h)
    ∙ ap (λ x. x % (rows * w)) (whole (place / w) k w (place % w) place (div-add-mod' place w))
  where
    whole : (q k w r p : ℕ) → q * w + r ≡ p → (q + k) * w + r ≡ p + k * w
    whole q k w r p e = rw (← e) (omega arith)

-- the element at a place of a plane
pub source_at : (rows w : ℕ) (shifts : List ℕ) (plane place : ℕ) → place < rows * w → source rows w shifts (plane * (rows * w) + place) ≡ plane * (rows * w) + source_in rows w (λ line. shift_at shifts (plane * w + line)) place
source_at rows w shifts plane place l =
    ap (λ p. p * (rows * w) + source_in rows w (λ line. shift_at shifts (p * w + line)) ((plane * (rows * w) + place) % (rows * w))) (div-mul-add plane (rows * w) place l)
    ∙ ap (λ t. plane * (rows * w) + source_in rows w (λ line. shift_at shifts (plane * w + line)) t) (mod-mul-add plane (rows * w) place l)

-- a piece of a list
pub piece_get : {A : Type 0} (xs : List A) (k size t : ℕ) (d : A) → t < size → get_or (take size (drop (k * size) xs)) t d ≡ get_or xs (k * size + t) d
piece_get xs k size t d l = get_or-take size (drop (k * size) xs) t d l ∙ get_or-drop (k * size) xs t d

pub piece_length : {A : Type 0} (xs : List A) (k size : ℕ) → k * size + size ≤ length xs → length (take size (drop (k * size) xs)) ≡ size
piece_length xs k size h = length-take-le size (drop (k * size) xs) (omega (arith, length-drop (k * size) xs))

-- there is a whole piece more
pub piece_fits : (k n size : ℕ) → k < n → k * size + size ≤ n * size
piece_fits k n size h = omega (arith, mul-le-mul_right size (next k n h))
  where
    next : (k n : ℕ) → k < n → k + 1 ≤ n
    next k n h = omega arith

-- a single number serves for all lines
pub shift_single : (shifts : List ℕ) (j k : ℕ) → length shifts ≡ 1 → shift_at shifts j ≡ shift_at shifts k
shift_single shifts j k e =
    ap (λ (x : Bool). get_or shifts (cond x 0 j) 0) (eq-eqb (length shifts) 1 e) ∙ sym (ap (λ (x : Bool). get_or shifts (cond x 0 k) 0) (eq-eqb (length shifts) 1 e))

-- else each has its own
pub shift_own : (shifts : List ℕ) (line : ℕ) → line < length shifts → shift_at shifts line ≡ get_or shifts line 0
shift_own shifts line h = at (length shifts == 1) refl
  where
    at : (x : Bool) → (length shifts == 1) ≡ x → get_or shifts (cond x 0 line) 0 ≡ get_or shifts line 0
    at true e = ap (λ k. get_or shifts k 0) (omega (arith, eqb-true (length shifts) 1 e))
    at false e = refl

pub some_width : (planes rows w n : ℕ) → n ≡ planes * (rows * w) → 0 < n → 0 < w
some_width planes rows zero n e h = absurd (omega arith)
some_width planes rows (suc w) n e h = omega arith

pub narrow : (plane w line : ℕ) → w ≡ 1 → line < w → plane * w + line ≡ plane
narrow plane w line e l = rw e (none plane line (omega arith))
  where
    none : (plane line : ℕ) → line < 1 → plane * 1 + line ≡ plane
    none plane line l = omega arith

-- the next plane, whose lines are turned as one
pub plane_turned : {A : Type 0} (d : A) (raw : List A) (shifts : List ℕ) (rows w plane : ℕ) (part : List A) (from : ℕ) → part ≡ take (rows * w) (drop (plane * (rows * w)) raw) → from ≡ shift_at shifts plane * w →
    shift_at shifts plane < rows → 0 < w → plane * (rows * w) + rows * w ≤ length raw → ((line : ℕ) → line < w → shift_at shifts (plane * w + line) ≡ shift_at shifts plane) →
    map (λ place. get_or raw (source rows w shifts place) d) (range_with_len 0 (plane * (rows * w))) ++ (drop from part ++ take from part) ≡ map (λ place. get_or raw (source rows w shifts place) d) (range_with_len 0 (plane * (rows * w) + rows * w))
plane_turned d raw shifts rows w plane part from e f h l fits one =
    grown_by d (λ place. get_or raw (source rows w shifts place) d) (drop from part ++ take from part) (plane * (rows * w)) (rows * w) size each
  where
    all : length part ≡ rows * w
    all = ap length e ∙ piece_length raw plane (rows * w) fits

    low : from ≤ rows * w
    low = omega (arith, f, in_plane (shift_at shifts plane) 0 rows w h l)

    size : length (drop from part ++ take from part) ≡ rows * w
    size = omega (arith, length-append (drop from part) (take from part), length-drop from part, length-take from part, all, low)

    some : 0 < rows
    some = omega (arith, h)

    each : (t : ℕ) → t < rows * w → get_or (drop from part ++ take from part) t d ≡ get_or raw (source rows w shifts (plane * (rows * w) + t)) d
    each t k =
        turned_get part (rows * w) from t d all low k
        ∙ ap (λ l. get_or l ((t + from) % (rows * w)) d) e
        ∙ piece_get raw plane (rows * w) ((t + from) % (rows * w)) d (mod_below (t + from) (rows * w) (omega (arith, k)))
        ∙ ap (λ q. get_or raw (plane * (rows * w) + q) d)
        (ap (λ f. (t + f) % (rows * w)) f ∙ sym (source_in_one rows w (shift_at shifts plane) t some l)
        ∙ source_in_same rows w (λ line. shift_at shifts plane) (λ line. shift_at shifts (plane * w + line)) t l (λ line m. sym (one line m)))
        ∙ ap (λ q. get_or raw q d) (sym (source_at rows w shifts plane t k))

-- the turns of a plane's lines
pub piece_shift : (shifts : List ℕ) (w plane line : ℕ) (part : List ℕ) → part ≡ take w (drop (plane * w) shifts) → plane * w + w ≤ length shifts → line < w → get_or part line 0 ≡ shift_at shifts (plane * w + line)
piece_shift shifts w plane line part e h l = ap (λ xs. get_or xs line 0) e ∙ piece_get shifts plane w line 0 l ∙ sym (shift_own shifts (plane * w + line) (omega arith))

-- the next plane, each of whose lines is turned by its own number
pub plane_by_lines : {A : Type 0} (d : A) (raw : List A) (shifts : List ℕ) (rows w plane : ℕ) (part : List A) (own : List ℕ) → part ≡ take (rows * w) (drop (plane * (rows * w)) raw) → own ≡ take w (drop (plane * w) shifts) →
    0 < rows → 0 < w → plane * (rows * w) + rows * w ≤ length raw → plane * w + w ≤ length shifts →
    map (λ place. get_or raw (source rows w shifts place) d) (range_with_len 0 (plane * (rows * w))) ++ map (λ place. get_or part (source_in rows (length own) (λ line. get_or own line 0) place) d) (range_with_len 0 (length part))
    ≡ map (λ place. get_or raw (source rows w shifts place) d) (range_with_len 0 (plane * (rows * w) + rows * w))
plane_by_lines d raw shifts rows w plane part own e f h l fits each_fits =
    ap (λ n. map (λ place. get_or raw (source rows w shifts place) d) (range_with_len 0 (plane * (rows * w))) ++ map (λ place. get_or part (source_in rows (length own) (λ line. get_or own line 0) place) d) (range_with_len 0 n)) (ap length e ∙ piece_length raw plane (rows * w) fits)
    ∙ grown (λ place. get_or part (source_in rows (length own) (λ line. get_or own line 0) place) d) (λ place. get_or raw (source rows w shifts place) d) (plane * (rows * w)) (rows * w) each
  where
    each : (t : ℕ) → t < rows * w → get_or part (source_in rows (length own) (λ line. get_or own line 0) t) d ≡ get_or raw (source rows w shifts (plane * (rows * w) + t)) d
    each t k =
        ap (λ n. get_or part (source_in rows n (λ line. get_or own line 0) t) d) (ap length f ∙ piece_length shifts plane w each_fits)
        ∙ ap (λ xs. get_or xs (source_in rows w (λ line. get_or own line 0) t) d) e
        ∙ piece_get raw plane (rows * w) (source_in rows w (λ line. get_or own line 0) t) d (source_in_below rows w (λ line. get_or own line 0) t h l)
        ∙ ap (λ q. get_or raw (plane * (rows * w) + q) d) (source_in_same rows w (λ line. get_or own line 0) (λ line. shift_at shifts (plane * w + line)) t l (λ line m. piece_shift shifts w plane line own f each_fits m))
        ∙ ap (λ q. get_or raw q d) (sym (source_at rows w shifts plane t k))

-- the next row of a plane
pub plane_by_rows : {A : Type 0} (d : A) (part : List A) (own : List ℕ) (rows row : ℕ) →
    map (λ place. get_or part (source_in rows (length own) (λ line. get_or own line 0) place) d) (range_with_len 0 (row * length own)) ++ map (λ line. get_or part ((row + get_or own line 0) % rows * length own + line) d) (range_with_len 0 (length own))
    ≡ map (λ place. get_or part (source_in rows (length own) (λ line. get_or own line 0) place) d) (range_with_len 0 (row * length own + length own))
plane_by_rows d part own rows row =
    grown (λ line. get_or part ((row + get_or own line 0) % rows * length own + line) d) (λ place. get_or part (source_in rows (length own) (λ line. get_or own line 0) place) d) (row * length own) (length own)
    (λ line l. ap (λ q. get_or part q d) (sym (source_in_at rows (length own) (λ line. get_or own line 0) row line l)))
