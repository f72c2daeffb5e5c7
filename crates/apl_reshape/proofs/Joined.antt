-- The joined array, made of its parts.
use Rattle.std.proofs.Common.{◌≡◌, ℕ, ◌*◌, ◌≤◌, Bool, cond, List, [], ◌∷◌, length, take, drop, get_or, Result, Ok, refl, ap, sym, ◌∙◌}
use Rattle.apl_faults.specs.declared.fault.Fault.{Fault}
use Rattle.apl_arrays.specs.Index.{size_of, indices}
use Rattle.apl_arrays.specs.Cells.{Arr, Items, cells_of}
use Rattle.apl_arrays.specs.Checks.{limited}
use Rattle.apl_arrays.specs.Results.{and_then, ok_map}
use Rattle.apl_reshape.specs.declared.blocks.Block.{Block}
use Rattle.apl_reshape.specs.Catenate.{Both, beside, of_one_type, place_in, joined_items, joined_shape, joined_array, joined_of}
use Rattle.apl_reshape.specs.inside.Rows.{is_scalar_shape, needed}
use Rattle.apl_reshape.proofs.JoinedRows.{size_parts}
use Rattle.apl_reshape.proofs.Joins.{size-beside}
use Rattle.apl_reshape.proofs.Limits.{few_is_enough}

-- all rows need as many items as the operand has
needed_in_all : (axis len rows : ℕ) (own other s : List ℕ) → rows ≡ size_of (take axis s) → len ≡ size_of (drop axis s) → s ≡ beside axis own other → cond (is_scalar_shape own) 1 (rows * len) ≡ size_of own
needed_in_all axis len rows [] other s r l b = refl
needed_in_all axis len rows (n ∷ own) other s r l b =
    ap (λ (k : ℕ). k * len) r ∙ ap (λ (k : ℕ). size_of (take axis s) * k) l ∙ size_parts axis s ∙ ap size_of b ∙ size-beside n own other axis

pub enough_items : (axis rows : ℕ) (u own other s : List ℕ) (x : Block) (kept items : Items) → x.is_scalar ≡ is_scalar_shape u → u ≡ own → x.len ≡ size_of (drop axis s) → rows ≡ size_of (take axis s) →
    s ≡ beside axis own other → length (cells_of items) ≡ size_of own → kept ≡ items → needed x rows ≤ length (cells_of kept)
enough_items axis rows u own other s x kept items a e l r b full k =
    let needs : Bool → ℕ = λ z. cond z 1 (rows * x.len) in
    few_is_enough (needed x rows) (length (cells_of kept))
    (ap needs (a ∙ ap is_scalar_shape e) ∙ needed_in_all axis x.len rows own other s r l b ∙ sym (ap (λ (i : Items). length (cells_of i)) k ∙ full))

-- elements of one type in a shape within the limits
pub joined_answer : (axis : ℕ) (s t shape last : List ℕ) (a b made : Arr) (i j kept : Items) (both : Both) →
    of_one_type i j ≡ Ok both → i ≡ a.items → j ≡ b.items → limited shape ≡ Ok shape → shape ≡ joined_shape axis s t → last ≡ joined_shape axis s t →
    kept ≡ joined_items axis (get_or s axis 0) (place_in a.shape s) (place_in b.shape t) both (indices (joined_shape axis s t)) → made ≡ record { shape = last; items = kept } → joined_of axis s t a b ≡ Ok made
joined_answer axis s t shape last a b made i j kept both e f g h k l m n =
    let good : List ℕ → Result (List ℕ) Fault = λ q. Ok q in
    let done : Arr → Result Arr Fault = λ r. Ok r in
    let array : List ℕ → Items → Arr = λ q x. record { shape = q; items = x } in
    let rest : Both → Result Arr Fault = λ both. ok_map (joined_array axis s t a b both) (limited (joined_shape axis s t)) in
    ap (λ (r : Result Both Fault). and_then r rest) (ap (λ (x : Items). of_one_type x b.items) (sym f) ∙ ap (of_one_type i) (sym g) ∙ e)
    ∙ ap (ok_map (joined_array axis s t a b both)) (ap limited (sym k) ∙ h ∙ ap good k)
    ∙ ap done (sym (n ∙ ap (λ (q : List ℕ). array q kept) l ∙ ap (array (joined_shape axis s t)) m))
