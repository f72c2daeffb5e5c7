-- Views by index lists.
use Rattle.std.proofs.Common.{◌≡◌, ℕ, ◌+◌, ◌-◌, ◌<◌, ◌≤◌, Bool, true, List, map, length, get_or, cond, ap, sym, ◌∙◌, arith, None}
use Rattle.std.specs.Prelude.{slice_get}
use Rattle.apl_arrays.specs.Index.{indices, is_within, position_in}
use Rattle.apl_arrays.specs.Cells.{Arr, IsArray, cells_of, cell_at}
use Rattle.apl_arrays.specs.Strides.{lengths, whole_axes}
use Rattle.apl_arrays.specs.Views.{selected, picked, on_axis, length_of, reversed, cut, turned, turned_shape}
use Rattle.apl_arrays.proofs.Places.{position_in-lt}
use Rattle.apl_arrays.proofs.Steps.{length-lengths, get_or-lengths, no_axis}
use Rattle.apl_arrays.proofs.Whole.{lengths-whole}
use Rattle.apl_arrays.proofs.Moves.{mirrored, leads_back, lengths-back, leads_cut, lengths-cut}
use Rattle.apl_arrays.proofs.Formed.{picked_at}
use Rattle.apl_arrays.proofs.Joining.{leads_turned, lengths_turned}

pub selected_at : (a : Arr) (s : List ℕ) (g : List ℕ → List ℕ) (i : List ℕ) → IsArray a.shape a.items → is_within s i ≡ true → is_within a.shape (g i) ≡ true → cell_at (selected a s g) i ≡ cell_at a (g i)
selected_at a s g i h w v =
    ap (λ (b : Bool). cond b (slice_get (cells_of (picked a.items (λ i. position_in a.shape (g i)) (indices s))) (position_in s i)) None) w
    ∙ picked_at a.items (λ i. position_in a.shape (g i)) s i w (omega (arith, position_in-lt a.shape (g i) v, h.full))
    ∙ sym (ap (λ (b : Bool). cond b (slice_get (cells_of a.items) (position_in a.shape (g i))) None) v)

length-whole : (s : List ℕ) → length (whole_axes s) ≡ length s
length-whole s = sym (length-lengths (whole_axes s)) ∙ ap length (lengths-whole s)

along : (s t i : List ℕ) → s ≡ t → is_within s i ≡ true → is_within t i ≡ true
along s t i e w = rw (← e) w

pub reversed_at : (a : Arr) (axis : ℕ) (i : List ℕ) → IsArray a.shape a.items → is_within a.shape i ≡ true → cell_at (reversed axis a) i ≡ cell_at a (on_axis axis (λ k. length_of a axis - 1 - k) i)
reversed_at a axis i h w =
    selected_at a a.shape (mirrored a.shape axis) i h w there
  where
    there : is_within a.shape (mirrored a.shape axis i) ≡ true
    there =
        let v : is_within (lengths (whole_axes a.shape)) (mirrored (lengths (whole_axes a.shape)) axis i) ≡ true = (leads_back (whole_axes a.shape) axis 0 i (along a.shape _ i (sym (lengths-back (whole_axes a.shape) axis ∙ lengths-whole a.shape)) w)).0 in
        rw (lengths-whole a.shape) at v

pub cut_at : (a : Arr) (axis from len : ℕ) (i : List ℕ) → IsArray a.shape a.items → axis < length a.shape → from + len ≤ length_of a axis → is_within (on_axis axis (λ n. len) a.shape) i ≡ true →
    cell_at (cut axis from len a) i ≡ cell_at a (on_axis axis (λ k. k + from) i)
cut_at a axis from len i h k l w =
    selected_at a (on_axis axis (λ n. len) a.shape) (on_axis axis (λ k. k + from)) i h w
    (along (lengths (whole_axes a.shape)) a.shape (on_axis axis (λ k. k + from) i) (lengths-whole a.shape)
    (leads_cut (whole_axes a.shape) no_axis axis from len 0 here there i
    (along (on_axis axis (λ n. len) a.shape) _ i (sym (lengths-cut (whole_axes a.shape) axis len ∙ ap (on_axis axis (λ n. len)) (lengths-whole a.shape))) w)).0)
  where
    here : axis < length (whole_axes a.shape)
    here = omega (arith, length-whole a.shape)

    there : from + len ≤ (get_or (whole_axes a.shape) axis no_axis).length
    there = omega (arith, get_or-lengths (whole_axes a.shape) axis no_axis here, ap (λ s. get_or s axis 0) (lengths-whole a.shape))

pub turned_at : (a : Arr) (axes : List ℕ) (i : List ℕ) → IsArray a.shape a.items → length axes ≡ length a.shape → is_within (turned_shape axes a.shape) i ≡ true →
    cell_at (turned axes a) i ≡ cell_at a (map (λ m. get_or i m 0) axes)
turned_at a axes i h e w =
    selected_at a (turned_shape axes a.shape) (λ i. map (λ m. get_or i m 0) axes) i h w
    (along (lengths (whole_axes a.shape)) a.shape (map (λ m. get_or i m 0) axes) (lengths-whole a.shape)
    (leads_turned axes (whole_axes a.shape) 0 (e ∙ sym (length-whole a.shape)) i
    (along (turned_shape axes a.shape) _ i (sym (lengths_turned axes (whole_axes a.shape) ∙ ap (turned_shape axes) (lengths-whole a.shape))) w)).0)
