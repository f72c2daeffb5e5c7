use Rattle.std.proofs.Common.{zero, suc, ◌==◌, Bool, false, subst, ◌≡◌, ℕ, ◌+◌, ◌-◌, ◌<◌, ◌≤◌, ◌∷◌, [], List, IfOk, length, get_or, drop, arith, ap, sym, ◌∙◌, ◌*◌}
use Rattle.std.proofs.lemmas.Bool.{eqb-true}
use Rattle.std.specs.List.{All}
use Rattle.apl_select.specs.Indexing.{Places}
use Rattle.apl_select.specs.inside.Reached.{crossed, led, reached}
use Rattle.apl_arrays.specs.Cells.{cells_of}
use Rattle.apl_arrays.specs.Left.{listed}
use Rattle.apl_arrays.specs.Ravels.{items_of}
use Rattle.apl_select.proofs.Reaching.{length_on_axes, reached_led, led_below, made_led, scalar_led}
use Rattle.apl_arrays.proofs.Places.{small_size}
use Rattle.apl_select.proofs.Crossing.{way_last, near_rows}
use Rattle.apl_select.proofs.reach.read.Goals as goal

last_below : (n m : ℕ) (b : Bool) → b ≡ (n == 0) → b ≡ false → m ≡ n → n - 1 < m
last_below zero m b e f g = absurd (cc)
last_below (suc n) m b e f g = omega arith

last_axis : (n : ℕ) (b : Bool) → b ≡ (n == 0) → b ≡ false → (n - 1 < n) × (n ≤ (n - 1) + 1)
last_axis zero b e f = absurd (cc)
last_axis (suc n) b e f = (omega arith, omega arith)

pub offset_bounds-picks-last : goal.offset_bounds-picks-last
offset_bounds-picks-last c = omega arith

pub bounds-picks-last : goal.bounds-picks-last
bounds-picks-last c =
    last_below (length c.args.shape.now) (length c.args.picks.now) c.is_empty.result c.is_empty.ensures c.if-is_empty.false (length_on_axes c.args.shape.now c.args.picks.now c.requires.on_axes)

pub made_by-requires : goal.made_by-requires
made_by-requires c =
    let last = last_axis (length c.args.shape.now) c.is_empty.result c.is_empty.ensures c.if-is_empty.false in
    let way : crossed c.as_slice.result.now (get_or c.args.shape.now (length c.args.shape.now - 1) 0) c.places.result.now ≡ reached (0 ∷ []) c.args.shape.now c.args.picks.now =
    way_last c.args.shape.now c.as_slice.result.now (reached (0 ∷ []) c.args.shape.now c.args.picks.now) c.args.picks.now (length c.args.shape.now - 1) c.index-picks-last.result c.places.result.now
    c.requires.on_axes last.0 last.1 (c.places.ensures ∙ ap (λ (p : Places). p.places) c.index-picks-last.is)
    (ap (λ (l : List ℕ). reached l (drop (length c.args.shape.now - 1) c.args.shape.now) (drop (length c.args.shape.now - 1) c.args.picks.now)) c.as_slice.ensures.value ∙ c.in_ok-starts.ensures.way) in
    let P : List ℕ → Type 0 = λ l. All (λ q. q < length (cells_of (listed c.args.items))) l in
    let Q : ℕ → Type 0 = λ n. All (λ q. q < n) (led c.args.shape.now c.args.picks.now) in
    let R : List ℕ → Type 0 = λ l. All (λ s. s * get_or c.args.shape.now (length c.args.shape.now - 1) 0 ≤ 1000000) l in
    record {
      near = subst R (sym c.as_slice.ensures.value) (near_rows c.in_ok-starts.starts.items c.args.shape.now (length c.args.shape.now - 1) last.0 c.in_ok-starts.ensures.near);
      within = subst P (sym (way ∙ reached_led c.args.shape.now c.args.picks.now c.requires.on_axes)) (subst Q (sym c.requires.full) (led_below c.args.shape.now c.args.picks.now c.requires.on_axes));
      small = small_size (length (cells_of (listed c.args.items))) c.args.shape.now c.requires.full c.requires.small;
    }

pub returns-then-is_empty : goal.returns-then-is_empty
returns-then-is_empty c =
    subst (λ read. IfOk c.to_ravel.result (λ r. items_of r ≡ read))
    (scalar_led (listed c.args.items) c.args.shape.now c.args.picks.now (eqb-true (length c.args.shape.now) 0 (sym c.is_empty.ensures ∙ c.if-is_empty.true)) c.requires.on_axes c.requires.full) c.to_ravel.ensures

pub returns : goal.returns
returns c =
    let last = last_axis (length c.args.shape.now) c.is_empty.result c.is_empty.ensures c.if-is_empty.false in
    let way : crossed c.as_slice.result.now (get_or c.args.shape.now (length c.args.shape.now - 1) 0) c.places.result.now ≡ reached (0 ∷ []) c.args.shape.now c.args.picks.now =
    way_last c.args.shape.now c.as_slice.result.now (reached (0 ∷ []) c.args.shape.now c.args.picks.now) c.args.picks.now (length c.args.shape.now - 1) c.index-picks-last.result c.places.result.now
    c.requires.on_axes last.0 last.1 (c.places.ensures ∙ ap (λ (p : Places). p.places) c.index-picks-last.is)
    (ap (λ (l : List ℕ). reached l (drop (length c.args.shape.now - 1) c.args.shape.now) (drop (length c.args.shape.now - 1) c.args.picks.now)) c.as_slice.ensures.value ∙ c.in_ok-starts.ensures.way) in
    subst (λ read. IfOk c.made_by.result (λ r. items_of r ≡ read)) (made_led (listed c.args.items) c.args.shape.now c.args.picks.now _ c.requires.on_axes way) c.made_by.ensures
