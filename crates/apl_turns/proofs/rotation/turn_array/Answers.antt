use Rattle.std.proofs.Common.{◌≡◌, ◌+◌, ◌<◌, ◌==◌, false, length, get_or, take, drop, arith, ap, sym, ◌∙◌, List, ℕ}
use Rattle.std.proofs.lemmas.Bool.{eqb-false}
use Rattle.std.proofs.lemmas.List.{length-map}
use Rattle.apl_arrays.specs.Cells.{Items, cells_of}
use Rattle.apl_arrays.specs.Index.{size_of}
use Rattle.apl_arrays.specs.Left.{listed}
use Rattle.apl_arrays.specs.Numbers.{values}
use Rattle.apl_turns.specs.inside.Lines.{shift_of}
use Rattle.apl_turns.proofs.Parts.{some_length, length_small, whole_parts, other_parts}
use Rattle.apl_turns.proofs.Rounds.{shift_at_below}
use Rattle.apl_turns.proofs.Rotated.{length-sourced}
use Rattle.apl_turns.proofs.rotation.turn_array.Goals as goal

pub shifts_of-requires-clause-some : goal.shifts_of-requires-clause-some
shifts_of-requires-clause-some c =
    let empty : (length (cells_of (listed c.items-items.result)) == 0) ≡ false = sym c.is_empty.ensures ∙ c.if-is_empty.false in
    let some : 0 < size_of c.args.b.now.shape = omega (arith, eqb-false (length (cells_of (listed c.items-items.result))) 0 empty, ap (λ (t : Items). length (cells_of t)) c.items-items.ensures.value, c.items-items.ensures.full) in
    omega (arith, c.extent_along-extent.ensures.rows, ap (λ (s : List ℕ). get_or s c.args.axis 0) c.shape.ensures.value, some_length c.args.b.now.shape c.args.axis c.requires.within some)

pub shifts_of-requires-clause-small : goal.shifts_of-requires-clause-small
shifts_of-requires-clause-small c =
    omega (arith, c.extent_along-extent.ensures.rows, ap (λ (s : List ℕ). get_or s c.args.axis 0) c.shape.ensures.value, length_small c.args.b.now.shape c.args.axis, c.shape.ensures.array.small)

pub made_by-requires : goal.made_by-requires
made_by-requires c =
    let empty : (length (cells_of (listed c.items-items.result)) == 0) ≡ false = sym c.is_empty.ensures ∙ c.if-is_empty.false in
    let count : length (cells_of (listed c.items-items.result)) ≡ size_of c.args.b.now.shape = ap (λ (t : Items). length (cells_of t)) c.items-items.ensures.value ∙ c.items-items.ensures.full in
    let some : 0 < size_of c.args.b.now.shape = omega (arith, eqb-false (length (cells_of (listed c.items-items.result))) 0 empty) in
    let planes = c.extent_along-extent.ensures.planes ∙ ap (λ (s : List ℕ). size_of (take c.args.axis s)) c.shape.ensures.value in
    let rows = c.extent_along-extent.ensures.rows ∙ ap (λ (s : List ℕ). get_or s c.args.axis 0) c.shape.ensures.value in
    let width = c.extent_along-extent.ensures.width ∙ ap (λ (s : List ℕ). size_of (drop (c.args.axis + 1) s)) c.shape.ensures.value in
    let shifts = c.as_slice.ensures.value ∙ c.in_ok-shifts.ensures in
    let known : length c.as_slice.result.now ≡ length (values c.args.numbers) = ap length shifts ∙ length-map (values c.args.numbers) (shift_of c.extent_along-extent.result.rows) in
    record {
      whole =
          whole_parts c.args.b.now.shape c.args.axis c.extent_along-extent.result.planes c.extent_along-extent.result.rows c.extent_along-extent.result.width (length (cells_of (listed c.items-items.result))) c.requires.within
          count planes rows width;
      some = omega (arith, count, some);
      small = omega (arith, ap (λ (t : Items). length (cells_of t)) c.items-items.ensures.value, c.items-items.ensures.small);
      known = λ ne. known ∙ c.requires.each (λ e. ne (known ∙ e)) ∙ other_parts c.args.b.now.shape c.args.axis c.extent_along-extent.result.planes c.extent_along-extent.result.width c.requires.within planes width;
      below = λ line.
          shift_at_below c.extent_along-extent.result.rows (values c.args.numbers) c.as_slice.result.now line (omega (arith, rows, some_length c.args.b.now.shape c.args.axis c.requires.within some)) shifts;
    }

pub with_ravel-requires : goal.with_ravel-requires
with_ravel-requires c =
    ap (λ (t : Items). length (cells_of t)) c.in_ok-turned.ensures
    ∙ length-sourced c.extent_along-extent.result.rows c.extent_along-extent.result.width c.as_slice.result.now (listed c.items-items.result)
    ∙ ap (λ (t : Items). length (cells_of t)) c.items-items.ensures.value ∙ c.items-items.ensures.full
