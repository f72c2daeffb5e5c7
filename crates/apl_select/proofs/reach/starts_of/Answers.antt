use Rattle.std.proofs.Common.{◌≡◌, ℕ, ◌+◌, ◌*◌, ◌≤◌, List, length, get_or, drop, arith, ap, sym, ◌∙◌, subst}
use Rattle.apl_arrays.specs.Index.{bound_of}
use Rattle.std.specs.List.{All}
use Rattle.apl_select.specs.Indexing.{Places, joined_shape}
use Rattle.apl_select.specs.inside.Reached.{crossed}
use Rattle.apl_select.proofs.Reaching.{length_on_axes}
use Rattle.apl_select.proofs.Crossing.{near_rows, near_more, places_within, places_small, room_more, room_now, way_more, length-crossed}
use Rattle.apl_select.proofs.reach.starts_of.Goals as goal

pub offset_bounds-picks-k : goal.offset_bounds-picks-k
offset_bounds-picks-k c = omega arith

pub bounds-picks-k : goal.bounds-picks-k
bounds-picks-k c = omega (arith, length_on_axes c.args.shape.now c.args.picks.now c.requires.on_axes)

pub cross-requires-clause-near : goal.cross-requires-clause-near
cross-requires-clause-near c =
    let P : List ℕ → Type 0 = λ l. All (λ s. s * get_or c.args.shape.now c.loop-k.k 0 ≤ 1000000) l in
    subst P (sym c.as_slice.ensures.value) (near_rows c.loop-k.starts.items c.args.shape.now c.loop-k.k (omega arith) c.loop-k.invariant.near)

pub cross-requires-clause-places : goal.cross-requires-clause-places
cross-requires-clause-places c =
    places_small c.args.shape.now c.args.picks.now c.loop-k.k c.index-picks-k.result c.places.result.now c.requires.on_axes (omega arith)
    (c.places.ensures ∙ ap (λ (p : Places). p.places) c.index-picks-k.is) c.requires.small

pub cross-requires-clause-room : goal.cross-requires-clause-room
cross-requires-clause-room c =
    let now : length c.loop-k.starts.items * length c.places.result.now ≤ 1000000 =
    room_now c.args.shape.now c.loop-k.starts.items c.args.picks.now c.loop-k.k c.index-picks-k.result c.places.result.now c.requires.on_axes (omega arith)
    (c.places.ensures ∙ ap (λ (p : Places). p.places) c.index-picks-k.is) c.loop-k.invariant.room in
    rw (c.as_slice.ensures.value) now

pub loop-k-preserved : goal.loop-k-preserved
loop-k-preserved c =
    let places : c.places.result.now ≡ (get_or c.args.picks.now c.loop-k.k c.index-picks-k.result).places = c.places.ensures ∙ ap (λ (p : Places). p.places) c.index-picks-k.is in
    let made : c.in_ok-crossed.crossed.items ≡ crossed c.loop-k.starts.items (get_or c.args.shape.now c.loop-k.k 0) c.places.result.now =
    c.in_ok-crossed.ensures ∙ ap (λ (l : List ℕ). crossed l (get_or c.args.shape.now c.loop-k.k 0) c.places.result.now) c.as_slice.ensures.value in
    let count : length c.in_ok-crossed.crossed.items ≡ length c.loop-k.starts.items * length c.places.result.now =
    ap length made ∙ length-crossed c.loop-k.starts.items c.places.result.now (get_or c.args.shape.now c.loop-k.k 0) in
    let room : (length c.loop-k.starts.items * length c.places.result.now) * bound_of (joined_shape (drop (c.loop-k.k + 1) c.args.picks.now)) ≤ 1000000 =
    room_more c.args.shape.now c.loop-k.starts.items c.args.picks.now c.loop-k.k c.index-picks-k.result c.places.result.now c.requires.on_axes (omega arith) places c.loop-k.invariant.room in
    record {
      way =
          way_more c.args.shape.now c.loop-k.starts.items c.in_ok-crossed.crossed.items c.args.picks.now c.loop-k.k c.index-picks-k.result c.places.result.now c.requires.on_axes (omega arith) places made
          ∙ c.loop-k.invariant.way;
      near =
          near_more c.loop-k.starts.items c.args.shape.now c.places.result.now c.in_ok-crossed.crossed.items c.loop-k.k (omega arith) c.loop-k.invariant.near
          (places_within c.args.shape.now c.args.picks.now c.loop-k.k c.index-picks-k.result c.places.result.now c.requires.on_axes (omega arith) places) made;
      room = rw count room;
    }
