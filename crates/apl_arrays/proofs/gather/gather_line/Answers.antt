use Rattle.std.proofs.Common.{◌≡◌, ◌+◌, ◌-◌, ◌<◌, ◌≤◌, ℕ, ◌++◌, ◌∷◌, [], get_or, length, take, arith, ap, sym, ◌∙◌}
use Rattle.std.proofs.lemmas.List.{get_or_default}
use Rattle.apl_arrays.specs.Strides.{step_at}
use Rattle.apl_arrays.proofs.Gathers.{line_start, line_step, line_end, side_by_side, side_within}
use Rattle.apl_arrays.proofs.gather.gather_line.Goals as goal

last : (n : ℕ) → 0 < n → n - 1 < n
last n h = omega arith

begins : (at n m : ℕ) → at + n ≤ m → at ≤ m
begins at n m h = omega arith

rest_long : (at n m r : ℕ) → at + n ≤ m → r + at ≡ m → n ≤ r
rest_long at n m r h e = omega arith

below_le : (p n : ℕ) → p < n → p ≤ n
below_le p n h = omega arith

pub loop-i-preserved : goal.loop-i-preserved
loop-i-preserved g c =
    let below : c.along.result < length c.args.raw.now = rw (c.along.ensures) (c.requires.placed c.loop-i.i c.loop-i-test.true) in
    λ d. line_step (λ k. get_or c.args.raw.now (c.args.at + step_at c.args.axis.now k) d) c.loop-i.out.items c.push.new.self.items c.loop-i.i c.args.axis.now.length c.loop-i-test.true
    (c.in_ok-push.ensures.items
    ∙ ap (λ x. c.loop-i.out.items ++ x ∷ []) (c.index-raw-along.is ∙ get_or_default c.args.raw.now c.along.result c.index-raw-along.result d below ∙ ap (λ p. get_or c.args.raw.now p d) c.along.ensures))
    ∙ c.loop-i.invariant d

pub returns : goal.returns
returns g c = λ d. sym (line_end (λ k. get_or c.args.raw.now (c.args.at + step_at c.args.axis.now k) d) c.loop-i.out.items c.loop-i.i c.args.axis.now.length (omega arith)) ∙ c.loop-i.invariant d

pub returns-then-axis-eq0 : goal.returns-then-axis-eq0
returns-then-axis-eq0 g c = λ d.
    let a = c.args.axis.now in
    let last : a.length - 1 < a.length = omega (arith, c.if-axis-gt0.true) in
    let within = side_within c.args.at (length c.args.raw.now) a c.if-axis-eq1.true c.if-axis-eq0.true c.if-axis-gt0.true (c.requires.placed (a.length - 1) last) in
    c.in_ok-extend_from_slice.ensures.items
    ∙ ap (λ l. c.args.out.now.items ++ l) (c.split_at-then-axis-eq0.ensures.front ∙ ap (take a.length) c.split_at.ensures.back ∙ side_by_side c.args.raw.now d c.args.at a c.if-axis-eq1.true c.if-axis-eq0.true within)

pub split_at-requires : goal.split_at-requires
split_at-requires g c =
    let a = c.args.axis.now in
    let within = side_within c.args.at (length c.args.raw.now) a c.if-axis-eq1.true c.if-axis-eq0.true c.if-axis-gt0.true (c.requires.placed (a.length - 1) (last a.length c.if-axis-gt0.true)) in
    begins c.args.at a.length (length c.args.raw.now) within

pub split_at-requires-then-axis-eq0 : goal.split_at-requires-then-axis-eq0
split_at-requires-then-axis-eq0 g c =
    let a = c.args.axis.now in
    let within = side_within c.args.at (length c.args.raw.now) a c.if-axis-eq1.true c.if-axis-eq0.true c.if-axis-gt0.true (c.requires.placed (a.length - 1) (last a.length c.if-axis-gt0.true)) in
    rest_long c.args.at a.length (length c.args.raw.now) (length c.split_at.result.1.now) within c.split_at.ensures.back_len

pub loop-i-init : goal.loop-i-init
loop-i-init g c = λ d. line_start (λ k. get_or c.args.raw.now (c.args.at + step_at c.args.axis.now k) d) c.args.out.now.items c.args.axis.now.length

pub along-requires-clause-near : goal.along-requires-clause-near
along-requires-clause-near g c = c.requires.near

pub offset_bounds-raw-along : goal.offset_bounds-raw-along
offset_bounds-raw-along g c = below_le c.along.result (length c.args.raw.now) (rw (c.along.ensures) (c.requires.placed c.loop-i.i c.loop-i-test.true))

pub bounds-raw-along : goal.bounds-raw-along
bounds-raw-along g c = rw (c.along.ensures) (c.requires.placed c.loop-i.i c.loop-i-test.true)
