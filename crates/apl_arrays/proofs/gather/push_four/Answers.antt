use Rattle.std.proofs.Common.{◌≡◌, ◌++◌, ◌+◌, ◌*◌, ◌≤◌, ℕ, length, rules, arith, ap, ◌∙◌}
use Rattle.apl_arrays.specs.Strides.{step_at}
use Rattle.apl_arrays.proofs.Fours.{four_lines, lines_long, read_first, room_begins, room_long, written_behind}
use Rattle.apl_arrays.proofs.gather.push_four.Goals as goal

-- lengths of parts
first_fits : (n m : ℕ) → m ≡ n * 4 → n ≤ m
first_fits n m e = omega arith

second_fits : (n m r : ℕ) → m ≡ n * 4 → r + n ≡ m → n ≤ r
second_fits n m r e f = omega arith

third_fits : (n m r s : ℕ) → m ≡ n * 4 → r + n ≡ m → s + n ≡ r → n ≤ s
third_fits n m r s e f h = omega arith

fourth_long : (n m r s t : ℕ) → m ≡ n * 4 → r + n ≡ m → s + n ≡ r → t + n ≡ s → t ≡ n
fourth_long n m r s t e f h k = omega arith

pub along-requires-clause-near : goal.along-requires-clause-near
along-requires-clause-near g c = c.requires.near

pub offset_bounds-raw-along : goal.offset_bounds-raw-along
offset_bounds-raw-along g c =
    let below = read_first (length c.args.raw.now) c.args.at (step_at c.args.axis.now 0) c.along.result c.along.ensures (c.requires.placed 0 c.requires.some) in
    omega (arith, below)

pub bounds-raw-along : goal.bounds-raw-along
bounds-raw-along g c = read_first (length c.args.raw.now) c.args.at (step_at c.args.axis.now 0) c.along.result c.along.ensures (c.requires.placed 0 c.requires.some)

pub split_at_mut-lines-requires : goal.split_at_mut-lines-requires
split_at_mut-lines-requires g c =
    room_begins c.args.out.now.items c.grow.new.out.items c.as_mut_slice.result.now c.index-raw-along.result c.in-Some.count c.in_ok-before.before c.in_ok-before.ensures.grown c.in_ok-before.ensures.place c.as_mut_slice.ensures.value

pub split_at_mut-first-requires : goal.split_at_mut-first-requires
split_at_mut-first-requires g c =
    let room : length c.split_at_mut-lines.result.1.now ≡ c.args.axis.now.length * 4 =
    room_long c.args.out.now.items c.grow.new.out.items c.as_mut_slice.result.now c.index-raw-along.result c.in-Some.count c.in_ok-before.before (length c.split_at_mut-lines.result.1.now) c.args.axis.now.length
    c.in_ok-before.ensures.grown c.in_ok-before.ensures.place c.as_mut_slice.ensures.value c.split_at_mut-lines.ensures.back_len c.in-Some.ensures.1
    in
    first_fits c.args.axis.now.length (length c.split_at_mut-lines.result.1.now) room

pub split_at_mut-second-requires : goal.split_at_mut-second-requires
split_at_mut-second-requires g c =
    let room : length c.split_at_mut-lines.result.1.now ≡ c.args.axis.now.length * 4 =
    room_long c.args.out.now.items c.grow.new.out.items c.as_mut_slice.result.now c.index-raw-along.result c.in-Some.count c.in_ok-before.before (length c.split_at_mut-lines.result.1.now) c.args.axis.now.length
    c.in_ok-before.ensures.grown c.in_ok-before.ensures.place c.as_mut_slice.ensures.value c.split_at_mut-lines.ensures.back_len c.in-Some.ensures.1
    in
    second_fits c.args.axis.now.length (length c.split_at_mut-lines.result.1.now) (length c.split_at_mut-first.result.1.now) room c.split_at_mut-first.ensures.back_len

pub split_at_mut-third-requires : goal.split_at_mut-third-requires
split_at_mut-third-requires g c =
    let room : length c.split_at_mut-lines.result.1.now ≡ c.args.axis.now.length * 4 =
    room_long c.args.out.now.items c.grow.new.out.items c.as_mut_slice.result.now c.index-raw-along.result c.in-Some.count c.in_ok-before.before (length c.split_at_mut-lines.result.1.now) c.args.axis.now.length
    c.in_ok-before.ensures.grown c.in_ok-before.ensures.place c.as_mut_slice.ensures.value c.split_at_mut-lines.ensures.back_len c.in-Some.ensures.1
    in
    third_fits c.args.axis.now.length (length c.split_at_mut-lines.result.1.now) (length c.split_at_mut-first.result.1.now) (length c.split_at_mut-second.result.1.now) room c.split_at_mut-first.ensures.back_len
    c.split_at_mut-second.ensures.back_len

pub write_four-requires-clause-first : goal.write_four-requires-clause-first
write_four-requires-clause-first g c = c.split_at_mut-first.ensures.front_len

pub write_four-requires-clause-second : goal.write_four-requires-clause-second
write_four-requires-clause-second g c = c.split_at_mut-second.ensures.front_len

pub write_four-requires-clause-third : goal.write_four-requires-clause-third
write_four-requires-clause-third g c = c.split_at_mut-third.ensures.front_len

pub write_four-requires-clause-fourth : goal.write_four-requires-clause-fourth
write_four-requires-clause-fourth g c =
    let room : length c.split_at_mut-lines.result.1.now ≡ c.args.axis.now.length * 4 =
    room_long c.args.out.now.items c.grow.new.out.items c.as_mut_slice.result.now c.index-raw-along.result c.in-Some.count c.in_ok-before.before (length c.split_at_mut-lines.result.1.now) c.args.axis.now.length
    c.in_ok-before.ensures.grown c.in_ok-before.ensures.place c.as_mut_slice.ensures.value c.split_at_mut-lines.ensures.back_len c.in-Some.ensures.1
    in
    fourth_long c.args.axis.now.length (length c.split_at_mut-lines.result.1.now) (length c.split_at_mut-first.result.1.now) (length c.split_at_mut-second.result.1.now) (length c.split_at_mut-third.result.1.now) room
    c.split_at_mut-first.ensures.back_len c.split_at_mut-second.ensures.back_len c.split_at_mut-third.ensures.back_len

pub write_four-requires-clause-placed : goal.write_four-requires-clause-placed
write_four-requires-clause-placed g c = c.requires.placed

pub write_four-requires-clause-near : goal.write_four-requires-clause-near
write_four-requires-clause-near g c = c.requires.near

pub returns : goal.returns
returns g c = λ d.
    let n : ℕ = c.args.axis.now.length in
    let room : length c.split_at_mut-lines.result.1.now ≡ c.args.axis.now.length * 4 =
    room_long c.args.out.now.items c.grow.new.out.items c.as_mut_slice.result.now c.index-raw-along.result c.in-Some.count c.in_ok-before.before (length c.split_at_mut-lines.result.1.now) c.args.axis.now.length
    c.in_ok-before.ensures.grown c.in_ok-before.ensures.place c.as_mut_slice.ensures.value c.split_at_mut-lines.ensures.back_len c.in-Some.ensures.1
    in
    let fourth : length c.split_at_mut-third.result.1.now ≡ c.args.axis.now.length =
    fourth_long n (length c.split_at_mut-lines.result.1.now) (length c.split_at_mut-first.result.1.now) (length c.split_at_mut-second.result.1.now) (length c.split_at_mut-third.result.1.now) room
    c.split_at_mut-first.ensures.back_len c.split_at_mut-second.ensures.back_len c.split_at_mut-third.ensures.back_len
    in
    let long : length (c.write_four.new.first ++ (c.write_four.new.second ++ (c.write_four.new.third ++ c.write_four.new.fourth))) ≡ c.args.axis.now.length * 4 =
    lines_long c.write_four.new.first c.write_four.new.second c.write_four.new.third c.write_four.new.fourth n (c.write_four.auto.first ∙ c.split_at_mut-first.ensures.front_len)
    (c.write_four.auto.second ∙ c.split_at_mut-second.ensures.front_len) (c.write_four.auto.third ∙ c.split_at_mut-third.ensures.front_len) (c.write_four.auto.fourth ∙ fourth)
    in
    let held : c.grow.new.out.len ≡ length c.grow.new.out.items = search rules in
    written_behind c.args.out.now.items c.grow.new.out.items c.as_mut_slice.result.now c.split_at_mut-lines.result.0.now
    (c.write_four.new.first ++ (c.write_four.new.second ++ (c.write_four.new.third ++ c.write_four.new.fourth))) c.index-raw-along.result c.in-Some.count c.in_ok-before.before c.grow.new.out.len n
    c.in_ok-before.ensures.grown c.in_ok-before.ensures.place c.as_mut_slice.ensures.value c.split_at_mut-lines.ensures.front held c.in-Some.ensures.1 long
    ∙ ap (λ l. c.args.out.now.items ++ l)
    (four_lines c.args.raw.now c.args.axis.now c.args.at d c.write_four.new.first c.write_four.new.second c.write_four.new.third c.write_four.new.fourth (c.write_four.ensures.first d) (c.write_four.ensures.second d)
    (c.write_four.ensures.third d) (c.write_four.ensures.fourth d))
