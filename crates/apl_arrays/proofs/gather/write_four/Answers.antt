use Rattle.std.proofs.Common.{◌≡◌, ◌+◌, ◌<◌, ℕ, length, arith}
use Rattle.apl_arrays.specs.Strides.{step_at}
use Rattle.apl_arrays.proofs.Fours.{line_more, read_below, read_first, read_further, written_line}
use Rattle.apl_arrays.proofs.gather.write_four.Goals as goal

-- a place in a line
in_line : (m n l k : ℕ) → m ≡ n → n ≡ l → k < l → k < m
in_line m n l k e f h = omega arith

pub along-place-requires-clause-near : goal.along-place-requires-clause-near
along-place-requires-clause-near g c = c.requires.near

pub offset_bounds-raw-place : goal.offset_bounds-raw-place
offset_bounds-raw-place g c =
    let below = read_first (length c.args.raw.now) c.args.at (step_at c.args.axis c.loop-k.k) c.along-place.result c.along-place.ensures (c.requires.placed c.loop-k.k c.loop-k-test.true) in
    omega (arith, below)

pub bounds-raw-place : goal.bounds-raw-place
bounds-raw-place g c = read_first (length c.args.raw.now) c.args.at (step_at c.args.axis c.loop-k.k) c.along-place.result c.along-place.ensures (c.requires.placed c.loop-k.k c.loop-k-test.true)

pub bounds-raw-place-in-loop-k : goal.bounds-raw-place-in-loop-k
bounds-raw-place-in-loop-k g c =
    read_below (length c.args.raw.now) c.args.at (step_at c.args.axis c.loop-k.k) c.along-place.result 1 c.along-place.ensures (c.requires.placed c.loop-k.k c.loop-k-test.true) (omega arith)

pub bounds-raw-place-in-loop-k-2 : goal.bounds-raw-place-in-loop-k-2
bounds-raw-place-in-loop-k-2 g c =
    read_below (length c.args.raw.now) c.args.at (step_at c.args.axis c.loop-k.k) c.along-place.result 2 c.along-place.ensures (c.requires.placed c.loop-k.k c.loop-k-test.true) (omega arith)

pub bounds-raw-place-in-loop-k-3 : goal.bounds-raw-place-in-loop-k-3
bounds-raw-place-in-loop-k-3 g c =
    read_below (length c.args.raw.now) c.args.at (step_at c.args.axis c.loop-k.k) c.along-place.result 3 c.along-place.ensures (c.requires.placed c.loop-k.k c.loop-k-test.true) (omega arith)

pub overflow_add-second : goal.overflow_add-second
overflow_add-second g c = record {
  fits =
      let below = read_below (length c.args.raw.now) c.args.at (step_at c.args.axis c.loop-k.k) c.along-place.result 1 c.along-place.ensures (c.requires.placed c.loop-k.k c.loop-k-test.true) (omega arith) in
      omega (arith, below);
}

pub overflow_add-third : goal.overflow_add-third
overflow_add-third g c = record {
  fits =
      let below = read_below (length c.args.raw.now) c.args.at (step_at c.args.axis c.loop-k.k) c.along-place.result 2 c.along-place.ensures (c.requires.placed c.loop-k.k c.loop-k-test.true) (omega arith) in
      omega (arith, below);
}

pub overflow_add-fourth : goal.overflow_add-fourth
overflow_add-fourth g c = record {
  fits =
      let below = read_below (length c.args.raw.now) c.args.at (step_at c.args.axis c.loop-k.k) c.along-place.result 3 c.along-place.ensures (c.requires.placed c.loop-k.k c.loop-k-test.true) (omega arith) in
      omega (arith, below);
}

pub bounds-first-k : goal.bounds-first-k
bounds-first-k g c = in_line (length c.loop-k.first) (length c.args.first.now) c.args.axis.length c.loop-k.k c.loop-k.auto.first c.requires.first c.loop-k-test.true

pub bounds-second-k : goal.bounds-second-k
bounds-second-k g c = in_line (length c.loop-k.second) (length c.args.second.now) c.args.axis.length c.loop-k.k c.loop-k.auto.second c.requires.second c.loop-k-test.true

pub bounds-third-k : goal.bounds-third-k
bounds-third-k g c = in_line (length c.loop-k.third) (length c.args.third.now) c.args.axis.length c.loop-k.k c.loop-k.auto.third c.requires.third c.loop-k-test.true

pub bounds-fourth-k : goal.bounds-fourth-k
bounds-fourth-k g c = in_line (length c.loop-k.fourth) (length c.args.fourth.now) c.args.axis.length c.loop-k.k c.loop-k.auto.fourth c.requires.fourth c.loop-k-test.true

pub loop-k-preserved : goal.loop-k-preserved
loop-k-preserved g c =
    let k : ℕ = c.loop-k.k in
    let p : ℕ = c.along-place.result in
    let e : c.along-place.result ≡ c.args.at + step_at c.args.axis c.loop-k.k = c.along-place.ensures in
    record {
      first =
          line_more c.args.raw.now c.loop-k.first c.args.axis c.args.at p k c.index-raw-place.result (in_line _ _ _ _ c.loop-k.auto.first c.requires.first c.loop-k-test.true) e
          (read_first (length c.args.raw.now) c.args.at (step_at c.args.axis k) p e (c.requires.placed k c.loop-k-test.true)) c.index-raw-place.is c.loop-k.invariant.first;
      second =
          line_more c.args.raw.now c.loop-k.second c.args.axis (c.args.at + 1) (p + 1) k c.index-raw-place-in-loop-k.result (in_line _ _ _ _ c.loop-k.auto.second c.requires.second c.loop-k-test.true) (read_further c.args.at (step_at c.args.axis k) p 1 e)
          (read_below (length c.args.raw.now) c.args.at (step_at c.args.axis k) p 1 e (c.requires.placed k c.loop-k-test.true) (omega arith)) c.index-raw-place-in-loop-k.is c.loop-k.invariant.second;
      third =
          line_more c.args.raw.now c.loop-k.third c.args.axis (c.args.at + 2) (p + 2) k c.index-raw-place-in-loop-k-2.result (in_line _ _ _ _ c.loop-k.auto.third c.requires.third c.loop-k-test.true) (read_further c.args.at (step_at c.args.axis k) p 2 e)
          (read_below (length c.args.raw.now) c.args.at (step_at c.args.axis k) p 2 e (c.requires.placed k c.loop-k-test.true) (omega arith)) c.index-raw-place-in-loop-k-2.is c.loop-k.invariant.third;
      fourth =
          line_more c.args.raw.now c.loop-k.fourth c.args.axis (c.args.at + 3) (p + 3) k c.index-raw-place-in-loop-k-3.result (in_line _ _ _ _ c.loop-k.auto.fourth c.requires.fourth c.loop-k-test.true) (read_further c.args.at (step_at c.args.axis k) p 3 e)
          (read_below (length c.args.raw.now) c.args.at (step_at c.args.axis k) p 3 e (c.requires.placed k c.loop-k-test.true) (omega arith)) c.index-raw-place-in-loop-k-3.is c.loop-k.invariant.fourth;
    }

pub returns-clause-first : goal.returns-clause-first
returns-clause-first g c = λ d.
    written_line c.args.raw.now c.loop-k.first c.args.first.now c.args.axis c.args.at c.loop-k.k d c.loop-k.auto.first c.requires.first c.loop-k-test.false (c.loop-k.invariant.first d)

pub returns-clause-second : goal.returns-clause-second
returns-clause-second g c = λ d.
    written_line c.args.raw.now c.loop-k.second c.args.second.now c.args.axis (c.args.at + 1) c.loop-k.k d c.loop-k.auto.second c.requires.second c.loop-k-test.false (c.loop-k.invariant.second d)

pub returns-clause-third : goal.returns-clause-third
returns-clause-third g c = λ d.
    written_line c.args.raw.now c.loop-k.third c.args.third.now c.args.axis (c.args.at + 2) c.loop-k.k d c.loop-k.auto.third c.requires.third c.loop-k-test.false (c.loop-k.invariant.third d)

pub returns-clause-fourth : goal.returns-clause-fourth
returns-clause-fourth g c = λ d.
    written_line c.args.raw.now c.loop-k.fourth c.args.fourth.now c.args.axis (c.args.at + 3) c.loop-k.k d c.loop-k.auto.fourth c.requires.fourth c.loop-k-test.false (c.loop-k.invariant.fourth d)
