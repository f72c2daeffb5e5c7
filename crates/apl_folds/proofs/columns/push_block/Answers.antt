use Rattle.std.proofs.Common.{◌≡◌, ◌-◌, length, pos, Ok, ap, sym, ◌∙◌, rules, arith, refl, ℕ, ℤ, Result, ◌+◌, ◌<◌, ◌≤◌}
use Rattle.apl_faults.specs.declared.fault.Fault.{Fault}
use Rattle.apl_arrays.proofs.InTurn.{turns_whole}
use Rattle.apl_scalar.proofs.Rooms.{room_size, written_over}
use Rattle.apl_folds.specs.Lines.{fold_by, line_of}
use Rattle.apl_folds.proofs.columns.push_block.Goals as goal

pub returns-then-fold_block : goal.returns-then-fold_block
returns-then-fold_block g c =
    let size : length c.fold_block.new.folds ≡ c.args.till - c.args.from =
    room_size c.args.out.now.items c.grow.new.out.items c.as_mut_slice.result.now c.split_at_mut-folds.result.1.now c.fold_block.new.folds (pos 0) (c.args.till - c.args.from) c.in_ok-before.before
    c.in_ok-before.ensures.grown c.in_ok-before.ensures.place c.as_mut_slice.ensures.value c.split_at_mut-folds.ensures.back_len (search rules)
    in
    turns_whole (λ p. fold_by g.F.Scalar.meaning (line_of (pos 0) (g.L.Lane.numbers c.args.numbers.now) c.args.axis.now p c.args.count)) (pos 0) c.fold_block.new.folds c.args.out.now.items c.args.from c.args.till (omega arith) size
    (λ j h. ap (λ (f : ℤ → ℤ → Result ℤ Fault). fold_by f (line_of (pos 0) (g.L.Lane.numbers c.args.numbers.now) c.args.axis.now (c.args.from + j) c.args.count)) (sym c.requires.same) ∙ c.if-fold_block.ensures refl j (omega arith))
    ∙ ap (λ l. Ok l)
    (sym (written_over c.args.out.now.items c.grow.new.out.items c.as_mut_slice.result.now c.split_at_mut-folds.result.0.now c.split_at_mut-folds.result.1.now c.fold_block.new.folds (pos 0) (c.args.till - c.args.from)
    c.in_ok-before.before c.grow.new.out.len c.in_ok-before.ensures.grown c.in_ok-before.ensures.place c.as_mut_slice.ensures.value c.split_at_mut-folds.ensures.front c.split_at_mut-folds.ensures.back_len (search rules)
    (search rules)))

onward : (from till m j : ℕ) → m ≡ till - from → j < m → (from ≤ from + j) × (from + j < till)
onward from till m j e h = (omega arith, omega arith)

some_left : (from till m : ℕ) → m ≡ till - from → from < till → 0 < m
some_left from till m e h = omega arith

pub fold_block-requires-clause-lines : goal.fold_block-requires-clause-lines
fold_block-requires-clause-lines g c =
    λ j h.
    let size : length c.split_at_mut-folds.result.1.now ≡ c.args.till - c.args.from =
    room_size c.args.out.now.items c.grow.new.out.items c.as_mut_slice.result.now c.split_at_mut-folds.result.1.now c.split_at_mut-folds.result.1.now (pos 0) (c.args.till - c.args.from) c.in_ok-before.before
    c.in_ok-before.ensures.grown c.in_ok-before.ensures.place c.as_mut_slice.ensures.value c.split_at_mut-folds.ensures.back_len refl
    in
    let there = onward c.args.from c.args.till (length c.split_at_mut-folds.result.1.now) j size h in
    c.requires.lines (c.args.from + j) there.0 there.1

pub fold_block-requires-clause-some : goal.fold_block-requires-clause-some
fold_block-requires-clause-some g c =
    let size : length c.split_at_mut-folds.result.1.now ≡ c.args.till - c.args.from =
    room_size c.args.out.now.items c.grow.new.out.items c.as_mut_slice.result.now c.split_at_mut-folds.result.1.now c.split_at_mut-folds.result.1.now (pos 0) (c.args.till - c.args.from) c.in_ok-before.before
    c.in_ok-before.ensures.grown c.in_ok-before.ensures.place c.as_mut_slice.ensures.value c.split_at_mut-folds.ensures.back_len refl
    in
    some_left c.args.from c.args.till (length c.split_at_mut-folds.result.1.now) size c.requires.order

pub fold_block-requires-clause-room : goal.fold_block-requires-clause-room
fold_block-requires-clause-room g c =
    λ j h.
    let size : length c.split_at_mut-folds.result.1.now ≡ c.args.till - c.args.from =
    room_size c.args.out.now.items c.grow.new.out.items c.as_mut_slice.result.now c.split_at_mut-folds.result.1.now c.split_at_mut-folds.result.1.now (pos 0) (c.args.till - c.args.from) c.in_ok-before.before
    c.in_ok-before.ensures.grown c.in_ok-before.ensures.place c.as_mut_slice.ensures.value c.split_at_mut-folds.ensures.back_len refl
    in
    let there = onward c.args.from c.args.till (length c.split_at_mut-folds.result.1.now) j size h in
    c.requires.room (c.args.from + j) there.0 there.1
