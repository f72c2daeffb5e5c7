use Rattle.std.proofs.Common.{◌≡◌, ◌+◌, ◌*◌, ◌≤◌, [], length, map, get_or, arith, ap, sym, ◌∙◌}
use Rattle.std.specs.Prelude.{reverse}
use Rattle.std.specs.List.{range_with_len}
use Rattle.apl_turns.specs.inside.Mirrored.{mirror}
use Rattle.apl_turns.proofs.Blocks.{run_step, piece_fits, piece_length}
use Rattle.apl_turns.proofs.FromTheEnd.{line_mirrored}
use Rattle.apl_turns.proofs.mirrored.MirrorStructural.make.Goals as goal

pub piece-requires : goal.piece-requires
piece-requires g c = omega (arith, piece_fits c.loop-line.line c.args.self.lines c.args.self.size c.loop-line-test.true, c.requires)

pub loop-line-preserved : goal.loop-line-preserved
loop-line-preserved g c =
    let fits : c.loop-line.line * c.args.self.size + c.args.self.size ≤ length c.args.items.now = omega (arith, piece_fits c.loop-line.line c.args.self.lines c.args.self.size c.loop-line-test.true, c.requires) in
    record {
      count = omega (arith, c.put_line.ensures.count, c.loop-line.invariant.count, ap length c.piece.ensures, piece_length c.args.items.now c.loop-line.line c.args.self.size fits);
      room = omega (arith, c.put_line.ensures.room, c.loop-line.invariant.room);
      so_far = λ d.
          run_step (λ place. get_or c.args.items.now (mirror c.args.self.size place) d) [] c.loop-line.out.items c.put_line.new.out.items (reverse c.piece.result.now) c.loop-line.line c.args.self.size (c.loop-line.invariant.so_far d) c.put_line.ensures.items
          (line_mirrored d c.args.items.now c.piece.result.now c.args.self.size c.loop-line.line c.piece.ensures fits);
    }

pub put_line-requires : goal.put_line-requires
put_line-requires g c =
    let fits : c.loop-line.line * c.args.self.size + c.args.self.size ≤ length c.args.items.now = omega (arith, piece_fits c.loop-line.line c.args.self.lines c.args.self.size c.loop-line-test.true, c.requires) in
    omega (arith, c.loop-line.invariant.count, c.loop-line.invariant.room, ap length c.piece.ensures, piece_length c.args.items.now c.loop-line.line c.args.self.size fits)

pub returns : goal.returns
returns g c =
    let end : c.loop-line.line ≡ c.args.self.lines = omega arith in
    λ d. c.loop-line.invariant.so_far d ∙ ap (λ n. map (λ place. get_or c.args.items.now (mirror c.args.self.size place) d) (range_with_len 0 n)) (ap (λ p. p * c.args.self.size) end ∙ sym c.requires)
