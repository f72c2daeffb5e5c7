use Rattle.std.proofs.Common.{◌≡◌, length, sym, ◌∙◌, rules, arith}
use Rattle.apl_scalar.specs.Operands.{Same, Each}
use Rattle.apl_scalar.specs.Lanes.{shown_in}
use Rattle.apl_scalar.proofs.OfLanes.{as_many}
use Rattle.apl_scalar.proofs.Begun.{begun_piece}
use Rattle.apl_scalar.proofs.blocks.push_pieces.Goals as goal

pub returns-in-Many-y-clause-begun : goal.returns-in-Many-y-clause-begun
returns-in-Many-y-clause-begun g c =
    let value = g.L.Lane.value in
    let numbers = g.L.Lane.numbers in
    let old = c.args.out.now.items in
    let here : c.len-from.result ≡ length old = search rules in
    begun_piece c.push_block.result g.K.Kernel.meaning (shown_in value numbers c.args.a.now) (shown_in value numbers c.args.b.now) (Same (value c.in-One.x)) (Each (numbers c.in-Many-y.y.now)) c.len-from.result c.args.till
    (g.M.Lane.numbers old) (g.M.Lane.numbers c.push_block.new.out.items) (here ∙ sym (as_many g.M.Lane.value g.M.Lane.numbers g.met.M.Lane.each old)) (omega arith) c.in-One.ensures c.in-Many-y.ensures c.requires.begun c.push_block.ensures.adds

pub returns-in-One-y-2-clause-begun : goal.returns-in-One-y-2-clause-begun
returns-in-One-y-2-clause-begun g c =
    let value = g.L.Lane.value in
    let numbers = g.L.Lane.numbers in
    let old = c.args.out.now.items in
    let here : c.len-from.result ≡ length old = search rules in
    begun_piece c.push_block-in-One-y-2.result g.K.Kernel.meaning (shown_in value numbers c.args.a.now) (shown_in value numbers c.args.b.now) (Each (numbers c.in-Many.x.now)) (Same (value c.in-One-y-2.y)) c.len-from.result c.args.till
    (g.M.Lane.numbers old) (g.M.Lane.numbers c.push_block-in-One-y-2.new.out.items) (here ∙ sym (as_many g.M.Lane.value g.M.Lane.numbers g.met.M.Lane.each old)) (omega arith) c.in-Many.ensures c.in-One-y-2.ensures c.requires.begun c.push_block-in-One-y-2.ensures.adds

pub returns-in-Many-y-2-clause-begun : goal.returns-in-Many-y-2-clause-begun
returns-in-Many-y-2-clause-begun g c =
    let value = g.L.Lane.value in
    let numbers = g.L.Lane.numbers in
    let old = c.args.out.now.items in
    let here : c.len-from.result ≡ length old = search rules in
    begun_piece c.push_block-in-Many-y-2.result g.K.Kernel.meaning (shown_in value numbers c.args.a.now) (shown_in value numbers c.args.b.now) (Each (numbers c.in-Many.x.now)) (Each (numbers c.in-Many-y-2.y.now)) c.len-from.result c.args.till
    (g.M.Lane.numbers old) (g.M.Lane.numbers c.push_block-in-Many-y-2.new.out.items) (here ∙ sym (as_many g.M.Lane.value g.M.Lane.numbers g.met.M.Lane.each old)) (omega arith) c.in-Many.ensures c.in-Many-y-2.ensures c.requires.begun c.push_block-in-Many-y-2.ensures.adds
