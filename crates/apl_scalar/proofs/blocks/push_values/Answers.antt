use Rattle.std.proofs.Common.{ap, sym, ◌∙◌}
use Rattle.apl_scalar.specs.Operands.{shown, Same, Each}
use Rattle.apl_scalar.specs.Lanes.{laid_in}
use Rattle.apl_scalar.proofs.Begun.{begun_along}
use Rattle.apl_scalar.proofs.blocks.push_values.Goals as goal

pub returns-in-Many-y : goal.returns-in-Many-y
returns-in-Many-y g c =
    let value = g.L.Lane.value in
    let numbers = g.L.Lane.numbers in
    begun_along c.push_lines.result g.K.Kernel.meaning (shown c.args.a) (shown c.args.b) (Same (value c.in-One.x)) (Each (numbers c.in-Many-y.y.now)) c.args.count (g.M.Lane.numbers c.push_lines.new.out.items)
    (sym (ap (laid_in value numbers) c.in-One.is) ∙ c.in-Some.ensures) (sym (ap (laid_in value numbers) c.in-Many-y.is) ∙ c.in-Some-laid.ensures) c.push_lines.ensures

pub returns-in-One-y-2 : goal.returns-in-One-y-2
returns-in-One-y-2 g c =
    let value = g.L.Lane.value in
    let numbers = g.L.Lane.numbers in
    begun_along c.push_lines-in-One-y-2.result g.K.Kernel.meaning (shown c.args.a) (shown c.args.b) (Each (numbers c.in-Many.x.now)) (Same (value c.in-One-y-2.y)) c.args.count (g.M.Lane.numbers c.push_lines-in-One-y-2.new.out.items)
    (sym (ap (laid_in value numbers) c.in-Many.is) ∙ c.in-Some.ensures) (sym (ap (laid_in value numbers) c.in-One-y-2.is) ∙ c.in-Some-laid.ensures) c.push_lines-in-One-y-2.ensures

pub returns-in-Many-y-2 : goal.returns-in-Many-y-2
returns-in-Many-y-2 g c =
    let value = g.L.Lane.value in
    let numbers = g.L.Lane.numbers in
    begun_along c.push_lines-in-Many-y-2.result g.K.Kernel.meaning (shown c.args.a) (shown c.args.b) (Each (numbers c.in-Many.x.now)) (Each (numbers c.in-Many-y-2.y.now)) c.args.count (g.M.Lane.numbers c.push_lines-in-Many-y-2.new.out.items)
    (sym (ap (laid_in value numbers) c.in-Many.is) ∙ c.in-Some.ensures) (sym (ap (laid_in value numbers) c.in-Many-y-2.is) ∙ c.in-Some-laid.ensures) c.push_lines-in-Many-y-2.ensures
