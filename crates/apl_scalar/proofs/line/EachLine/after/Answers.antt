use Rattle.std.proofs.Common.{◌-◌, ℤ, List, pos, length, get_or, drop, ap, ◌∙◌, arith, length-drop, get_or-drop}
use Rattle.std.proofs.lemmas.List.{take_all}
use Rattle.apl_scalar.proofs.OfLanes.{numbers-drop}
use Rattle.apl_scalar.proofs.line.EachLine.after.Goals as goal

pub returns-clause-number : goal.returns-clause-number
returns-clause-number g c = λ k.
    let numbers = g.L.Lane.numbers in
    let xs = c.args.self.0.now in
    ap (λ l. get_or (numbers l) k (pos 0)) (take_all (length xs - c.args.from) (drop c.args.from xs) (omega (arith, length-drop c.args.from xs)))
    ∙ ap (λ (zs : List ℤ). get_or zs k (pos 0)) (numbers-drop g.L.Lane.value numbers g.met.L.Lane.each c.args.from xs)
    ∙ get_or-drop c.args.from (numbers xs) k (pos 0)
