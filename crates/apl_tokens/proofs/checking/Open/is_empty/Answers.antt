use Rattle.std.proofs.Common.{◌≡◌, take, length, refl, sym, ap, ◌∙◌, arith}
use Rattle.std.proofs.lemmas.List.{length-reverse, length-take-le}
use Rattle.apl_tokens.proofs.checking.Open.is_empty.Goals as goal

pub returns : goal.returns
returns c =
    let depth : length c.args.self.now ≡ c.self.inside.depth = ap length (sym c.self.view_is) ∙ length-reverse (take c.self.inside.depth c.self.inside.brackets) ∙ length-take-le c.self.inside.depth c.self.inside.brackets (omega (arith, c.self.invariant)) in
    rw depth refl
