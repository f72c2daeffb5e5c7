use Rattle.std.proofs.Common.{◌≡◌, ◌∙◌, ap, sym}
use Rattle.std.proofs.lemmas.Bool.{eqb-false, not-true}
use Rattle.apl_symbols.specs.Short.{short_of}
use Rattle.apl_symbols.proofs.Shorts.{same_text}
use Rattle.apl_symbols.proofs.name.Name.is_same.Goals as goal

pub returns-then-self-ne0-clause-same : goal.returns-then-self-ne0-clause-same
returns-then-self-ne0-clause-same c = λ some.
    let one : c.self.inside.short ≡ short_of c.args.self.now = c.self.invariant.1 ∙ ap short_of c.self.view_is in
    let other : c.other.inside.short ≡ short_of c.args.other.now = c.other.invariant.1 ∙ ap short_of c.other.view_is in
    same_text c.args.self.now c.args.other.now (sym one ∙ c.if-self-other.false ∙ other) (λ none. eqb-false _ _ (not-true _ some) (one ∙ none))
