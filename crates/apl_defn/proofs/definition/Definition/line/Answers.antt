use Rattle.std.proofs.Common.{◌≡◌, ◌≤◌, length, Some, ap, sym, ◌∙◌, subst}
use Rattle.apl_defn.specs.Definitions.{line_at}
use Rattle.apl_tokens.specs.Tokens.{tokens_of}
use Rattle.apl_defn.proofs.Limits.{line_is, line_short, line_tokens}
use Rattle.apl_defn.proofs.definition.Definition.line.Goals as goal

there : (c : goal.After-as_slice) → line_at c.args.self.now.lines c.args.n ≡ Some c.in-Some.line.now
there c = ap (λ ls. line_at ls c.args.n) (sym c.lines.ensures.value) ∙ c.in-Some.ensures.value

pub returns-in-Some-clause-short : goal.returns-in-Some-clause-short
returns-in-Some-clause-short c =
    subst (λ t. length t ≤ 500) (sym c.as_slice.ensures) (line_short c.args.self.now c.args.n c.in-Some.line.now c.lines.ensures.defined (there c))

pub returns-in-Some-clause-read : goal.returns-in-Some-clause-read
returns-in-Some-clause-read c =
    let ts = line_tokens c.args.self.now c.args.n c.in-Some.line.now c.lines.ensures.defined (there c) in
    (ts.0, ap tokens_of (line_is c.args.self.now c.args.n c.in-Some.line.now (there c)) ∙ ts.1)
