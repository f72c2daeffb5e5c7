use Rattle.std.proofs.Common.{◌≡◌, false, List, ℕ, sym, ap, ◌∙◌}
use Rattle.std.specs.Prelude.{is_ok}
use Rattle.apl_tokens.specs.Tokens.{tokens_of}
use Rattle.apl_defn.specs.Definitions.{line_at}
use Rattle.apl_defn.proofs.Limits.{line_sound}
use Rattle.apl_defn.proofs.definition.Definition.tokens.Goals as goal

pub unreachable-requires : goal.unreachable-requires
unreachable-requires c =
    let faulty : is_ok (tokens_of c.as_slice.result.now) ≡ false = rw c.in-None.is at c.in_ok-tokens.ensures.faulty in
    line_sound c.args.self.now c.args.n c.in-Some.line.now c.lines.ensures.defined (ap (λ ls. line_at ls c.args.n) (sym c.lines.ensures.value) ∙ c.in-Some.ensures.value) (ap (λ (text : List ℕ). is_ok (tokens_of text)) (sym c.as_slice.ensures) ∙ faulty)
