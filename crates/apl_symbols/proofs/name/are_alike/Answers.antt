use Rattle.std.proofs.Common.{◌∙◌, sym}
use Rattle.std.specs.Str.{bytes_eq}
use Rattle.std.proofs.lemmas.Bool.Decides.{Decides-at, not_from_Decides}
use Rattle.std.proofs.lemmas.Slice.Eq.{bytes_eq-Decides}
use Rattle.apl_symbols.proofs.name.are_alike.Goals as goal

pub returns-clause-same : goal.returns-clause-same
returns-clause-same c = λ yes.
    let alike = Decides-at c.eq.result (bytes_eq c.as_slice.result.now c.as_slice-2.result.now) c.eq.ensures (bytes_eq-Decides c.as_slice.result.now c.as_slice-2.result.now) in
    sym c.as_slice.ensures.value ∙ alike.0 yes ∙ c.as_slice-2.ensures.value

pub returns-clause-other : goal.returns-clause-other
returns-clause-other c = λ no same.
    let alike = Decides-at c.eq.result (bytes_eq c.as_slice.result.now c.as_slice-2.result.now) c.eq.ensures (bytes_eq-Decides c.as_slice.result.now c.as_slice-2.result.now) in
    not_from_Decides c.eq.result alike no (c.as_slice.ensures.value ∙ same ∙ sym c.as_slice-2.ensures.value)
