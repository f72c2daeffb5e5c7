use Rattle.std.proofs.Common.{◌∙◌, List, ℕ, Bor, sym}
use Rattle.std.proofs.lemmas.Slice.Eq.{bytes_eq-Decides}
use Rattle.apl_runs.proofs.Spoken.{if_none, not-number, not-shown, not-text, read-small, text-of}
use Rattle.apl_runs.proofs.rounds.number_of.Goals as goal

pub returns-in_err-ok : goal.returns-in_err-ok
returns-in_err-ok c = if_none _ _ c.from_residual.result c.from_residual.ensures (not-text _ _ c.args.text.now c.from_utf8.result c.from_utf8.ensures.cases c.in_err-ok.ensures.value)

pub returns-in_err-number : goal.returns-in_err-number
returns-in_err-number c =
    let same = text-of (λ (s : Bor (List ℕ)). s.now) _ c.args.text.now c.from_utf8.result c.in_ok-ok.field-0 c.from_utf8.ensures.cases c.in_ok-ok.ensures.value in
    if_none _ _ c.from_residual-in_err-number.result c.from_residual-in_err-number.ensures
    (not-number c.args.text.now c.in_ok-ok.field-0.now c.parse.result same c.parse.ensures.value.0 c.in_err-number.ensures.value)

pub returns-then-eq : goal.returns-then-eq
returns-then-eq c = (
  read-small c.in_ok-ok.field-0.now c.parse.result c.in_ok-number.number c.parse.ensures.value.0 c.in_ok-number.ensures.value,
  sym ((bytes_eq-Decides c.as_bytes.result.now c.args.text.now).0 (sym c.eq.ensures ∙ c.if-eq.true)) ∙ c.as_bytes.ensures.value ∙ c.format.ensures.text,
)

pub returns-else-eq : goal.returns-else-eq
returns-else-eq c =
    let same = text-of (λ (s : Bor (List ℕ)). s.now) _ c.args.text.now c.from_utf8.result c.in_ok-ok.field-0 c.from_utf8.ensures.cases c.in_ok-ok.ensures.value in
    not-shown c.args.text.now c.in_ok-ok.field-0.now c.as_bytes.result.now c.parse.result c.in_ok-number.number same c.parse.ensures.value.0 c.in_ok-number.ensures.value
    (c.as_bytes.ensures.value ∙ c.format.ensures.text) (sym c.if-eq.false ∙ c.eq.ensures)
