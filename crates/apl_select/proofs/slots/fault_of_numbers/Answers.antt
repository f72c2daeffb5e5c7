use Rattle.std.proofs.Common.{length, cond, Bool, ap, sym, ◌∙◌}
use Rattle.std.proofs.lemmas.Bool.{eq-eqb, ne_eqb}
use Rattle.apl_faults.specs.declared.fault.Fault.TheVariants.{Index, Rank}
use Rattle.apl_select.proofs.SinglePlace.{each_number, not_each_number}
use Rattle.apl_select.proofs.slots.fault_of_numbers.Goals as goal

pub returns-then-not-all_hold_numbers : goal.returns-then-not-all_hold_numbers
returns-then-not-all_hold_numbers c = not_each_number c.args.slots.now (sym c.all_hold_numbers.ensures ∙ c.if-not-all_hold_numbers.true)

pub returns-then-slots-rank : goal.returns-then-slots-rank
returns-then-slots-rank c = (
  each_number c.args.slots.now (sym c.all_hold_numbers.ensures ∙ c.if-not-all_hold_numbers.false),
  sym (ap (λ (b : Bool). cond b Index Rank) (eq-eqb (length c.args.slots.now) (length c.args.array.now.shape) (c.if-slots-rank.true ∙ c.rank.ensures.value))),
)

pub returns-else-slots-rank : goal.returns-else-slots-rank
returns-else-slots-rank c = (
  each_number c.args.slots.now (sym c.all_hold_numbers.ensures ∙ c.if-not-all_hold_numbers.false),
  sym (ap (λ (b : Bool). cond b Index Rank) (ne_eqb (length c.args.slots.now) (length c.args.array.now.shape) (λ e. c.if-slots-rank.false (e ∙ sym c.rank.ensures.value)))),
)
