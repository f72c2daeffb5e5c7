use Rattle.std.proofs.Common.{◌≡◌, ℕ, ◌-◌, List, ◌∷◌, reverse, take, drop, ap, ◌∙◌, length, map}
use Rattle.std.specs.List.{count_by}
use Rattle.apl_listing.specs.declared.stack.Kind.{Kind}
use Rattle.apl_listing.specs.declared.stack.Kind.TheVariants.{Value, Slots}
use Rattle.apl_listing.specs.Kinds.{is_stacked, is_empty}
use Rattle.apl_listing.proofs.Lists.{reverse_take, reverse_push}
use Rattle.apl_listing.proofs.stack.step.Goals as goal

-- what is left when operands are taken
popped : (stack now : List Kind) (left len n m : ℕ) → now ≡ take left stack → left ≡ len - n → len ≡ length stack → n ≡ m → reverse now ≡ drop m (reverse stack)
popped stack now left len n m e l s t = rw (e, l, s, t) (reverse_take stack m)

pub returns-in_ok-push-in-Box : goal.returns-in_ok-push-in-Box
returns-in_ok-push-in-Box c =
    let i = c.args.instr.now in
    let p = popped c.args.stack.now.items c.truncate.new.self.items c.saturating_sub-left.result c.len.result c.stacked.result (count_by is_stacked i.arguments) c.truncate.ensures.items c.saturating_sub-left.ensures (c.len.ensures ∙ c.args.stack.now.ok.0) (c.stacked.ensures ∙ ap (count_by is_stacked) c.as_slice-sources.ensures) in
    rw (c.in-Box.is, c.in_ok-push-in-Box.ensures.items, reverse_push, p) (let e : c.in_ok-empty_slots-in-Box.field-0 ≡ map is_empty i.arguments = c.in_ok-empty_slots-in-Box.ensures ∙ ap (map is_empty) c.as_slice-sources.ensures in ap (λ s. Slots s ∷ drop (count_by is_stacked i.arguments) (reverse c.args.stack.now.items)) e)

pub returns-in_ok-push-in-Phrase : goal.returns-in_ok-push-in-Phrase
returns-in_ok-push-in-Phrase c =
    let i = c.args.instr.now in
    let p = popped c.args.stack.now.items c.truncate.new.self.items c.saturating_sub-left.result c.len.result c.stacked.result (count_by is_stacked i.arguments) c.truncate.ensures.items c.saturating_sub-left.ensures (c.len.ensures ∙ c.args.stack.now.ok.0) (c.stacked.ensures ∙ ap (count_by is_stacked) c.as_slice-sources.ensures) in
    rw (c.in-Phrase.is, c.in_ok-push-in-Phrase.ensures.items, reverse_push) (ap (λ ks. Value ∷ ks) p)

pub returns-in-End : goal.returns-in-End
returns-in-End c =
    let i = c.args.instr.now in
    let p = popped c.args.stack.now.items c.truncate.new.self.items c.saturating_sub-left.result c.len.result c.stacked.result (count_by is_stacked i.arguments) c.truncate.ensures.items c.saturating_sub-left.ensures (c.len.ensures ∙ c.args.stack.now.ok.0) (c.stacked.ensures ∙ ap (count_by is_stacked) c.as_slice-sources.ensures) in
    rw c.in-End.is p
