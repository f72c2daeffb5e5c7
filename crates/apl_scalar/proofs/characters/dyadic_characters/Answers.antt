use Rattle.std.proofs.Common.{◌≡◌, ℕ, ◌++◌, length, take, drop, Ok, ap, sym, ◌∙◌, arith, rules}
use Rattle.std.specs.Prelude.{nat_eq}
use Rattle.std.proofs.Math.Seq.{take-append_seam}
use Rattle.apl_faults.specs.declared.fault.Fault.TheVariants.{Domain}
use Rattle.apl_scalar.specs.Extension.{compared}
use Rattle.apl_scalar.specs.Operands.{character_at}
use Rattle.apl_scalar.proofs.Whole.{one_fault, all_values}
use Rattle.apl_scalar.proofs.characters.dyadic_characters.Goals as goal

pub returns-in_default : goal.returns-in_default
returns-in_default c =
    one_fault (λ k. compared c.args.function (nat_eq (character_at c.args.a.now k) (character_at c.args.b.now k))) Domain c.args.count c.requires.some
    (λ k. c.in_default.ensures (nat_eq (character_at c.args.a.now k) (character_at c.args.b.now k)))

pub returns : goal.returns
returns c =
    let size : length c.compare.new.out ≡ c.args.count = search rules in
    let whole : c.in_ok-values.values.len ≡ length c.compare.new.out = search rules in
    let written : take c.in_ok-values.values.len (c.compare.new.out ++ drop (length c.compare.new.out) c.in_ok-values.values.items) ≡ c.compare.new.out =
    ap (λ (n : ℕ). take n (c.compare.new.out ++ drop (length c.compare.new.out) c.in_ok-values.values.items)) whole ∙ take-append_seam c.compare.new.out _ in
    all_values (λ k. compared c.args.function (nat_eq (character_at c.args.a.now k) (character_at c.args.b.now k))) c.compare.new.out c.args.count size
    (λ k h. c.in-Some.ensures (nat_eq (character_at c.args.a.now k) (character_at c.args.b.now k)) ∙ ap (λ z. Ok z) (sym (c.compare.ensures k (omega arith))))
    ∙ ap (λ l. Ok l) (sym written)
