use Rattle.std.proofs.Common.{ℕ, pos, replicate, ap, ◌∙◌}
use Rattle.apl_arrays.specs.Left.{listed}
use Rattle.apl_arrays.specs.Numbers.{typed_items, values}
use Rattle.apl_operators.proofs.StandIn.{apart_from_numbers, codes_stand, fails_beside_characters}
use Rattle.apl_operators.proofs.standing.beside_characters.Goals as goal

pub returns-then-not-takes_characters : goal.returns-then-not-takes_characters
returns-then-not-takes_characters c = fails_beside_characters c.args.function c.args.a.now (listed c.args.b) c.if-not-takes_characters.ensures

pub returns-in_ok-apart-in-Nums : goal.returns-in_ok-apart-in-Nums
returns-in_ok-apart-in-Nums c =
    rw c.in-Nums.is
    (apart_from_numbers c.args.function c.args.a.now (values c.in-Nums.b) (typed_items c.in_ok-apart-in-Nums.field-0.left) (typed_items c.in_ok-apart-in-Nums.field-0.right)
    c.if-not-takes_characters.ensures c.in_ok-apart-in-Nums.ensures.left (c.in_ok-apart-in-Nums.ensures.right ∙ ap (λ (n : ℕ). replicate n (pos 1)) c.len.ensures))

pub returns-in_ok-coded-in-Chars : goal.returns-in_ok-coded-in-Chars
returns-in_ok-coded-in-Chars c =
    rw c.in-Chars.is
    (codes_stand c.args.function c.args.a.now c.in-Chars.b.now (typed_items c.in_ok-coded-in-Chars.field-0.left) (typed_items c.in_ok-coded-in-Chars.field-0.right)
    c.if-not-takes_characters.ensures c.in_ok-coded-in-Chars.ensures.left c.in_ok-coded-in-Chars.ensures.right)
