use Rattle.std.proofs.Common.{ℕ, pos, replicate, ap, ◌∙◌}
use Rattle.apl_arrays.specs.Numbers.{typed_items, values}
use Rattle.apl_operators.proofs.StandIn.{apart_from_characters, fails_beside_numbers}
use Rattle.apl_operators.proofs.standing.beside_numbers.Goals as goal

pub returns-in_ok-apart-in-Chars : goal.returns-in_ok-apart-in-Chars
returns-in_ok-apart-in-Chars c =
    rw c.in-Chars.is
    (apart_from_characters c.args.function (values c.args.a) c.in-Chars.b.now (typed_items c.in_ok-apart-in-Chars.field-0.left) (typed_items c.in_ok-apart-in-Chars.field-0.right)
    c.if-takes_characters.ensures (c.in_ok-apart-in-Chars.ensures.left ∙ ap (λ (n : ℕ). replicate n (pos 0)) c.len.ensures) c.in_ok-apart-in-Chars.ensures.right)

pub returns-else-takes_characters : goal.returns-else-takes_characters
returns-else-takes_characters c = rw c.in-Chars.is (fails_beside_numbers c.args.function (values c.args.a) c.in-Chars.b.now c.if-takes_characters.ensures)
