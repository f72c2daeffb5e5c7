use Rattle.std.proofs.Common.{◌≡◌, ap, sym, ◌∙◌, length}
use Rattle.apl_arrays.proofs.Exits.{answers_along}
use Rattle.apl_arrays.specs.Cells.{Items, Numbers, Characters, cells_of}
use Rattle.apl_arrays.specs.Index.{size_of}
use Rattle.apl_arrays.specs.Numbers.{kept_values, values}
use Rattle.apl_scalar.specs.Operands.{shown}
use Rattle.apl_scalar.proofs.Extension.{shows_along, by_operands, by_characters, by_number_and_character, by_character_and_number}
use Rattle.apl_scalar.proofs.apply.dyadic_values.Goals as goal

pub returns-in-Nums-items : goal.returns-in-Nums-items
returns-in-Nums-items c =
    let size : c.len-count.result ≡ size_of c.args.like.now.shape = c.len-count.ensures ∙ (ap (λ (t : Items). length (cells_of t)) c.items.ensures.value ∙ c.items.ensures.full) in
    let left : c.args.a.now.items ≡ Numbers (values c.in-Nums.x) = rw c.in-Nums.is at (sym c.items-2.ensures.value) in
    let right : c.args.b.now.items ≡ Numbers (values c.in-Nums-items.y) = rw c.in-Nums-items.is at (sym c.items-in-Nums.ensures.value) in
    answers_along kept_values _ _ c.at_places.result
    (by_operands c.args.function c.args.a.now c.args.b.now c.args.like.now.shape (shown c.operand_of.result) (shown c.operand_of-in-Nums-items.result) c.items-2.ensures.full c.items-in-Nums.ensures.full c.requires.a_fits c.requires.b_fits
    (shows_along (shown c.operand_of.result) c.args.a.now.items (values c.in-Nums.x) left c.operand_of.ensures)
    (shows_along (shown c.operand_of-in-Nums-items.result) c.args.b.now.items (values c.in-Nums-items.y) right c.operand_of-in-Nums-items.ensures))
    (rw size at c.at_places.ensures)

pub returns-in-Chars-items : goal.returns-in-Chars-items
returns-in-Chars-items c =
    let size : c.len-count.result ≡ size_of c.args.like.now.shape = c.len-count.ensures ∙ (ap (λ (t : Items). length (cells_of t)) c.items.ensures.value ∙ c.items.ensures.full) in
    let left : c.args.a.now.items ≡ Numbers (values c.in-Nums.x) = rw c.in-Nums.is at (sym c.items-2.ensures.value) in
    let right : c.args.b.now.items ≡ Characters c.in-Chars-items.field-0.now = rw c.in-Chars-items.is at (sym c.items-in-Nums.ensures.value) in
    answers_along kept_values _ _ c.mixed.result
    (by_number_and_character c.args.function c.args.a.now c.args.b.now c.args.like.now.shape (values c.in-Nums.x) c.in-Chars-items.field-0.now left right c.items-2.ensures.full c.items-in-Nums.ensures.full c.requires.a_fits c.requires.b_fits)
    (rw size at c.mixed.ensures)

pub returns-in-Nums-items-2 : goal.returns-in-Nums-items-2
returns-in-Nums-items-2 c =
    let size : c.len-count.result ≡ size_of c.args.like.now.shape = c.len-count.ensures ∙ (ap (λ (t : Items). length (cells_of t)) c.items.ensures.value ∙ c.items.ensures.full) in
    let left : c.args.a.now.items ≡ Characters c.in-Chars.x.now = rw c.in-Chars.is at (sym c.items-2.ensures.value) in
    let right : c.args.b.now.items ≡ Numbers (values c.in-Nums-items-2.field-0) = rw c.in-Nums-items-2.is at (sym c.items-in-Chars.ensures.value) in
    answers_along kept_values _ _ c.mixed-in-Nums-items-2.result
    (by_character_and_number c.args.function c.args.a.now c.args.b.now c.args.like.now.shape c.in-Chars.x.now (values c.in-Nums-items-2.field-0) left right c.items-2.ensures.full c.items-in-Chars.ensures.full c.requires.a_fits c.requires.b_fits)
    (rw size at c.mixed-in-Nums-items-2.ensures)

pub returns-in-Chars-items-2 : goal.returns-in-Chars-items-2
returns-in-Chars-items-2 c =
    let size : c.len-count.result ≡ size_of c.args.like.now.shape = c.len-count.ensures ∙ (ap (λ (t : Items). length (cells_of t)) c.items.ensures.value ∙ c.items.ensures.full) in
    let left : c.args.a.now.items ≡ Characters c.in-Chars.x.now = rw c.in-Chars.is at (sym c.items-2.ensures.value) in
    let right : c.args.b.now.items ≡ Characters c.in-Chars-items-2.y.now = rw c.in-Chars-items-2.is at (sym c.items-in-Chars.ensures.value) in
    answers_along kept_values _ _ c.dyadic_characters.result
    (by_characters c.args.function c.args.a.now c.args.b.now c.args.like.now.shape c.in-Chars.x.now c.in-Chars-items-2.y.now left right c.items-2.ensures.full c.items-in-Chars.ensures.full c.requires.a_fits c.requires.b_fits)
    (rw size at c.dyadic_characters.ensures)
