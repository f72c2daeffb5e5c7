-- The holes of items: none in a line that begins or is filled, and one where a phrase leaves one.
use Rattle.std.proofs.Common.{◌≡◌, ℕ, zero, suc, ◌+◌, List, [], ◌∷◌, ◌++◌, arith, sym, refl, take, drop, map, zero-add}
use Rattle.apl_arrays.specs.Cells.{Arr}
use Rattle.apl_code.specs.declared.row.Row.{Row}
use Rattle.apl_translate.specs.declared.form.Form.{Form}
use Rattle.apl_translate.specs.declared.form.Form.TheVariants as forms
use Rattle.apl_translate.specs.declared.form.Placed.{Placed}
use Rattle.apl_translate.specs.Phrase.{width, place}
use Rattle.apl_translate.specs.Lines.{Line}
use Rattle.apl_machine_state.specs.Items.{Content, Constant, Given, Reads, Awaited, Item, column, replaced, filled, filled_by, content_of, item_of, fresh}
use Rattle.apl_order.specs.Order.{hole, holes}

holes-append : (xs ys : List Item) → holes (xs ++ ys) ≡ holes xs + holes ys
holes-append [] ys = sym (zero-add (holes ys))
holes-append (x ∷ xs) ys = let e : holes (xs ++ ys) ≡ holes xs + holes ys = holes-append xs ys in omega arith

holes-parts : (xs : List Item) (n : ℕ) → holes (take n xs) + holes (drop n xs) ≡ holes xs
holes-parts [] zero = refl
holes-parts [] (suc n) = refl
holes-parts (x ∷ xs) zero = zero-add _
holes-parts (x ∷ xs) (suc n) = let e : holes (take n xs) + holes (drop n xs) ≡ holes xs = holes-parts xs n in omega arith

-- items without a hole, of which a phrase has come to this
pub holes-replaced : (n : ℕ) (row : Row) (content : Content) (xs : List Item) → holes xs ≡ 0 → holes (replaced n row content xs) ≡ hole content
holes-replaced n row content xs none =
    let behind : List Item = drop n xs in
    let item : Item = record { content = content; at = column behind (place row) } in
    let a : holes (take n xs ++ (item ∷ drop (width row) behind)) ≡ holes (take n xs) + holes (item ∷ drop (width row) behind) = holes-append (take n xs) (item ∷ drop (width row) behind) in
    let b : holes (take n xs) + holes behind ≡ holes xs = holes-parts xs n in
    let c : holes (take (width row) behind) + holes (drop (width row) behind) ≡ holes behind = holes-parts behind (width row) in
    let d : holes (item ∷ drop (width row) behind) ≡ hole content + holes (drop (width row) behind) = refl in
    omega arith

hole-filled : (a : Arr) (content : Content) → hole (filled_by a content) ≡ 0
hole-filled a (Constant b) = refl
hole-filled a (Given o) = refl
hole-filled a (Reads w) = refl
hole-filled a Awaited = refl

-- a value has come to the hole
pub holes-filled : (a : Arr) (xs : List Item) → holes (filled a xs) ≡ 0
holes-filled a [] = refl
holes-filled a (x ∷ xs) =
    let first : hole (filled_by a x.content) ≡ 0 = hole-filled a x.content in
    let others : holes (filled a xs) ≡ 0 = holes-filled a xs in
    omega arith

hole-bound : (constants : List Arr) (form : Form) → hole (content_of constants form) ≡ 0
hole-bound constants (forms.Constant k) = refl
hole-bound constants (forms.Word w) = refl
hole-bound constants forms.Given = refl
hole-bound constants forms.Slots = refl

holes-bound : (constants : List Arr) (ps : List Placed) → holes (map (item_of constants) ps) ≡ 0
holes-bound constants [] = refl
holes-bound constants (p ∷ ps) =
    let first : hole (content_of constants p.form) ≡ 0 = hole-bound constants p.form in
    let others : holes (map (item_of constants) ps) ≡ 0 = holes-bound constants ps in
    omega arith

-- a line of which no phrase is done
pub holes-fresh : (line : Line) → holes (fresh line).items ≡ 0
holes-fresh line = holes-bound line.constants line.items
