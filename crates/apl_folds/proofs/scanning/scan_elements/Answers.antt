use Rattle.std.proofs.Common.{◌≡◌, Bool, true, cond, Err, refl, ap, sym, ◌∙◌}
use Rattle.std.proofs.lemmas.List.{length-map}
use Rattle.std.proofs.lemmas.Result.{err_from_is_err_and}
use Rattle.apl_faults.specs.declared.fault.Fault.TheVariants.{Domain}
use Rattle.apl_arrays.specs.declared.cell.Cell.TheVariants.{Num}
use Rattle.apl_arrays.specs.declared.elements.Elements.{Elements}
use Rattle.apl_arrays.specs.Cells.{Arr, Numbers}
use Rattle.apl_arrays.specs.Checks.{demand}
use Rattle.apl_arrays.specs.Index.{size_of}
use Rattle.apl_arrays.specs.Kinds.{are_numbers}
use Rattle.apl_arrays.specs.Left.{listed}
use Rattle.apl_arrays.specs.Numbers.{kept_values}
use Rattle.apl_arrays.specs.Results.{ok_map}
use Rattle.apl_arrays.specs.Strides.{seen}
use Rattle.apl_arrays.proofs.Exits.{answers_along, answers_err, first_passes, ok_map_err}
use Rattle.apl_arrays.proofs.InTurn.{length-all_ok}
use Rattle.apl_arrays.proofs.Order.{length-indices}
use Rattle.apl_scalar.specs.Extension.{numbers_in}
use Rattle.apl_folds.specs.Scans.{prefixes_along, prefixes_shaped}
use Rattle.apl_folds.proofs.Shapes.{same_array}
use Rattle.apl_folds.proofs.scanning.scan_elements.Goals as goal

pub returns-in_err-folds-in-Nums-clause-value : goal.returns-in_err-folds-in-Nums-clause-value
returns-in_err-folds-in-Nums-clause-value c =
    let p = err_from_is_err_and c.from_residual.result c.from_residual.ensures.1 in
    let numeric : are_numbers c.args.view.now.items ≡ true =
    ap are_numbers c.strided-strided.ensures.items ∙ ap (λ (e : Elements). are_numbers (seen (listed e) c.strided-strided.result.offset c.strided-strided.result.axes.now)) c.in-Nums.is in
    rw (p.1, p.2)
    (answers_err {B = Arr} {D = Arr} kept_values (λ r. r) (prefixes_along c.args.function c.args.axis c.args.view.now)
    (cond (are_numbers c.args.view.now.items) (prefixes_shaped c.args.function c.args.axis c.args.view.now) (Err Domain)) c.in_err-folds-in-Nums.field-0.0
    (λ e h. ap (λ (b : Bool). cond b (prefixes_shaped c.args.function c.args.axis c.args.view.now) (Err Domain)) numeric
    ∙ ok_map_err (numbers_in c.args.view.now.shape) (prefixes_along c.args.function c.args.axis c.args.view.now) e h)
    c.in_err-folds-in-Nums.ensures)

pub formed-requires-clause-full : goal.formed-requires-clause-full
formed-requires-clause-full c =
    length-map (kept_values c.in_ok-folds-in-Nums.folds) Num
    ∙ length-all_ok _ _ (kept_values c.in_ok-folds-in-Nums.folds) c.in_ok-folds-in-Nums.ensures
    ∙ length-indices c.args.view.now.shape
    ∙ ap size_of (sym c.shape.ensures.value)

pub returns-in_ok-folds-in-Nums-clause-value : goal.returns-in_ok-folds-in-Nums-clause-value
returns-in_ok-folds-in-Nums-clause-value c =
    let numeric : are_numbers c.args.view.now.items ≡ true =
    ap are_numbers c.strided-strided.ensures.items ∙ ap (λ (e : Elements). are_numbers (seen (listed e) c.strided-strided.result.offset c.strided-strided.result.axes.now)) c.in-Nums.is in
    answers_along (λ (r : Arr). r) _ _ c.formed.result
    (ap (λ (b : Bool). cond b (prefixes_shaped c.args.function c.args.axis c.args.view.now) (Err Domain)) numeric
    ∙ ap (ok_map (numbers_in c.args.view.now.shape)) c.in_ok-folds-in-Nums.ensures
    ∙ same_array c.args.view.now.shape c.shape.result.items (Numbers (kept_values c.in_ok-folds-in-Nums.folds)) (Numbers (kept_values c.in_ok-folds-in-Nums.folds)) (sym c.shape.ensures.value) refl)
    c.formed.ensures

pub returns-in_err-folds-in-Nums-clause-at_once : goal.returns-in_err-folds-in-Nums-clause-at_once
returns-in_err-folds-in-Nums-clause-at_once c =
    let numeric : are_numbers c.args.view.now.items ≡ true =
    ap are_numbers c.strided-strided.ensures.items ∙ ap (λ (e : Elements). are_numbers (seen (listed e) c.strided-strided.result.offset c.strided-strided.result.axes.now)) c.in-Nums.is in
    first_passes (demand (are_numbers c.args.view.now.items) Domain) tt _ (ap (λ (b : Bool). demand b Domain) numeric)

pub returns-in_ok-folds-in-Nums-clause-at_once : goal.returns-in_ok-folds-in-Nums-clause-at_once
returns-in_ok-folds-in-Nums-clause-at_once c =
    let numeric : are_numbers c.args.view.now.items ≡ true =
    ap are_numbers c.strided-strided.ensures.items ∙ ap (λ (e : Elements). are_numbers (seen (listed e) c.strided-strided.result.offset c.strided-strided.result.axes.now)) c.in-Nums.is in
    first_passes (demand (are_numbers c.args.view.now.items) Domain) tt _ (ap (λ (b : Bool). demand b Domain) numeric)
