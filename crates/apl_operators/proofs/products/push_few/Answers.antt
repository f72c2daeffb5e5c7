use Rattle.std.proofs.Common.{◌≡◌, ◌<◌, ◌-◌, ◌*ℤ◌, ℕ, ℤ, List, [], ◌∷◌, ◌++◌, Result, FitsSigned, length, get_or, pos, ap, sym, ◌∙◌, subst, rules, arith}
use Rattle.std.specs.List.{range_with_len}
use Rattle.std.proofs.lemmas.Int.{to_z-of_z}
use Rattle.apl_faults.specs.declared.fault.Fault.{Fault}
use Rattle.apl_arrays.specs.Results.{all_ok}
use Rattle.apl_arrays.proofs.InTurn.{after, turns_step, turns_end}
use Rattle.apl_scalar.specs.declared.function.Dyadic.TheVariants as two
use Rattle.apl_scalar.specs.Functions.{dyadic_of}
use Rattle.apl_scalar.proofs.OfLanes.{as_many, number_of_item, numbers-append}
use Rattle.apl_scalar.proofs.Signs.{in_range-fits}
use Rattle.apl_operators.proofs.products.push_few.Goals as goal

pub loop-k-preserved : goal.loop-k-preserved
loop-k-preserved g c =
    let numbers = g.M.Lane.numbers in
    let k = c.loop-k.k in
    let ys = g.L.Lane.numbers c.args.ys.now in
    let z = c.args.x *ℤ get_or ys k (pos 0) in
    let at : ℕ → Result ℤ Fault = λ k. dyadic_of two.Times c.args.x (get_or (g.L.Lane.numbers c.args.ys.now) k (pos 0)) in
    let many : length ys ≡ length c.args.ys.now = as_many g.L.Lane.value g.L.Lane.numbers g.met.L.Lane.each c.args.ys.now in
    let beside : k < length c.args.ys.now = search rules in
    let y : g.L.Lane.value c.index-ys-k.result ≡ get_or ys k (pos 0) = sym (number_of_item g.L.Lane.value g.L.Lane.numbers g.met.L.Lane.each c.args.ys.now k c.index-ys-k.result beside c.index-ys-k.is) in
    let fits : FitsSigned g.M.Lane.width z = c.requires k beside in
    let made : FitsSigned g.M.Lane.width (c.args.x *ℤ g.L.Lane.value c.index-ys-k.result) → g.M.Lane.value c.product.result ≡ c.args.x *ℤ g.L.Lane.value c.index-ys-k.result = simp (to_z-of_z, c.ranges.x) at c.product.ensures in
    let same : c.args.x *ℤ g.L.Lane.value c.index-ys-k.result ≡ z = ap (λ (w : ℤ). c.args.x *ℤ w) y in
    let P : ℤ → Type 0 = λ w. FitsSigned g.M.Lane.width w in
    let item : g.M.Lane.value c.product.result ≡ z = made (subst P (sym same) fits) ∙ same in
    let before : after (numbers c.loop-k.out.items) (all_ok at (range_with_len k (length ys - k))) ≡ after (numbers c.args.out.now.items) (all_ok at (range_with_len 0 (length ys))) = simp (to_z-of_z, c.ranges.x) at c.loop-k.invariant in
    let pushed : c.push.new.self.items ≡ c.loop-k.out.items ++ c.product.result ∷ [] = search rules in
    let longer : numbers c.push.new.self.items ≡ numbers c.loop-k.out.items ++ z ∷ [] =
    ap numbers pushed
    ∙ numbers-append g.M.Lane.value numbers g.met.M.Lane.each c.loop-k.out.items (c.product.result ∷ [])
    ∙ ap (λ (zs : List ℤ). g.M.Lane.numbers c.loop-k.out.items ++ zs) (g.met.M.Lane.each (c.product.result ∷ []) ∙ ap (λ (w : ℤ). w ∷ []) item)
    in
    simp (to_z-of_z, c.ranges.x) (turns_step at (numbers c.loop-k.out.items) (numbers c.push.new.self.items) z k (length ys) (omega arith) (in_range-fits z (g.met.M.Lane.bounded z fits)) longer ∙ before)

pub returns : goal.returns
returns g c =
    let ys = g.L.Lane.numbers c.args.ys.now in
    let at : ℕ → Result ℤ Fault = λ k. dyadic_of two.Times c.args.x (get_or (g.L.Lane.numbers c.args.ys.now) k (pos 0)) in
    let many : length ys ≡ length c.args.ys.now = as_many g.L.Lane.value g.L.Lane.numbers g.met.L.Lane.each c.args.ys.now in
    let before : after (g.M.Lane.numbers c.loop-k.out.items) (all_ok at (range_with_len c.loop-k.k (length ys - c.loop-k.k))) ≡ after (g.M.Lane.numbers c.args.out.now.items) (all_ok at (range_with_len 0 (length ys))) =
    simp (to_z-of_z, c.ranges.x) at c.loop-k.invariant
    in
    sym before ∙ turns_end at (g.M.Lane.numbers c.loop-k.out.items) c.loop-k.k (length ys) (omega arith)
