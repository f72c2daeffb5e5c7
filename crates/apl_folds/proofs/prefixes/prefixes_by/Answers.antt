use Rattle.std.proofs.Common.{rules, ◌≡◌, ◌++◌, ℕ, ℤ, List, pos, length, take, drop, replicate, Ok, ap, sym, subst, ◌∙◌}
use Rattle.std.proofs.Math.Seq.{take-append_seam}
use Rattle.std.proofs.lemmas.List.{length-replicate}
use Rattle.apl_folds.proofs.ByPlaces.{prefixes_whole}
use Rattle.apl_scalar.proofs.OfLanes.{as_many}
use Rattle.apl_folds.specs.inside.Prefixes.{ArePrefixes}
use Rattle.apl_folds.proofs.prefixes.prefixes_by.Goals as goal

take_all : (n : ℕ) (xs ys : List ℤ) → length xs ≡ n → take n (xs ++ ys) ≡ xs
take_all n xs ys e = ap (λ (m : ℕ). take m (xs ++ ys)) (sym e) ∙ take-append_seam xs ys

pub returns-in-Ok : goal.returns-in-Ok
returns-in-Ok g c =
    let count : length c.grow.new.out.items ≡ length c.args.numbers.now =
    ap length c.in_ok-grow.ensures.grown ∙ ap (λ (l : List ℤ). length (l ++ replicate (length c.args.numbers.now) (pos 0))) c.new-out.ensures.items ∙ length-replicate (length c.args.numbers.now) (pos 0) in
    let zs : List ℤ = g.L.Lane.numbers c.args.numbers.now in
    let all : length zs ≡ length c.args.numbers.now = as_many g.L.Lane.value g.L.Lane.numbers g.met.L.Lane.each c.args.numbers.now in
    let len : length c.grow.new.out.items ≡ c.grow.new.out.len = search rules in
    let first : length c.tell.new.out ≡ c.grow.new.out.len = c.tell.ensures.size ∙ ap length c.as_mut_slice.ensures.value ∙ len in
    let inner : take c.grow.new.out.len (c.tell.new.out ++ drop (length c.tell.new.out) c.grow.new.out.items) ≡ c.tell.new.out = take_all c.grow.new.out.len c.tell.new.out _ first in
    let second : length c.fold_rest.new.out ≡ c.grow.new.out.len = c.fold_rest.ensures.size ∙ ap length (c.as_mut_slice-2.ensures.value ∙ inner) ∙ first in
    let Written : ℕ → Type 0 = λ n. ArePrefixes g.F.Scalar.meaning zs c.args.axis n c.fold_rest.new.out in
    prefixes_whole g.F.Scalar.meaning zs c.args.axis c.fold_rest.new.out (second ∙ sym len ∙ count ∙ sym all) (subst Written (sym all) c.in-Ok.ensures.prefixes)
    ∙ ap (λ (l : List ℤ). Ok l) (sym (take_all c.grow.new.out.len c.fold_rest.new.out _ second))
