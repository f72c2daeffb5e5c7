use Rattle.std.proofs.Common.{◌≡◌, ℕ, pos, Bool, true, false, cond, List, length, ap, sym, ◌∙◌, refl}
use Rattle.std.proofs.lemmas.List.{length-map}
use Rattle.apl_arrays.specs.declared.cell.Cell.TheVariants.{Num, Char}
use Rattle.apl_arrays.specs.Cells.{Items, Numbers, Characters, AreStorable, cells_of}
use Rattle.apl_arrays.specs.Dense.{IsDense}
use Rattle.apl_arrays.specs.Left.{listed}
use Rattle.apl_arrays.specs.Written.{with_items, with_elements}
use Rattle.apl_arrays.proofs.InPlace.{length-with_items}
use Rattle.apl_arrays.proofs.dense.Dense.write.Goals as goal

length-with_elements : (to from : Items) (places : List ℕ) → length (cells_of (with_elements to places from)) ≡ length (cells_of to)
length-with_elements (Numbers xs) (Numbers ys) places =
    length-map (with_items (pos 0) xs places ys (length places)) Num ∙ length-with_items (pos 0) xs places ys (length places) ∙ sym (length-map xs Num)
length-with_elements (Numbers xs) (Characters ys) places = refl
length-with_elements (Characters xs) (Numbers ys) places = refl
length-with_elements (Characters xs) (Characters ys) places =
    length-map (with_items 0 xs places ys (length places)) Char ∙ length-with_items 0 xs places ys (length places) ∙ sym (length-map xs Char)

length-cond : (done : Bool) (to from new : Items) (places : List ℕ) → new ≡ cond done (with_elements to places from) to → length (cells_of new) ≡ length (cells_of to)
length-cond true to from new places e = ap (λ (t : Items). length (cells_of t)) e ∙ length-with_elements to from places
length-cond false to from new places e = ap (λ (t : Items). length (cells_of t)) e

dense_with : (done : Bool) (shape : List ℕ) (to from new : Items) (places : List ℕ) → IsDense shape to → new ≡ cond done (with_elements to places from) to → AreStorable new → IsDense shape new
dense_with done shape to from new places dense e s = record {
  array = record {
    full = length-cond done to from new places e ∙ dense.array.full;
    small = dense.array.small;
    few_axes = dense.array.few_axes;
    storable = s;
  };
  axes = dense.axes;
}

pub invariant_of-self : goal.invariant_of-self
invariant_of-self c = dense_with c.write_in_place-wrote.result _ _ (listed c.args.items) _ c.args.places.now c.self.invariant c.write_in_place-wrote.ensures c.inspect.ensures
