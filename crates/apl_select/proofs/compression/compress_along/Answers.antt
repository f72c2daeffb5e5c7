use Rattle.std.proofs.Common.{zero, suc, ◌≡◌, ℕ, ℤ, ◌<◌, List, [], ◌∷◌, length, get_or, refl, ap, sym, ◌∙◌, arith, Option, Result, Ok, Err, ◌≤◌, ◌*◌, subst, max}
use Rattle.apl_faults.specs.declared.fault.Fault.{Fault}
use Rattle.apl_arrays.specs.declared.stop.Stop.{Stop}
use Rattle.apl_arrays.specs.Answers.{FaultsFirst}
use Rattle.apl_arrays.specs.Cells.{Arr, Items, cells_of}
use Rattle.apl_arrays.specs.Checks.{count_of}
use Rattle.apl_arrays.specs.Left.{listed}
use Rattle.apl_arrays.specs.Numbers.{values}
use Rattle.apl_arrays.specs.Results.{and_then, ok_map}
use Rattle.apl_select.specs.Compress.{bits_of, common_count, compressed_along, kept, places_kept}
use Rattle.apl_select.specs.Lined.{laid_within}
use Rattle.apl_arrays.specs.Index.{bound_of, size_of}
use Rattle.apl_select.proofs.Choosing.{kept_below}
use Rattle.apl_select.proofs.compression.compress_along.Goals as goal

once : (n : ℕ) → n * 1 ≡ n
once n = omega arith

few_bits : (n : ℕ) → max n 1 * 1 ≤ 1000000 → n ≤ 1000000
few_bits n h = omega arith

pub laid-requires-clause-places : goal.laid-requires-clause-places
laid-requires-clause-places c =
    kept_below (values c.in_ok-bits.bits) c.len.result (get_or c.args.shape.now c.args.axis 0) c.in_ok-count.count c.as_slice.result.now (c.as_slice.ensures.value ∙ c.in_ok-places.ensures) (sym c.in_ok-count.ensures)

-- what is kept of a vector in one pass
vector_compressed : (a : Arr) (axis count : ℕ) (shape : List ℕ) (items : Items) (bits : List ℤ) (array : Arr) → axis < length shape → shape ≡ length bits ∷ [] → count ≡ length bits →
    places_kept a axis (record { shape = shape; items = items }) ≡ Ok (kept bits (get_or shape axis 0) count) →
    laid_within 0 (kept bits (length bits) (length bits)) (record { shape = length bits ∷ []; items = items }) ≡ Ok array → compressed_along a axis (record { shape = shape; items = items }) ≡ Ok array
vector_compressed a zero count shape items bits array l s k p e =
    ap (λ (r : Result (List (Option ℕ)) Fault). and_then r (λ places. laid_within 0 places (record { shape = shape; items = items }))) p
    ∙ ap (λ (n : ℕ). laid_within 0 (kept bits (get_or shape 0 0) n) (record { shape = shape; items = items })) k
    ∙ ap (λ (t : List ℕ). laid_within 0 (kept bits (get_or t 0 0) (length bits)) (record { shape = t; items = items })) s
    ∙ e
vector_compressed a (suc axis) count shape items bits array l s k p e = absurd (omega (arith, ap (λ (t : List ℕ). length t) s))

-- the places that the checks let through
places_are : (a : Arr) (axis m count : ℕ) (b : Arr) (bits : List ℤ) → m ≡ count_of a → common_count m (get_or b.shape axis 0) ≡ Ok count → bits_of a.items ≡ Ok bits → places_kept a axis b ≡ Ok (kept bits (get_or b.shape axis 0) count)
places_are a axis m count b bits e h g =
    ap (λ (r : Result ℕ Fault). and_then r (λ count. ok_map (λ bits. kept bits (get_or b.shape axis 0) count) (bits_of a.items))) (ap (λ (n : ℕ). common_count n (get_or b.shape axis 0)) (sym e) ∙ h)
    ∙ ap (λ (r : Result (List ℤ) Fault). ok_map (λ bits. kept bits (get_or b.shape axis 0) count) r) g

no_fault_at : {A B : Type 0} (m : Result A Fault) (x : A) (r : Result B Stop) → m ≡ Ok x → FaultsFirst m r
no_fault_at (Ok a) x r e = tt
no_fault_at (Err f) x r e = absurd (cc)

pub returns-then-is_bit_each : goal.returns-then-is_bit_each
returns-then-is_bit_each c =
    let p =
    places_are c.args.a.now c.args.axis c.len.result c.in_ok-count.count (record { shape = c.args.shape.now; items = listed c.args.items }) (values c.in_ok-bits.bits)
    (c.len.ensures ∙ ap (λ (t : Items). length (cells_of t)) c.items.ensures.value) (sym c.in_ok-count.ensures) (ap bits_of (sym c.items-2.ensures.value) ∙ c.in_ok-bits.ensures.value)
    in
    record {
      value =
          vector_compressed c.args.a.now c.args.axis c.in_ok-count.count c.args.shape.now (listed c.args.items) (values c.in_ok-bits.bits) _ c.requires.axis (c.if-is_bit_each.ensures.shape refl) (c.if-is_bit_each.ensures.count refl) p
          c.in_ok-kept_of_vector.ensures;
      at_once = no_fault_at _ _ _ p;
    }

pub kept_of_vector-requires : goal.kept_of_vector-requires
kept_of_vector-requires c =
    let P : List ℕ → Type 0 = λ s. bound_of s ≤ 1000000 in
    let each : length (cells_of (listed c.args.items)) ≡ length (values c.in_ok-bits.bits) = c.requires.full ∙ ap size_of (c.if-is_bit_each.ensures.shape refl) ∙ once (length (values c.in_ok-bits.bits)) in
    record {
      each = sym each;
      bits = c.in_ok-bits.ensures.bits;
      few = omega (arith, each, few_bits (length (values c.in_ok-bits.bits)) (subst P (c.if-is_bit_each.ensures.shape refl) c.requires.small));
    }

pub laid-requires-clause-full : goal.laid-requires-clause-full
laid-requires-clause-full c = c.requires.full
