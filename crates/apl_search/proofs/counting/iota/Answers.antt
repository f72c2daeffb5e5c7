use Rattle.std.proofs.Common.{◌≡◌, ◌∷◌, [], ◌++◌, ℕ, ℤ, List, length, map, take, drop, pos, Result, Ok, ap, sym, ◌∙◌, arith}
use Rattle.std.specs.List.{range_with_len}
use Rattle.apl_faults.specs.declared.fault.Fault.{Fault}
use Rattle.apl_arrays.specs.Cells.{Arr, Numbers}
use Rattle.apl_arrays.specs.Checks.{limited}
use Rattle.apl_arrays.specs.Results.{and_then, ok_map}
use Rattle.std.proofs.lemmas.List.{length-map}
use Rattle.std.proofs.Math.Seq.{take-append_seam}
use Rattle.std.proofs.lemmas.List.FromFn.{length-map-range_with_len}
use Rattle.apl_arrays.specs.declared.cell.Cell.TheVariants.{Num}
use Rattle.apl_arrays.specs.Origins.{origin_number}
use Rattle.apl_search.specs.Counted.{count_named, iota}
use Rattle.apl_search.proofs.Shapes.{limits}
use Rattle.apl_search.proofs.counting.iota.Goals as goal

-- as many numbers as the array says
counted : (b : Arr) (origin n : ℕ) → count_named b ≡ Ok n → limited (n ∷ []) ≡ Ok (n ∷ []) → iota b origin ≡ Ok (record { shape = n ∷ []; items = Numbers (map pos (range_with_len origin n)) })
counted b origin n e h =
    ap (λ (r : Result ℕ Fault). and_then r (λ n. ok_map (made origin n) (limited (n ∷ [])))) e
    ∙ ap (ok_map (made origin n)) h
  where
    made : ℕ → ℕ → List ℕ → Arr
    made origin n shape = record { shape = shape; items = Numbers (map pos (range_with_len origin n)) }

-- what is written over all that a vector holds
written : (n : ℕ) (new old : List ℤ) → length new ≡ n → take n (new ++ drop (length new) old) ≡ new
written n new old h = ap (λ k. take k (new ++ drop (length new) old)) (sym h) ∙ take-append_seam new (drop (length new) old)

many : (origin m n : ℕ) (new : List ℤ) → new ≡ map pos (range_with_len origin m) → m ≡ n → length new ≡ n
many origin m n new e h = ap (λ (l : List ℤ). length l) e ∙ length-map-range_with_len pos origin m ∙ h

pub vector-requires : goal.vector-requires
vector-requires c =
    let n : ℕ = c.in_ok-count.count in
    let new : List ℤ = c.count_up.new.numbers in
    let e = written c.in_ok-numbers.numbers.len new c.in_ok-numbers.numbers.items (many c.number.result _ _ new c.count_up.ensures c.as_mut_slice.ensures.len) in
    let l = many c.number.result _ n new c.count_up.ensures (c.as_mut_slice.ensures.len ∙ c.in_ok-numbers.ensures.len) in
    rw e (omega (arith, length-map new Num, l, (limits (n ∷ []) _ c.in_ok-within_limits.ensures).1))

pub returns-clause-value : goal.returns-clause-value
returns-clause-value c =
    let n : ℕ = c.in_ok-count.count in
    let origin : ℕ = origin_number c.args.origin in
    let new : List ℤ = c.count_up.new.numbers in
    let e = written c.in_ok-numbers.numbers.len new c.in_ok-numbers.numbers.items (many c.number.result _ _ new c.count_up.ensures c.as_mut_slice.ensures.len) in
    let all : length c.as_mut_slice.result.now ≡ n = c.as_mut_slice.ensures.len ∙ c.in_ok-numbers.ensures.len in
    let numbers : new ≡ map pos (range_with_len origin n) =
    c.count_up.ensures ∙ ap (λ (k : ℕ). map pos (range_with_len c.number.result k)) all ∙ ap (λ (k : ℕ). map pos (range_with_len k n)) c.number.ensures.value in
    let many : length (map Num new) ≡ n = length-map new Num ∙ many c.number.result _ n new c.count_up.ensures all in
    counted c.args.b.now origin n (sym c.in_ok-count.ensures) c.in_ok-within_limits.ensures
    ∙ ap (λ (l : List ℤ). let a : Arr = record { shape = n ∷ []; items = Numbers l } in let r : Result Arr Fault = Ok a in r) (sym numbers)
    ∙ ap (λ (k : ℕ). let a : Arr = record { shape = k ∷ []; items = Numbers new } in let r : Result Arr Fault = Ok a in r) (sym many)
    ∙ ap (λ (l : List ℤ). let a : Arr = record { shape = length (map Num l) ∷ []; items = Numbers l } in let r : Result Arr Fault = Ok a in r) (sym e)
    ∙ ap (λ (a : Arr). let r : Result Arr Fault = Ok a in r) (sym c.in_ok-vector.ensures)
