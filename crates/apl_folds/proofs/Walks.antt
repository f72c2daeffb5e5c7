-- Results appended row by row.
use Rattle.std.proofs.Common.{suc, ◌≡◌, ℕ, ◌+◌, ◌-◌, ◌<◌, ◌≤◌, List, [], ◌∷◌, ◌++◌, map, Result, Ok, Err, ap, sym, ◌∙◌, arith, append_assoc, append-nil, refl}
use Rattle.std.specs.List.{flat_map, range_with_len}
use Rattle.apl_faults.specs.declared.fault.Fault.{Fault}
use Rattle.apl_arrays.specs.declared.stop.Stop.{Stop}
use Rattle.apl_arrays.specs.declared.stop.Stop.TheVariants as stop
use Rattle.apl_arrays.specs.Answers.{Appends}
use Rattle.apl_arrays.specs.Index.{indices}
use Rattle.apl_arrays.specs.Results.{and_then, all_ok}
use Rattle.apl_arrays.proofs.InTurn.{after, after_err, all_ok-map, all_ok-append}
use Rattle.apl_arrays.proofs.Gathers.{rows_from}

abbrev row_of : List ℕ → ℕ → List (List ℕ)
row_of ns i = map (λ is. i ∷ is) (indices ns)

after_more : {B E : Type 0} (old new : List B) (q r : Result (List B) E) → after old q ≡ Ok new → after new r ≡ after old (and_then q (λ ys. after ys r))
after_more {B = B} old new (Ok ys) (Ok zs) e = let s : old ++ ys ≡ new = cc in ap (λ (l : List B). Ok (l ++ zs)) (sym s) ∙ ap (λ (l : List B). Ok l) (append_assoc old ys zs)
after_more old new (Ok ys) (Err f) e = refl
after_more old new (Err f) r e = absurd (cc)

rows_split : (ns : List ℕ) (i n : ℕ) → i < n → rows_from ns i n ≡ row_of ns i ++ rows_from ns (i + 1) n
rows_split ns i n h = ap (λ m. flat_map (row_of ns) (range_with_len i m)) (there i n h)
  where
    there : (i n : ℕ) → i < n → n - i ≡ suc (n - (i + 1))
    there i n h = omega arith

rows_none : (ns : List ℕ) (i n : ℕ) → n ≤ i → rows_from ns i n ≡ []
rows_none ns i n h = ap (λ m. flat_map (row_of ns) (range_with_len i m)) (there i n h)
  where
    there : (i n : ℕ) → n ≤ i → n - i ≡ 0
    there i n h = omega arith

-- a row more
pub rows_step : {B E : Type 0} (g : List ℕ → Result B E) (ns : List ℕ) (i n : ℕ) (old new : List B) → i < n → after old (all_ok (λ is. g (i ∷ is)) (indices ns)) ≡ Ok new →
    after new (all_ok g (rows_from ns (i + 1) n)) ≡ after old (all_ok g (rows_from ns i n))
rows_step {B = B} {E = E} g ns i n old new h e =
    after_more old new (all_ok g (row_of ns i)) (all_ok g (rows_from ns (i + 1) n)) (ap (after old) (all_ok-map g (λ is. i ∷ is) (indices ns)) ∙ e)
    ∙ ap (after old) (sym (all_ok-append g (row_of ns i) (rows_from ns (i + 1) n)))
    ∙ ap (λ (l : List (List ℕ)). after old (all_ok g l)) (sym (rows_split ns i n h))

rows_fault : {B E : Type 0} (g : List ℕ → Result B E) (ns : List ℕ) (i n : ℕ) (old : List B) (e : E) → i < n → all_ok (λ is. g (i ∷ is)) (indices ns) ≡ Err e →
    after old (all_ok g (rows_from ns i n)) ≡ Err e
rows_fault {B = B} {E = E} g ns i n old e h f =
    ap (λ (l : List (List ℕ)). after old (all_ok g l)) (rows_split ns i n h) ∙ ap (after old) (all_ok-append g (row_of ns i) (rows_from ns (i + 1) n))
    ∙ ap (λ (q : Result (List B) E). after old (and_then q (λ ys. after ys (all_ok g (rows_from ns (i + 1) n))))) (all_ok-map g (λ is. i ∷ is) (indices ns) ∙ f)

pub rows_end : {B E : Type 0} (g : List ℕ → Result B E) (ns : List ℕ) (i n : ℕ) (old : List B) → n ≤ i → after old (all_ok g (rows_from ns i n)) ≡ Ok old
rows_end {B = B} g ns i n old h = ap (λ (l : List (List ℕ)). after old (all_ok g l)) (rows_none ns i n h) ∙ ap (λ (l : List B). Ok l) (append-nil old)

pub rows_all : (n : ℕ) (ns : List ℕ) → rows_from ns 0 n ≡ indices (n ∷ ns)
rows_all n ns = ap (λ m. flat_map (row_of ns) (range_with_len 0 m)) (there n)
  where
    there : (n : ℕ) → n - 0 ≡ n
    there n = omega arith

-- what stands when a row stopped
pub rows_stop : {B : Type 0} (g : List ℕ → Result B Fault) (ns : List ℕ) (i n : ℕ) (first old new last : List B) (s : Stop) → i < n →
    after old (all_ok g (rows_from ns i n)) ≡ after first (all_ok g (indices (n ∷ ns))) →
    Appends old new (all_ok (λ is. g (i ∷ is)) (indices ns)) (Err s) → Appends first last (all_ok g (indices (n ∷ ns))) (Err s)
rows_stop g ns i n first old new last (stop.Fault e) h inv a = after_err first _ e (sym inv ∙ rows_fault g ns i n old e h a)
rows_stop g ns i n first old new last stop.Memory h inv a = tt
