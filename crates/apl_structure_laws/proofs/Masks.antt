-- What is expanded and compressed by a mask is as it was.
use Rattle.std.proofs.Common.{◌≡◌, ℕ, ℤ, pos, ◌<◌, ◌==◌, ◌||◌, Bool, true, false, cond, List, [], ◌∷◌, map, length, get_or, Option, Some, None, Result, Ok, Err, refl, ap, sym, ◌∙◌, subst, arith}
use Rattle.std.specs.Option.{option_map}
use Rattle.std.specs.List.{count_by}
use Rattle.std.proofs.lemmas.Bool.{eq-eqb}
use Rattle.std.proofs.lemmas.List.{length-map}
use Rattle.std.proofs.lemmas.List.FromFn.{length-map-range_with_len}
use Rattle.apl_faults.specs.declared.fault.Fault.{Fault}
use Rattle.apl_faults.specs.declared.fault.Fault.TheVariants.{Length, Limit}
use Rattle.apl_arrays.specs.declared.axis_choice.Along.{Along}
use Rattle.apl_arrays.specs.declared.cell.Cell.TheVariants.{Num, Char}
use Rattle.apl_arrays.specs.Along.{axis_along}
use Rattle.apl_arrays.specs.Cells.{Arr, Items, Numbers, Characters, IsArray, cells_of}
use Rattle.apl_arrays.specs.Checks.{count_of, demand, is_limited, limited, vector_rank}
use Rattle.apl_arrays.specs.Index.{indices, is_within, position_in, size_of}
use Rattle.apl_arrays.specs.Results.{and_then, ok_map}
use Rattle.apl_arrays.specs.Views.{length_of, on_axis}
use Rattle.apl_arrays.proofs.AtPlace.{at_place}
use Rattle.apl_turns.proofs.Named.{axis_within}
use Rattle.apl_select.specs.Compress.{bits_of, common_count, compressed, compressed_along, expanded_along, is_one, kept, mask_axis, ones, places_kept, spread, spread_at}
use Rattle.apl_select.specs.Lined.{filled, item_or, laid, laid_within, lined, lined_shape, or_first}
use Rattle.apl_structure_laws.specs.Catenations.{GoesAlong}
use Rattle.apl_structure_laws.specs.Masks.{CompressesBack}
use Rattle.apl_structure_laws.proofs.Axes.{get_or-on_axis, length-on_axis, length-within, limited-by, on_axis-on_axis, on_axis-stays, within-at, within-on_axis}
use Rattle.apl_structure_laws.proofs.Places.{are_bits, kept-at, kept_place, length-kept, nth_kept, spread-nth}
use Rattle.apl_structure_laws.proofs.Selections.{listed}

lined-stays : (b : Arr) → 0 < length b.shape → lined b ≡ b
lined-stays b h = ap (λ (s : List ℕ). record { shape = s; items = b.items }) (stays b.shape h)
  where
    stays : (s : List ℕ) → 0 < length s → lined_shape s ≡ s
    stays [] h = absurd (omega arith)
    stays (n ∷ s) h = refl

-- ---- the elements

module _ (bits : List ℤ) (k : ℕ) (s : List ℕ) (below : k < length s) (enough : get_or s k 0 ≡ count_by is_one bits) where
  n : ℕ
  n = get_or s k 0

  -- the shape of what is expanded
  wide : List ℕ
  wide = on_axis k (λ m. length (spread bits (get_or s k 0))) s

  -- where the element at an index list comes from, in what is expanded and in what is compressed of it
  abbrev source : List (Option ℕ) → List ℕ → Option (List ℕ)
  source places i = option_map (λ place. on_axis k (λ j. place) i) (get_or places (get_or i k 0) None)

  length-spread : length (spread bits (get_or s k 0)) ≡ length bits
  length-spread = length-map-range_with_len (spread_at bits (get_or s k 0)) 0 (length bits)

  there : List ℕ → List ℕ
  there i = on_axis k (λ j. kept_place bits (get_or i k 0)) i

  inside : (i : List ℕ) → is_within s i ≡ true → get_or i k 0 < count_by is_one bits
  inside i w = subst (λ m. get_or i k 0 < m) enough (within-at s i k w below)

  there_within : (i : List ℕ) → is_within s i ≡ true → is_within wide (there i) ≡ true
  unfolding wide there
  there_within i w = within-on_axis k (λ m. length (spread bits (get_or s k 0))) (λ j. kept_place bits (get_or i k 0)) s i w (λ h. let t = nth_kept bits (get_or i k 0) (inside i w) in let b : kept_place bits (get_or i k 0) < length bits = t.below in omega (arith, length-spread))

  there_index : (i : List ℕ) → is_within s i ≡ true → get_or (there i) k 0 ≡ kept_place bits (get_or i k 0)
  unfolding there
  there_index i w = get_or-on_axis k (λ j. kept_place bits (get_or i k 0)) i (omega (arith, length-within s i w))

  kept_source : (i : List ℕ) → is_within s i ≡ true → source (kept bits (length bits) (length bits)) i ≡ Some (there i)
  unfolding there
  kept_source i w = ap (λ (o : Option ℕ). option_map (λ place. on_axis k (λ j. place) i) o) (kept-at bits (get_or i k 0) (inside i w))

  spread_source : (i : List ℕ) → is_within s i ≡ true → source (spread bits (get_or s k 0)) (there i) ≡ Some i
  unfolding there
  spread_source i w =
      ap (λ q. option_map (λ place. on_axis k (λ j. place) (there i)) (get_or (spread bits (get_or s k 0)) q None)) (there_index i w)
      ∙ ap (λ (o : Option ℕ). option_map (λ place. on_axis k (λ j. place) (there i)) o) (spread-nth bits (get_or i k 0) (kept_place bits (get_or i k 0)) (get_or s k 0) (nth_kept bits (get_or i k 0) (inside i w)) (within-at s i k w below))
      ∙ ap Some (on_axis-on_axis k (λ j. get_or i k 0) (λ j. kept_place bits (get_or i k 0)) i ∙ on_axis-stays k (λ j. get_or i k 0) i (λ h. refl))

  abbrev spread_items : {A : Type 0} → A → List A → List ℕ → A
  spread_items fill xs i = item_or fill xs (option_map (position_in s) (source (spread bits (get_or s k 0)) i))

  elements : {A : Type 0} (fill : A) (xs : List A) → length xs ≡ size_of s →
      map (λ i. item_or fill (map (spread_items fill xs) (indices wide)) (option_map (position_in wide) (source (kept bits (length bits) (length bits)) i))) (indices s) ≡ xs
  elements fill xs full =
      listed (λ i. item_or fill (map (spread_items fill xs) (indices wide)) (option_map (position_in wide) (source (kept bits (length bits) (length bits)) i))) xs fill s full
      (λ i w. ap (λ (o : Option (List ℕ)). item_or fill (map (spread_items fill xs) (indices wide)) (option_map (position_in wide) o)) (kept_source i w)
      ∙ at_place (spread_items fill xs) fill wide (there i) (there_within i w)
      ∙ ap (λ (o : Option (List ℕ)). item_or fill xs (option_map (position_in s) o)) (spread_source i w))

  items_back : (items : Items) → length (cells_of items) ≡ size_of s →
      filled (filled items (λ i. option_map (position_in s) (source (spread bits (get_or s k 0)) i)) (indices wide)) (λ i. option_map (position_in wide) (source (kept bits (length bits) (length bits)) i)) (indices s) ≡ items
  items_back (Numbers zs) full = ap (λ l. Numbers l) (elements (pos 0) zs (sym (length-map zs Num) ∙ full))
  items_back (Characters cs) full = ap (λ l. Characters l) (elements 32 cs (sym (length-map cs Char) ∙ full))

  -- the shape
  shape_back : on_axis k (λ m. length (kept bits (length bits) (length bits))) wide ≡ s
  unfolding wide
  shape_back =
      on_axis-on_axis k (λ m. length (kept bits (length bits) (length bits))) (λ m. length (spread bits (get_or s k 0))) s
      ∙ on_axis-stays k (λ m. length (kept bits (length bits) (length bits))) s (λ h. length-kept bits ∙ sym enough)

  laid_back : (items : Items) → length (cells_of items) ≡ size_of s →
      laid k (kept bits (length bits) (length bits)) (laid k (spread bits (get_or s k 0)) (record { shape = s; items = items })) ≡ record { shape = s; items = items }
  unfolding wide
  laid_back items full =
      ap (λ (u : List ℕ). record { shape = u; items = filled (filled items (λ i. option_map (position_in s) (source (spread bits (get_or s k 0)) i)) (indices wide)) (λ i. option_map (position_in wide) (source (kept bits (length bits) (length bits)) i)) (indices u) }) shape_back
      ∙ ap (λ (x : Items). record { shape = s; items = x }) (items_back items full)

-- ---- the functions

common-alike : (m n : ℕ) → m ≡ n → common_count m n ≡ Ok n
common-alike m n e = ap (λ k. common_count k n) e ∙ by (n == 1)
  where
    by : (b : Bool) → cond b (Ok n) (cond b (Ok n) (cond (n == n) (Ok n) (Err Length))) ≡ Ok n
    by true = refl
    by false = ap (λ (d : Bool). cond d (Ok n) (Err Length)) (eq-eqb n n refl)

module _ (along : Along) (origin k : ℕ) (a b : Arr) (f : IsArray a.shape a.items) (g : IsArray b.shape b.items) (axis : GoesAlong along origin k b) (bits : List ℤ) (mask : bits_of a.items ≡ Ok bits) (one_axis : vector_rank a ≡ Ok tt) (enough : ones a.items ≡ length_of b k) where
  below : k < length b.shape
  below = axis_within along (length b.shape) origin k axis

  as_many : get_or b.shape k 0 ≡ count_by is_one bits
  as_many = let m = are_bits a.items bits mask in sym enough ∙ m.ones_are

  wider : Arr
  wider = laid k (spread bits (length_of b k)) b

  wider_rank : length wider.shape ≡ length b.shape
  unfolding wider
  wider_rank = length-on_axis k (λ m. length (spread bits (length_of b k))) b.shape

  wider_length : length_of wider k ≡ length bits
  unfolding wider
  wider_length = get_or-on_axis k (λ m. length (spread bits (length_of b k))) b.shape below ∙ length-map-range_with_len (spread_at bits (length_of b k)) 0 (length bits)

  axis_is : mask_axis along a wider origin ≡ Ok k
  axis_is =
      ap (λ (n : ℕ). and_then (ok_map or_first (axis_along along n origin)) (λ axis. ok_map (λ u. axis) (vector_rank a))) wider_rank
      ∙ ap (λ (r : Result (Option ℕ) Fault). and_then (ok_map or_first r) (λ axis. ok_map (λ u. axis) (vector_rank a))) axis
      ∙ ap (λ (r : Result (Unit {0}) Fault). ok_map (λ u. k) r) one_axis

  kept_is : places_kept a k wider ≡ Ok (kept bits (length bits) (length bits))
  kept_is =
      let m = are_bits a.items bits mask in
      ap (λ (n : ℕ). and_then (common_count (count_of a) n) (λ count. ok_map (λ bits. kept bits n count) (bits_of a.items))) wider_length
      ∙ ap (λ (r : Result ℕ Fault). and_then r (λ count. ok_map (λ bs. kept bs (length bits) count) (bits_of a.items))) (common-alike (count_of a) (length bits) m.count)
      ∙ ap (λ (r : Result (List ℤ) Fault). ok_map (λ bs. kept bs (length bits) (length bits)) r) mask

  compressed_back : compressed along a wider origin ≡ Ok b
  unfolding wider wide
  compressed_back =
      let lower : k < length b.shape = below in
      ap (λ (r : Result ℕ Fault). and_then r (λ axis. compressed_along a axis (lined wider))) axis_is
      ∙ ap (λ (x : Arr). compressed_along a k x) (lined-stays wider (omega (arith, wider_rank)))
      ∙ ap (λ (r : Result (List (Option ℕ)) Fault). and_then r (λ places. laid_within k places wider)) kept_is
      ∙ ap (λ (u : List ℕ). ok_map (λ shape. laid k (kept bits (length bits) (length bits)) wider) (limited u)) (shape_back bits k b.shape below as_many)
      ∙ ap (λ (d : Bool). ok_map (λ shape. laid k (kept bits (length bits) (length bits)) wider) (ok_map (λ u. b.shape) (demand d Limit))) (limited-by b.shape g.few_axes g.small)
      ∙ ap (λ (x : Arr). Ok x) (laid_back bits k b.shape below as_many b.items g.full)

pub compresses_back : CompressesBack
unfolding wider
compresses_back along origin k a b c f g axis enough h = of_axis (vector_rank a) refl (sym (ap (λ (r : Result (Option ℕ) Fault). and_then (and_then (ok_map or_first r) (λ axis. ok_map (λ u. axis) (vector_rank a))) (λ axis. expanded_along a axis (lined b))) axis) ∙ h)
  where
    some : 0 < length b.shape
    some = let lower : k < length b.shape = axis_within along (length b.shape) origin k axis in omega arith

    of_limits : (bits : List ℤ) (d : Bool) → vector_rank a ≡ Ok tt → bits_of a.items ≡ Ok bits → ok_map (λ shape. laid k (spread bits (length_of b k)) b) (ok_map (λ u. on_axis k (λ n. length (spread bits (length_of b k))) b.shape) (demand d Limit)) ≡ Ok c →
        compressed along a c origin ≡ Ok b
    of_limits bits true r e h =
        let same : laid k (spread bits (length_of b k)) b ≡ c = cc in
        subst (λ (x : Arr). compressed along a x origin ≡ Ok b) same (compressed_back along origin k a b f g axis bits e r enough)
    of_limits bits false r e h = absurd (cc)

    of_bits : (q : Result (List ℤ) Fault) → vector_rank a ≡ Ok tt → bits_of a.items ≡ q → and_then (ok_map (λ bits. spread bits (length_of b k)) q) (λ places. laid_within k places b) ≡ Ok c → compressed along a c origin ≡ Ok b
    of_bits (Ok bits) r e h = of_limits bits (is_limited (on_axis k (λ n. length (spread bits (length_of b k))) b.shape)) r e h
    of_bits (Err x) r e h = absurd (cc)

    of_length : (d : Bool) → vector_rank a ≡ Ok tt → and_then (and_then (demand d Length) (λ u. ok_map (λ bits. spread bits (length_of b k)) (bits_of a.items))) (λ places. laid_within k places b) ≡ Ok c → compressed along a c origin ≡ Ok b
    of_length true r h = of_bits (bits_of a.items) r refl h
    of_length false r h = absurd (cc)

    of_axis : (q : Result (Unit {0}) Fault) → vector_rank a ≡ q → and_then (ok_map (λ u. k) q) (λ axis. expanded_along a axis (lined b)) ≡ Ok c → compressed along a c origin ≡ Ok b
    of_axis (Ok u) r h = of_length (length_of b k == 1 || ones a.items == length_of b k) r (sym (ap (expanded_along a k) (lined-stays b some)) ∙ h)
    of_axis (Err x) r h = absurd (cc)
