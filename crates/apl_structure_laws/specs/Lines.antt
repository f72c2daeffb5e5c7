-- Lines in which the laws are seen at work.
use Rattle.std.specs.Prelude.{◌≡◌, ℤ, pos, negsuc, [], ◌∷◌, Some, Ok}
use Rattle.apl_arrays.specs.declared.axis_choice.Along.TheVariants.{Last}
use Rattle.apl_arrays.specs.declared.cell.Cell.TheVariants.{Num}
use Rattle.apl_arrays.specs.Cells.{Arr, Numbers}
use Rattle.apl_arrays.specs.Simple.{single, vector}
use Rattle.apl_reshape.specs.Catenate.{catenated}
use Rattle.apl_reshape.specs.Take.{dropped, taken}
use Rattle.apl_search.specs.Decoded.{decode}
use Rattle.apl_search.specs.Encoded.{encode}
use Rattle.apl_select.specs.Assignment.{assigned}
use Rattle.apl_select.specs.Compress.{compressed, expanded}
use Rattle.apl_select.specs.Indexing.{indexed}
use Rattle.apl_turns.specs.Turns.{rotated}

abbrev pub number : ℤ → Arr
number z = single (Num z)

abbrev pub one : ℤ → Arr
one z = vector (Numbers (z ∷ []))

abbrev pub two : ℤ → ℤ → Arr
two y z = vector (Numbers (y ∷ z ∷ []))

abbrev pub three : ℤ → ℤ → ℤ → Arr
three x y z = vector (Numbers (x ∷ y ∷ z ∷ []))

-- ---- what is promised

-- of V, which is 5 6 7, and of 5 6
pub record AreWorked : Type 0 where
  -- 1⌽V is 6 7 5, and ¯1⌽6 7 5 is V
  pub turned : rotated Last 1 (number (pos 1)) (three (pos 5) (pos 6) (pos 7)) ≡ Ok (three (pos 6) (pos 7) (pos 5))
  pub turned_back : rotated Last 1 (number (negsuc 0)) (three (pos 6) (pos 7) (pos 5)) ≡ Ok (three (pos 5) (pos 6) (pos 7))
  -- 2↑V is 5 6, 2↓V is one number, 7, and they are V again catenated
  pub first : taken (number (pos 2)) (three (pos 5) (pos 6) (pos 7)) ≡ Ok (two (pos 5) (pos 6))
  pub others : dropped (number (pos 2)) (three (pos 5) (pos 6) (pos 7)) ≡ Ok (one (pos 7))
  pub joined : catenated Last 1 (two (pos 5) (pos 6)) (one (pos 7)) ≡ Ok (three (pos 5) (pos 6) (pos 7))
  -- 1 0 1\5 6 is 5 0 6, and 1 0 1/5 0 6 is 5 6
  pub spread : expanded Last (three (pos 1) (pos 0) (pos 1)) (two (pos 5) (pos 6)) 1 ≡ Ok (three (pos 5) (pos 0) (pos 6))
  pub kept : compressed Last (three (pos 1) (pos 0) (pos 1)) (three (pos 5) (pos 0) (pos 6)) 1 ≡ Ok (two (pos 5) (pos 6))
  -- V[3 1]←8 9 makes 9 6 8 of V, and there V[3 1] is 8 9
  pub assigned_once : assigned (three (pos 5) (pos 6) (pos 7)) (Some (two (pos 3) (pos 1)) ∷ []) (two (pos 8) (pos 9)) 1 ≡ Ok (three (pos 9) (pos 6) (pos 8))
  pub read_once : indexed (three (pos 9) (pos 6) (pos 8)) (Some (two (pos 3) (pos 1)) ∷ []) 1 ≡ Ok (two (pos 8) (pos 9))
  -- V[2 2]←8 9 makes 5 9 7, and there V[2 2] is 9 9
  pub assigned_twice : assigned (three (pos 5) (pos 6) (pos 7)) (Some (two (pos 2) (pos 2)) ∷ []) (two (pos 8) (pos 9)) 1 ≡ Ok (three (pos 5) (pos 9) (pos 7))
  pub read_twice : indexed (three (pos 5) (pos 9) (pos 7)) (Some (two (pos 2) (pos 2)) ∷ []) 1 ≡ Ok (two (pos 9) (pos 9))
  -- 2 3⊤¯7 is 1 2, and 2 3⊥1 2 is 5, which is 6|¯7
  pub digits : encode (two (pos 2) (pos 3)) (number (negsuc 6)) ≡ Ok (two (pos 1) (pos 2))
  pub value : decode (two (pos 2) (pos 3)) (two (pos 1) (pos 2)) ≡ Ok (number (pos 5))
