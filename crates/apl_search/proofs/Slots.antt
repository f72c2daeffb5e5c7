-- What the slots of bytes say.
use Rattle.std.proofs.Common.{◌≡◌, ℕ, ℤ, pos, negsuc, ◌+◌, ◌<◌, ◌^◌, ◌+ℤ◌, Bool, List, length, get_or, false, FitsSigned, to_z, of_z, w8, w64, ap, ◌∙◌, zero-add, arith}
use Rattle.std.proofs.lemmas.Int.{ints, to_z-of_z}
use Rattle.std.specs.Ordering.{int_eq}
use Rattle.std.specs.List.{list_any, position_or_len}
use Rattle.apl_search.specs.inside.Tables.{AreFirsts, AreMarks}
use Rattle.apl_search.proofs.Firsts.{within}

-- a slot is that of a byte, as the calls say it
pub slot_is : (slot : ℕ) (y z : ℤ) → FitsSigned w8 y → FitsSigned w64 z → z ≡ to_z w8 (of_z w8 y) → negsuc 127 +ℤ pos slot ≡ to_z w64 (of_z w64 z) → negsuc 127 +ℤ pos slot ≡ y
slot_is slot y z f g e h = h ∙ to_z-of_z w64 z g ∙ e ∙ to_z-of_z w8 y f

there : (slot count : ℕ) (y : ℤ) → FitsSigned w8 y → count ≡ 256 → negsuc 127 +ℤ pos slot ≡ y → slot < count
there slot count y f w e = omega (arith, ints)

pub place_of : (firsts : List ℕ) (zs : List ℤ) (slot : ℕ) (y : ℤ) → AreFirsts (negsuc 127) firsts 0 zs → length firsts ≡ 256 → FitsSigned w8 y → negsuc 127 +ℤ pos slot ≡ y → get_or firsts slot 0 ≡ position_or_len (int_eq y) zs
place_of firsts zs slot y h w f e = h slot (there slot (length firsts) y f w e) ∙ zero-add _ ∙ ap (λ z. position_or_len (int_eq z) zs) e

pub place_fits : (firsts : List ℕ) (zs : List ℤ) (slot first : ℕ) (y : ℤ) → get_or firsts slot 0 ≡ position_or_len (int_eq y) zs → first + length zs < 2 ^ 31 → first + get_or firsts slot 0 < 2 ^ 31
place_fits firsts zs slot first y e h = omega (arith, within (int_eq y) zs)

pub stands : (marks : List Bool) (zs : List ℤ) (slot : ℕ) (y : ℤ) → AreMarks (negsuc 127) marks zs → length marks ≡ 256 → FitsSigned w8 y → negsuc 127 +ℤ pos slot ≡ y → get_or marks slot false ≡ list_any (int_eq y) zs
stands marks zs slot y h w f e = h slot (there slot (length marks) y f w e) ∙ ap (λ z. list_any (int_eq z) zs) e
