-- Digits print.
use Rattle.std.proofs.Common.{◌≡◌, ℕ, ◌<◌, ◌≤◌, ◌^◌, true, List, [], ◌∷◌, refl, arith}
use Rattle.std.specs.Prelude.{decimal}
use Rattle.std.specs.List.{list_all}
use Rattle.std.specs.Int.{is_in_range}
use Rattle.std.specs.Str.Parse.{AllDigits}
use Rattle.std.proofs.lemmas.Bool.{le-leb}
use Rattle.std.proofs.lemmas.Str.Parse.{digit_from_value}
use Rattle.std.proofs.lemmas.Fmt.{decimal_is_IsNumeral}

digit_prints : (c : ℕ) → (48 ≤ c) × (c ≤ 57) → is_in_range 32 126 c ≡ true
digit_prints c h = rw (le-leb 32 c (omega arith), le-leb c 126 (omega arith)) refl

digits_print : (ds : List ℕ) → AllDigits 10 ds → list_all (λ b. is_in_range 32 126 b) ds ≡ true
digits_print [] h = refl
digits_print (c ∷ ds) h = rw (digit_prints c (digit_from_value c h.0), digits_print ds h.1) refl

pub decimal_prints : (n : ℕ) → n < 2 ^ 64 → list_all (λ b. is_in_range 32 126 b) (decimal n) ≡ true
decimal_prints n lt = digits_print (decimal n) (decimal_is_IsNumeral n lt).0.1
