-- The number that digits write.
use Rattle.std.proofs.Common.{◌≡◌, ℕ, ◌+◌, ◌-◌, ◌*◌, ◌<◌, ◌≤◌, true, List, [], ◌∷◌, ◌++◌, length, take, get_or, refl, ap, ◌∙◌, arith}
use Rattle.std.specs.Char.{digit_value}
use Rattle.std.specs.Str.Parse.{digits_value, digits_value_after}
use Rattle.std.proofs.lemmas.List.{take_more}
use Rattle.std.proofs.lemmas.Str.{digit_value_digit}
use Rattle.std.proofs.lemmas.Bool.{leb-true}
use Rattle.std.proofs.lemmas.List.Sums.{AllPass-from_list_all}
use Rattle.apl_tokens.specs.Characters.{class_of, is_digit}
use Rattle.apl_tokens.specs.Spelling.{all_digits}
use Rattle.apl_tokens.proofs.Classes.{and_left, and_right, digit_is, digit_class}

value-push : (n : ℕ) (ds : List ℕ) (c : ℕ) → digits_value_after 10 n (ds ++ c ∷ []) ≡ digits_value_after 10 n ds * 10 + digit_value c
value-push n [] c = refl
value-push n (d ∷ ds) c = value-push (n * 10 + digit_value d) ds c

pub value-more : (ds : List ℕ) (i d : ℕ) → i < length ds → digits_value 10 (take (i + 1) ds) ≡ digits_value 10 (take i ds) * 10 + digit_value (get_or ds i d)
value-more ds i d lt = rw (take_more ds i d lt) (value-push 0 (take i ds) (get_or ds i d))

pub digit_range : (c : ℕ) → is_digit (class_of c) ≡ true → (48 ≤ c) × (c ≤ 57)
digit_range c h =
    let in_range = digit_is c (digit_class (class_of c) h) in
    (leb-true 48 c (and_left _ _ in_range), leb-true c 57 (and_right _ _ in_range))

pub digit_at : (ds : List ℕ) (i d : ℕ) → all_digits ds ≡ true → i < length ds → (48 ≤ get_or ds i d) × (get_or ds i d ≤ 57)
digit_at ds i d all lt = digit_range _ (AllPass-from_list_all (λ c. is_digit (class_of c)) ds all i d lt)

-- the value after one more digit
pub value-next : (ds : List ℕ) (i d : ℕ) → all_digits ds ≡ true → i < length ds → digits_value 10 (take (i + 1) ds) ≡ digits_value 10 (take i ds) * 10 + (get_or ds i d - 48)
value-next ds i d all lt =
    let r = digit_at ds i d all lt in
    let v = digit_value_digit (get_or ds i d) r in
    value-more ds i d lt ∙ ap (λ (k : ℕ). digits_value 10 (take i ds) * 10 + k) (omega (arith, v))
