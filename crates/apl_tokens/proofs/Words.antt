-- A number's plain word is its shortest.
use Rattle.std.proofs.Common.{◌≡◌, ℕ, zero, suc, ◌<◌, ◌≤◌, ◌^◌, Bool, true, false, ◌⊎◌, List, [], ◌∷◌, ◌++◌, length, refl, sym, ap, subst, ◌∙◌, inl, inr, arith}
use Rattle.std.specs.Prelude.{ℤ, pos, negsuc, decimal}
use Rattle.std.specs.Str.Parse.{digits_value, AllDigits}
use Rattle.std.proofs.lemmas.Bool.{le-leb, leb-true, ltb-true, ne_eqb}
use Rattle.std.proofs.lemmas.Str.{digit_value_digit}
use Rattle.std.proofs.lemmas.Str.Parse.{digit_from_value}
use Rattle.std.proofs.lemmas.Int.Digits.{digits_value-lt}
use Rattle.std.proofs.lemmas.Fmt.{decimal_is_IsNumeral, length-decimal-le}
use Rattle.apl_tokens.specs.declared.class.Class.{Class}
use Rattle.apl_tokens.specs.declared.class.Class.TheVariants as class
use Rattle.apl_tokens.specs.Characters.{class_of, is_in_name}
use Rattle.apl_tokens.specs.Spelling.{class_at, all_digits, signed, signed_value, number_of, in_range, IsNumber}
use Rattle.apl_tokens.specs.Plain.{number_word}
use Rattle.apl_tokens.proofs.Classes.{and_left, and_right, digit_class, minus_class}
use Rattle.apl_tokens.proofs.Digits.{digit_range}

-- digits by their class and by their value
digits_all : (ds : List ℕ) → all_digits ds ≡ true → AllDigits 10 ds
digits_all [] h = tt
digits_all (c ∷ ds) h =
    let r = digit_range c (and_left _ _ h) in
    (omega (arith, digit_value_digit c r, r), digits_all ds (and_right _ _ h))

digit_class_is : (c : ℕ) → (48 ≤ c) × (c ≤ 57) → class_of c ≡ class.Digit
unfolding class_of
digit_class_is c r = rw (ne_eqb c 32 (λ e. omega (arith, r, e)), le-leb 48 c r.0, le-leb c 57 r.1) refl

all_class : (ds : List ℕ) → AllDigits 10 ds → all_digits ds ≡ true
all_class [] h = refl
all_class (c ∷ ds) h = rw (digit_class_is c (digit_from_value c h.0), all_class ds h.1) refl

-- what `decimal` writes of the value of digits
record Decimal (m most : ℕ) : Type 0 where
  some : 0 < length (decimal m)
  digits_are : all_digits (decimal m) ≡ true
  value : digits_value 10 (decimal m) ≡ m
  short : length (decimal m) ≤ most

decimal_is : (digits : List ℕ) → 0 < length digits → all_digits digits ≡ true → digits_value 10 digits < 2 ^ 64 → Decimal (digits_value 10 digits) (length digits)
decimal_is digits some all lt =
    let d = decimal_is_IsNumeral (digits_value 10 digits) lt in
    record {
      some = d.0.0;
      digits_are = all_class (decimal (digits_value 10 digits)) d.0.1;
      value = d.1;
      short = length-decimal-le (length digits) (digits_value 10 digits) some (digits_value-lt 10 digits (digits_all digits all)) lt;
    }

range_small : (negative : Bool) (m : ℕ) → in_range negative m ≡ true → m < 2 ^ 64
range_small true m h = let le = leb-true m (2 ^ 63) h in omega arith
range_small false m h = let lt = ltb-true m (2 ^ 63) h in omega arith

-- the sign that the plain word has
record Signed (after negative : Bool) (m : ℕ) : Type 0 where
  sign : Bool
  word_is : number_word after (signed_value negative m) ≡ signed sign (decimal m)
  value : signed_value negative m ≡ signed_value sign m
  fits : in_range sign m ≡ true
  needed : sign ≡ true → negative ≡ true

zero_signed : (after : Bool) → in_range true 0 ≡ true → Signed after true 0
zero_signed true fits = record { sign = true; word_is = refl; value = refl; fits = refl; needed = λ e. refl }
zero_signed false fits = record { sign = false; word_is = refl; value = refl; fits = refl; needed = λ e. refl }

plain_signed : (after negative : Bool) (m : ℕ) → in_range negative m ≡ true → (after ≡ true → negative ≡ true) → Signed after negative m
plain_signed true false m fits only = absurd (let e = only refl in cc)
plain_signed false false m fits only = record { sign = false; word_is = refl; value = refl; fits = fits; needed = λ e. e }
plain_signed after true zero fits only = zero_signed after fits
plain_signed after true (suc m) fits only = record { sign = true; word_is = refl; value = refl; fits = fits; needed = λ e. refl }

sign_longer : (sign negative : Bool) (xs ys : List ℕ) → (sign ≡ true → negative ≡ true) → length xs ≤ length ys → length (signed sign xs) ≤ length (signed negative ys)
sign_longer true true xs ys only le = omega (arith, le)
sign_longer true false xs ys only le = absurd (let e = only refl in cc)
sign_longer false true xs ys only le = omega (arith, le)
sign_longer false false xs ys only le = le

-- a plain word of the number, no longer than that one
pub record Short (n : ℤ) (word plain : List ℕ) : Type 0 where
  pub spelled : IsNumber n plain
  pub short : length plain ≤ length word

short_number : (after negative : Bool) (digits : List ℕ) → 0 < length digits → all_digits digits ≡ true → in_range negative (digits_value 10 digits) ≡ true → (after ≡ true → negative ≡ true)
    → Short (number_of negative digits) (signed negative digits) (number_word after (number_of negative digits))
short_number after negative digits some all fits only =
    let m = digits_value 10 digits in
    let d = decimal_is digits some all (range_small negative m fits) in
    let s = plain_signed after negative m fits only in
    record {
      spelled = record {
        negative = s.sign;
        digits = decimal m;
        word_is = s.word_is;
        some = d.some;
        digits_are = d.digits_are;
        value = s.value ∙ ap (λ (k : ℕ). signed_value s.sign k) (sym d.value);
        fits = rw d.value s.fits;
      };
      short = rw s.word_is (sign_longer s.sign negative (decimal m) digits s.needed d.short);
    }

first_digit : (digits rest : List ℕ) → 0 < length digits → all_digits digits ≡ true → class_at (digits ++ rest) ≡ class.Digit
first_digit [] rest some all = absurd (omega arith)
first_digit (c ∷ digits) rest some all = digit_class (class_of c) (and_left _ _ all)

-- a number begins with a digit or a high minus
abbrev pub BeginsNumber : Class → Type 0
BeginsNumber k = (k ≡ class.Digit) ⊎ (k ≡ class.Minus)

signed_first : (negative : Bool) (digits rest : List ℕ) → 0 < length digits → all_digits digits ≡ true → BeginsNumber (class_at (signed negative digits ++ rest))
signed_first true digits rest some all = inr minus_class
signed_first false digits rest some all = inl (first_digit digits rest some all)

pub number_first : (n : ℤ) (word rest : List ℕ) → IsNumber n word → BeginsNumber (class_at (word ++ rest))
number_first n word rest h = rw h.word_is (signed_first h.negative h.digits rest h.some h.digits_are)

-- directly behind a name it begins with a high minus
pub number_minus : (n : ℤ) (rest : List ℕ) → class_at (number_word true n ++ rest) ≡ class.Minus
number_minus (pos m) rest = minus_class
number_minus (negsuc m) rest = minus_class

sign_needed : (negative : Bool) (digits rest : List ℕ) → 0 < length digits → all_digits digits ≡ true → is_in_name (class_at (signed negative digits ++ rest)) ≡ false → negative ≡ true
sign_needed true digits rest some all h = refl
sign_needed false digits rest some all h = absurd (let first = first_digit digits rest some all in let is = rw first at h in cc)

pub number_plain : (after : Bool) (n : ℤ) (word rest : List ℕ) → IsNumber n word → (after ≡ true → is_in_name (class_at (word ++ rest)) ≡ false) → Short n word (number_word after n)
number_plain after n word rest h ok =
    let only : after ≡ true → h.negative ≡ true = λ e. sign_needed h.negative h.digits rest h.some h.digits_are (subst (λ (w : List ℕ). is_in_name (class_at (w ++ rest)) ≡ false) h.word_is (ok e)) in
    let s = short_number after h.negative h.digits h.some h.digits_are h.fits only in
    rw (h.value, h.word_is) s
