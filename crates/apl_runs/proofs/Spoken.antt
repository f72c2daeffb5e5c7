-- To whom a line is, and what it says.
use Rattle.std.proofs.Common.{◌≡◌, ◌≢◌, ℕ, zero, suc, ◌+◌, ◌<◌, ◌≤◌, ◌^◌, ◌==◌, nat_lt, List, [], ◌∷◌, ◌++◌, Bool, true, false, cond, ap, ◌∙◌, sym, refl, append_assoc, subst, length, length-append, take, drop, get_or, Option, Some, None, Result, Ok, Err, arith, decimal}
use Rattle.std.specs.Int.{IsInRange}
use Rattle.std.specs.List.{position, position_or_len}
use Rattle.std.specs.Prelude.{MatchOption, MatchResult}
use Rattle.std.specs.Result.{result_ok}
use Rattle.std.specs.Str.{all_ascii_digits, bytes_eq, IsUtf8}
use Rattle.std.specs.Str.Parse.{digits_value, ParsesUnsigned}
use Rattle.std.proofs.lemmas.Bool.Decides.{Decides-eqb, Decides-ltb}
use Rattle.std.proofs.lemmas.Fmt.{IsAscii-decimal, decimal_injective, digits_decimal, parse-decimal}
use Rattle.std.proofs.lemmas.Str.{IsUtf8-from_ascii}
use Rattle.std.proofs.lemmas.List.{drop_more, take-append-drop}
use Rattle.std.proofs.lemmas.List.Quantifiers.{position-Some}
use Rattle.std.proofs.lemmas.List.Sums.{position_or_len_is}
use Rattle.std.proofs.lemmas.Str.Parse.{IsNumeralModel, numerals_by_value, not_in_digits, tells_all_ascii_digits}
use Rattle.std.proofs.lemmas.Slice.Eq.{bytes_eq-Decides}
use Rattle.std.proofs.Math.Seq.{get_or-append_seam, take-append_seam}
use Rattle.std.proofs.Math.ListN.{get_or-append}
use Rattle.std.proofs.Math.Numerals.{lt_of_le_of_ne}
use Rattle.apl_runs.specs.Rounds.{behind, label, spoken_or, Spoken, spoken_from, spoken}

pub if_none : {T : Type 0} (P : Type 0) (Q : T → Type 0) (r : Option T) → r ≡ None → P → MatchOption r P Q
if_none P Q None e h = h
if_none P Q (Some x) e h = cc

some-one : {T : Type 0} (x y : T) → Some x ≡ Some y → x ≡ y
some-one x y e = cc

-- Texts that are no number's digits: those that are not UTF-8,

pub not-text : {S E : Type 0} (P : S → Type 0) (Q : E → Type 0) (text : List ℕ) (r : Result S E) → MatchResult r P (λ e. ¬ (IsUtf8 text) × Q e) → None ≡ result_ok r → (n : ℕ) → n < 2 ^ 64 → text ≢ decimal n
not-text P Q text (Err e) h none n w = λ same. absurd (h.0 (subst IsUtf8 (sym same) (IsUtf8-from_ascii (decimal n) (IsAscii-decimal n w))))
not-text P Q text (Ok s) h none n w = λ same. cc

pub text-of : {S E : Type 0} (now : S → List ℕ) (Q : E → Type 0) (text : List ℕ) (r : Result S E) (s : S) → MatchResult r (λ x. (now x ≡ text) × IsUtf8 text) Q → Some s ≡ result_ok r → now s ≡ text
text-of now Q text (Ok x) s h e = ap now (some-one s x e) ∙ h.0
text-of now Q text (Err x) s h e = cc

false-true : false ≢ true
false-true e = cc

none-number : (n : ℕ) → None ≢ Some n
none-number n = λ e. cc

-- those that are not read as one,
pub not-number : {E : Type 0} (text shown : List ℕ) (r : Result ℕ E) → shown ≡ text → ParsesUnsigned 64 10 shown r → None ≡ result_ok r → (n : ℕ) → n < 2 ^ 64 → text ≢ decimal n
not-number text shown r e h none n w = λ same. none-number n (none ∙ ap result_ok (parse-decimal 64 n shown r w w (e ∙ same) h))

pub read-small : {E : Type 0} (shown : List ℕ) (r : Result ℕ E) (number : ℕ) → ParsesUnsigned 64 10 shown r → Some number ≡ result_ok r → number < 2 ^ 64
read-small shown (Ok n) number h e = subst (λ (k : ℕ). k < 2 ^ 64) (sym (some-one number n e ∙ h.1)) h.0.1
read-small shown (Err x) number h e = cc

-- and those that spell it otherwise
pub not-shown : {E : Type 0} (text shown digits : List ℕ) (r : Result ℕ E) (number : ℕ) → shown ≡ text → ParsesUnsigned 64 10 shown r → Some number ≡ result_ok r → digits ≡ decimal number →
    false ≡ bytes_eq digits text → (n : ℕ) → n < 2 ^ 64 → text ≢ decimal n
not-shown text shown digits r number e h read spelled differs n w = λ same.
    let one : number ≡ n = some-one number n (read ∙ ap result_ok (parse-decimal 64 n shown r w w (e ∙ same) h)) in
    false-true (differs ∙ (bytes_eq-Decides digits text).1 (spelled ∙ ap decimal one ∙ sym same))

-- A prefix of a line.

behind-own : (prefix rest : List ℕ) → behind prefix (prefix ++ rest) ≡ Some rest
behind-own [] rest = refl
behind-own (c ∷ prefix) rest = ap (λ (b : Bool). cond b (behind prefix (prefix ++ rest)) None) ((Decides-eqb c c).1 refl) ∙ behind-own prefix rest

spells-test : (t : Bool) (c d : ℕ) (prefix line rest : List ℕ) → (d == c) ≡ t → cond t (behind prefix line) None ≡ Some rest → (behind prefix line ≡ Some rest → line ≡ prefix ++ rest) →
    d ∷ line ≡ c ∷ (prefix ++ rest)
spells-test true c d prefix line rest e h ih = ap (λ (x : ℕ). x ∷ line) ((Decides-eqb d c).0 e) ∙ ap (λ (l : List ℕ). c ∷ l) (ih h)
spells-test false c d prefix line rest e h ih = cc

behind-spells : (prefix line rest : List ℕ) → behind prefix line ≡ Some rest → line ≡ prefix ++ rest
behind-spells [] line rest e = cc
behind-spells (c ∷ prefix) [] rest e = cc
behind-spells (c ∷ prefix) (d ∷ line) rest e = spells-test (d == c) c d prefix line rest refl e (behind-spells prefix line rest)

-- The first blank of a line that begins with a label is the label's.

abbrev blank_in : List ℕ → ℕ
blank_in line = position_or_len (λ b. b == 32) line

own : IsNumeralModel (λ ds. all_ascii_digits ds ≡ true) (digits_value 10)
own = numerals_by_value (λ ds. all_ascii_digits ds ≡ true) tells_all_ascii_digits

no_digit : ¬ (IsInRange 48 57 32)
no_digit h = absurd (omega (arith, h.0))

other-test : (t : Bool) (b : ℕ) → (b == 32) ≡ t → b ≢ 32 → t ≡ false
other-test true b e n = absurd (n ((Decides-eqb b 32).0 e))
other-test false b e n = refl

other : (b : ℕ) → b ≢ 32 → (b == 32) ≡ false
other b n = other-test (b == 32) b refl n

line-own : (n : ℕ) (text : List ℕ) → label n ++ text ≡ decimal n ++ 32 ∷ text
line-own n text = append_assoc (decimal n) (32 ∷ []) text

blank-behind : (n : ℕ) (text : List ℕ) → n < 2 ^ 64 → blank_in (decimal n ++ 32 ∷ text) ≡ length (decimal n)
blank-behind n text w =
    position_or_len_is (λ b. b == 32) (decimal n ++ 32 ∷ text) (length (decimal n)) 0
    (omega (arith, length-append (decimal n) (32 ∷ text)))
    (λ k below. ap (λ (b : ℕ). b == 32) (get_or-append (decimal n) (32 ∷ text) 0 k below) ∙ other (get_or (decimal n) k 0) (not_in_digits own (decimal n) 32 (digits_decimal own n w) no_digit k below))
    (λ _. ap (λ (b : ℕ). b == 32) (get_or-append_seam (decimal n) 32 text 0))

blank-label : (n : ℕ) (line text : List ℕ) → n < 2 ^ 64 → line ≡ label n ++ text → blank_in line ≡ length (decimal n)
blank-label n line text w e = ap blank_in (e ∙ line-own n text) ∙ blank-behind n text w

-- what stands before it is the number
digits-label : (n : ℕ) (line text : List ℕ) → n < 2 ^ 64 → line ≡ label n ++ text → take (blank_in line) line ≡ decimal n
digits-label n line text w e =
    ap (λ (i : ℕ). take i line) (blank-label n line text w e)
    ∙ ap (take (length (decimal n))) (e ∙ line-own n text)
    ∙ take-append_seam (decimal n) (32 ∷ text)

label-one : (j m : ℕ) (line s t : List ℕ) → j < 2 ^ 64 → m < 2 ^ 64 → line ≡ label j ++ s → line ≡ label m ++ t → j ≡ m
label-one j m line s t v w e f = decimal_injective j m v w (sym (digits-label j line s v e) ∙ digits-label m line t w f)

text-one : (m : ℕ) (line s t : List ℕ) → line ≡ label m ++ s → line ≡ label m ++ t → Some s ≡ Some t
text-one m line s t e f = sym (behind-own (label m) s) ∙ ap (behind (label m)) (sym e ∙ f) ∙ behind-own (label m) t

-- What `position` gives is the place of that blank.

at-test : (t : Bool) (n i : ℕ) → cond t (Some n) None ≡ Some i → i ≡ n
at-test true n i e = cc
at-test false n i e = cc

at-blank : (i : ℕ) (line : List ℕ) → position (λ b. b == 32) line ≡ Some i → i ≡ blank_in line
at-blank i line e = at-test (nat_lt (blank_in line) (length line)) (blank_in line) i e

some-test : (t : Bool) (n : ℕ) → t ≡ true → cond t (Some n) None ≢ None
some-test true n e = λ f. cc
some-test false n e = cc

unsplit : (j : ℕ) (line text : List ℕ) → j < 2 ^ 64 → line ≡ label j ++ text → position (λ b. b == 32) line ≢ None
unsplit j line text w f =
    some-test (nat_lt (blank_in line) (length line)) (blank_in line)
    ((Decides-ltb (blank_in line) (length line)).1 (omega (arith, blank-label j line text w f, ap length (f ∙ line-own j text), length-append (decimal j) (32 ∷ text))))

blank-first : (xs : List ℕ) (c : ℕ) (ys : List ℕ) → xs ≡ c ∷ ys → c ≡ 32 → xs ≡ 32 ∷ drop 1 xs
blank-first xs c ys e f = e ∙ ap (λ (x : ℕ). x ∷ ys) f ∙ ap (λ (l : List ℕ). 32 ∷ l) (sym (ap (drop 1) e))

line-split : (i n : ℕ) (line : List ℕ) → position (λ b. b == 32) line ≡ Some i → take i line ≡ decimal n → line ≡ label n ++ drop 1 (drop i line)
line-split i n line e digits =
    let p = position-Some (λ (b : ℕ). b == 32) line i 0 e in
    sym (take-append-drop i line)
    ∙ ap (λ (prefix : List ℕ). prefix ++ drop i line) digits
    ∙ ap (λ (rest : List ℕ). decimal n ++ rest) (blank-first (drop i line) (get_or line i 0) (drop (i + 1) line) (drop_more line i 0 p.0) ((Decides-eqb (get_or line i 0) 32).0 p.1))
    ∙ sym (line-own n (drop 1 (drop i line)))

-- No session is spoken to,

nobody-test : (o : Option (List ℕ)) (k n : ℕ) (line : List ℕ) → behind (label k) line ≡ o → ((text : List ℕ) → line ≢ label k ++ text) → spoken_from (k + 1) n line ≡ None →
    spoken_or k o (spoken_from (k + 1) n line) ≡ None
nobody-test None k n line e h ih = ih
nobody-test (Some text) k n line e h ih = absurd (h text (behind-spells (label k) line text e))

nobody : (k n : ℕ) (line : List ℕ) → ((j : ℕ) (text : List ℕ) → j < k + n → line ≢ label j ++ text) → spoken_from k n line ≡ None
nobody k zero line h = refl
nobody k (suc n) line h =
    nobody-test (behind (label k) line) k n line refl (λ text. h k text (omega arith)) (nobody (k + 1) n line (λ j text w. h j text (omega (arith, w))))

pub spoken-unsplit : (count : ℕ) (line : List ℕ) → count < 2 ^ 64 → position (λ b. b == 32) line ≡ None → spoken count line ≡ None
spoken-unsplit count line fits e =
    nobody 0 count line (λ j text w f. absurd (unsplit j line text (omega (arith, w, fits)) f e))

too_large : (count j n : ℕ) → j < count → count ≤ n → j ≢ n
too_large count j n v beyond = λ e. absurd (omega (arith, v, beyond, e))

spoken-none : (count i : ℕ) (line : List ℕ) → count < 2 ^ 64 → position (λ b. b == 32) line ≡ Some i → ((j : ℕ) → j < count → take i line ≢ decimal j) → spoken count line ≡ None
spoken-none count i line fits e h =
    nobody 0 count line (λ j text w f. h j (omega (arith, w)) (ap (λ (k : ℕ). take k line) (at-blank i line e) ∙ digits-label j line text (omega (arith, w, fits)) f))

-- since what stands before the blank is no number

pub spoken-unnumbered : (count i : ℕ) (line digits : List ℕ) → count < 2 ^ 64 → position (λ b. b == 32) line ≡ Some i → digits ≡ take i line → ((n : ℕ) → n < 2 ^ 64 → digits ≢ decimal n) → spoken count line ≡ None
spoken-unnumbered count i line digits fits e prefix h = spoken-none count i line fits e (λ j w f. h j (omega (arith, w, fits)) (prefix ∙ f))

-- or one too large

pub spoken-beyond : (count i n : ℕ) (line digits : List ℕ) → count < 2 ^ 64 → n < 2 ^ 64 → position (λ b. b == 32) line ≡ Some i → digits ≡ take i line → digits ≡ decimal n → count ≤ n → spoken count line ≡ None
spoken-beyond count i n line digits fits w e prefix spelled beyond =
    spoken-none count i line fits e (λ j v f. absurd (too_large count j n v beyond (decimal_injective j n (omega (arith, v, fits)) w (sym f ∙ sym prefix ∙ spelled))))

-- or this one

none-some : (x : List ℕ) → None ≢ Some x
none-some x = λ e. cc

abbrev said : ℕ → List ℕ → Option Spoken
said n text = Some (record { number = n; text = text })

same-said : (k m : ℕ) (s t : List ℕ) → k ≡ m → s ≡ t → said k s ≡ said m t
same-said k m s t e f = ap (λ (n : ℕ). said n s) e ∙ ap (said m) f

found-test : (o : Option (List ℕ)) (k n m : ℕ) (line text : List ℕ) → k < 2 ^ 64 → m < 2 ^ 64 → behind (label k) line ≡ o → line ≡ label m ++ text →
    (k ≢ m → spoken_from (k + 1) n line ≡ Some (record { number = m; text = text })) → spoken_or k o (spoken_from (k + 1) n line) ≡ Some (record { number = m; text = text })
found-test None k n m line text v w e f ih =
    ih (λ same. absurd (none-some text (sym e ∙ ap (λ (j : ℕ). behind (label j) line) same ∙ ap (behind (label m)) f ∙ behind-own (label m) text)))
found-test (Some rest) k n m line text v w e f ih =
    let spelled : line ≡ label k ++ rest = behind-spells (label k) line rest e in
    let same : k ≡ m = label-one k m line rest text v w spelled f in
    same-said k m rest text same (some-one rest text (text-one m line rest text (spelled ∙ ap (λ (j : ℕ). label j ++ rest) same) f))

found : (k n m : ℕ) (line text : List ℕ) → k ≤ m → m < k + n → m < 2 ^ 64 → line ≡ label m ++ text → spoken_from k n line ≡ Some (record { number = m; text = text })
found k zero m line text low high w f = absurd (omega (arith, low, high))
found k (suc n) m line text low high w f =
    found-test (behind (label k) line) k n m line text (omega (arith, low, w)) w refl f
    (λ others. found (k + 1) n m line text (omega (arith, lt_of_le_of_ne low others)) (omega (arith, high)) w f)

pub spoken-some : (count n i : ℕ) (line digits rest text : List ℕ) → n < count → count < 2 ^ 64 → position (λ b. b == 32) line ≡ Some i → digits ≡ take i line → rest ≡ drop i line →
    text ≡ drop 1 rest → digits ≡ decimal n → spoken count line ≡ Some (record { number = n; text = text })
spoken-some count n i line digits rest text w fits e prefix back behind_it spelled =
    found 0 count n line (drop 1 (drop i line)) (omega arith) (omega (arith, w)) (omega (arith, w, fits)) (line-split i n line e (sym prefix ∙ spelled))
    ∙ ap (said n) (sym (behind_it ∙ ap (drop 1) back))

pub ruleset speaking = (spoken-unsplit, spoken-unnumbered, spoken-beyond, spoken-some)
