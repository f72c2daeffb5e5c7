-- How far from the start of a word its fault stands.
use Rattle.std.proofs.Common.{◌≡◌, ℕ, ◌+◌, ◌<◌, ◌≤◌, Bool, true, false, not, ◌&&◌, cond, List, [], ◌∷◌, length, take, drop, Option, Some, None, Ok, Err, refl, sym, subst, arith, eqb, leb}
use Rattle.std.proofs.lemmas.Bool.{eqb-false, leb-false}
use Rattle.std.proofs.lemmas.List.Sums.{prefix_len-le-length}
use Rattle.std.specs.Str.Parse.{digits_value}
use Rattle.apl_symbols.specs.declared.symbol.Symbol.{Symbol}
use Rattle.apl_symbols.specs.declared.system.SystemName.{SystemName}
use Rattle.apl_symbols.specs.SystemNames.{system_named}
use Rattle.apl_tokens.specs.declared.class.Class.{Class}
use Rattle.apl_tokens.specs.declared.class.Class.TheVariants as class
use Rattle.apl_tokens.specs.declared.token.Kind.TheVariants as kind
use Rattle.apl_tokens.specs.declared.place.Place.{Place}
use Rattle.apl_tokens.specs.declared.reading.Fault.{Fault}
use Rattle.apl_tokens.specs.declared.reading.Fault.TheVariants as fault
use Rattle.apl_tokens.specs.declared.reading.Run.TheVariants as run
use Rattle.apl_tokens.specs.Characters.{class_of, is_digit, is_letter, ends_number}
use Rattle.apl_tokens.specs.Spelling.{class_at, in_range, is_quad, is_colon, is_named}
use Rattle.apl_tokens.specs.Reading.{Reading, run_len, sign_len, number_of_len, number_at, name_at, body_at, as_text, text_at, as_system, quad_at, symbol_at, next_of, next_at}
use Rattle.apl_tokens.specs.Faults.{long_len}

-- only a stray character stands further on than a word begins, and what is over a limit has characters
abbrev pub IsSharp : List ℕ → Fault → ℕ → Type 0
IsSharp word fault.Quote before = before ≡ 0
IsSharp word fault.Stray before = before ≤ length word
IsSharp word fault.Limit before = (before ≡ 0) × (0 < long_len (class_at word) word)

abbrev pub Sharp : List ℕ → Reading → Type 0
Sharp word (Ok piece) = Unit {0}
Sharp word (Err f) = IsSharp word f.0 f.1

sharp_cond : (word : List ℕ) (b : Bool) (x y : Reading) → (b ≡ true → Sharp word x) → (b ≡ false → Sharp word y) → Sharp word (cond b x y)
sharp_cond word true x y h i = h refl
sharp_cond word false x y h i = i refl

sharp_number-len : (word : List ℕ) (negative : Bool) (rest : List ℕ) (n : ℕ) → sign_len negative + n ≤ length word → (0 < n → 0 < long_len (class_at word) word) → Sharp word (number_of_len negative rest n)
sharp_number-len word negative rest n le long =
    sharp_cond word (eqb n 0) _ _ (λ e. omega arith)
    (λ e. sharp_cond word (in_range negative (digits_value 10 (take n rest))) _ _ (λ i. sharp_cond word (ends_number (class_at (drop n rest))) _ _ (λ j. tt) (λ j. le)) (λ i. (refl, long (omega (arith, eqb-false n 0 e)))))

-- a word by the class of its first character
long_is : (word : List ℕ) (k : Class) → class_at word ≡ k → 0 < long_len k word → 0 < long_len (class_at word) word
long_is word k e h = subst (λ (c : Class). 0 < long_len c word) (sym e) h

sharp_digit : (c : ℕ) (rest : List ℕ) → class_of c ≡ class.Digit → Sharp (c ∷ rest) (number_at false (c ∷ rest))
unfolding number_at
sharp_digit c rest k =
    let le : run_len run.Digits (c ∷ rest) ≤ length (c ∷ rest) = prefix_len-le-length (λ c. is_digit (class_of c)) (c ∷ rest) in
    sharp_number-len (c ∷ rest) false (c ∷ rest) (run_len run.Digits (c ∷ rest)) (omega (arith, le)) (λ some. long_is (c ∷ rest) class.Digit k some)

sharp_minus : (c : ℕ) (rest : List ℕ) → class_of c ≡ class.Minus → Sharp (c ∷ rest) (number_at true rest)
unfolding number_at
sharp_minus c rest k =
    let le : run_len run.Digits rest ≤ length rest = prefix_len-le-length (λ c. is_digit (class_of c)) rest in
    sharp_number-len (c ∷ rest) true rest (run_len run.Digits rest) (omega (arith, le)) (λ some. long_is (c ∷ rest) class.Minus k (omega arith))

sharp_name : (c : ℕ) (rest : List ℕ) → class_of c ≡ class.Letter → Sharp (c ∷ rest) (name_at (c ∷ rest))
unfolding name_at
sharp_name c rest k =
    let len = run_len run.Name (c ∷ rest) in
    sharp_cond (c ∷ rest) (leb len 32) _ _ (λ e. tt) (λ e. (refl, long_is (c ∷ rest) class.Letter k (omega (arith, leb-false len 32 e))))

sharp_text : (word : List ℕ) (body : Option (List ℕ × ℕ)) → Sharp word (as_text body)
sharp_text word None = refl
sharp_text word (Some body) = tt

sharp_system : (word : List ℕ) (name : Option SystemName) (n : ℕ) → Sharp word (as_system name n)
sharp_system word None n = omega arith
sharp_system word (Some name) n = tt

sharp_quad : (word rest : List ℕ) → Sharp word (quad_at rest)
unfolding quad_at
sharp_quad word rest = sharp_cond word (is_letter (class_at rest)) _ _ (λ e. sharp_system word (system_named (take (run_len run.Name rest) rest)) (run_len run.Name rest)) (λ e. tt)

sharp_symbol : (word : List ℕ) (symbol : Symbol) (place : Place) (rest : List ℕ) → Sharp word (symbol_at symbol place rest)
unfolding symbol_at
sharp_symbol word symbol place rest =
    let misplaced = is_colon symbol && not (is_named place) in
    let stray : Reading = Err (fault.Stray, 0) in
    let one : Reading = Ok (kind.Symbol symbol, 1) in
    sharp_cond word (is_quad symbol) (quad_at rest) (cond misplaced stray one) (λ e. sharp_quad word rest) (λ e. sharp_cond word misplaced stray one (λ i. omega arith) (λ i. tt))

sharp_of : (k : Class) (place : Place) (c : ℕ) (rest : List ℕ) → class_of c ≡ k → Sharp (c ∷ rest) (next_of k place c rest)
unfolding next_of text_at
sharp_of class.Digit place c rest k = sharp_digit c rest k
sharp_of class.Minus place c rest k = sharp_minus c rest k
sharp_of class.Quote place c rest k = sharp_text (c ∷ rest) (body_at false rest)
sharp_of class.Letter place c rest k = sharp_name c rest k
sharp_of class.Lamp place c rest k = tt
sharp_of (class.Symbol symbol) place c rest k = sharp_symbol (c ∷ rest) symbol place rest
sharp_of class.Other place c rest k = omega arith
sharp_of class.Blank place c rest k = omega arith

pub sharp : (place : Place) (word : List ℕ) → Sharp word (next_at place word)
unfolding next_at
sharp place [] = omega arith
sharp place (c ∷ rest) = sharp_of (class_of c) place c rest refl
