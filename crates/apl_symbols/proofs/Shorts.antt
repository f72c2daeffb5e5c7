-- The numbers of short texts.
use Rattle.std.proofs.Common.{◌≡◌, ◌≢◌, ◌≤◌, ◌<◌, ◌+◌, ◌*◌, ◌^◌, ℕ, zero, suc, List, [], ◌∷◌, true, false, drop, length, refl, sym, ◌∙◌, ap, arith, nat_le, ◌&&◌, ◌-◌, get_or, inl, inr}
use Rattle.std.specs.Int.{is_in_range}
use Rattle.std.proofs.lemmas.Bool.{and_parts, and_left, and_right, and_from, cases_Bool, cond-true, cond-false, leb-true, le-leb, lt-leb}
use Rattle.std.proofs.lemmas.List.{drop_more, length-drop}
use Rattle.std.proofs.Math.Nat.{pow-succ', one-le-pow}
use Rattle.apl_symbols.specs.Short.{packed, are_digits, short_of}

-- a digit is above 0 and below the base
digit : (c : ℕ) → is_in_range 1 126 c ≡ true → (0 < c) × (c < 256)
digit c h =
    let both = and_parts (nat_le 1 c) (nat_le c 126) h in
    (omega (arith, leb-true 1 c both.0), omega (arith, leb-true c 126 both.1))

-- two texts of one number have one digit after another
same_digits : (one other : List ℕ) → are_digits one ≡ true → are_digits other ≡ true → packed one ≡ packed other → one ≡ other
same_digits [] [] p q e = refl
same_digits [] (d ∷ ds) p q e = absurd (omega (arith, (digit d (and_parts _ _ q).0).0))
same_digits (c ∷ cs) [] p q e = absurd (omega (arith, (digit c (and_parts _ _ p).0).0))
same_digits (c ∷ cs) (d ∷ ds) p q e =
    let pc = and_parts (is_in_range 1 126 c) (are_digits cs) p in
    let qd = and_parts (is_in_range 1 126 d) (are_digits ds) q in
    let below_c = digit c pc.0 in
    let below_d = digit d qd.0 in
    let first : c ≡ d = omega arith in
    let rest : packed cs ≡ packed ds = omega arith in
    let tails = same_digits cs ds pc.1 qd.1 rest in
    cc

-- so many digits are a number below that power of the base
pub below_power : (k : ℕ) (text : List ℕ) → are_digits text ≡ true → length text ≤ k → packed text < 256 ^ k
below_power zero [] p h = omega arith
below_power zero (c ∷ cs) p h = absurd (omega arith)
below_power (suc k) [] p h = one-le-pow (suc k) 256 (omega arith)
below_power (suc k) (c ∷ cs) p h =
    let pc = and_parts (is_in_range 1 126 c) (are_digits cs) p in
    let below_c = digit c pc.0 in
    let below_cs = below_power k cs pc.1 (omega arith) in
    omega (arith, pow-succ' 256 k)

-- a text of digits has them at each end too
pub end_fails : (text : List ℕ) (at : ℕ) → are_digits (drop at text) ≡ false → are_digits text ≡ false
end_fails text zero h = h
end_fails [] (suc at) h = h
end_fails (c ∷ cs) (suc at) h = and_right (is_in_range 1 126 c) (are_digits cs) (end_fails cs at h)

-- where a text has a number other than 0, that is the number of its digits
numbered : (text : List ℕ) → short_of text ≢ 0 → (are_digits text ≡ true) × (short_of text ≡ packed text)
unfolding short_of
numbered text some =
    let t = nat_le (length text) 8 && are_digits text in
    elim (cases_Bool t) [
      | inl holds ↦ ((and_parts (nat_le (length text) 8) (are_digits text) holds).1, cond-true t (packed text) 0 holds)
      | inr fails ↦ absurd (some (cond-false t (packed text) 0 fails))
    ]

-- two texts of one number, which isn't 0, are the same text
pub same_text : (one other : List ℕ) → short_of one ≡ short_of other → short_of one ≢ 0 → one ≡ other
same_text one other e some =
    let first = numbered one some in
    let second = numbered other (λ none. some (e ∙ none)) in
    same_digits one other first.0 second.0 (sym first.1 ∙ e ∙ second.1)

-- of a text with more than 8 characters, or with one that is no digit, the number is 0
pub none_of_long : (text : List ℕ) → 8 < length text → 0 ≡ short_of text
unfolding short_of
none_of_long text h = sym (cond-false (nat_le (length text) 8 && are_digits text) (packed text) 0 (and_left (nat_le (length text) 8) (are_digits text) (lt-leb (length text) 8 h)))

pub none_of_other : (text : List ℕ) → are_digits text ≡ false → 0 ≡ short_of text
unfolding short_of
none_of_other text h = sym (cond-false (nat_le (length text) 8 && are_digits text) (packed text) 0 (and_right (nat_le (length text) 8) (are_digits text) h))

-- of the others it is that of their digits
pub short_of_digits : (text : List ℕ) → length text ≤ 8 → are_digits text ≡ true → packed text ≡ short_of text
unfolding short_of
short_of_digits text h d = sym (cond-true (nat_le (length text) 8 && are_digits text) (packed text) 0 (and_from (nat_le (length text) 8) (are_digits text) (le-leb (length text) 8 h) d))

-- the text from a place on, one character earlier
earlier : (text : List ℕ) (at x c : ℕ) → 0 < at → at ≤ length text → x ≡ get_or text (at - 1) x → c ≡ x → drop (at - 1) text ≡ c ∷ drop at text
earlier text at x c some within is same =
    let next : at - 1 + 1 ≡ at = omega arith in
    drop_more text (at - 1) x (omega arith) ∙ ap (λ (d : ℕ). d ∷ drop (at - 1 + 1) text) (sym is ∙ sym same) ∙ ap (λ (n : ℕ). c ∷ drop n text) next

-- a step of the loop that makes the number: the character before those that were counted, and what it means
module _ (text : List ℕ) (at x c short : ℕ) (some : 0 < at) (within : at ≤ length text) (is : x ≡ get_or text (at - 1) x) (same : c ≡ x) where
  pub fails_here : is_in_range 1 126 c ≡ false → 0 ≡ short_of text
  fails_here fails = none_of_other text (end_fails text (at - 1) (ap are_digits (earlier text at x c some within is same) ∙ and_left (is_in_range 1 126 c) (are_digits (drop at text)) fails))

  pub digits_here : is_in_range 1 126 c ≡ true → are_digits (drop at text) ≡ true → are_digits (drop (at - 1) text) ≡ true
  digits_here holds rest = ap are_digits (earlier text at x c some within is same) ∙ and_from (is_in_range 1 126 c) (are_digits (drop at text)) holds rest

  pub packed_here : short ≡ packed (drop at text) → 256 * short + c ≡ packed (drop (at - 1) text)
  packed_here counted =
      let here = ap packed (earlier text at x c some within is same) in
      omega arith

-- seven digits, and one more, fit in 64 bits
pub fits : (text : List ℕ) (at short c : ℕ) → 0 < at → length text ≤ 8 → are_digits (drop at text) ≡ true → short ≡ packed (drop at text) → is_in_range 1 126 c ≡ true → 256 * short + c < 2 ^ 64
fits text at short c some few digits counted holds =
    let seven : length (drop at text) ≤ 7 = omega (arith, length-drop at text) in
    let below = below_power 7 (drop at text) digits seven in
    let below_c = digit c holds in
    omega arith
