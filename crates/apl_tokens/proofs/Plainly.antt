-- The plain text of tokens, by their pieces.
use Rattle.std.proofs.Common.{◌≡◌, ℕ, ◌+◌, ◌-◌, Bool, true, false, ◌&&◌, ◌==◌, List, [], ◌∷◌, ◌++◌, length, replicate, refl, ap, ◌∙◌, append_assoc, arith}
use Rattle.std.specs.Prelude.{ℤ}
use Rattle.std.proofs.lemmas.List.{length-append, append-nil}
use Rattle.apl_tokens.specs.declared.token.Kind.{Kind}
use Rattle.apl_tokens.specs.declared.token.Kind.TheVariants.{Constant}
use Rattle.apl_tokens.specs.declared.token.Token.{Token}
use Rattle.apl_tokens.specs.Tokens.{token}
use Rattle.apl_tokens.specs.Joined.{join, joined}
use Rattle.apl_tokens.specs.Plain.{number_word, more_numbers, plain_word, is_any_name, behind_gap, plain_behind}

abbrev pub is_number : Kind → Bool
is_number (Constant ns) = true
is_number _ = false

-- how many blanks stand before a piece: one where it joins a number
abbrev pub gap_of : Bool → ℕ → Kind → ℕ → ℕ
gap_of true written (Constant ns) at = 1
gap_of _ written k at = at - 1 - written

-- where it stands then
abbrev pub at_of : Bool → ℕ → Kind → ℕ → ℕ
at_of true written (Constant ns) at = written + 2
at_of _ written k at = at

-- the plain word of a piece behind so many characters, of which the last are a name, a number or neither
abbrev pub word_in : ℕ → Bool → Bool → Token → List ℕ
word_in written named number t = plain_word (named && (gap_of number written t.kind t.at == 0)) t.kind

-- the text of pieces
abbrev pub row_text : ℕ → Bool → Bool → List Token → List ℕ
row_text written named number [] = []
row_text written named number (t ∷ ts) = behind_gap written (gap_of number written t.kind t.at) (word_in written named number t) (λ n. row_text n (is_any_name t.kind) (is_number t.kind) ts)

-- the pieces as they stand in it
abbrev pub placed : ℕ → Bool → Bool → List Token → List Token
placed written named number [] = []
placed written named number (t ∷ ts) =
    token t.kind (at_of number written t.kind t.at) ∷ placed (written + gap_of number written t.kind t.at + length (word_in written named number t)) (is_any_name t.kind) (is_number t.kind) ts

-- each number by itself
abbrev pub Single : Kind → Type 0
Single (Constant []) = ⊥
Single (Constant (n ∷ [])) = Unit {0}
Single (Constant (n ∷ m ∷ ns)) = ⊥
Single _ = Unit {0}

abbrev pub Singles : List Token → Type 0
Singles [] = Unit {0}
Singles (t ∷ ts) = Single t.kind × Singles ts

-- the text of tokens behind a number, whose first may be more of its constant
abbrev tail_kind : ℕ → ℕ → Kind → List Token → List ℕ
tail_kind written at (Constant ms) us = more_numbers ms ++ plain_behind (written + length (more_numbers ms)) false us
tail_kind written at k us = plain_behind written false (token k at ∷ us)

abbrev tail_text : ℕ → List Token → List ℕ
tail_text written [] = []
tail_text written (u ∷ us) = tail_kind written u.at u.kind us

-- one number before others of its constant
split_first : (n g : ℕ) (w ms : List ℕ) (f : ℕ → List ℕ) → replicate g 32 ++ ((w ++ ms) ++ f (n + g + length (w ++ ms))) ≡ replicate g 32 ++ ((w ++ []) ++ (ms ++ f (n + g + length (w ++ []) + length ms)))
split_first n g w ms f =
    let count : n + g + (length w + length ms) ≡ n + g + length w + length ms = omega arith in
    rw (append-nil w, append_assoc w ms (f (n + g + length (w ++ ms))), length-append w ms, count) refl

first_kinds : (n at a : ℕ) (named : Bool) (m : ℤ) (k : Kind) (us : List Token) → plain_behind n named (join (token (Constant (m ∷ [])) at) (token k a ∷ us))
    ≡ behind_gap n (at - 1 - n) (plain_word (named && (at - 1 - n == 0)) (Constant (m ∷ []))) (λ i. tail_kind i a k us)
unfolding plain_behind
first_kinds n at a named m (Constant ms) us = split_first n (at - 1 - n) (number_word (named && (at - 1 - n == 0)) m) (more_numbers ms) (λ i. plain_behind i false us)
first_kinds n at a named m _ us = refl

first_number : (n at : ℕ) (named : Bool) (m : ℤ) (js : List Token) → plain_behind n named (join (token (Constant (m ∷ [])) at) js)
    ≡ behind_gap n (at - 1 - n) (plain_word (named && (at - 1 - n == 0)) (Constant (m ∷ []))) (λ i. tail_text i js)
unfolding plain_behind
first_number n at named m [] = refl
first_number n at named m (u ∷ us) = first_kinds n at u.at named m u.kind us

-- a number behind a number
split_next : (n : ℕ) (w ms : List ℕ) (f : ℕ → List ℕ) → (32 ∷ (w ++ ms)) ++ f (n + length (32 ∷ (w ++ ms))) ≡ 32 ∷ ((w ++ []) ++ (ms ++ f (n + 1 + length (w ++ []) + length ms)))
split_next n w ms f =
    let count : n + length (32 ∷ (w ++ ms)) ≡ n + 1 + length w + length ms = omega (arith, length-append w ms) in
    rw (count, append-nil w, append_assoc w ms (f (n + 1 + length w + length ms))) refl

split_last : (n : ℕ) (w : List ℕ) (f : ℕ → List ℕ) → (32 ∷ (w ++ [])) ++ f (n + length (32 ∷ (w ++ []))) ≡ 32 ∷ ((w ++ []) ++ f (n + 1 + length (w ++ [])))
split_last n w f =
    let count : n + length (32 ∷ (w ++ [])) ≡ n + 1 + length (w ++ []) = omega arith in
    rw count refl

next_kinds : (n at a : ℕ) (m : ℤ) (k : Kind) (us : List Token) → tail_text n (join (token (Constant (m ∷ [])) at) (token k a ∷ us)) ≡ behind_gap n 1 (plain_word false (Constant (m ∷ []))) (λ i. tail_kind i a k us)
next_kinds n at a m (Constant ms) us = split_next n (number_word false m) (more_numbers ms) (λ i. plain_behind i false us)
next_kinds n at a m k us = split_last n (number_word false m) (λ i. plain_behind i false (token k a ∷ us))

next_number : (n at : ℕ) (m : ℤ) (js : List Token) → tail_text n (join (token (Constant (m ∷ [])) at) js) ≡ behind_gap n 1 (plain_word false (Constant (m ∷ []))) (λ i. tail_text i js)
unfolding plain_behind
next_number n at m [] = split_last n (number_word false m) (λ i. plain_behind i false [])
next_number n at m (u ∷ us) = next_kinds n at u.at m u.kind us

-- tokens are written as their pieces, behind a number and elsewhere
record Same (ts : List Token) : Type 0 where
  here : (n : ℕ) (named : Bool) → plain_behind n named (joined ts) ≡ row_text n named false ts
  behind : (n : ℕ) → tail_text n (joined ts) ≡ row_text n false true ts

apart : (k : Kind) (at : ℕ) (js : List Token) → is_number k ≡ false → join (token k at) js ≡ token k at ∷ js
apart (Constant ns) at js other = absurd cc
apart _ at [] other = refl
apart _ at (u ∷ us) other = refl

same_apart : (k : Kind) (at : ℕ) (ts : List Token) → is_number k ≡ false → Same ts → Same (token k at ∷ ts)
unfolding plain_behind
same_apart (Constant ns) at ts other s = absurd cc
same_apart k at ts other s = record {
  here = λ n named. rw (apart k at (joined ts) other) (ap (λ (x : List ℕ). replicate (at - 1 - n) 32 ++ (plain_word (named && (at - 1 - n == 0)) k ++ x)) (s.here (n + (at - 1 - n) + length (plain_word (named && (at - 1 - n == 0)) k)) (is_any_name k)));
  behind = λ n. rw (apart k at (joined ts) other) (ap (λ (x : List ℕ). replicate (at - 1 - n) 32 ++ (plain_word false k ++ x)) (s.here (n + (at - 1 - n) + length (plain_word false k)) (is_any_name k)));
}

same_more : (k : Kind) (at : ℕ) (ts : List Token) → Single k → Same ts → Same (token k at ∷ ts)
same_more (Constant []) at ts single s = absurd single
same_more (Constant (m ∷ [])) at ts single s = record {
  here = λ n named.
      let w = plain_word (named && (at - 1 - n == 0)) (Constant (m ∷ [])) in
      first_number n at named m (joined ts) ∙ ap (λ (x : List ℕ). replicate (at - 1 - n) 32 ++ (w ++ x)) (s.behind (n + (at - 1 - n) + length w));
  behind = λ n.
      let w = plain_word false (Constant (m ∷ [])) in
      next_number n at m (joined ts) ∙ ap (λ (x : List ℕ). 32 ∷ (w ++ x)) (s.behind (n + 1 + length w));
}
same_more (Constant (m ∷ n ∷ ns)) at ts single s = absurd single
same_more k at ts single s = same_apart k at ts refl s

same_text : (ts : List Token) → Singles ts → Same ts
unfolding plain_behind
same_text [] singles = record { here = λ n named. refl; behind = λ n. refl }
same_text (t ∷ ts) singles = same_more t.kind t.at ts singles.0 (same_text ts singles.1)

pub text_by_pieces : (ts : List Token) (n : ℕ) (named : Bool) → Singles ts → plain_behind n named (joined ts) ≡ row_text n named false ts
text_by_pieces ts n named singles = (same_text ts singles).here n named

-- pieces that are placed so join to the same tokens
record Joined (ts : List Token) : Type 0 where
  here : (n : ℕ) (named : Bool) → joined (placed n named false ts) ≡ joined ts
  behind : (n : ℕ) (named : Bool) (ms : List ℤ) (a : ℕ) → join (token (Constant ms) a) (joined (placed n named true ts)) ≡ join (token (Constant ms) a) (joined ts)

forgets_kinds : (ms ns : List ℤ) (a x y b : ℕ) (k : Kind) (us : List Token) → join (token (Constant ms) a) (join (token (Constant ns) x) (token k b ∷ us)) ≡ join (token (Constant ms) a) (join (token (Constant ns) y) (token k b ∷ us))
forgets_kinds ms ns a x y b (Constant os) us = refl
forgets_kinds ms ns a x y b _ us = refl

-- the column of a number that joins another is forgotten
forgets : (ms ns : List ℤ) (a x y : ℕ) (js : List Token) → join (token (Constant ms) a) (join (token (Constant ns) x) js) ≡ join (token (Constant ms) a) (join (token (Constant ns) y) js)
forgets ms ns a x y [] = refl
forgets ms ns a x y (u ∷ us) = forgets_kinds ms ns a x y u.at u.kind us

joined_more : (k : Kind) (at : ℕ) (ts : List Token) → Joined ts → Joined (token k at ∷ ts)
joined_more (Constant ns) at ts j = record {
  here = λ n named. j.behind (n + (at - 1 - n) + length (plain_word (named && (at - 1 - n == 0)) (Constant ns))) false ns at;
  behind = λ n named ms a.
      ap (λ (js : List Token). join (token (Constant ms) a) js) (j.behind (n + 1 + length (plain_word (named && false) (Constant ns))) false ns (n + 2)) ∙ forgets ms ns a (n + 2) at (joined ts);
}
joined_more k at ts j = record {
  here = λ n named. ap (λ (js : List Token). join (token k at) js) (j.here (n + (at - 1 - n) + length (plain_word (named && (at - 1 - n == 0)) k)) (is_any_name k));
  behind = λ n named ms a. ap (λ (js : List Token). join (token (Constant ms) a) (join (token k at) js)) (j.here (n + (at - 1 - n) + length (plain_word (named && (at - 1 - n == 0)) k)) (is_any_name k));
}

joins : (ts : List Token) → Joined ts
joins [] = record { here = λ n named. refl; behind = λ n named ms a. refl }
joins (t ∷ ts) = joined_more t.kind t.at ts (joins ts)

pub placed_joined : (ts : List Token) (n : ℕ) (named : Bool) → joined (placed n named false ts) ≡ joined ts
placed_joined ts n named = (joins ts).here n named
