-- The words of a text, one after another.
use Rattle.std.proofs.Common.{◌≡◌, ℕ, zero, suc, ◌<◌, ◌≤◌, List, [], ◌∷◌, ◌++◌, Some, None, Bool, true, false, not, cond, ◌==◌, drop, length, get_or, ap, ◌∙◌, sym, refl, append_assoc, append-nil, arith}
use Rattle.std.specs.List.{position, position_or_len}
use Rattle.std.proofs.lemmas.List.{length-take-le, length-drop}
use Rattle.std.proofs.lemmas.List.Sums.{take_while-cons, prefix_len-le-length, fails_before_first}
use Rattle.std.proofs.lemmas.List.Quantifiers.{position-Some}
use borrow.Author.Tests.{ltb-false}
use Rattle.apl_defn.specs.Definitions.{Text}
use Rattle.apl_session.specs.Commands.{before_blank, from_blank, with_word, words_behind, words_of}

-- the place of the first blank, or the end
abbrev blank_in : Text → ℕ
blank_in text = position_or_len (λ c. c == 32) text

-- the rest begins where the first word ends
pub from_blank_is : (text : Text) → from_blank text ≡ drop (blank_in text) text
from_blank_is text = ap (λ (n : ℕ). drop n text) (length-take-le (blank_in text) text (prefix_len-le-length (λ c. not (c == 32)) text))

pub from_blank-length : (text : Text) → length (from_blank text) ≤ length text
from_blank-length text = omega (arith, length-drop (length (before_blank text)) text)

-- what a character before a text makes of its first word

before-other : (d : ℕ) (text : Text) → (d == 32) ≡ false → before_blank (d ∷ text) ≡ d ∷ before_blank text
before-other d text e = take_while-cons (λ c. not (c == 32)) d text ∙ ap (λ (b : Bool). cond (not b) (d ∷ before_blank text) []) e

from-other : (d : ℕ) (text : Text) → (d == 32) ≡ false → from_blank (d ∷ text) ≡ from_blank text
from-other d text e = ap (λ (w : Text). drop (length w) (d ∷ text)) (before-other d text e)

before-blank : (d : ℕ) (text : Text) → (d == 32) ≡ true → before_blank (d ∷ text) ≡ []
before-blank d text e = take_while-cons (λ c. not (c == 32)) d text ∙ ap (λ (b : Bool). cond (not b) (d ∷ before_blank text) []) e

from-blank : (d : ℕ) (text : Text) → (d == 32) ≡ true → from_blank (d ∷ text) ≡ d ∷ text
from-blank d text e = ap (λ (w : Text). drop (length w) (d ∷ text)) (before-blank d text e)

behind-blank : (prefix : Text) (d : ℕ) (text : Text) → (d == 32) ≡ true → words_behind prefix (d ∷ text) ≡ with_word prefix (words_of text)
behind-blank prefix d text e = ap (λ (b : Bool). cond b (with_word prefix (words_of text)) (words_behind (prefix ++ d ∷ []) text)) e

behind-other : (prefix : Text) (d : ℕ) (text : Text) → (d == 32) ≡ false → words_behind prefix (d ∷ text) ≡ words_behind (prefix ++ d ∷ []) text
behind-other prefix d text e = ap (λ (b : Bool). cond b (with_word prefix (words_of text)) (words_behind (prefix ++ d ∷ []) text)) e

-- a word that has begun ends at the first blank

ends-at_once : (c : ℕ) (prefix : Text) (d : ℕ) (text : Text) → (d == 32) ≡ true → words_behind (c ∷ prefix) (d ∷ text) ≡ (c ∷ prefix ++ before_blank (d ∷ text)) ∷ words_of (from_blank (d ∷ text))
ends-at_once c prefix d text e =
    behind-blank (c ∷ prefix) d text e
    ∙ ap (λ (ws : List Text). (c ∷ prefix) ∷ ws) (sym (ap words_of (from-blank d text e) ∙ behind-blank [] d text e))
    ∙ ap (λ (w : Text). w ∷ words_of (from_blank (d ∷ text))) (sym (ap (λ (w : Text). c ∷ prefix ++ w) (before-blank d text e) ∙ append-nil (c ∷ prefix)))

ends-later : (c : ℕ) (prefix : Text) (d : ℕ) (text : Text) → (d == 32) ≡ false →
    words_behind (c ∷ (prefix ++ d ∷ [])) text ≡ (c ∷ (prefix ++ d ∷ []) ++ before_blank text) ∷ words_of (from_blank text) →
    words_behind (c ∷ prefix) (d ∷ text) ≡ (c ∷ prefix ++ before_blank (d ∷ text)) ∷ words_of (from_blank (d ∷ text))
ends-later c prefix d text e h =
    behind-other (c ∷ prefix) d text e
    ∙ h
    ∙ ap (λ (w : Text). w ∷ words_of (from_blank text)) (append_assoc (c ∷ prefix) (d ∷ []) (before_blank text) ∙ ap (λ (w : Text). c ∷ prefix ++ w) (sym (before-other d text e)))
    ∙ ap (λ (r : Text). (c ∷ prefix ++ before_blank (d ∷ text)) ∷ words_of r) (sym (from-other d text e))

ends : (t : Bool) (c : ℕ) (prefix : Text) (d : ℕ) (text : Text) → (d == 32) ≡ t →
    words_behind (c ∷ (prefix ++ d ∷ [])) text ≡ (c ∷ (prefix ++ d ∷ []) ++ before_blank text) ∷ words_of (from_blank text) →
    words_behind (c ∷ prefix) (d ∷ text) ≡ (c ∷ prefix ++ before_blank (d ∷ text)) ∷ words_of (from_blank (d ∷ text))
ends true c prefix d text e h = ends-at_once c prefix d text e
ends false c prefix d text e h = ends-later c prefix d text e h

word-ends : (text : Text) (c : ℕ) (prefix : Text) → words_behind (c ∷ prefix) text ≡ (c ∷ prefix ++ before_blank text) ∷ words_of (from_blank text)
word-ends [] c prefix = ap (λ (w : Text). w ∷ []) (sym (append-nil (c ∷ prefix)))
word-ends (d ∷ text) c prefix = ends (d == 32) c prefix d text refl (word-ends text c (prefix ++ d ∷ []))

-- the first word of a text that begins with it
word-first : (d : ℕ) (text : Text) → (d == 32) ≡ false → words_of (d ∷ text) ≡ before_blank (d ∷ text) ∷ words_of (from_blank (d ∷ text))
word-first d text e =
    behind-other [] d text e
    ∙ word-ends text d []
    ∙ ap (λ (w : Text). w ∷ words_of (from_blank text)) (sym (before-other d text e))
    ∙ ap (λ (r : Text). before_blank (d ∷ text) ∷ words_of r) (sym (from-other d text e))

abbrev is_other : ℕ → Bool
is_other c = not (c == 32)

other-is : (t : Bool) → not t ≡ true → t ≡ false
other-is true e = cc
other-is false e = refl

blank-is : (t : Bool) → not t ≡ false → t ≡ true
blank-is true e = refl
blank-is false e = cc

-- the first word of a text begins at the first character that is no blank

word-at_place : (text : Text) (at : ℕ) → at < length text → is_other (get_or text at 0) ≡ true → ((k : ℕ) → k < at → is_other (get_or text k 0) ≡ false) →
    words_of text ≡ before_blank (drop at text) ∷ words_of (from_blank (drop at text))
word-at_place [] at within here before = absurd (omega arith)
word-at_place (d ∷ text) zero within here before = word-first d text (other-is (d == 32) here)
word-at_place (d ∷ text) (suc at) within here before =
    behind-blank [] d text (blank-is (d == 32) (before 0 (omega arith)))
    ∙ word-at_place text at (omega arith) here (λ k lt. before (suc k) (omega arith))

pub word-at : (text : Text) (at : ℕ) → position is_other text ≡ Some at → words_of text ≡ before_blank (drop at text) ∷ words_of (from_blank (drop at text))
word-at text at e = let p = position-Some is_other text at 0 e in word-at_place text at p.0 p.1 p.2

-- and what stands behind it is shorter than the text
shorter-at_place : (text : Text) (at : ℕ) → at < length text → is_other (get_or text at 0) ≡ true → length (from_blank (drop at text)) < length text
shorter-at_place [] at within here = absurd (omega arith)
shorter-at_place (d ∷ text) zero within here =
    omega (arith, ap length (from-other d text (other-is (d == 32) here)), from_blank-length text)
shorter-at_place (d ∷ text) (suc at) within here = omega (arith, shorter-at_place text at (omega arith) here)

pub shorter-behind : (text : Text) (at : ℕ) → position is_other text ≡ Some at → length (from_blank (drop at text)) < length text
shorter-behind text at e = let p = position-Some is_other text at 0 e in shorter-at_place text at p.0 p.1

-- blanks alone have no words
no_words : (text : Text) → ((k : ℕ) → k < length text → is_other (get_or text k 0) ≡ false) → words_of text ≡ []
no_words [] blank = refl
no_words (d ∷ text) blank = behind-blank [] d text (blank-is (d == 32) (blank 0 (omega arith))) ∙ no_words text (λ k lt. blank (suc k) (omega arith))

none-means : (t : Bool) (n : ℕ) → cond t (Some n) None ≡ None → t ≡ false
none-means true n e = cc
none-means false n e = refl

pub words-none : (text : Text) → position is_other text ≡ None → words_of text ≡ []
words-none text e =
    let past : length text ≤ position_or_len is_other text = ltb-false (position_or_len is_other text) (length text) (none-means _ (position_or_len is_other text) e) in
    no_words text (λ k lt. fails_before_first is_other text k 0 (omega arith))

pub ruleset word_by_word = (word-at, shorter-behind, words-none)
