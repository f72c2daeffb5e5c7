-- A text in an array of 32 characters.
use Rattle.std.specs.Prelude.{◌≡◌, ◌≤◌, ◌-◌, ℕ, List, ◌++◌, take, length, replicate}
use Rattle.std.proofs.Common.{sym, ◌∙◌, ap, subst}
use Rattle.std.proofs.lemmas.List.{length-take-le}

-- the text, and blanks up to the 32nd
abbrev pub filled : List ℕ → List ℕ
filled text = text ++ replicate (32 - length text) 32

-- the array is its prefix of that length, filled
pub record IsPadded (len : ℕ) (padded : List ℕ) : Type 0 where
  pub fits : len ≤ 32
  pub whole : length padded ≡ 32
  pub blank : padded ≡ take len padded ++ replicate (32 - len) 32

pub len_again : (len : ℕ) (padded : List ℕ) → IsPadded len padded → length (take len padded) ≡ len
len_again len padded h = length-take-le len padded (subst (λ (n : ℕ). len ≤ n) (sym h.whole) h.fits)

pub padded_again : (len : ℕ) (padded : List ℕ) → IsPadded len padded → filled (take len padded) ≡ padded
padded_again len padded h = ap (λ (n : ℕ). take len padded ++ replicate (32 - n) 32) (len_again len padded h) ∙ sym h.blank
