-- What a call of a device does to its bytes.
use Rattle.std.specs.Prelude.{◌≡◌, ℕ, ◌≤◌, ◌==◌, not, true, List, [], ◌∷◌, ◌++◌, length, Option, Some, None, Result, Ok, Err}
use Rattle.std.specs.List.{list_all}

-- the first byte is taken, if there is one
abbrev pub TakesFirst : {E : Type 0} → List ℕ → Result (Option ℕ) E → List ℕ → Type 0
TakesFirst old (Ok None) new = (old ≡ []) × (new ≡ [])
TakesFirst old (Ok (Some b)) new = old ≡ b ∷ new
TakesFirst old (Err e) new = new ≡ old

-- the byte that was taken, if one was
abbrev pub taken_byte : {E : Type 0} → Result (Option ℕ) E → List ℕ
taken_byte (Ok (Some b)) = b ∷ []
taken_byte (Ok None) = []
taken_byte (Err e) = []

-- a piece of a line was added, of at most so many bytes and without a line feed
pub record TakesPiece (most : ℕ) (old new : List ℕ) : Type 0 where
  pub piece : List ℕ
  pub added : new ≡ old ++ piece
  pub short : length piece ≤ most
  pub unbroken : list_all (λ b. not (b == 10)) piece ≡ true

-- all of a text but a rest was written behind the old bytes
pub record Wrote (old new text rest : List ℕ) : Type 0 where
  pub prefix : List ℕ
  pub spelled : text ≡ prefix ++ rest
  pub added : new ≡ old ++ prefix

-- a prefix of a text was written behind the old bytes
pub record Extends (old new text : List ℕ) : Type 0 where
  pub prefix : List ℕ
  pub rest : List ℕ
  pub spelled : text ≡ prefix ++ rest
  pub added : new ≡ old ++ prefix
