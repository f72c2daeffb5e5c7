-- A token at the start of a text.
use Rattle.std.proofs.Common.{◌≡◌, ℕ, ◌<◌, true, List, ◌++◌, length}
use Rattle.apl_tokens.specs.declared.token.Kind.{Kind}
use Rattle.apl_tokens.specs.declared.place.Place.{Place}
use Rattle.apl_tokens.specs.Spelling.{IsSpelled, Ends, may_stand}

pub record Front (place : Place) (kind : Kind) (n : ℕ) (text : List ℕ) : Type 0 where
  pub word : List ℕ
  pub after : List ℕ
  pub parts : text ≡ word ++ after
  pub len : length word ≡ n
  pub some : 0 < n
  pub spelled : IsSpelled kind word
  pub ends : Ends kind after
  pub stands : may_stand place kind ≡ true
