-- Characters by their places in the set, as which they are stored.
use Rattle.std.specs.Prelude.{◌≡◌, ℕ, suc, ◌+◌, ◌-◌, ◌<◌, true, List, [], ◌∷◌, nat_le, eqb, slice_index_or, if◌then◌else◌}
use Rattle.std.proofs.Common.{refl}
use Rattle.std.proofs.lemmas.Bool.{agree_below_at, eqb-true}
use Rattle.apl_charset.specs.Set.{symbols}

-- the member at a place: ASCII from the blank on, then the symbols
abbrev pub member_at : ℕ → ℕ
member_at place = if nat_le place 94 then place + 32 else slice_index_or symbols (place - 95) 0

-- the first place where a character stands in a list
abbrev pub index_in : List ℕ → ℕ → ℕ
index_in [] c = 0
index_in (x ∷ xs) c = if eqb x c then 0 else suc (index_in xs c)

-- the place of a member
unfoldable pub place_of : ℕ → ℕ
place_of c = if nat_le c 126 then c - 32 else index_in symbols c + 95

pub place_again : (p : ℕ) → p < 131 → place_of (member_at p) ≡ p
unfolding place_of
place_again p h = eqb-true _ _ (agree_below_at (λ q. eqb (place_of (member_at q)) q) (λ q. true) 131 p refl h)
