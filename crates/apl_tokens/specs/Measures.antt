-- What is needed of a token to read on behind it, and the brackets that are open.
use Rattle.std.specs.Prelude.{ℕ, Bool, true, false, List, [], ◌∷◌, Option, Some, None, Ok, Err, option_map, if◌then◌else◌}
use Rattle.apl_tokens.specs.declared.token.Kind.{Kind}
use Rattle.apl_tokens.specs.declared.place.Place.{Place}
use Rattle.apl_tokens.specs.declared.place.Place.TheVariants.{Start, Named, Inside}
use Rattle.apl_tokens.specs.declared.brackets.Bracket.{Bracket}
use Rattle.apl_tokens.specs.declared.brackets.Side.{Side}
use Rattle.apl_tokens.specs.declared.brackets.Side.TheVariants.{Opens, Closes, Neither}
use Rattle.apl_tokens.specs.declared.measuring.Measure.{Measure}
use Rattle.apl_tokens.specs.Kinds.{is_name}
use Rattle.apl_tokens.specs.Brackets.{kind_side, same_bracket}
use Rattle.apl_tokens.specs.Reading.{Reading}

-- the measure of a token that takes so many characters
abbrev pub measure_of : Kind × ℕ → Measure
measure_of piece = record { side = kind_side piece.0; is_name = is_name piece.0; len = piece.1 }

-- the measure of what was read, if it is a token
abbrev pub measured : Reading → Option Measure
measured (Ok piece) = Some (measure_of piece)
measured (Err fault) = None

-- how many characters a text takes with its closing quote
abbrev pub body_len : Option (List ℕ × ℕ) → Option ℕ
body_len body = option_map (λ b. b.1) body

-- the place after a token that is a name, or isn't
abbrev pub place_behind : Place → Bool → Place
place_behind Start true = Named
place_behind _ _ = Inside

-- the open brackets after a token, the innermost first; none where it closes another bracket than the innermost
abbrev pub turned : Side → List Bracket → Option (List Bracket)
turned Neither open_ones = Some open_ones
turned (Opens bracket) open_ones = Some (bracket ∷ open_ones)
turned (Closes bracket) [] = None
turned (Closes bracket) (innermost ∷ open_ones) = if same_bracket bracket innermost then Some open_ones else None

-- the same brackets, unless a token was refused
abbrev pub unless_refused : Bool → List Bracket → Option (List Bracket)
unless_refused true open_ones = Some open_ones
unless_refused false open_ones = None
