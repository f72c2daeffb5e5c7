-- The system names.
use Rattle.std.specs.Prelude.{ℕ, List, [], ◌∷◌, codes, Option}
use Rattle.std.specs.List.{find}
use Rattle.std.specs.Str.{bytes_eq}
use Rattle.apl_symbols.specs.declared.system.SystemName.{SystemName}
use Rattle.apl_symbols.specs.declared.system.SystemName.TheVariants.{Origin, LineCounter, NameClass, Stop, Trace}

-- its letters, after the quad
abbrev pub letters_of : SystemName → List ℕ
letters_of Origin = codes "IO"
letters_of LineCounter = codes "LC"
letters_of NameClass = codes "NC"
letters_of Stop = codes "STOP"
letters_of Trace = codes "TRACE"

-- every system name
abbrev pub system_names : List SystemName
system_names = Origin ∷ LineCounter ∷ NameClass ∷ Stop ∷ Trace ∷ []

-- the system name of these letters
unfoldable pub system_named : List ℕ → Option SystemName
system_named letters = find (λ name. bytes_eq letters (letters_of name)) system_names
