-- How a function is written.
use Rattle.std.specs.Prelude.{ℕ, suc, List, [], ◌∷◌, ◌++◌, codes, decimal}
use Rattle.std.specs.List.{flat_map}
use Rattle.std.specs.Option.{option_to_list}
use Rattle.apl_defn.specs.Definitions.{Text, Header, Definition}

-- a header with one blank between names, and no other blanks
unfoldable pub canonical : Header → Text
canonical h =
    flat_map (λ z. z ++ 0x2190 ∷ []) (option_to_list h.result)
    ++ (flat_map (λ a. a ++ 32 ∷ []) (option_to_list h.left)
    ++ (h.name ++ (flat_map (λ b. 32 ∷ b) (option_to_list h.right)
    ++ flat_map (λ word. 59 ∷ word) h.locals)))

-- a line behind its number
abbrev pub numbered : ℕ → Text → Text
numbered n line = codes "[" ++ decimal n ++ codes "] " ++ line

-- lines behind their numbers, the first of which is n
abbrev pub numbered_from : ℕ → List Text → List Text
numbered_from n [] = []
numbered_from n (line ∷ lines) = numbered n line ∷ numbered_from (suc n) lines

-- four blanks and ∇
abbrev pub margin : Text
margin = 32 ∷ 32 ∷ 32 ∷ 32 ∷ 0x2207 ∷ []

-- the lines that show a function
unfoldable pub listed : Definition → List Text
listed d = (margin ++ (32 ∷ canonical d.header)) ∷ (numbered_from 1 d.lines ++ margin ∷ [])
