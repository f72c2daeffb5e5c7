-- The code of a line of text, and lines with the listings of their codes.
use Prim.Native.String.{String}
use Rattle.std.specs.Prelude.{◌≡◌, ℕ, false, List, [], ◌∷◌, ◌++◌, length, map, Ok, codes}
use Rattle.std.specs.List.{flat_map, AllByRecursion}
use Rattle.apl_charset.specs.Text.{bytes}
use Rattle.apl_symbols.specs.declared.class.Class.{Class}
use Rattle.apl_tokens.specs.declared.token.Token.{Token}
use Rattle.apl_tokens.specs.Tokens.{tokens_of}
use Rattle.apl_code.specs.declared.instr.Instr.{Instr}
use Rattle.apl_listing.specs.Listing.{listed}
use Rattle.apl_translate.specs.Binding.{bound_of, names_of}
use Rattle.apl_translate.specs.Translation.{Translates}

-- These instructions are the code of a line with this text, whose names have these classes, in the order of the text:
-- it has tokens, there is a class for each name among the items, and the instructions are those that the phrase table
-- gives for the items to which the tokens are bound.
pub record IsCodeOf (text : List ℕ) (classes : List Class) (code : List Instr) : Type 0 where
  pub tokens : List Token
  pub read : tokens_of text ≡ Ok tokens
  pub named : length (names_of tokens) ≡ length classes
  pub translates : Translates code false (bound_of tokens classes).items

-- a line, the classes of its names, and the lines of its code's listing
pub record Worked : Type 0 where
  pub text : List ℕ
  pub classes : List Class
  pub listing : List (List ℕ)

abbrev pub shows : String → List Class → List String → Worked
shows text classes listing = record { text = codes text; classes = classes; listing = map codes listing }

-- lines in UTF-8, each with a line feed
abbrev pub in_bytes : List (List ℕ) → List ℕ
in_bytes lines = flat_map (λ line. bytes line ++ 10 ∷ []) lines

-- Some instructions and no others are the line's code, and this is their listing.
pub record HasListing (line : Worked) : Type 0 where
  pub code : List Instr
  pub is_code : IsCodeOf line.text line.classes code
  pub only : (others : List Instr) → IsCodeOf line.text line.classes others → others ≡ code
  pub lists : listed 0 code ≡ in_bytes line.listing

-- each of these lines does
abbrev pub HaveListings : List Worked → Type 0
HaveListings lines = AllByRecursion HasListing lines
