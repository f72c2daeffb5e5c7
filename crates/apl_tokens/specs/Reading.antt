-- What the text begins with: a token and how many characters it takes, or a fault and how many characters stand before it.
use Rattle.std.specs.Prelude.{◌≡◌, ℕ, ◌+◌, Bool, true, false, not, ◌&&◌, ◌==◌, List, [], ◌∷◌, length, take, drop, Option, Some, None, Result, Ok, Err, nat_le, if◌then◌else◌}
use Rattle.std.specs.List.{prefix_len}
use Rattle.std.specs.Str.Parse.{digits_value}
use Rattle.apl_tokens.specs.declared.class.Class.{Class}
use Rattle.apl_tokens.specs.declared.class.Class.TheVariants as class
use Rattle.apl_tokens.specs.declared.token.Kind.{Kind}
use Rattle.apl_tokens.specs.declared.token.Kind.TheVariants as kind
use Rattle.apl_symbols.specs.declared.symbol.Symbol.{Symbol}
use Rattle.apl_symbols.specs.declared.symbol.Symbol.TheVariants.{Quad}
use Rattle.apl_symbols.specs.declared.system.SystemName.{SystemName}
use Rattle.apl_symbols.specs.SystemNames.{system_named}
use Rattle.apl_tokens.specs.declared.place.Place.{Place}
use Rattle.apl_tokens.specs.declared.reading.Fault.{Fault}
use Rattle.apl_tokens.specs.declared.reading.Fault.TheVariants.{Quote, Stray, Limit}
use Rattle.apl_tokens.specs.declared.reading.Run.{Run}
use Rattle.apl_tokens.specs.declared.reading.Run.TheVariants as run
use Rattle.apl_tokens.specs.declared.reading.Halt.{Halt}
use Rattle.apl_tokens.specs.declared.reading.Halt.TheVariants as halt
use Rattle.apl_tokens.specs.Characters.{class_of, is_blank, is_digit, is_letter, is_in_name, ends_number, is_quote}
use Rattle.apl_tokens.specs.Spelling.{class_at, number_of, in_range, is_named, is_quad, is_colon}

-- a token and how many characters it takes, or a fault and how many stand before it
abbrev pub Reading : Type 0
Reading = Result (Kind × ℕ) (Fault × ℕ)

-- a run goes on with a character of that class
abbrev pub takes : Run → Class → Bool
takes run.Blanks class = is_blank class
takes run.Digits class = is_digit class
takes run.Name class = is_in_name class

-- how many of the first characters are of the run
abbrev pub run_len : Run → List ℕ → ℕ
run_len run = prefix_len (λ c. takes run (class_of c))

-- how many characters the sign takes
abbrev pub sign_len : Bool → ℕ
sign_len true = 1
sign_len false = 0

-- the rest is what comes after the sign, n of it digits
abbrev pub number_of_len : Bool → List ℕ → ℕ → Reading
number_of_len negative rest n =
    if n == 0 then Err (Stray, 0)
    else (if in_range negative (digits_value 10 (take n rest))
    then (if ends_number (class_at (drop n rest))
    then Ok (kind.Constant (number_of negative (take n rest) ∷ []), sign_len negative + n)
    else Err (Stray, sign_len negative + n))
    else Err (Limit, 0))

-- a number, where rest is what comes after its sign
unfoldable pub number_at : Bool → List ℕ → Reading
number_at negative rest = number_of_len negative rest (run_len run.Digits rest)

-- the name is the first n characters
abbrev pub name_of_len : List ℕ → ℕ → Reading
name_of_len rest n = if nat_le n 32 then Ok (kind.Name (take n rest), n) else Err (Limit, 0)

-- the name at the start
unfoldable pub name_at : List ℕ → Reading
name_at rest = name_of_len rest (run_len run.Name rest)

-- a character of the text more
abbrev pub with_character : ℕ → Option (List ℕ × ℕ) → Option (List ℕ × ℕ)
with_character c None = None
with_character c (Some body) = Some (c ∷ body.0, 1 + body.1)

-- a quote that stands before another, or closes the text
abbrev pub one_more : Option (List ℕ × ℕ) → Option (List ℕ × ℕ)
one_more None = None
one_more (Some body) = Some (body.0, 1 + body.1)

-- the characters of a text and how many are taken with its closing quote; whether the last one was a quote
unfoldable pub body_at : Bool → List ℕ → Option (List ℕ × ℕ)
body_at false [] = None
body_at true [] = Some ([], 0)
body_at false (c ∷ rest) = if is_quote (class_of c) then one_more (body_at true rest) else with_character c (body_at false rest)
body_at true (c ∷ rest) = if is_quote (class_of c) then with_character c (body_at false rest) else Some ([], 0)

-- a text is closed, or has its fault at the opening quote
abbrev pub as_text : Option (List ℕ × ℕ) → Reading
as_text None = Err (Quote, 0)
as_text (Some body) = Ok (kind.Text body.0, 1 + body.1)

-- a text, where rest is what comes after its opening quote
unfoldable pub text_at : List ℕ → Reading
text_at rest = as_text (body_at false rest)

-- a system name of n letters, if it is one
abbrev pub as_system : Option SystemName → ℕ → Reading
as_system None n = Err (Stray, 0)
as_system (Some name) n = Ok (kind.System name, 1 + n)

-- the system name whose letters are the first n characters
abbrev pub system_at : List ℕ → ℕ → Reading
system_at rest n = as_system (system_named (take n rest)) n

-- a system name or the quad alone, where rest is what comes after the quad
unfoldable pub quad_at : List ℕ → Reading
quad_at rest = if is_letter (class_at rest) then system_at rest (run_len run.Name rest) else Ok (kind.Symbol Quad, 1)

-- what begins with a symbol: a quad may begin a system name, a colon stands second after a name
unfoldable pub symbol_at : Symbol → Place → List ℕ → Reading
symbol_at symbol place rest =
    if is_quad symbol then quad_at rest
    else (if is_colon symbol && not (is_named place) then Err (Stray, 0) else Ok (kind.Symbol symbol, 1))

-- what begins with the character c, of that class
unfoldable pub next_of : Class → Place → ℕ → List ℕ → Reading
next_of class.Digit place c rest = number_at false (c ∷ rest)
next_of class.Minus place c rest = number_at true rest
next_of class.Quote place c rest = text_at rest
next_of class.Letter place c rest = name_at (c ∷ rest)
next_of class.Lamp place c rest = Ok (kind.Comment rest, 1 + length rest)
next_of (class.Symbol symbol) place c rest = symbol_at symbol place rest
next_of class.Other place c rest = Err (Stray, 0)
next_of class.Blank place c rest = Err (Stray, 0)

-- what a text begins with that isn't empty
unfoldable pub next_at : Place → List ℕ → Reading
next_at place [] = Err (Stray, 0)
next_at place (c ∷ rest) = next_of (class_of c) place c rest

-- What a function returned is what reading gives, unless memory ran out.
abbrev pub Fails : Halt → Reading → Type 0
Fails halt.Memory read = Unit {0}
Fails (halt.Broken fault after) read = read ≡ Err (fault, after)

-- the same of a whole answer
abbrev pub Gives : Result (Kind × ℕ) Halt → Reading → Type 0
Gives (Ok x) read = read ≡ Ok x
Gives (Err e) read = Fails e read

-- how many characters stand before the fault
abbrev pub after_of : Halt → ℕ
after_of halt.Memory = 0
after_of (halt.Broken fault after) = after
