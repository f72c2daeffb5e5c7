-- What each character may begin.
use Rattle.std.specs.Prelude.{ℕ, Bool, true, false, ◌==◌, ◌||◌, Option, Some, None, if◌then◌else◌}
use Rattle.std.specs.Char.{is_ascii_digit, is_ascii_alphabetic}
use Rattle.apl_symbols.specs.Glyphs.{symbol_of}
use Rattle.apl_symbols.specs.declared.symbol.Symbol.{Symbol as TheSymbol}
use Rattle.apl_tokens.specs.declared.class.Class.{Class}
use Rattle.apl_tokens.specs.declared.class.Class.TheVariants.{Blank, Digit, Minus, Quote, Letter, Lamp, Symbol, Other}

-- what is left: a symbol, or a character that begins nothing
abbrev pub symbol_class : Option TheSymbol → Class
symbol_class None = Other
symbol_class (Some symbol) = Symbol symbol

-- blank, digit, high minus, quote, letter (∆ ⍙ _ among them), lamp, symbol
unfoldable pub class_of : ℕ → Class
class_of c =
    if c == 32 then Blank
    else (if is_ascii_digit c then Digit
    else (if c == 0xAF then Minus
    else (if c == 39 then Quote
    else (if is_ascii_alphabetic c || c == 0x2206 || c == 0x2359 || c == 95 then Letter
    else (if c == 0x235D then Lamp
    else symbol_class (symbol_of c))))))

-- tests of a class
abbrev pub is_blank : Class → Bool
is_blank Blank = true
is_blank _ = false

abbrev pub is_digit : Class → Bool
is_digit Digit = true
is_digit _ = false

abbrev pub is_letter : Class → Bool
is_letter Letter = true
is_letter _ = false

-- a name goes on with it
abbrev pub is_in_name : Class → Bool
is_in_name Letter = true
is_in_name Digit = true
is_in_name _ = false

abbrev pub is_quote : Class → Bool
is_quote Quote = true
is_quote _ = false

-- it may stand directly after a number
abbrev pub ends_number : Class → Bool
ends_number Digit = false
ends_number Letter = false
ends_number Minus = false
ends_number _ = true
