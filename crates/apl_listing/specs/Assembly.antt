-- What assembling a text gives.
use Rattle.std.specs.Prelude.{◌≡◌, ℕ, ◌+◌, ◌<◌, ◌≤◌, ◌==◌, false, List, [], ◌∷◌, ◌++◌, length, take, drop}
use Rattle.apl_code.specs.declared.instr.Instr.{Instr}
use Rattle.apl_code.specs.Instr.{IsInstr, AreInstrs}
use Rattle.apl_code.specs.Code.{is_end, IsCode}
use Rattle.apl_listing.specs.declared.error.AsmError.{AsmError}
use Rattle.apl_listing.specs.declared.error.AsmError.TheVariants.{Memory, Form}
use Rattle.apl_listing.specs.Listing.{line, listed}

-- The first k lines of the text are the first k lines of some listing.
pub record HasLines (text : List ℕ) (k : ℕ) : Type 0 where
  pub code : List Instr
  pub rest : List ℕ
  pub is_code : IsCode code
  pub within : k ≤ length code
  pub prefix : text ≡ listed 0 (take k code) ++ rest

-- the greatest such k
pub record IsCommon (text : List ℕ) (k : ℕ) : Type 0 where
  pub has : HasLines text k
  pub most : (m : ℕ) → HasLines text m → m ≤ k

-- it is the listing of no code
abbrev pub IsNoListing : List ℕ → Type 0
IsNoListing text = (is : List Instr) → IsCode is → listed 0 is ≡ text → ⊥

-- Of a text that is no listing, how many leading lines some listing has in common with it.
abbrev pub IsFault : AsmError → List ℕ → Type 0
IsFault Memory text = Unit {0}
IsFault (Form k) text = IsCommon text k × IsNoListing text

-- no end of a line
abbrev pub HasNoEnd : List ℕ → Type 0
HasNoEnd [] = Unit {0}
HasNoEnd (b ∷ bs) = ((b == 10) ≡ false) × HasNoEnd bs

-- none ends its line
abbrev pub ArePhrases : List Instr → Type 0
ArePhrases [] = Unit {0}
ArePhrases (i ∷ is) = (is_end i.action ≡ false) × ArePhrases is

-- From a place on the text begins with the line of that instruction, which has this number; the line is so long.
abbrev pub BeginsLine : List ℕ → ℕ → ℕ → Instr × ℕ → Type 0
BeginsLine text number at x = IsInstr x.0 × (at + x.1 ≤ length text) × (drop at text ≡ line number x.0 ++ drop x.1 (drop at text))

-- the lines read so far
pub record Reads (text : List ℕ) (code : List Instr) (at : ℕ) : Type 0 where
  pub few : length code < 1000
  pub each : AreInstrs code
  pub phrases : ArePhrases code
  pub within : at ≤ length text
  pub prefix : text ≡ listed 0 code ++ drop at text

-- the number of an error
abbrev pub error_number : AsmError → ℕ
error_number Memory = 1
error_number (Form _) = 2
