-- Lines with assignments and branches, and how lines end, with the listings of their codes.
use Rattle.std.specs.Prelude.{List, [], ◌∷◌}
use Rattle.apl_symbols.specs.declared.class.Class.TheVariants.{Variable as V, Function as F}
use Rattle.apl_line_laws.specs.Codes.{Worked, shows}

-- V ← B, V K ← B and ⎕ ← B, where B ends. The value of a line whose last phrase is one of them is not shown.
abbrev pub assignments : List Worked
assignments =
    shows "A←5" (V ∷ []) ("0 SET A #0 @2" ∷ "1 END HIDE S @0" ∷ [])
    ∷ shows "⎕IO←0" [] ("0 SET ⎕IO #0 @4" ∷ "1 END HIDE S @0" ∷ [])
    ∷ shows "A←B←5" (V ∷ V ∷ []) ("0 SET B #0 @4" ∷ "1 SET A S @2" ∷ "2 END HIDE S @0" ∷ [])
    ∷ shows "1+A←5" (V ∷ []) ("0 SET A #1 @4" ∷ "1 DYA + #0 S @2" ∷ "2 END SHOW S @0" ∷ [])
    ∷ shows "A←5 'B'" (V ∷ []) ("0 FAIL @2" ∷ [])
    ∷ shows "A←5←3" (V ∷ []) ("0 FAIL @4" ∷ [])
    ∷ shows "A[1]←5" (V ∷ []) ("0 BOX #0 @2" ∷ "1 SETX A #1 @5" ∷ "2 END HIDE S @0" ∷ [])
    ∷ shows "A[1;]←B[2]←5" (V ∷ V ∷ []) ("0 BOX #1 @8" ∷ "1 SETX B #2 @11" ∷ "2 BOX #0 - @2" ∷ "3 SETX A S @6" ∷ "4 END HIDE S @0" ∷ [])
    ∷ shows "(A[1]←5)" (V ∷ []) ("0 BOX #0 @3" ∷ "1 SETX A #1 @6" ∷ "2 GRP S @1" ∷ "3 END SHOW S @0" ∷ [])
    ∷ shows "A[1]←5 'B'" (V ∷ []) ("0 BOX #0 @2" ∷ "1 FAIL @5" ∷ [])
    ∷ shows "A[1]←5←3" (V ∷ []) ("0 BOX #0 @2" ∷ "1 FAIL @7" ∷ [])
    ∷ shows "⎕←5" [] ("0 SHOW #0 @2" ∷ "1 END HIDE S @0" ∷ [])
    ∷ shows "1+⎕←5" [] ("0 SHOW #1 @4" ∷ "1 DYA + #0 S @2" ∷ "2 END SHOW S @0" ∷ [])
    ∷ shows "A[⎕←1]" (V ∷ []) ("0 SHOW #0 @4" ∷ "1 BOX S @2" ∷ "2 VAR A @1" ∷ "3 IDX S @2" ∷ "4 END SHOW S @0" ∷ [])
    ∷ shows "⎕←5 'A'" [] ("0 FAIL @2" ∷ [])
    ∷ shows "⎕←5←3" [] ("0 FAIL @4" ∷ [])
    ∷ shows "⎕" [] ("0 FAIL @1" ∷ [])
    ∷ shows "⎕[1]←5" [] ("0 BOX #0 @2" ∷ "1 FAIL @5" ∷ [])
    ∷ shows "F←5" (F ∷ []) ("0 FAIL @2" ∷ [])
    ∷ shows "5←3" [] ("0 FAIL @2" ∷ [])
    ∷ []

-- → B and → are whole statements.
abbrev pub branches : List Worked
branches =
    shows "→5" [] ("0 BRA #0 @1" ∷ [])
    ∷ shows "→" [] ("0 ESC @1" ∷ [])
    ∷ shows "→''" [] ("0 BRA #0 @1" ∷ [])
    ∷ shows "→⎕LC" [] ("0 NIL ⎕LC @2" ∷ "1 BRA S @1" ∷ [])
    ∷ shows "L:→5" [] ("0 BRA #0 @3" ∷ [])
    ∷ shows "1→2" [] ("0 FAIL @2" ∷ [])
    ∷ shows "→1→2" [] ("0 FAIL @3" ∷ [])
    ∷ shows "→5 'A'" [] ("0 FAIL @1" ∷ [])
    ∷ shows "(→5)" [] ("0 FAIL @4" ∷ [])
    ∷ shows "(→)" [] ("0 FAIL @3" ∷ [])
    ∷ shows "→→" [] ("0 FAIL @2" ∷ [])
    ∷ shows "5→" [] ("0 FAIL @2" ∷ [])
    ∷ shows "A←→5" (V ∷ []) ("0 FAIL @3" ∷ [])
    ∷ []

-- A line without items, or of one value, ends; where no phrase begins it fails at the last item that is no value, or at the last item where all are values.
abbrev pub endings : List Worked
endings =
    shows "" [] ("0 END NONE @0" ∷ [])
    ∷ shows "⍝ note" [] ("0 END NONE @0" ∷ [])
    ∷ shows "L:" [] ("0 END NONE @0" ∷ [])
    ∷ shows "5 ⍝ five" [] ("0 END SHOW #0 @0" ∷ [])
    ∷ shows "L : 5" [] ("0 END SHOW #0 @0" ∷ [])
    ∷ shows "1 2 3" [] ("0 END SHOW #0 @0" ∷ [])
    ∷ shows "1 'A'" [] ("0 FAIL @3" ∷ [])
    ∷ shows "'A'1" [] ("0 FAIL @4" ∷ [])
    ∷ shows "1 A" (V ∷ []) ("0 VAR A @3" ∷ "1 FAIL @3" ∷ [])
    ∷ shows "1(2)'A'" [] ("0 GRP #1 @2" ∷ "1 FAIL @5" ∷ [])
    ∷ shows "+" [] ("0 FAIL @1" ∷ [])
    ∷ shows "+-" [] ("0 FAIL @2" ∷ [])
    ∷ shows "." [] ("0 FAIL @1" ∷ [])
    ∷ shows "∘" [] ("0 FAIL @1" ∷ [])
    ∷ shows ";" [] ("0 FAIL @1" ∷ [])
    ∷ shows "←" [] ("0 FAIL @1" ∷ [])
    ∷ shows "1;2" [] ("0 FAIL @2" ∷ [])
    ∷ []
