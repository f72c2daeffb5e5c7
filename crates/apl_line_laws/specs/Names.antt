-- Lines with names and selections, and the listings of their codes: where the phrases V, N and B K begin, and where they don't.
use Rattle.std.specs.Prelude.{List, [], ◌∷◌}
use Rattle.apl_symbols.specs.declared.class.Class.TheVariants.{Variable as V, Niladic as N}
use Rattle.apl_line_laws.specs.Codes.{Worked, shows}

-- V: its value, but not before ← or [ or K ←.
abbrev pub variables : List Worked
variables =
    shows "A" (V ∷ []) ("0 VAR A @1" ∷ "1 END SHOW S @0" ∷ [])
    ∷ shows "⎕IO" [] ("0 VAR ⎕IO @1" ∷ "1 END SHOW S @0" ∷ [])
    ∷ shows "A B" (V ∷ V ∷ []) ("0 VAR B @3" ∷ "1 VAR A @1" ∷ "2 FAIL @3" ∷ [])
    ∷ shows "A←" (V ∷ []) ("0 FAIL @2" ∷ [])
    ∷ shows "A[←]" (V ∷ []) ("0 FAIL @4" ∷ [])
    ∷ shows "A[1]←" (V ∷ []) ("0 BOX #0 @2" ∷ "1 FAIL @5" ∷ [])
    ∷ shows "A[1]" (V ∷ []) ("0 BOX #0 @2" ∷ "1 VAR A @1" ∷ "2 IDX S @2" ∷ "3 END SHOW S @0" ∷ [])
    ∷ shows "A[1][1]" (V ∷ []) ("0 BOX #1 @5" ∷ "1 BOX #0 @2" ∷ "2 VAR A @1" ∷ "3 IDX S @2" ∷ "4 IDX S @5" ∷ "5 END SHOW S @0" ∷ [])
    ∷ []

-- N: a call, but not before ←.
abbrev pub calls : List Worked
calls =
    shows "N" (N ∷ []) ("0 NIL N @1" ∷ "1 END SHOW S @0" ∷ [])
    ∷ shows "⎕LC" [] ("0 NIL ⎕LC @1" ∷ "1 END SHOW S @0" ∷ [])
    ∷ shows "N-N" (N ∷ N ∷ []) ("0 NIL N @3" ∷ "1 NIL N @1" ∷ "2 DYA - S S @2" ∷ "3 END SHOW S @0" ∷ [])
    ∷ shows "N[1]" (N ∷ []) ("0 BOX #0 @2" ∷ "1 NIL N @1" ∷ "2 IDX S @2" ∷ "3 END SHOW S @0" ∷ [])
    ∷ shows "N[←]" (N ∷ []) ("0 NIL N @1" ∷ "1 FAIL @4" ∷ [])
    ∷ shows "N←5" (N ∷ []) ("0 FAIL @2" ∷ [])
    ∷ shows "⎕LC←5" [] ("0 FAIL @4" ∷ [])
    ∷ []

-- B K: nothing is selected of a value before ←.
abbrev pub selections : List Worked
selections =
    shows "'ABC'[2]" [] ("0 BOX #1 @6" ∷ "1 IDX #0 @6" ∷ "2 END SHOW S @0" ∷ [])
    ∷ shows "'ABC'[2][1]" [] ("0 BOX #2 @9" ∷ "1 BOX #1 @6" ∷ "2 IDX #0 @6" ∷ "3 IDX S @9" ∷ "4 END SHOW S @0" ∷ [])
    ∷ shows "(A)[1]" (V ∷ []) ("0 BOX #0 @4" ∷ "1 VAR A @2" ∷ "2 GRP S @1" ∷ "3 IDX S @4" ∷ "4 END SHOW S @0" ∷ [])
    ∷ shows "5[1]←3" [] ("0 BOX #1 @2" ∷ "1 FAIL @5" ∷ [])
    ∷ shows "(⍳3)[4]←0" [] ("0 BOX #1 @5" ∷ "1 MON ⍳ #0 @2" ∷ "2 GRP S @1" ∷ "3 FAIL @8" ∷ [])
    ∷ shows "⎕LC[1]←5" [] ("0 BOX #0 @4" ∷ "1 NIL ⎕LC @1" ∷ "2 FAIL @7" ∷ [])
    ∷ shows "'ABC'[2]←'X'" [] ("0 BOX #1 @6" ∷ "1 FAIL @9" ∷ [])
    ∷ shows "1[]←" [] ("0 BOX - @2" ∷ "1 FAIL @4" ∷ [])
    ∷ shows "A[1][1]←5" (V ∷ []) ("0 BOX #1 @5" ∷ "1 BOX #0 @2" ∷ "2 VAR A @1" ∷ "3 IDX S @2" ∷ "4 FAIL @8" ∷ [])
    ∷ []
