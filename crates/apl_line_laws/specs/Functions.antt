-- Lines with functions, and the listings of their codes: where the phrases F B, F K B, B F B and B F K B begin, and where they don't.
use Rattle.std.specs.Prelude.{List, [], ◌∷◌}
use Rattle.apl_symbols.specs.declared.class.Class.TheVariants.{Variable as V, Niladic as N, Function as F}
use Rattle.apl_line_laws.specs.Codes.{Worked, shows}

-- F B: without a left argument, where B ends.
abbrev pub monadic : List Worked
monadic =
    shows "-5" [] ("0 MON - #0 @1" ∷ "1 END SHOW S @0" ∷ [])
    ∷ shows "F 5" (F ∷ []) ("0 MON F #0 @1" ∷ "1 END SHOW S @0" ∷ [])
    ∷ shows "⎕NC 'A'" [] ("0 MON ⎕NC #0 @1" ∷ "1 END SHOW S @0" ∷ [])
    ∷ shows "⎕STOP 'F'" [] ("0 MON ⎕STOP #0 @1" ∷ "1 END SHOW S @0" ∷ [])
    ∷ shows "F G 5" (F ∷ F ∷ []) ("0 MON G #0 @3" ∷ "1 MON F S @1" ∷ "2 END SHOW S @0" ∷ [])
    ∷ shows "/5" [] ("0 MON / #0 @1" ∷ "1 END SHOW S @0" ∷ [])
    ∷ shows "F" (F ∷ []) ("0 FAIL @1" ∷ [])
    ∷ []

-- A function has no left argument where it stands first, or behind ← → ( [ ; or a function, an operator or the ] of an axis.
abbrev pub no_left_argument : List Worked
no_left_argument =
    shows "A←-5" (V ∷ []) ("0 MON - #0 @3" ∷ "1 SET A S @2" ∷ "2 END HIDE S @0" ∷ [])
    ∷ shows "→-5" [] ("0 MON - #0 @2" ∷ "1 BRA S @1" ∷ [])
    ∷ shows "(-5)" [] ("0 MON - #0 @2" ∷ "1 GRP S @1" ∷ "2 END SHOW S @0" ∷ [])
    ∷ shows "A[-1]" (V ∷ []) ("0 MON - #0 @3" ∷ "1 BOX S @2" ∷ "2 VAR A @1" ∷ "3 IDX S @2" ∷ "4 END SHOW S @0" ∷ [])
    ∷ shows "A[1;-2]" (V ∷ []) ("0 MON - #1 @5" ∷ "1 BOX #0 S @2" ∷ "2 VAR A @1" ∷ "3 IDX S @2" ∷ "4 END SHOW S @0" ∷ [])
    ∷ shows "--5" [] ("0 MON - #0 @2" ∷ "1 MON - S @1" ∷ "2 END SHOW S @0" ∷ [])
    ∷ shows "+/-5" [] ("0 MON - #0 @3" ∷ "1 RED + / S @1" ∷ "2 END SHOW S @0" ∷ [])
    ∷ shows "⌽[1]-5" [] ("0 MON - #1 @5" ∷ "1 BOX #0 @2" ∷ "2 MON ⌽ K S @1" ∷ "3 END SHOW S @0" ∷ [])
    ∷ shows "+/[1]-5" [] ("0 MON - #1 @6" ∷ "1 BOX #0 @3" ∷ "2 RED + / K S @1" ∷ "3 END SHOW S @0" ∷ [])
    ∷ []

-- It has one, or what is none stands instead, behind every other item.
abbrev pub left_argument : List Worked
left_argument =
    shows "3-5" [] ("0 DYA - #0 #1 @2" ∷ "1 END SHOW S @0" ∷ [])
    ∷ shows "A-5" (V ∷ []) ("0 VAR A @1" ∷ "1 DYA - S #0 @2" ∷ "2 END SHOW S @0" ∷ [])
    ∷ shows "N-5" (N ∷ []) ("0 NIL N @1" ∷ "1 DYA - S #0 @2" ∷ "2 END SHOW S @0" ∷ [])
    ∷ shows "(3)-5" [] ("0 GRP #0 @1" ∷ "1 DYA - S #1 @4" ∷ "2 END SHOW S @0" ∷ [])
    ∷ shows "A[1]-5" (V ∷ []) ("0 BOX #0 @2" ∷ "1 VAR A @1" ∷ "2 IDX S @2" ∷ "3 DYA - S #1 @5" ∷ "4 END SHOW S @0" ∷ [])
    ∷ shows "(+)-5" [] ("0 FAIL @4" ∷ [])
    ∷ shows "A[+]-5" (V ∷ []) ("0 FAIL @5" ∷ [])
    ∷ shows "1+.-5" [] ("0 INN + - #0 #1 @2" ∷ "1 END SHOW S @0" ∷ [])
    ∷ shows "+.-5" [] ("0 FAIL @3" ∷ [])
    ∷ shows "1∘-5" [] ("0 FAIL @3" ∷ [])
    ∷ shows "⎕-5" [] ("0 FAIL @2" ∷ [])
    ∷ []

-- A value ends where it stands last, or before ) or ] or ; and nowhere else.
abbrev pub ends : List Worked
ends =
    shows "A[-5;1]" (V ∷ []) ("0 MON - #0 @3" ∷ "1 BOX S #1 @2" ∷ "2 VAR A @1" ∷ "3 IDX S @2" ∷ "4 END SHOW S @0" ∷ [])
    ∷ shows "⌽[-1]5" [] ("0 MON - #0 @3" ∷ "1 BOX S @2" ∷ "2 MON ⌽ K #1 @1" ∷ "3 END SHOW S @0" ∷ [])
    ∷ shows "-5 'A'" [] ("0 FAIL @1" ∷ [])
    ∷ shows "-5 A" (V ∷ []) ("0 VAR A @4" ∷ "1 FAIL @1" ∷ [])
    ∷ shows "-5[1]" [] ("0 BOX #1 @3" ∷ "1 IDX #0 @3" ∷ "2 MON - S @1" ∷ "3 END SHOW S @0" ∷ [])
    ∷ shows "-5[1]←3" [] ("0 BOX #1 @3" ∷ "1 FAIL @6" ∷ [])
    ∷ shows "-5[+]" [] ("0 FAIL @5" ∷ [])
    ∷ shows "-5+3" [] ("0 DYA + #0 #1 @3" ∷ "1 MON - S @1" ∷ "2 END SHOW S @0" ∷ [])
    ∷ shows "-5(3)" [] ("0 GRP #1 @3" ∷ "1 FAIL @1" ∷ [])
    ∷ shows "-5()" [] ("0 FAIL @4" ∷ [])
    ∷ shows "-5←3" [] ("0 FAIL @3" ∷ [])
    ∷ shows "-5→3" [] ("0 FAIL @3" ∷ [])
    ∷ shows "-5∘3" [] ("0 FAIL @3" ∷ [])
    ∷ shows "-5 .3" [] ("0 FAIL @4" ∷ [])
    ∷ shows "-5⎕" [] ("0 FAIL @3" ∷ [])
    ∷ shows "-5 A←" (V ∷ []) ("0 FAIL @5" ∷ [])
    ∷ shows "-5 N←" (N ∷ []) ("0 FAIL @5" ∷ [])
    ∷ []

-- F K B.
abbrev pub monadic_with_axis : List Worked
monadic_with_axis =
    shows "⌽[1]A" (V ∷ []) ("0 VAR A @5" ∷ "1 BOX #0 @2" ∷ "2 MON ⌽ K S @1" ∷ "3 END SHOW S @0" ∷ [])
    ∷ shows "F[1]5" (F ∷ []) ("0 BOX #0 @2" ∷ "1 MON F K #1 @1" ∷ "2 END SHOW S @0" ∷ [])
    ∷ shows "⌽[;1]5" [] ("0 BOX - #0 @2" ∷ "1 MON ⌽ K #1 @1" ∷ "2 END SHOW S @0" ∷ [])
    ∷ shows "A⌽[1]5" (V ∷ []) ("0 BOX #0 @3" ∷ "1 VAR A @1" ∷ "2 DYA ⌽ K S #1 @2" ∷ "3 END SHOW S @0" ∷ [])
    ∷ shows "⎕⌽[1]5" [] ("0 BOX #0 @3" ∷ "1 FAIL @3" ∷ [])
    ∷ shows "⌽[1]5 'A'" [] ("0 BOX #0 @2" ∷ "1 FAIL @2" ∷ [])
    ∷ shows "⌽[1]5←3" [] ("0 BOX #0 @2" ∷ "1 FAIL @6" ∷ [])
    ∷ shows "⌽[1]" [] ("0 BOX #0 @2" ∷ "1 FAIL @2" ∷ [])
    ∷ []

-- B F B, where the last B ends.
abbrev pub dyadic : List Worked
dyadic =
    shows "1-2-3" [] ("0 DYA - #1 #2 @4" ∷ "1 DYA - #0 S @2" ∷ "2 END SHOW S @0" ∷ [])
    ∷ shows "1 F 2" (F ∷ []) ("0 DYA F #0 #1 @3" ∷ "1 END SHOW S @0" ∷ [])
    ∷ shows "1 ⎕STOP 'F'" [] ("0 DYA ⎕STOP #0 #1 @3" ∷ "1 END SHOW S @0" ∷ [])
    ∷ shows "A/5" (V ∷ []) ("0 VAR A @1" ∷ "1 DYA / S #0 @2" ∷ "2 END SHOW S @0" ∷ [])
    ∷ shows "(A)\\5" (V ∷ []) ("0 VAR A @2" ∷ "1 GRP S @1" ∷ "2 DYA \\ S #0 @4" ∷ "3 END SHOW S @0" ∷ [])
    ∷ shows "(3-5)" [] ("0 DYA - #0 #1 @3" ∷ "1 GRP S @1" ∷ "2 END SHOW S @0" ∷ [])
    ∷ shows "A[3-5;1]" (V ∷ []) ("0 DYA - #0 #1 @4" ∷ "1 BOX S #2 @2" ∷ "2 VAR A @1" ∷ "3 IDX S @2" ∷ "4 END SHOW S @0" ∷ [])
    ∷ shows "3-5 'A'" [] ("0 FAIL @2" ∷ [])
    ∷ shows "3-5←1" [] ("0 FAIL @4" ∷ [])
    ∷ shows "3-5[1]←1" [] ("0 BOX #2 @4" ∷ "1 FAIL @7" ∷ [])
    ∷ shows "3-" [] ("0 FAIL @2" ∷ [])
    ∷ shows "1⌽[1]5" [] ("0 BOX #1 @3" ∷ "1 DYA ⌽ K #0 #2 @2" ∷ "2 END SHOW S @0" ∷ [])
    ∷ shows "1 F[1]5" (F ∷ []) ("0 BOX #1 @4" ∷ "1 DYA F K #0 #2 @3" ∷ "2 END SHOW S @0" ∷ [])
    ∷ shows "1⌽[1]5 'A'" [] ("0 BOX #1 @3" ∷ "1 FAIL @3" ∷ [])
    ∷ shows "1⌽[1]5←3" [] ("0 BOX #1 @3" ∷ "1 FAIL @7" ∷ [])
    ∷ []
