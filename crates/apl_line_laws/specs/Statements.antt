-- Lines that are worked through, with the listings of their codes.
use Rattle.std.specs.Prelude.{List, [], ◌∷◌}
use Rattle.apl_symbols.specs.declared.class.Class.TheVariants.{Variable as V, Niladic as N, Function as F}
use Rattle.apl_line_laws.specs.Codes.{Worked, shows}

-- Lines that are worked through: the numbers of constants, the columns, where an operand comes from, and how a line ends.
abbrev pub statements : List Worked
statements =
    shows "(2+3)×4" [] ("0 DYA + #0 #1 @3" ∷ "1 GRP S @1" ∷ "2 DYA × S #2 @6" ∷ "3 END SHOW S @0" ∷ [])
    ∷ shows "Z←N×FACT N-1" (V ∷ V ∷ F ∷ V ∷ [])
    ("0 VAR N @10" ∷ "1 DYA - S #0 @11" ∷ "2 MON FACT S @5" ∷ "3 VAR N @3" ∷ "4 DYA × S S @4" ∷ "5 SET Z S @2" ∷ "6 END HIDE S @0" ∷ [])
    ∷ shows "→(N≤0)/0" (V ∷ []) ("0 VAR N @3" ∷ "1 DYA ≤ S #0 @4" ∷ "2 GRP S @2" ∷ "3 DYA / S #1 @7" ∷ "4 BRA S @1" ∷ [])
    ∷ shows "+/[1]2 2⍴⍳4" [] ("0 MON ⍳ #2 @10" ∷ "1 DYA ⍴ #1 S @9" ∷ "2 BOX #0 @3" ∷ "3 RED + / K S @1" ∷ "4 END SHOW S @0" ∷ [])
    ∷ shows "(FACT 21)+2×5" (F ∷ []) ("0 DYA × #1 #2 @12" ∷ "1 MON FACT #0 @2" ∷ "2 GRP S @1" ∷ "3 DYA + S S @10" ∷ "4 END SHOW S @0" ∷ [])
    ∷ shows "⍎'2+3'" [] ("0 MON ⍎ #0 @1" ∷ "1 END SHOW S @0" ∷ [])
    ∷ shows "L" (N ∷ []) ("0 NIL L @1" ∷ "1 END SHOW S @0" ∷ [])
    ∷ shows "FACT 21" (F ∷ []) ("0 MON FACT #0 @1" ∷ "1 END SHOW S @0" ∷ [])
    ∷ shows "L:Z←Z+N" (V ∷ V ∷ V ∷ []) ("0 VAR N @7" ∷ "1 VAR Z @5" ∷ "2 DYA + S S @6" ∷ "3 SET Z S @4" ∷ "4 END HIDE S @0" ∷ [])
    ∷ shows "→(N>0)/L" (V ∷ V ∷ []) ("0 VAR L @8" ∷ "1 VAR N @3" ∷ "2 DYA > S #0 @4" ∷ "3 GRP S @2" ∷ "4 DYA / S S @7" ∷ "5 BRA S @1" ∷ [])
    ∷ shows "A B←5" (V ∷ V ∷ []) ("0 SET B #0 @4" ∷ "1 VAR A @1" ∷ "2 FAIL @4" ∷ [])
    ∷ shows "2+3+" [] ("0 FAIL @4" ∷ [])
    ∷ shows "M∘.∨FACT M" (V ∷ F ∷ V ∷ []) ("0 VAR M @10" ∷ "1 MON FACT S @5" ∷ "2 VAR M @1" ∷ "3 OUT ∨ S S @2" ∷ "4 END SHOW S @0" ∷ [])
    ∷ shows "(⍳1)⍉⍎'V'" [] ("0 MON ⍎ #1 @6" ∷ "1 MON ⍳ #0 @2" ∷ "2 GRP S @1" ∷ "3 DYA ⍉ S S @5" ∷ "4 END SHOW S @0" ∷ [])
    ∷ shows "∨⍀¯3⌿A" (V ∷ []) ("0 VAR A @6" ∷ "1 DYA ⌿ #0 S @5" ∷ "2 SCN ∨ ⍀ S @1" ∷ "3 END SHOW S @0" ∷ [])
    ∷ shows "⍳R 'IT''S'" (F ∷ []) ("0 MON R #0 @2" ∷ "1 MON ⍳ S @1" ∷ "2 END SHOW S @0" ∷ [])
    ∷ shows "V F '1'" (V ∷ F ∷ []) ("0 VAR V @1" ∷ "1 DYA F S #0 @3" ∷ "2 END SHOW S @0" ∷ [])
    ∷ shows "M⊤÷H" (V ∷ N ∷ []) ("0 NIL H @4" ∷ "1 MON ÷ S @3" ∷ "2 VAR M @1" ∷ "3 DYA ⊤ S S @2" ∷ "4 END SHOW S @0" ∷ [])
    ∷ shows "→(0=1↑,X)/3" (V ∷ [])
    ("0 VAR X @8" ∷ "1 MON , S @7" ∷ "2 DYA ↑ #1 S @6" ∷ "3 DYA = #0 S @4" ∷ "4 GRP S @2" ∷ "5 DYA / S #2 @10" ∷ "6 BRA S @1" ∷ [])
    ∷ shows "'∆⍴'<1 21×⎕IO" [] ("0 VAR ⎕IO @11" ∷ "1 DYA × #1 S @10" ∷ "2 DYA < #0 S @5" ∷ "3 END SHOW S @0" ∷ [])
    ∷ shows "×[3](2 1 3⍴1 0)" [] ("0 DYA ⍴ #1 #2 @11" ∷ "1 GRP S @5" ∷ "2 BOX #0 @2" ∷ "3 MON × K S @1" ∷ "4 END SHOW S @0" ∷ [])
    ∷ shows "M[1]←LOOP (⍳3)∊A" (V ∷ F ∷ V ∷ [])
    ("0 VAR A @16" ∷ "1 MON ⍳ #1 @12" ∷ "2 GRP S @11" ∷ "3 DYA ∊ S S @15" ∷ "4 MON LOOP S @6" ∷ "5 BOX #0 @2" ∷ "6 SETX M S @5"
    ∷ "7 END HIDE S @0" ∷ [])
    ∷ shows "M[1 1;⍳0;1 2]←G V" (V ∷ F ∷ V ∷ [])
    ("0 VAR V @17" ∷ "1 MON G S @15" ∷ "2 MON ⍳ #1 @7" ∷ "3 BOX #0 S #2 @2" ∷ "4 SETX M S @14" ∷ "5 END HIDE S @0" ∷ [])
    ∷ shows "M[3]⌊-⌿¯1 ¯3 ¯1 1" (V ∷ [])
    ("0 RED - ⌿ #1 @6" ∷ "1 BOX #0 @2" ∷ "2 VAR M @1" ∷ "3 IDX S @2" ∷ "4 DYA ⌊ S S @5" ∷ "5 END SHOW S @0" ∷ [])
    ∷ shows "⎕←(⎕IO×2)-(⎕IO)∊[0]R (⍳6)" (F ∷ [])
    ("0 MON ⍳ #2 @23" ∷ "1 GRP S @22" ∷ "2 MON R S @20" ∷ "3 BOX #1 @17" ∷ "4 VAR ⎕IO @12" ∷ "5 GRP S @11" ∷ "6 DYA ∊ K S S @16"
    ∷ "7 VAR ⎕IO @4" ∷ "8 DYA × S #0 @7" ∷ "9 GRP S @3" ∷ "10 DYA - S S @10" ∷ "11 SHOW S @2" ∷ "12 END HIDE S @0" ∷ [])
    ∷ shows "A←¯1 1 ¯2 7⌊.∧(0 2⍴1 0)-'∆⍴'" (V ∷ [])
    ("0 DYA ⍴ #1 #2 @19" ∷ "1 GRP S @15" ∷ "2 DYA - S #3 @24" ∷ "3 INN ⌊ ∧ #0 S @12" ∷ "4 SET A S @2" ∷ "5 END HIDE S @0" ∷ [])
    ∷ shows "F |\\[1 2]3037000500" (V ∷ []) ("0 BOX #0 @5" ∷ "1 VAR F @1" ∷ "2 FAIL @5" ∷ [])
    ∷ shows "L:(4 4611686018427387904)<[1 2]⍎'(4⍴3 1 2)'" []
    ("0 MON ⍎ #2 @32" ∷ "1 BOX #1 @27" ∷ "2 GRP #0 @3" ∷ "3 DYA < K S S @26" ∷ "4 END SHOW S @0" ∷ [])
    ∷ []
