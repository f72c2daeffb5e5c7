-- Lines with each phrase whose last value must end, and the listings of their codes.
use Rattle.std.specs.Prelude.{List, [], ◌∷◌}
use Rattle.apl_symbols.specs.declared.class.Class.TheVariants.{Variable as V}
use Rattle.apl_line_laws.specs.Codes.{Worked, shows}

-- Each phrase whose last value must end, before ; and ] and the ] of an axis and ).
abbrev pub before_closing_items : List Worked
before_closing_items =
    shows "A[-5;-5],⌽[-5](-5)" (V ∷ [])
    ("0 MON - #3 @16" ∷ "1 GRP S @15" ∷ "2 MON - #2 @12" ∷ "3 BOX S @11" ∷ "4 MON ⌽ K S @10" ∷ "5 MON - #1 @6" ∷ "6 MON - #0 @3"
    ∷ "7 BOX S S @2" ∷ "8 VAR A @1" ∷ "9 IDX S @2" ∷ "10 DYA , S S @9" ∷ "11 END SHOW S @0" ∷ [])
    ∷ shows "A[⌽[1]5;⌽[1]5],⌽[⌽[1]5](⌽[1]5)" (V ∷ [])
    ("0 BOX #6 @26" ∷ "1 MON ⌽ K #7 @25" ∷ "2 GRP S @24" ∷ "3 BOX #4 @19" ∷ "4 MON ⌽ K #5 @18" ∷ "5 BOX S @17" ∷ "6 MON ⌽ K S @16"
    ∷ "7 BOX #2 @10" ∷ "8 MON ⌽ K #3 @9" ∷ "9 BOX #0 @4" ∷ "10 MON ⌽ K #1 @3" ∷ "11 BOX S S @2" ∷ "12 VAR A @1" ∷ "13 IDX S @2"
    ∷ "14 DYA , S S @15" ∷ "15 END SHOW S @0" ∷ [])
    ∷ shows "A[3-5;3-5],⌽[3-5](3-5)" (V ∷ [])
    ("0 DYA - #6 #7 @20" ∷ "1 GRP S @18" ∷ "2 DYA - #4 #5 @15" ∷ "3 BOX S @13" ∷ "4 MON ⌽ K S @12" ∷ "5 DYA - #2 #3 @8"
    ∷ "6 DYA - #0 #1 @4" ∷ "7 BOX S S @2" ∷ "8 VAR A @1" ∷ "9 IDX S @2" ∷ "10 DYA , S S @11" ∷ "11 END SHOW S @0" ∷ [])
    ∷ shows "A[3⌽[1]5;3⌽[1]5],⌽[3⌽[1]5](3⌽[1]5)" (V ∷ [])
    ("0 BOX #10 @30" ∷ "1 DYA ⌽ K #9 #11 @29" ∷ "2 GRP S @27" ∷ "3 BOX #7 @22" ∷ "4 DYA ⌽ K #6 #8 @21" ∷ "5 BOX S @19"
    ∷ "6 MON ⌽ K S @18" ∷ "7 BOX #4 @12" ∷ "8 DYA ⌽ K #3 #5 @11" ∷ "9 BOX #1 @5" ∷ "10 DYA ⌽ K #0 #2 @4" ∷ "11 BOX S S @2"
    ∷ "12 VAR A @1" ∷ "13 IDX S @2" ∷ "14 DYA , S S @17" ∷ "15 END SHOW S @0" ∷ [])
    ∷ shows "A[+/5;+/5],⌽[+/5](+/5)" (V ∷ [])
    ("0 RED + / #3 @19" ∷ "1 GRP S @18" ∷ "2 RED + / #2 @14" ∷ "3 BOX S @13" ∷ "4 MON ⌽ K S @12" ∷ "5 RED + / #1 @7"
    ∷ "6 RED + / #0 @3" ∷ "7 BOX S S @2" ∷ "8 VAR A @1" ∷ "9 IDX S @2" ∷ "10 DYA , S S @11" ∷ "11 END SHOW S @0" ∷ [])
    ∷ shows "A[+/[1]5;+/[1]5],⌽[+/[1]5](+/[1]5)" (V ∷ [])
    ("0 BOX #6 @30" ∷ "1 RED + / K #7 @28" ∷ "2 GRP S @27" ∷ "3 BOX #4 @22" ∷ "4 RED + / K #5 @20" ∷ "5 BOX S @19" ∷ "6 MON ⌽ K S @18"
    ∷ "7 BOX #2 @12" ∷ "8 RED + / K #3 @10" ∷ "9 BOX #0 @5" ∷ "10 RED + / K #1 @3" ∷ "11 BOX S S @2" ∷ "12 VAR A @1" ∷ "13 IDX S @2"
    ∷ "14 DYA , S S @17" ∷ "15 END SHOW S @0" ∷ [])
    ∷ shows "A[1+.×2;1+.×2],⌽[1+.×2](1+.×2)" (V ∷ [])
    ("0 INN + × #6 #7 @26" ∷ "1 GRP S @24" ∷ "2 INN + × #4 #5 @19" ∷ "3 BOX S @17" ∷ "4 MON ⌽ K S @16" ∷ "5 INN + × #2 #3 @10"
    ∷ "6 INN + × #0 #1 @4" ∷ "7 BOX S S @2" ∷ "8 VAR A @1" ∷ "9 IDX S @2" ∷ "10 DYA , S S @15" ∷ "11 END SHOW S @0" ∷ [])
    ∷ shows "A[1∘.+2;1∘.+2],⌽[1∘.+2](1∘.+2)" (V ∷ [])
    ("0 OUT + #6 #7 @26" ∷ "1 GRP S @24" ∷ "2 OUT + #4 #5 @19" ∷ "3 BOX S @17" ∷ "4 MON ⌽ K S @16" ∷ "5 OUT + #2 #3 @10"
    ∷ "6 OUT + #0 #1 @4" ∷ "7 BOX S S @2" ∷ "8 VAR A @1" ∷ "9 IDX S @2" ∷ "10 DYA , S S @15" ∷ "11 END SHOW S @0" ∷ [])
    ∷ shows "A[B←5;B←5],⌽[B←5](B←5)" (V ∷ V ∷ V ∷ V ∷ V ∷ [])
    ("0 SET B #3 @20" ∷ "1 GRP S @18" ∷ "2 SET B #2 @15" ∷ "3 BOX S @13" ∷ "4 MON ⌽ K S @12" ∷ "5 SET B #1 @8" ∷ "6 SET B #0 @4"
    ∷ "7 BOX S S @2" ∷ "8 VAR A @1" ∷ "9 IDX S @2" ∷ "10 DYA , S S @11" ∷ "11 END SHOW S @0" ∷ [])
    ∷ shows "A[B[1]←5;B[1]←5],⌽[B[1]←5](B[1]←5)" (V ∷ V ∷ V ∷ V ∷ V ∷ [])
    ("0 BOX #6 @29" ∷ "1 SETX B #7 @32" ∷ "2 GRP S @27" ∷ "3 BOX #4 @21" ∷ "4 SETX B #5 @24" ∷ "5 BOX S @19" ∷ "6 MON ⌽ K S @18"
    ∷ "7 BOX #2 @11" ∷ "8 SETX B #3 @14" ∷ "9 BOX #0 @4" ∷ "10 SETX B #1 @7" ∷ "11 BOX S S @2" ∷ "12 VAR A @1" ∷ "13 IDX S @2"
    ∷ "14 DYA , S S @17" ∷ "15 END SHOW S @0" ∷ [])
    ∷ shows "A[⎕←5;⎕←5],⌽[⎕←5](⎕←5)" (V ∷ [])
    ("0 SHOW #3 @20" ∷ "1 GRP S @18" ∷ "2 SHOW #2 @15" ∷ "3 BOX S @13" ∷ "4 MON ⌽ K S @12" ∷ "5 SHOW #1 @8" ∷ "6 SHOW #0 @4"
    ∷ "7 BOX S S @2" ∷ "8 VAR A @1" ∷ "9 IDX S @2" ∷ "10 DYA , S S @11" ∷ "11 END SHOW S @0" ∷ [])
    ∷ []

-- Each of them before a function, where it doesn't begin.
abbrev pub before_a_function : List Worked
before_a_function =
    shows "-5+" [] ("0 FAIL @3" ∷ [])
    ∷ shows "⌽[1]5+" [] ("0 BOX #0 @2" ∷ "1 FAIL @6" ∷ [])
    ∷ shows "3-5+" [] ("0 FAIL @4" ∷ [])
    ∷ shows "3⌽[1]5+" [] ("0 BOX #1 @3" ∷ "1 FAIL @7" ∷ [])
    ∷ shows "+/5+" [] ("0 FAIL @4" ∷ [])
    ∷ shows "+/[1]5+" [] ("0 BOX #0 @3" ∷ "1 FAIL @7" ∷ [])
    ∷ shows "1+.×2+" [] ("0 FAIL @6" ∷ [])
    ∷ shows "1∘.+2+" [] ("0 FAIL @6" ∷ [])
    ∷ shows "B←5+" (V ∷ []) ("0 FAIL @4" ∷ [])
    ∷ shows "B[1]←5+" (V ∷ []) ("0 BOX #0 @2" ∷ "1 FAIL @7" ∷ [])
    ∷ shows "⎕←5+" [] ("0 FAIL @4" ∷ [])
    ∷ []
