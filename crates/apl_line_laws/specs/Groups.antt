-- Lines with parentheses and brackets, and the listings of their codes: where the phrases ( B ) and [ e ; .. ; e ] begin, and where they don't.
use Rattle.std.specs.Prelude.{List, [], ◌∷◌}
use Rattle.apl_symbols.specs.declared.class.Class.TheVariants.{Variable as V}
use Rattle.apl_line_laws.specs.Codes.{Worked, shows}

-- ( B ): no more and no less stands between the parentheses.
abbrev pub groups : List Worked
groups =
    shows "(5)" [] ("0 GRP #0 @1" ∷ "1 END SHOW S @0" ∷ [])
    ∷ shows "(A←5)" (V ∷ []) ("0 SET A #0 @3" ∷ "1 GRP S @1" ∷ "2 END SHOW S @0" ∷ [])
    ∷ shows "()" [] ("0 FAIL @2" ∷ [])
    ∷ shows "(1 'A')" [] ("0 FAIL @7" ∷ [])
    ∷ shows "(+)" [] ("0 FAIL @3" ∷ [])
    ∷ shows "(A)←5" (V ∷ []) ("0 VAR A @2" ∷ "1 GRP S @1" ∷ "2 FAIL @4" ∷ [])
    ∷ []

-- [ e ; .. ; e ]: each slot is one value or empty. An index list by itself is no value.
abbrev pub index_lists : List Worked
index_lists =
    shows "A[1;2]" (V ∷ []) ("0 BOX #0 #1 @2" ∷ "1 VAR A @1" ∷ "2 IDX S @2" ∷ "3 END SHOW S @0" ∷ [])
    ∷ shows "A[;]" (V ∷ []) ("0 BOX - - @2" ∷ "1 VAR A @1" ∷ "2 IDX S @2" ∷ "3 END SHOW S @0" ∷ [])
    ∷ shows "A[]" (V ∷ []) ("0 BOX - @2" ∷ "1 VAR A @1" ∷ "2 IDX S @2" ∷ "3 END SHOW S @0" ∷ [])
    ∷ shows "A[1;]" (V ∷ []) ("0 BOX #0 - @2" ∷ "1 VAR A @1" ∷ "2 IDX S @2" ∷ "3 END SHOW S @0" ∷ [])
    ∷ shows "A[;1]" (V ∷ []) ("0 BOX - #0 @2" ∷ "1 VAR A @1" ∷ "2 IDX S @2" ∷ "3 END SHOW S @0" ∷ [])
    ∷ shows "A[1 'B']" (V ∷ []) ("0 FAIL @8" ∷ [])
    ∷ shows "A[1;2 'B';]" (V ∷ []) ("0 FAIL @11" ∷ [])
    ∷ shows "A[+]" (V ∷ []) ("0 FAIL @4" ∷ [])
    ∷ shows "[1]" [] ("0 BOX #0 @1" ∷ "1 FAIL @1" ∷ [])
    ∷ shows "1 2 3[2]" [] ("0 BOX #1 @6" ∷ "1 IDX #0 @6" ∷ "2 END SHOW S @0" ∷ [])
    ∷ shows "A[B[1]]" (V ∷ V ∷ [])
    ("0 BOX #0 @4" ∷ "1 VAR B @3" ∷ "2 IDX S @4" ∷ "3 BOX S @2" ∷ "4 VAR A @1" ∷ "5 IDX S @2" ∷ "6 END SHOW S @0" ∷ [])
    ∷ []
