-- Lines with operators, and the listings of their codes: where reductions, scans and products begin, and where they don't.
use Rattle.std.specs.Prelude.{List, [], ◌∷◌}
use Rattle.apl_symbols.specs.declared.class.Class.TheVariants.{Variable as V, Function as F}
use Rattle.apl_line_laws.specs.Codes.{Worked, shows}

-- F M B and F M K B: without a left argument, F scalar dyadic, where B ends.
abbrev pub reductions : List Worked
reductions =
    shows "+/5" [] ("0 RED + / #0 @1" ∷ "1 END SHOW S @0" ∷ [])
    ∷ shows "-⌿5" [] ("0 RED - ⌿ #0 @1" ∷ "1 END SHOW S @0" ∷ [])
    ∷ shows "×\\5" [] ("0 SCN × \\ #0 @1" ∷ "1 END SHOW S @0" ∷ [])
    ∷ shows "⌈⍀5" [] ("0 SCN ⌈ ⍀ #0 @1" ∷ "1 END SHOW S @0" ∷ [])
    ∷ shows "A←+/5" (V ∷ []) ("0 RED + / #0 @3" ∷ "1 SET A S @2" ∷ "2 END HIDE S @0" ∷ [])
    ∷ shows "+/×/5" [] ("0 RED × / #0 @3" ∷ "1 RED + / S @1" ∷ "2 END SHOW S @0" ∷ [])
    ∷ shows "+//5" [] ("0 MON / #0 @3" ∷ "1 RED + / S @1" ∷ "2 END SHOW S @0" ∷ [])
    ∷ shows "⍴/5" [] ("0 FAIL @2" ∷ [])
    ∷ shows "F/5" (F ∷ []) ("0 FAIL @2" ∷ [])
    ∷ shows "⎕NC/5" [] ("0 FAIL @4" ∷ [])
    ∷ shows "//5" [] ("0 FAIL @2" ∷ [])
    ∷ shows "~/5" [] ("0 FAIL @2" ∷ [])
    ∷ shows "!/5" [] ("0 FAIL @2" ∷ [])
    ∷ shows "1+/5" [] ("0 FAIL @3" ∷ [])
    ∷ shows "A+/5" (V ∷ []) ("0 VAR A @1" ∷ "1 FAIL @3" ∷ [])
    ∷ shows "+/5 'A'" [] ("0 FAIL @2" ∷ [])
    ∷ shows "+/5←3" [] ("0 FAIL @4" ∷ [])
    ∷ shows "+/[1]A" (V ∷ []) ("0 VAR A @6" ∷ "1 BOX #0 @3" ∷ "2 RED + / K S @1" ∷ "3 END SHOW S @0" ∷ [])
    ∷ shows "+\\[1]5" [] ("0 BOX #0 @3" ∷ "1 SCN + \\ K #1 @1" ∷ "2 END SHOW S @0" ∷ [])
    ∷ shows "⍴/[1]5" [] ("0 BOX #0 @3" ∷ "1 FAIL @3" ∷ [])
    ∷ shows "1+/[1]5" [] ("0 BOX #1 @4" ∷ "1 FAIL @4" ∷ [])
    ∷ shows "+/[1]5 'A'" [] ("0 BOX #0 @3" ∷ "1 FAIL @3" ∷ [])
    ∷ shows "+/[1]5←3" [] ("0 BOX #0 @3" ∷ "1 FAIL @7" ∷ [])
    ∷ []

-- B F . F B: both scalar dyadic, where the last B ends.
abbrev pub inner_products : List Worked
inner_products =
    shows "A+.×B" (V ∷ V ∷ []) ("0 VAR B @5" ∷ "1 VAR A @1" ∷ "2 INN + × S S @2" ∷ "3 END SHOW S @0" ∷ [])
    ∷ shows "1∧.=2" [] ("0 INN ∧ = #0 #1 @2" ∷ "1 END SHOW S @0" ∷ [])
    ∷ shows "(1+.×2)" [] ("0 INN + × #0 #1 @3" ∷ "1 GRP S @1" ∷ "2 END SHOW S @0" ∷ [])
    ∷ shows "1⍴.+2" [] ("0 FAIL @4" ∷ [])
    ∷ shows "1+.⍴2" [] ("0 FAIL @4" ∷ [])
    ∷ shows "1 F.+2" (F ∷ []) ("0 FAIL @5" ∷ [])
    ∷ shows "1+.F 2" (F ∷ []) ("0 FAIL @4" ∷ [])
    ∷ shows "1+.×2 'A'" [] ("0 FAIL @4" ∷ [])
    ∷ shows "1+.×2←3" [] ("0 FAIL @6" ∷ [])
    ∷ shows "1+.2" [] ("0 FAIL @3" ∷ [])
    ∷ shows "1.×2" [] ("0 FAIL @3" ∷ [])
    ∷ []

-- B ∘ . F B: F scalar dyadic, where the last B ends.
abbrev pub outer_products : List Worked
outer_products =
    shows "1∘.+2" [] ("0 OUT + #0 #1 @2" ∷ "1 END SHOW S @0" ∷ [])
    ∷ shows "A∘.×B" (V ∷ V ∷ []) ("0 VAR B @5" ∷ "1 VAR A @1" ∷ "2 OUT × S S @2" ∷ "3 END SHOW S @0" ∷ [])
    ∷ shows "(1∘.+2)" [] ("0 OUT + #0 #1 @3" ∷ "1 GRP S @1" ∷ "2 END SHOW S @0" ∷ [])
    ∷ shows "1∘.⍴2" [] ("0 FAIL @4" ∷ [])
    ∷ shows "1∘.F 2" (F ∷ []) ("0 FAIL @4" ∷ [])
    ∷ shows "1∘.+2 'A'" [] ("0 FAIL @4" ∷ [])
    ∷ shows "1∘.+2←3" [] ("0 FAIL @6" ∷ [])
    ∷ shows "∘.+2" [] ("0 FAIL @3" ∷ [])
    ∷ shows "1∘+2" [] ("0 FAIL @3" ∷ [])
    ∷ []
