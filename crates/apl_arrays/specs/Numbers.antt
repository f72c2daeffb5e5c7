-- The numbers of a list, whatever type stores them.
use Rattle.std.specs.Prelude.{ℤ, List}
use Rattle.apl_arrays.specs.declared.numbers.NumberSlice.{NumberSlice}
use Rattle.apl_arrays.specs.declared.numbers.NumberSlice.TheVariants as lies
use Rattle.apl_arrays.specs.declared.numbers.NumberVec.{NumberVec}
use Rattle.apl_arrays.specs.declared.numbers.NumberVec.TheVariants as kept
use Rattle.apl_arrays.specs.declared.both.Typed.{Typed}
use Rattle.apl_arrays.specs.declared.both.Typed.TheVariants.{One, Lies, Made}
use Rattle.apl_arrays.specs.declared.both.Own.{Own}
use Rattle.apl_arrays.specs.declared.both.Own.TheVariants as own
use Rattle.apl_arrays.specs.declared.both.Both.{Both}
use Rattle.apl_arrays.specs.declared.both.Both.TheVariants as both

-- where they lie
abbrev pub values : NumberSlice → List ℤ
values (lies.I8 zs) = zs.now
values (lies.I32 zs) = zs.now
values (lies.I64 zs) = zs.now

-- that are kept
abbrev pub kept_values : NumberVec → List ℤ
kept_values (kept.I8 v) = v.items
kept_values (kept.I32 v) = v.items
kept_values (kept.I64 v) = v.items

-- of one type
abbrev pub typed_items : {A : Type 0} → Typed A → List A
typed_items (One xs) = xs
typed_items (Lies xs) = xs.now
typed_items (Made v) = v.items

-- of one list
abbrev pub own_values : Own → List ℤ
own_values (own.I8 v) = typed_items v
own_values (own.I32 v) = typed_items v
own_values (own.I64 v) = typed_items v

-- the first of two lists
abbrev pub firsts : Both → List ℤ
firsts (both.I8 a b) = typed_items a
firsts (both.I32 a b) = typed_items a
firsts (both.I64 a b) = typed_items a

-- the second
abbrev pub seconds : Both → List ℤ
seconds (both.I8 a b) = typed_items b
seconds (both.I32 a b) = typed_items b
seconds (both.I64 a b) = typed_items b
