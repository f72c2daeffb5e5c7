-- The numbers of what a call refuses.
use Rattle.std.specs.Prelude.{ℕ}
use Rattle.apl_page.specs.declared.refusal.Refusal.{Refusal}
use Rattle.apl_page.specs.declared.refusal.Refusal.TheVariants.{Memory, Running, NoFunction}

abbrev pub refusal_number : Refusal → ℕ
refusal_number Memory = 8
refusal_number Running = 16
refusal_number NoFunction = 18
