-- The numbers of the faults.
use Rattle.std.specs.Prelude.{◌≡◌, ◌≢◌, ℕ}
use Rattle.apl_loading.specs.declared.error.LoadFault.{LoadFault}
use Rattle.apl_loading.specs.declared.error.LoadFault.TheVariants.{Array, Definition, Context, Code, Limit, Memory}

abbrev pub fault_number : LoadFault → ℕ
fault_number Array = 3
fault_number Definition = 4
fault_number Context = 5
fault_number Code = 6
fault_number Limit = 7
fault_number Memory = 8

-- For private clauses: unless memory ran out, this fault is answered, and nothing is as asked.
abbrev pub Refuses : {P : Type 0} → LoadFault → (P → Type 0) → LoadFault → Type 0
Refuses fault Is e = e ≢ Memory → (e ≡ fault) × ((p : _) → ¬ Is p)
