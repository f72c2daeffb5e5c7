-- Functions of numbers that are the only argument.
use Rattle.std.proofs.Common.{◌≡◌, ◌⊎◌, inl, inr, ℕ, ℤ, pos, List, length, get_or, Ok, ap, sym, ◌∙◌}
use Rattle.std.specs.List.{range_with_len}
use Rattle.apl_arrays.specs.Results.{all_ok}
use Rattle.apl_scalar.specs.declared.function.Monadic.{Monadic}
use Rattle.apl_scalar.specs.declared.function.Monadic.TheVariants as one
use Rattle.apl_scalar.specs.Functions.{monadic_of}
use Rattle.apl_scalar.specs.Operands.{Shown, Same, Each, number_at, values_of}

-- the values at the places of such numbers
pub only_values : (f g : Monadic) (a b : Shown) (zs : List ℤ) (n : ℕ) → f ≡ g → a ≡ Same (pos 0) → b ≡ Each zs → n ≡ length zs →
    all_ok (λ k. monadic_of f (get_or zs k (pos 0))) (range_with_len 0 (length zs)) ≡ values_of (λ _ y. monadic_of g y) (number_at a) (number_at b) n
only_values f g a b zs n d e s h =
    ap (λ (m : Monadic). all_ok (λ k. monadic_of m (get_or zs k (pos 0))) (range_with_len 0 (length zs))) d
    ∙ sym (ap (λ (t : Shown). values_of (λ _ y. monadic_of g y) (number_at a) (number_at t) n) s ∙ ap (λ (m : ℕ). values_of (λ _ y. monadic_of g y) (number_at a) (number_at (Each zs)) m) h)

-- the functions that give a number itself
pub itself : (f : Monadic) (y : ℤ) → (f ≡ one.Plus) ⊎ ((f ≡ one.Ceiling) ⊎ (f ≡ one.Floor)) → monadic_of f y ≡ Ok y
itself f y (inl e) = ap (λ (m : Monadic). monadic_of m y) e
itself f y (inr (inl e)) = ap (λ (m : Monadic). monadic_of m y) e
itself f y (inr (inr e)) = ap (λ (m : Monadic). monadic_of m y) e
