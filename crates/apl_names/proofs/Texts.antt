-- When names are equal, and which comes first.
use Rattle.std.proofs.Common.{◌≡◌, Bool, true, false, refl, sym, ap, subst, ◌∙◌, true≢false}
use Rattle.std.specs.declared.cmp.Ordering.TheVariants.{Less, Equal, Greater}
use Rattle.std.specs.Ordering.{ordering_reverse, is_lt}
use Rattle.std.specs.Str.{bytes_eq}
use Rattle.std.proofs.lemmas.Cmp.{nat_list_cmp_total, nat_list_eq_equiv, tied_itself}
use Rattle.std.proofs.lemmas.Slice.Eq.{bytes_eq-Decides}
use Rattle.std.proofs.lemmas.Map.Lookups.{exact_bytes}
use Rattle.apl_names.specs.Maps.{Text, name_cmp}

pub same : (a b : Text) → bytes_eq a b ≡ true → a ≡ b
same a b = (bytes_eq-Decides a b).0

pub itself : (a : Text) → bytes_eq a a ≡ true
itself a = (bytes_eq-Decides a a).1 refl

pub flip : (a b : Text) → bytes_eq a b ≡ bytes_eq b a
flip a b = let laws = nat_list_eq_equiv in laws.symm a b

pub differ : (a b : Text) → (a ≡ b → ⊥) → bytes_eq a b ≡ false
differ a b ne = by (bytes_eq a b) refl
  where
    by : (c : Bool) → bytes_eq a b ≡ c → c ≡ false
    by true e = absurd (ne (same a b e))
    by false e = refl

pub equal : (a b : Text) → name_cmp a b ≡ Equal → a ≡ b
equal a b = exact_bytes a b

pub not_below : (a : Text) → name_cmp a a ≡ Less → ⊥
not_below a e = true≢false (sym (ap is_lt e) ∙ ap is_lt (tied_itself nat_list_cmp_total a))

pub apart : (a b : Text) → name_cmp a b ≡ Less → bytes_eq a b ≡ false
apart a b e = differ a b (λ p. not_below b (subst (λ (x : Text). name_cmp x b ≡ Less) p e))

pub chain : (a b c : Text) → name_cmp a b ≡ Less → name_cmp b c ≡ Less → name_cmp a c ≡ Less
chain a b c = let o = nat_list_cmp_total in o.trans a b c

pub turned : (a b : Text) → name_cmp a b ≡ Greater → name_cmp b a ≡ Less
turned a b e = let o = nat_list_cmp_total in o.antisymm b a ∙ ap ordering_reverse e
