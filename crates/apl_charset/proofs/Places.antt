-- Places compare as the characters there do.
use Rattle.std.proofs.Common.{◌≡◌, ◌==◌, ℕ, zero, suc, ◌<◌, ◌+◌, true, false, List, [], ◌∷◌, length, take, refl, sym, ap, ◌∙◌, ltb, eqb, arith, inl, inr, subst, Ordering, Less, Equal, Greater}
use Rattle.std.specs.Prelude.{slice_index_or}
use Rattle.std.specs.List.{list_any}
use Rattle.std.specs.Ordering.{nat_cmp, MatchOrdering, is_eq}
use Rattle.std.specs.Cmp.{ranks, nat_cmp_is, unsigned_ties}
use Rattle.std.proofs.lemmas.Bool.{agree_below_at, ltb-true, eqb-true, cases_order, or_parts, or_from}
use Rattle.apl_charset.specs.Set.{is_member, symbols}
use Rattle.apl_charset.specs.inside.Places.{member_at}

-- what stands at a place is in the set
pub place_member : (p : ℕ) → p < 131 → is_member (member_at p) ≡ true
unfolding is_member
place_member p h = agree_below_at (λ q. is_member (member_at q)) (λ q. true) 131 p refl h

next_larger : (p : ℕ) → p < 130 → member_at p < member_at (suc p)
next_larger p h = ltb-true _ _ (agree_below_at (λ q. ltb (member_at q) (member_at (suc q))) (λ q. true) 130 p refl h)

pub rises : (p q : ℕ) → p < q → q < 131 → member_at p < member_at q
rises p zero lt h = absurd (omega (arith, lt))
rises p (suc q) lt h =
    elim (cases_order p q) [
      | inl same ↦ rw same (next_larger q (omega arith))
      | inr (inl below) ↦ omega (arith, rises p q below (omega arith), next_larger q (omega arith))
      | inr (inr above) ↦ absurd (omega arith)
    ]

ranked : (p q : ℕ) (r : Ordering) → p < 131 → q < 131 → MatchOrdering r (p < q) (p ≡ q) (q < p) → MatchOrdering r (member_at p < member_at q) (member_at p ≡ member_at q) (member_at q < member_at p)
ranked p q Less hp hq h = rises p q h hq
ranked p q Equal hp hq h = ap member_at h
ranked p q Greater hp hq h = rises q p h hp

pub places_compare : (p q : ℕ) → p < 131 → q < 131 → nat_cmp p q ≡ nat_cmp (member_at p) (member_at q)
places_compare p q hp hq = nat_cmp_is (member_at p) (member_at q) (nat_cmp p q) (ranked p q (nat_cmp p q) hp hq (ranks p q))

pub places_equal : (p q : ℕ) → p < 131 → q < 131 → (p == q) ≡ (member_at p == member_at q)
places_equal p q hp hq = unsigned_ties p q ∙ ap is_eq (places_compare p q hp hq) ∙ sym (unsigned_ties (member_at p) (member_at q))

-- the place among the symbols, and the one among all members
pub symbol_stands : (k c : ℕ) → k < 36 → slice_index_or symbols k 0 ≡ c → (member_at (95 + k) ≡ c) × (is_member c ≡ true)
unfolding is_member
symbol_stands k c h e =
    let same : member_at (95 + k) ≡ slice_index_or symbols k 0 = eqb-true _ _ (agree_below_at (λ q. eqb (member_at (95 + q)) (slice_index_or symbols q 0)) (λ q. true) 36 k refl h) in
    let in_set : is_member (slice_index_or symbols k 0) ≡ true = agree_below_at (λ q. is_member (slice_index_or symbols q 0)) (λ q. true) 36 k refl h in
    (same ∙ e, rw (sym e) in_set)
