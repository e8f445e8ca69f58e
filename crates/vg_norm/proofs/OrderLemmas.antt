-- The order of operands.
use Rattle.std.proofs.Common.{◌≡◌, ℕ, ◌≤◌, inl, inr, true, false, nat_le, refl, sym, ap, subst, arith}
use Rattle.std.proofs.lemmas.Bool.{cases_Bool, and_from as conjunction}
use Rattle.std.proofs.lemmas.Bool.Decides.{nat_tests}
use base.Stored.{Gv, gnil, gnum, gcons}
use Rattle.vg_isa.specs.declared.expr.Expr.{Expr}
use Rattle.vg_isa.specs.contracts.expr.Expr as expr_type
use Rattle.vg_isa.specs.Same.{same_numbers}
use Rattle.vg_isa.proofs.Tests.{both, nat_eq-true, true-nat_eq, true-nat_le}
use Rattle.vg_norm.specs.NormalTree.{are_in_order, is_first}

-- the same numbers are equal
same_numbers-equal : (a b : Gv) → same_numbers a b ≡ true → a ≡ b
unfolding same_numbers
same_numbers-equal gnil gnil h = refl
same_numbers-equal gnil (gnum n) h = cc
same_numbers-equal gnil (gcons c d) h = cc
same_numbers-equal (gnum m) gnil h = cc
same_numbers-equal (gnum m) (gnum n) h = ap gnum (true-nat_eq m n h)
same_numbers-equal (gnum m) (gcons c d) h = cc
same_numbers-equal (gcons a b) gnil h = cc
same_numbers-equal (gcons a b) (gnum n) h = cc
same_numbers-equal (gcons a b) (gcons c d) h =
    let parts = both (same_numbers a c) (same_numbers b d) h in
    λ i. gcons (same_numbers-equal a c parts.0 i) (same_numbers-equal b d parts.1 i)

-- numbers are the same as themselves
same_numbers-itself : (a : Gv) → same_numbers a a ≡ true
unfolding same_numbers
same_numbers-itself gnil = refl
same_numbers-itself (gnum n) = nat_eq-true n n refl
same_numbers-itself (gcons a b) = conjunction _ _ (same_numbers-itself a) (same_numbers-itself b)

le_total : (m n : ℕ) → nat_le m n ≡ false → nat_le n m ≡ true
le_total m n h = grind (arith, nat_tests)

-- of two trees of numbers one is first
order_total : (a b : Gv) → are_in_order a b ≡ false → are_in_order b a ≡ true
unfolding are_in_order
order_total gnil gnil h = absurd cc
order_total gnil (gnum n) h = absurd cc
order_total gnil (gcons c d) h = absurd cc
order_total (gnum m) gnil h = refl
order_total (gnum m) (gnum n) h = le_total m n h
order_total (gnum m) (gcons c d) h = absurd cc
order_total (gcons a b) gnil h = refl
order_total (gcons a b) (gnum n) h = refl
order_total (gcons a b) (gcons c d) h = elim (cases_Bool (same_numbers a c)) [
  | inl held ↦
      let back : same_numbers c a ≡ true = subst (λ (x : Gv). same_numbers c x ≡ true) (sym (same_numbers-equal a c held)) (same_numbers-itself c) in
      rw back (order_total b d (rw held at h))
  | inr failed ↦ elim (cases_Bool (same_numbers c a)) [
    | inl held ↦ absurd (let there : same_numbers a c ≡ true = subst (λ (x : Gv). same_numbers a x ≡ true) (sym (same_numbers-equal c a held)) (same_numbers-itself a) in cc)
    | inr neither ↦ rw neither (order_total a c (rw failed at h))
  ]
]

-- two that are first to each other are one
order_exact : (a b : Gv) → are_in_order a b ≡ true → are_in_order b a ≡ true → a ≡ b
unfolding are_in_order
order_exact gnil gnil h k = refl
order_exact gnil (gnum n) h k = absurd cc
order_exact gnil (gcons c d) h k = absurd cc
order_exact (gnum m) gnil h k = absurd cc
order_exact (gnum m) (gnum n) h k = let le : m ≤ n = true-nat_le m n h in let ge : n ≤ m = true-nat_le n m k in let is : m ≡ n = omega arith in ap gnum is
order_exact (gnum m) (gcons c d) h k = absurd cc
order_exact (gcons a b) gnil h k = absurd cc
order_exact (gcons a b) (gnum n) h k = absurd cc
order_exact (gcons a b) (gcons c d) h k = elim (cases_Bool (same_numbers a c)) [
  | inl held ↦
      let first : a ≡ c = same_numbers-equal a c held in
      let back : same_numbers c a ≡ true = subst (λ (x : Gv). same_numbers c x ≡ true) (sym first) (same_numbers-itself c) in
      let second : b ≡ d = order_exact b d (rw held at h) (rw back at k) in
      λ i. gcons (first i) (second i)
  | inr failed ↦ elim (cases_Bool (same_numbers c a)) [
    | inl held ↦ absurd (let there : same_numbers a c ≡ true = subst (λ (x : Gv). same_numbers a x ≡ true) (sym (same_numbers-equal c a held)) (same_numbers-itself a) in cc)
    | inr neither ↦
        let first : a ≡ c = order_exact a c (rw failed at h) (rw neither at k) in
        absurd (let there : same_numbers a c ≡ true = subst (λ (x : Gv). same_numbers a x ≡ true) first (same_numbers-itself a) in cc)
  ]
]

-- of two trees one is first
pub first_total : (e f : Expr) → is_first e f ≡ false → is_first f e ≡ true
first_total e f h = order_total (expr_type.the_row.coded.code e) (expr_type.the_row.coded.code f) h

-- two trees that are first to each other are one
pub first_exact : (e f : Expr) → is_first e f ≡ true → is_first f e ≡ true → e ≡ f
first_exact e f h k = expr_type.the_row.coded.inj e f (order_exact (expr_type.the_row.coded.code e) (expr_type.the_row.coded.code f) h k)
