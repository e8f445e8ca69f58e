-- A run stays at its end.
use Rattle.std.proofs.Common.{◌≡◌, ℕ, zero, suc, ◌≤◌, IsTrue, List, refl, sym, ap, subst, ◌∙◌, ◌⊎◌, inl, inr, arith}
use Rattle.vg_ir.specs.declared.name.Name.{Name}
use Rattle.vg_ir.specs.declared.module.Parts.{Parts}
use Rattle.vg_ir.specs.State.{Placement}
use Rattle.vg_ir.specs.Control.{Outcome, Next, End, StackFull, Undefined, Unset}
use Rattle.vg_ir.specs.Run.{stepped, ir_run}
use Rattle.vg_ir.specs.Outcomes.{is_over}

-- no step is made from an end
pub stepped_over : (m : Parts) (p : Placement) (o : Outcome) → IsTrue (is_over o) → stepped m p o ≡ o
stepped_over m p (Next s) h = absurd (cc)
stepped_over m p (End given set) h = refl
stepped_over m p StackFull h = refl
stepped_over m p (Undefined c) h = refl
stepped_over m p Unset h = refl

le_suc_cases : (j k : ℕ) → j ≤ suc k → (j ≡ suc k) ⊎ (j ≤ k)
le_suc_cases j k h = grind arith

zero_least : (j : ℕ) → j ≤ 0 → j ≡ 0
zero_least j h = omega (arith, h)

module _ (m : Parts) (p : Placement) (entry : Name) (arguments : List ℕ) where
  abbrev run : ℕ → Outcome
  run k = ir_run m p entry arguments k

  one_more : (j k : ℕ) → IsTrue (is_over (run j)) → (j ≤ k → run k ≡ run j) → (j ≡ suc k) ⊎ (j ≤ k) → run (suc k) ≡ run j
  one_more j k over before (inl e) = ap run (sym e)
  one_more j k over before (inr le) =
      let still : IsTrue (is_over (run k)) = subst (λ (o : Outcome). IsTrue (is_over o)) (sym (before le)) over in
      stepped_over m p (run k) still ∙ before le

  -- an end at a step is the outcome at each later one
  pub stays : (j k : ℕ) → j ≤ k → IsTrue (is_over (run j)) → run k ≡ run j
  stays j zero h over = ap run (sym (zero_least j h))
  stays j (suc k) h over = one_more j k over (λ le. stays j k le over) (le_suc_cases j k h)

  -- two ends are one: the later is the earlier
  pub one_end : (j k : ℕ) → IsTrue (is_over (run j)) → IsTrue (is_over (run k)) → run j ≡ run k
  one_end j k over_j over_k = in_order (le_cases j k)
    where
      le_cases : (j k : ℕ) → (j ≤ k) ⊎ (k ≤ j)
      le_cases j k = grind arith

      in_order : (j ≤ k) ⊎ (k ≤ j) → run j ≡ run k
      in_order (inl le) = sym (stays j k le over_j)
      in_order (inr le) = stays k j le over_k
