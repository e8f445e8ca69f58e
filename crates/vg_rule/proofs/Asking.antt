-- Rules are asked one after another.
use Rattle.std.proofs.Common.{◌≡◌, ◌⊎◌, inl, inr, ℕ, List, [], ◌∷◌, ◌++◌, Option, Some, None, refl, sym, ap, ◌∙◌}
use Rattle.vg_rule.specs.declared.breach.Breach.{Breach}
use Rattle.vg_rule.specs.declared.desc_fault.DescFault.{DescFault}
use Rattle.vg_rule.specs.declared.desc_fault.DescFault.TheVariants as faults
use Rattle.vg_rule.specs.declared.rule.Rule.{Rule}
use Rattle.vg_rule.specs.Breach.{breach_at, or_later, first_breach}
use Rattle.vg_rule.specs.Fault.{told_by, Tells}

module _ (places : Rule → List ℕ) (rule : Rule) (others : List Rule) where
  -- a rule that has a place is broken first where it is asked
  pub broken_here : (at : ℕ) (more : List ℕ) → places rule ≡ at ∷ more → first_breach places (rule ∷ others) ≡ Some (record { rule = rule; at = at })
  broken_here at more e = ap (λ (l : List ℕ). breach_at rule l (first_breach places others)) e

  -- a rule that has none leaves those behind it to be asked
  pub kept_here : places rule ≡ [] → first_breach places (rule ∷ others) ≡ first_breach places others
  kept_here e = ap (λ (l : List ℕ). breach_at rule l (first_breach places others)) e

-- of rules that are asked in two steps, the first step's breach counts, and else the second's
pub asked_on : (places : Rule → List ℕ) (rules more : List Rule) → first_breach places (rules ++ more) ≡ or_later (first_breach places rules) (first_breach places more)
asked_on places [] more = refl
asked_on places (rule ∷ others) more =
    ap (breach_at rule (places rule)) (asked_on places others more) ∙ turned (places rule) (first_breach places others) (first_breach places more)
  where
    turned : (list : List ℕ) (first later : Option Breach) → breach_at rule list (or_later first later) ≡ or_later (breach_at rule list first) later
    turned [] first later = refl
    turned (at ∷ rest) first later = refl

never : {breach : Option Breach} (told : Breach) → breach ≡ None → breach ≡ Some told → ⊥
never told kept e = absurd (cc)

-- where all rules are kept a fault tells that memory ran out
pub nothing_told : (fault : DescFault) (breach : Option Breach) → breach ≡ None → Tells breach fault → fault ≡ faults.OutOfMemory
nothing_told faults.OutOfMemory breach kept tells = refl
nothing_told fault breach kept tells = absurd (never _ kept tells)

-- a fault tells the breach that there is, unless memory ran out
pub told_so : (fault : DescFault) (breach : Option Breach) (told : Breach) → breach ≡ Some told → Tells breach fault → (fault ≡ faults.OutOfMemory) ⊎ (told_by fault ≡ Some told)
told_so faults.OutOfMemory breach told is tells = inl refl
told_so fault breach told is tells = inr (sym tells ∙ is)
