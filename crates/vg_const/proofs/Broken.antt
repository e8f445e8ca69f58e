-- Which rule is broken first, by the first place of each.
use Rattle.std.proofs.Common.{◌≡◌, ℕ, List, [], ◌∷◌, Option, Some, None, refl, ◌∙◌}
use Rattle.vg_rule.specs.declared.breach.Breach.{Breach}
use Rattle.vg_rule.specs.declared.rule.Rule.{Rule}
use Rattle.vg_rule.specs.declared.rule.Rule.TheVariants as rules
use Rattle.vg_rule.specs.Breach.{first_breach}
use Rattle.vg_rule.proofs.Asking.{broken_here, kept_here}
use Rattle.vg_ast.specs.declared.desc.Desc.{Desc}
use Rattle.vg_names.specs.First.{first_of}
use Rattle.vg_inline.specs.Rules.{places_of, breach_of, IsAccepted, Breaks}

-- without a first place there is none
pub nothing_first : (places : List ℕ) → first_of places ≡ None → places ≡ []
nothing_first [] e = refl
nothing_first (at ∷ more) e = absurd (cc)

something_first : (places : List ℕ) (at : ℕ) → first_of places ≡ Some at → (more : List ℕ) × (places ≡ at ∷ more)
something_first [] at e = absurd (cc)
something_first (n ∷ more) at e = (more, cc)

-- the rules from one on, in their order
abbrev from_limit : List Rule
from_limit = rules.Limit ∷ []

abbrev from_overflow : List Rule
from_overflow = rules.Overflow ∷ from_limit

abbrev from_cyclic : List Rule
from_cyclic = rules.Cyclic ∷ from_overflow

abbrev from_unknown : List Rule
from_unknown = rules.Unknown ∷ from_cyclic

module _ (d : Desc) where
  abbrev at : Rule → Option ℕ
  at rule = first_of (places_of d rule)

  -- a rule with a first place is broken first where it is asked
  here : (rule : Rule) (others : List Rule) (n : ℕ) → at rule ≡ Some n → first_breach (places_of d) (rule ∷ others) ≡ Some (record { rule = rule; at = n })
  here rule others n e = let some = something_first (places_of d rule) n e in broken_here (places_of d) rule others n some.0 some.1

  -- and one without leaves the others
  past : (rule : Rule) (others : List Rule) → at rule ≡ None → first_breach (places_of d) (rule ∷ others) ≡ first_breach (places_of d) others
  past rule others e = kept_here (places_of d) rule others (nothing_first (places_of d rule) e)

  pub duplicate : (n : ℕ) → at rules.Duplicate ≡ Some n → Breaks d (record { rule = rules.Duplicate; at = n })
  unfolding breach_of
  duplicate n e = here rules.Duplicate from_unknown n e

  module _ (no_duplicate : at rules.Duplicate ≡ None) where
    behind_duplicate : breach_of d ≡ first_breach (places_of d) from_unknown
    unfolding breach_of
    behind_duplicate = past rules.Duplicate from_unknown no_duplicate

    pub unknown : (n : ℕ) → at rules.Unknown ≡ Some n → Breaks d (record { rule = rules.Unknown; at = n })
    unknown n e = behind_duplicate ∙ here rules.Unknown from_cyclic n e

    module _ (no_unknown : at rules.Unknown ≡ None) where
      behind_unknown : breach_of d ≡ first_breach (places_of d) from_cyclic
      behind_unknown = behind_duplicate ∙ past rules.Unknown from_cyclic no_unknown

      pub cyclic : (n : ℕ) → at rules.Cyclic ≡ Some n → Breaks d (record { rule = rules.Cyclic; at = n })
      cyclic n e = behind_unknown ∙ here rules.Cyclic from_overflow n e

      module _ (no_cycle : at rules.Cyclic ≡ None) where
        behind_cyclic : breach_of d ≡ first_breach (places_of d) from_overflow
        behind_cyclic = behind_unknown ∙ past rules.Cyclic from_overflow no_cycle

        pub overflow : (n : ℕ) → at rules.Overflow ≡ Some n → Breaks d (record { rule = rules.Overflow; at = n })
        overflow n e = behind_cyclic ∙ here rules.Overflow from_limit n e

        module _ (no_overflow : at rules.Overflow ≡ None) where
          behind_overflow : breach_of d ≡ first_breach (places_of d) from_limit
          behind_overflow = behind_cyclic ∙ past rules.Overflow from_limit no_overflow

          pub limit : (n : ℕ) → at rules.Limit ≡ Some n → Breaks d (record { rule = rules.Limit; at = n })
          limit n e = behind_overflow ∙ here rules.Limit [] n e

          pub accepted : at rules.Limit ≡ None → IsAccepted d
          accepted e = behind_overflow ∙ past rules.Limit [] e
