-- What a fault of one rule tells of all rules, where those before it are kept.
use Rattle.std.proofs.Common.{◌≡◌, ℕ, List, [], ◌∷◌, Option, Some, None, IfSome, refl, ap, sym, ◌∙◌}
use Rattle.vg_ast.specs.declared.desc.Desc.{Desc}
use Rattle.vg_names.specs.First.{first_of}
use Rattle.vg_names.proofs.FirstLemmas.{nothing_first}
use Rattle.vg_rule.specs.declared.breach.Breach.{Breach}
use Rattle.vg_rule.specs.declared.desc_fault.DescFault.{DescFault}
use Rattle.vg_rule.specs.declared.rule.Rule.{Rule}
use Rattle.vg_rule.specs.declared.rule.Rule.TheVariants as rules
use Rattle.vg_rule.specs.Breach.{first_breach}
use Rattle.vg_rule.specs.Fault.{told_by, Tells}
use Rattle.vg_rule.proofs.Asking.{broken_here, kept_here}
use Rattle.vg_width.specs.Rules.{breach_in, places_of}
use Rattle.vg_width.specs.Asking.{IsKept, TellsOf, first_place}

something_first : (places : List ℕ) (at : ℕ) → first_of places ≡ Some at → (more : List ℕ) × (places ≡ at ∷ more)
something_first [] at e = absurd (cc)
something_first (n ∷ more) at e = (more, cc)

-- the rules from one on, in their order
abbrev from_limit : List Rule
from_limit = rules.Limit ∷ []

abbrev from_stage : List Rule
from_stage = rules.StageOrder ∷ from_limit

abbrev from_role : List Rule
from_role = rules.AbiRole ∷ from_stage

abbrev from_index : List Rule
from_index = rules.IndexNotField ∷ from_role

abbrev from_access : List Rule
from_access = rules.TwoAccesses ∷ from_index

abbrev from_write : List Rule
from_write = rules.TwoWrites ∷ from_access

abbrev from_value : List Rule
from_value = rules.FieldValue ∷ from_write

abbrev from_cover : List Rule
from_cover = rules.FieldCover ∷ from_value

abbrev from_range : List Rule
from_range = rules.Range ∷ from_cover

abbrev from_width : List Rule
from_width = rules.Width ∷ from_range

module _ (d : Desc) where
  -- a rule with a first place is broken first where it is asked
  here : (rule : Rule) (others : List Rule) (n : ℕ) → first_place d rule ≡ Some n → first_breach (places_of d) (rule ∷ others) ≡ Some (record { rule = rule; at = n })
  here rule others n e = let some = something_first (places_of d rule) n e in broken_here (places_of d) rule others n some.0 some.1

  -- and one without leaves the others
  past : (rule : Rule) (others : List Rule) → IsKept d rule → first_breach (places_of d) (rule ∷ others) ≡ first_breach (places_of d) others
  past rule others e = kept_here (places_of d) rule others (nothing_first (places_of d rule) e)

  asked_by : (rule : Rule) (others : List Rule) (told : Option Breach) → IfSome told (λ b. (b.rule ≡ rule) × (first_place d rule ≡ Some b.at))
      → breach_in d ≡ first_breach (places_of d) (rule ∷ others) → IfSome told (λ b. breach_in d ≡ Some b)
  asked_by rule others None h is = h
  asked_by rule others (Some b) h is = is ∙ here rule others b.at h.1 ∙ ap (λ (r : Rule). Some (record { rule = r; at = b.at })) (sym h.0)

  asked : (rule : Rule) (others : List Rule) (f : DescFault) → TellsOf d rule f → breach_in d ≡ first_breach (places_of d) (rule ∷ others) → Tells (breach_in d) f
  asked rule others f h is = asked_by rule others (told_by f) h is

  from_all : breach_in d ≡ first_breach (places_of d) from_width
  unfolding breach_in
  from_all = refl

  pub width_told : (f : DescFault) → TellsOf d rules.Width f → Tells (breach_in d) f
  width_told f h = asked rules.Width from_range f h from_all

  module _ (width_kept : IsKept d rules.Width) where
    behind_width : breach_in d ≡ first_breach (places_of d) from_range
    behind_width = from_all ∙ past rules.Width from_range width_kept

    pub range_told : (f : DescFault) → TellsOf d rules.Range f → Tells (breach_in d) f
    range_told f h = asked rules.Range from_cover f h behind_width

    module _ (range_kept : IsKept d rules.Range) where
      behind_range : breach_in d ≡ first_breach (places_of d) from_cover
      behind_range = behind_width ∙ past rules.Range from_cover range_kept

      pub cover_told : (f : DescFault) → TellsOf d rules.FieldCover f → Tells (breach_in d) f
      cover_told f h = asked rules.FieldCover from_value f h behind_range

      module _ (cover_kept : IsKept d rules.FieldCover) where
        behind_cover : breach_in d ≡ first_breach (places_of d) from_value
        behind_cover = behind_range ∙ past rules.FieldCover from_value cover_kept

        pub value_told : (f : DescFault) → TellsOf d rules.FieldValue f → Tells (breach_in d) f
        value_told f h = asked rules.FieldValue from_write f h behind_cover

        module _ (value_kept : IsKept d rules.FieldValue) where
          behind_value : breach_in d ≡ first_breach (places_of d) from_write
          behind_value = behind_cover ∙ past rules.FieldValue from_write value_kept

          pub write_told : (f : DescFault) → TellsOf d rules.TwoWrites f → Tells (breach_in d) f
          write_told f h = asked rules.TwoWrites from_access f h behind_value

          module _ (write_kept : IsKept d rules.TwoWrites) where
            behind_write : breach_in d ≡ first_breach (places_of d) from_access
            behind_write = behind_value ∙ past rules.TwoWrites from_access write_kept

            pub access_told : (f : DescFault) → TellsOf d rules.TwoAccesses f → Tells (breach_in d) f
            access_told f h = asked rules.TwoAccesses from_index f h behind_write

            module _ (access_kept : IsKept d rules.TwoAccesses) where
              behind_access : breach_in d ≡ first_breach (places_of d) from_index
              behind_access = behind_write ∙ past rules.TwoAccesses from_index access_kept

              pub index_told : (f : DescFault) → TellsOf d rules.IndexNotField f → Tells (breach_in d) f
              index_told f h = asked rules.IndexNotField from_role f h behind_access

              module _ (index_kept : IsKept d rules.IndexNotField) where
                behind_index : breach_in d ≡ first_breach (places_of d) from_role
                behind_index = behind_access ∙ past rules.IndexNotField from_role index_kept

                pub role_told : (f : DescFault) → TellsOf d rules.AbiRole f → Tells (breach_in d) f
                role_told f h = asked rules.AbiRole from_stage f h behind_index

                module _ (role_kept : IsKept d rules.AbiRole) where
                  behind_role : breach_in d ≡ first_breach (places_of d) from_stage
                  behind_role = behind_index ∙ past rules.AbiRole from_stage role_kept

                  pub stage_told : (f : DescFault) → TellsOf d rules.StageOrder f → Tells (breach_in d) f
                  stage_told f h = asked rules.StageOrder from_limit f h behind_role

                  module _ (stage_kept : IsKept d rules.StageOrder) where
                    behind_stage : breach_in d ≡ first_breach (places_of d) from_limit
                    behind_stage = behind_role ∙ past rules.StageOrder from_limit stage_kept

                    pub limit_told : (f : DescFault) → TellsOf d rules.Limit f → Tells (breach_in d) f
                    limit_told f h = asked rules.Limit [] f h behind_stage

                    pub all_kept : IsKept d rules.Limit → breach_in d ≡ None
                    all_kept h = behind_stage ∙ past rules.Limit [] h
