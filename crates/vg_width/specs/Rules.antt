-- The rules of types, formats, encodings, behaviours, the binary interface, stages and limits: at which places a
-- description with everything in place breaks each, and which it breaks first.
use Rattle.std.specs.Prelude.{◌≡◌, ℕ, List, [], ◌∷◌, Option, None}
use Rattle.vg_ast.specs.declared.desc.Desc.{Desc}
use Rattle.vg_inline.specs.InPlace.{known_of}
use Rattle.vg_inline.specs.Rules.{breach_of}
use Rattle.vg_type.specs.Item.{setting_of, wrong_widths, wrong_ranges}
use Rattle.vg_isa.specs.declared.isa.Parts.{Parts}
use Rattle.vg_rule.specs.declared.rule.Rule.{Rule}
use Rattle.vg_rule.specs.declared.rule.Rule.TheVariants as rules
use Rattle.vg_rule.specs.declared.breach.Breach.{Breach}
use Rattle.vg_rule.specs.Breach.{first_breach, or_later}
use Rattle.vg_rule.specs.Order.{check_order}
use Rattle.vg_declare.specs.FieldCover.{covers}
use Rattle.vg_declare.specs.FieldValue.{values}
use Rattle.vg_tree.specs.Access.{two_writes, two_accesses, indices_not_fields}
use Rattle.vg_declare.specs.AbiRole.{abi_breaks}
use Rattle.vg_stage.specs.StageOrder.{stage_breaks}
use Rattle.vg_declare.specs.Limit.{beyond_limits}
use Rattle.vg_processor.specs.IsaOf.{isa_of}

-- the places at which a description breaks a rule, in the order of the text; no others are asked here
abbrev pub places_of : Desc → Rule → List ℕ
places_of d rules.Width = wrong_widths d
places_of d rules.Range = wrong_ranges d
places_of d rules.FieldCover = covers (setting_of d.items)
places_of d rules.FieldValue = values (setting_of d.items)
places_of d rules.TwoWrites = two_writes (setting_of d.items) (known_of d.items)
places_of d rules.TwoAccesses = two_accesses (setting_of d.items) (known_of d.items)
places_of d rules.IndexNotField = indices_not_fields (setting_of d.items) (known_of d.items)
places_of d rules.AbiRole = abi_breaks (setting_of d.items) d.abi
places_of d rules.StageOrder = stage_breaks (setting_of d.items) (known_of d.items) d.micro
places_of d rules.Limit = beyond_limits (setting_of d.items)
places_of d _ = []

-- the first of these rules that is broken, at its first place
unfoldable pub breach_in : Desc → Option Breach
breach_in d = first_breach (places_of d) check_order

-- The rule that a description breaks first, at its first place: of those of names, constants and the number of nodes, and
-- of these behind them.
unfoldable pub first_broken : Desc → Option Breach
first_broken d = or_later (breach_of d) (breach_in d)

-- a description keeps all of them
abbrev pub KeepsRules : Desc → Type 0
KeepsRules d = first_broken d ≡ None

-- a description keeps all these rules, and this is its processor
pub record IsChecked (d : Desc) (isa : Parts) : Type 0 where
  pub kept : breach_in d ≡ None
  pub made : isa ≡ isa_of d
