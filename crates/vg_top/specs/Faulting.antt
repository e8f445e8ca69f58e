-- How the faults of the readers become faults of a text.
use Rattle.std.specs.Prelude.{⊤, ℕ, List}
use Rattle.std.specs.Option.{option_map_or}
use Rattle.vg_tok.specs.declared.fault.TokFault.{TokFault}
use Rattle.vg_tok.specs.declared.fault.TokFault.TheVariants as token_faults
use Rattle.vg_ast.specs.declared.desc.Desc.{Desc}
use Rattle.vg_rule.specs.declared.breach.Breach.{Breach}
use Rattle.vg_rule.specs.declared.desc_fault.DescFault.{DescFault}
use Rattle.vg_rule.specs.Fault.{told_by}
use Rattle.vg_rule.specs.declared.rule.Rule.TheVariants as rules
use Rattle.vg_top.specs.declared.description_fault.DescriptionFault.{DescriptionFault}
use Rattle.vg_top.specs.declared.description_fault.DescriptionFault.TheVariants as why
use Rattle.vg_top.specs.declared.reason.Reason.TheVariants as reasons
use Rattle.vg_top.specs.declared.needs.Needs.{Needs}
use Rattle.vg_top.specs.Reason.{IsReason}
use Rattle.vg_top.specs.Description.{IsUnlike, place_of}

-- a text without tokens breaks the rule on syntax
abbrev pub token_fault_of : TokFault → DescriptionFault
token_fault_of token_faults.OutOfMemory = why.OutOfMemory
token_fault_of fault = why.Refused (reasons.Broken rules.Syntax (place_of fault))

-- a rule that the tree of a text breaks is broken by the text
abbrev pub rule_fault_of : DescFault → DescriptionFault
rule_fault_of fault = option_map_or (λ (breach : Breach). why.Refused (reasons.Broken breach.rule breach.at)) (told_by fault) why.OutOfMemory

-- a tree isn't of the form, or memory ran out
abbrev pub IsBuildFault : Desc → DescriptionFault → Type 0
IsBuildFault tree (why.Refused (reasons.Broken rule at)) = ⊥
IsBuildFault tree (why.Refused (reasons.NotBuilt at)) = IsUnlike tree at
IsBuildFault tree why.OutOfMemory = ⊤

-- why there is no processor of the text with what a command needs
abbrev pub IsFaultFor : List ℕ → Needs → DescriptionFault → Type 0
IsFaultFor bytes needs (why.Refused reason) = IsReason bytes needs reason
IsFaultFor bytes needs why.OutOfMemory = ⊤
