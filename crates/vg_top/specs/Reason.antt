-- Why a description is refused. A rule that is asked of what two instructions share, or of a part of an instruction
-- and its stage, is a further case of `Reason`, with its line here, and what two reasons of one text share.
use Rattle.std.specs.Prelude.{◌≡◌, ◌⊎◌, ℕ, Bool, true, false, ◌&&◌, List, length, Option, Some, None, is_none, if◌then◌else◌}
use Rattle.vg_isa.specs.declared.isa.Parts.{Parts}
use Rattle.vg_top.specs.declared.needs.Needs.{Needs}
use Rattle.vg_top.specs.declared.reason.Reason.{Reason}
use Rattle.vg_top.specs.declared.reason.Reason.TheVariants as reasons
use Rattle.vg_rule.specs.declared.rule.Rule.{Rule}
use Rattle.vg_rule.specs.declared.rule.Rule.TheVariants as rules
use Rattle.vg_top.specs.Description.{IsDescription, IsBroken, IsUnbuilt}
use Rattle.vg_top.specs.Position.{position}
use Rattle.vg_top.specs.Refusal.{rule_broken, not_built}

-- the rule that a description without what a command needs of it is told to break
abbrev pub lacking : Needs → Parts → Option Rule
lacking needs d =
    if needs.abi && is_none d.abi then Some rules.AbiRole else (if needs.micro && is_none d.micro then Some rules.StageOrder else None)

-- The text is a description, but lacks what the command needs. That is told at the end of the text.
pub record IsLacking (bytes : List ℕ) (needs : Needs) (rule : Rule) (at : ℕ) : Type 0 where
  pub parts : Parts
  pub description : IsDescription bytes parts
  pub lacks : lacking needs parts ≡ Some rule
  pub place : at ≡ length bytes

-- the text is refused for this reason, where the command needs so much of it
abbrev pub IsReason : List ℕ → Needs → Reason → Type 0
IsReason bytes needs (reasons.Broken rule at) = IsBroken bytes rule at ⊎ IsLacking bytes needs rule at
IsReason bytes needs (reasons.NotBuilt at) = IsUnbuilt bytes at

-- the line of a reason
abbrev pub reason_line : List ℕ → Reason → List ℕ
reason_line bytes (reasons.Broken rule at) = rule_broken rule (position bytes at)
reason_line bytes (reasons.NotBuilt at) = not_built (position bytes at)

-- What two reasons of one text share. A reason that has a text which isn't the only one of its kind shares all but
-- that text; there is none so far.
abbrev pub AreAlike : Reason → Reason → Type 0
AreAlike (reasons.Broken rule at) other = other ≡ reasons.Broken rule at
AreAlike (reasons.NotBuilt at) other = other ≡ reasons.NotBuilt at
