-- How one rule is asked: its first place is told, or it is kept.
use Rattle.std.specs.Prelude.{◌≡◌, ℕ, Option, Some, None, IfSome}
use Rattle.vg_ast.specs.declared.desc.Desc.{Desc}
use Rattle.vg_names.specs.First.{first_of}
use Rattle.vg_rule.specs.declared.breach.Breach.{Breach}
use Rattle.vg_rule.specs.declared.desc_fault.DescFault.{DescFault}
use Rattle.vg_rule.specs.declared.rule.Rule.{Rule}
use Rattle.vg_rule.specs.Fault.{told_by}
use Rattle.vg_width.specs.Rules.{places_of}

-- the first place at which a description breaks a rule
abbrev pub first_place : Desc → Rule → Option ℕ
first_place d rule = first_of (places_of d rule)

-- it breaks the rule nowhere
abbrev pub IsKept : Desc → Rule → Type 0
IsKept d rule = first_place d rule ≡ None

-- a fault tells the rule at its first place, or that memory ran out
abbrev pub TellsOf : Desc → Rule → DescFault → Type 0
TellsOf d rule fault = IfSome (told_by fault) (λ (b : Breach). (b.rule ≡ rule) × (first_place d rule ≡ Some b.at))
