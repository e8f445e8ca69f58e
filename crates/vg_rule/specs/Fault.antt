-- What a fault tells.
use Rattle.std.specs.Prelude.{◌≡◌, Option, Some, None, IfSome}
use Rattle.vg_rule.specs.declared.breach.Breach.{Breach}
use Rattle.vg_rule.specs.declared.desc_fault.DescFault.{DescFault}
use Rattle.vg_rule.specs.declared.desc_fault.DescFault.TheVariants as faults
use Rattle.vg_rule.specs.declared.rule.Rule.TheVariants as rules

-- the rule that is broken, and where; none where memory ran out
abbrev pub told_by : DescFault → Option Breach
told_by (faults.Duplicate at) = Some (record { rule = rules.Duplicate; at = at })
told_by (faults.Unknown at) = Some (record { rule = rules.Unknown; at = at })
told_by (faults.Cyclic at) = Some (record { rule = rules.Cyclic; at = at })
told_by (faults.Overflow at) = Some (record { rule = rules.Overflow; at = at })
told_by (faults.Width at) = Some (record { rule = rules.Width; at = at })
told_by (faults.Range at) = Some (record { rule = rules.Range; at = at })
told_by (faults.FieldCover at) = Some (record { rule = rules.FieldCover; at = at })
told_by (faults.FieldValue at) = Some (record { rule = rules.FieldValue; at = at })
told_by (faults.TwoWrites at) = Some (record { rule = rules.TwoWrites; at = at })
told_by (faults.TwoAccesses at) = Some (record { rule = rules.TwoAccesses; at = at })
told_by (faults.IndexNotField at) = Some (record { rule = rules.IndexNotField; at = at })
told_by (faults.AbiRole at) = Some (record { rule = rules.AbiRole; at = at })
told_by (faults.StageOrder at) = Some (record { rule = rules.StageOrder; at = at })
told_by (faults.Limit at) = Some (record { rule = rules.Limit; at = at })
told_by faults.OutOfMemory = None

-- a fault tells this breach, or that memory ran out
abbrev pub Tells : Option Breach → DescFault → Type 0
Tells breach fault = IfSome (told_by fault) (λ told. breach ≡ Some told)
