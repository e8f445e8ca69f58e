-- The numbers and names of the rules of descriptions, as refusals have them.
use Rattle.std.specs.Prelude.{ℕ, List, codes}
use Rattle.vg_rule.specs.declared.rule.Rule.{Rule}
use Rattle.vg_rule.specs.declared.rule.Rule.TheVariants as rules

-- the number of a rule
abbrev pub number_of : Rule → ℕ
number_of rules.Syntax = 1
number_of rules.Duplicate = 2
number_of rules.Unknown = 3
number_of rules.Cyclic = 4
number_of rules.Overflow = 5
number_of rules.Width = 6
number_of rules.Range = 7
number_of rules.FieldCover = 8
number_of rules.FieldValue = 9
number_of rules.Overlap = 10
number_of rules.TwoWrites = 11
number_of rules.TwoAccesses = 12
number_of rules.IndexNotField = 13
number_of rules.Ambiguous = 14
number_of rules.AbiRole = 15
number_of rules.StageOrder = 16
number_of rules.Unplaced = 17
number_of rules.Limit = 18

-- the name of a rule
abbrev pub name_of : Rule → List ℕ
name_of rules.Syntax = codes "Syntax"
name_of rules.Duplicate = codes "Duplicate"
name_of rules.Unknown = codes "Unknown"
name_of rules.Cyclic = codes "Cyclic"
name_of rules.Overflow = codes "Overflow"
name_of rules.Width = codes "Width"
name_of rules.Range = codes "Range"
name_of rules.FieldCover = codes "FieldCover"
name_of rules.FieldValue = codes "FieldValue"
name_of rules.Overlap = codes "Overlap"
name_of rules.TwoWrites = codes "TwoWrites"
name_of rules.TwoAccesses = codes "TwoAccesses"
name_of rules.IndexNotField = codes "IndexNotField"
name_of rules.Ambiguous = codes "Ambiguous"
name_of rules.AbiRole = codes "AbiRole"
name_of rules.StageOrder = codes "StageOrder"
name_of rules.Unplaced = codes "Unplaced"
name_of rules.Limit = codes "Limit"
