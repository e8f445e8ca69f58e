-- The order in which the rules are asked. Before these stands the one on syntax, which is asked of the text. The rule on
-- limits is asked twice: first of the number of nodes alone, behind the rules on names and constants, and then of all
-- else, behind the rules on types.
use Rattle.std.specs.Prelude.{List, [], ◌∷◌}
use Rattle.vg_rule.specs.declared.rule.Rule.{Rule}
use Rattle.vg_rule.specs.declared.rule.Rule.TheVariants as rules

-- the rules of names, constants and the number of nodes
abbrev pub fold_order : List Rule
fold_order = rules.Duplicate ∷ rules.Unknown ∷ rules.Cyclic ∷ rules.Overflow ∷ rules.Limit ∷ []

-- behind them, the rules of types, formats, encodings, behaviours, the binary interface, stages and limits
abbrev pub check_order : List Rule
check_order =
    rules.Width ∷ rules.Range ∷ rules.FieldCover ∷ rules.FieldValue ∷ rules.TwoWrites ∷ rules.TwoAccesses ∷ rules.IndexNotField
    ∷ rules.AbiRole ∷ rules.StageOrder ∷ rules.Limit ∷ []

-- and behind those, the rules that are asked of a processor
abbrev pub processor_order : List Rule
processor_order = rules.Overlap ∷ rules.Ambiguous ∷ rules.Unplaced ∷ []
