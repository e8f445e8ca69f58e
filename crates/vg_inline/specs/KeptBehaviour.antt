-- What instructions do as it is kept.
use Rattle.std.specs.Prelude.{ℕ, nat_le, Bool, true, List, [], ◌∷◌, Option, Some, None}
use Rattle.vg_ast.specs.declared.name.Name.{Name}
use Rattle.vg_ast.specs.declared.item.Item.{Item}
use Rattle.vg_ast.specs.declared.item.Item.TheVariants as items
use Rattle.vg_ast.specs.declared.statement.Statement.{Statement}
use Rattle.vg_names.specs.Definition.{item_named, fields_of_format}
use Rattle.vg_inline.specs.declared.effect.Effect.{Effect}
use Rattle.vg_inline.specs.declared.kept.Kept.{Kept}
use Rattle.vg_inline.specs.declared.kept.KeptEffect.{KeptEffect}
use Rattle.vg_inline.specs.Inline.{Known, field_values}
use Rattle.vg_inline.specs.Behaviour.{effect_of}
use Rattle.vg_inline.specs.declared.keep.Keep.{Keep}
use Rattle.vg_inline.specs.Kept.{keeping_as, stating_as}

abbrev pub instruction_kept : Keep → List Item → Known (Option Kept) → Name → Statement → Option KeptEffect
instruction_kept keep all known format behaviour = effect_of (stating_as keep) all known behaviour (field_values (keeping_as keep) 0 (fields_of_format (item_named all format.text)))

abbrev pub kept_excess : Name → Option KeptEffect → List ℕ
kept_excess name None = name.at ∷ []
kept_excess name (Some x) = []

abbrev pub item_kept_excess : Keep → List Item → Known (Option Kept) → Item → List ℕ
item_kept_excess keep all known (items.Instruction at name format behaviour) = kept_excess name (instruction_kept keep all known format behaviour)
item_kept_excess keep all known _ = []

abbrev pub effect_kept : Option KeptEffect → Option Effect
effect_kept None = None
effect_kept (Some x) = Some x.effect

-- what an item does, where it is an instruction and nothing of it is too large
abbrev pub behaviour_kept : Keep → List Item → Known (Option Kept) → Item → Option Effect
behaviour_kept keep all known (items.Instruction at name format behaviour) = effect_kept (instruction_kept keep all known format behaviour)
behaviour_kept keep all known _ = None

-- a statement doesn't have more than so many nodes, where anything of it is kept
abbrev pub fits : ℕ → Option KeptEffect → Bool
fits most None = true
fits most (Some x) = nat_le x.nodes most

-- an instruction doesn't
abbrev pub item_fits : Keep → List Item → Known (Option Kept) → ℕ → Item → Bool
item_fits keep all known most (items.Instruction at name format behaviour) = fits most (instruction_kept keep all known format behaviour)
item_fits keep all known most _ = true
