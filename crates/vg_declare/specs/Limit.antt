-- What there is too much of, beside the nodes of behaviours.
use Rattle.std.specs.Prelude.{ℕ, ◌+◌, ◌≤◌, Bool, true, false, nat_le, nat_lt, List, [], ◌∷◌, ◌++◌, Option, Some, None, if◌then◌else◌}
use Rattle.vg_ast.specs.declared.item.Item.{Item}
use Rattle.vg_ast.specs.declared.item.Item.TheVariants as items
use Rattle.vg_type.specs.Judged.{told}
use Rattle.vg_type.specs.Scope.{declared_in, width_in}
use Rattle.vg_type.specs.Item.{Setting}
use Rattle.vg_declare.specs.declared.counts.Counts.{Counts}

abbrev pub none_yet : Counts
none_yet = record { instructions = 0; formats = 0; resources = 0 }

-- the memory, the registers and the register files are the resources
abbrev pub counted : Counts → Item → Counts
counted counts (items.Instruction at name format behaviour) = record { instructions = counts.instructions + 1; formats = counts.formats; resources = counts.resources }
counted counts (items.Format at name given fields) = record { instructions = counts.instructions; formats = counts.formats + 1; resources = counts.resources }
counted counts (items.Memory at name address cell) = record { instructions = counts.instructions; formats = counts.formats; resources = counts.resources + 1 }
counted counts (items.Register at name given) = record { instructions = counts.instructions; formats = counts.formats; resources = counts.resources + 1 }
counted counts (items.RegisterFile at name index given constant) = record { instructions = counts.instructions; formats = counts.formats; resources = counts.resources + 1 }
counted counts _ = counts

-- an index of more than 6 bits
abbrev pub is_long_index : Option ℕ → Bool
is_long_index None = false
is_long_index (Some width) = nat_lt 6 width

-- one item too many behind those, or a register file with too wide an index
abbrev pub is_excess : Setting → Counts → Item → Bool
is_excess setting counts (items.Instruction at name format behaviour) = nat_le 512 counts.instructions
is_excess setting counts (items.Format at name given fields) = nat_le 64 counts.formats
is_excess setting counts (items.Memory at name address cell) = nat_le 16 counts.resources
is_excess setting counts (items.Register at name given) = nat_le 16 counts.resources
is_excess setting counts (items.RegisterFile at name index given constant) =
    if nat_le 16 counts.resources then true else is_long_index (width_in (declared_in setting.globals index))
is_excess setting counts _ = false

-- the place of the name that an item defines
abbrev pub name_place : Item → ℕ
name_place (items.Constant at name value) = name.at
name_place (items.Using at name meaning) = name.at
name_place (items.Function at name parameters given body) = name.at
name_place (items.ProgramCounter at name given) = name.at
name_place (items.Memory at name address cell) = name.at
name_place (items.Register at name given) = name.at
name_place (items.RegisterFile at name index given constant) = name.at
name_place (items.Format at name given fields) = name.at
name_place (items.Instruction at name format behaviour) = name.at
name_place (items.Encoding at name fixes) = name.at
name_place (items.Assembly at name row) = name.at

abbrev pub excesses_behind : Setting → Counts → List Item → List ℕ
excesses_behind setting counts [] = []
excesses_behind setting counts (item ∷ more) = told (is_excess setting counts item) (name_place item) ++ excesses_behind setting (counted counts item) more

-- the names of what is too much
abbrev pub beyond_limits : Setting → List ℕ
beyond_limits setting = excesses_behind setting none_yet setting.all

-- no count is above its limit, as long as no item is too many
pub record AreWithin (counts : Counts) : Type 0 where
  pub instructions : counts.instructions ≤ 512
  pub formats : counts.formats ≤ 64
  pub resources : counts.resources ≤ 16
