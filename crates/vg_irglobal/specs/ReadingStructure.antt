-- Reading named structures.
use Rattle.std.specs.Prelude.{ℕ, ◌+◌, if◌then◌else◌, List, [], ◌∷◌, length, codes}
use Rattle.vg_ir.specs.declared.ty.TypeAt.{TypeAt}
use Rattle.vg_ir.specs.declared.module.Structure.{Structure}
use Rattle.vg_irparse.specs.declared.role.Role.TheVariants as roles
use Rattle.vg_irparse.specs.declared.role.Wanted.{Wanted}
use Rattle.vg_irparse.specs.Placed.{Placed}
use Rattle.vg_irparse.specs.Answer.{leaves}
use Rattle.vg_irparse.specs.ReadingType.{wanted}
use Rattle.vg_irread.specs.Kinds.{Kind, is_in}
use Rattle.vg_irread.specs.Reading.{Reader, done, ◌>>=◌}
use Rattle.vg_irread.specs.ReadingType.{type_at}
use Rattle.vg_irread.specs.ReadingOperand.{sign_at, local_at}
use Rattle.vg_irglobal.specs.ReadingInitial.{only}

-- what is read where the next lexeme is of these kinds
abbrev pub behind_door : {X : Type 0} → List Kind → Wanted → Reader X → Reader X
behind_door kinds w read d [] = leaves 0 w
behind_door kinds w read d (t ∷ ts) = if is_in kinds t.text then read d (t ∷ ts) else leaves (length ts + 1) w

-- { T , .. }
abbrev pub fields_type_at : Reader TypeAt
fields_type_at = behind_door (only (codes "{")) (wanted roles.AnyType) (type_at (wanted roles.AnyType))

-- %name = type { T , .. }
unfoldable pub structure_at : Reader Structure
structure_at = do
  name ← local_at (wanted roles.Plain)
  _ ← sign_at (codes "=") (wanted roles.Plain)
  _ ← sign_at (codes "type") (wanted roles.Plain)
  t ← fields_type_at
  done (record { name = name; ty = t })
