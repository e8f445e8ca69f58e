-- Statements with everything in place of their names, and what instructions do.
use Rattle.std.specs.Prelude.{ℕ, List, [], ◌∷◌, map, Option, Some, None}
use Rattle.std.specs.Option.{option_map}
use Rattle.vg_ast.specs.declared.goal.Goal.{Goal}
use Rattle.vg_ast.specs.declared.goal.Goal.TheVariants as goals
use Rattle.vg_ast.specs.declared.statement.Statement.{Statement, fold-Statement}
use Rattle.vg_ast.specs.declared.statement.Statement.TheOpen.{Statement-F}
use Rattle.vg_ast.specs.declared.item.Item.{Item}
use Rattle.vg_ast.specs.declared.item.Item.TheVariants as items
use Rattle.vg_ast.specs.Start.{start_of}
use Rattle.vg_names.specs.Definition.{item_named, fields_of_format}
use Rattle.vg_names.specs.Numbers.{number_named}
use Rattle.vg_whole.specs.Whole.{Inner}
use Rattle.vg_inline.specs.declared.tree.Tree.{Tree}
use Rattle.vg_inline.specs.declared.value.Value.{Value}
use Rattle.vg_inline.specs.declared.effect.Target.{Target}
use Rattle.vg_inline.specs.declared.effect.Target.TheVariants as targets
use Rattle.vg_inline.specs.declared.effect.Effect.{Effect}
use Rattle.vg_inline.specs.declared.effect.Effect.TheVariants as effects
use Rattle.vg_inline.specs.Inline.{Making, Known, inlined, number_or, field_values}

-- how statements are made of trees
pub record Stating (X Y : Type 0) : Type 0 where
  pub making : Making X
  pub block : List Y → Y
  pub choice : ℕ → X → Y → Option Y → Y
  pub assign : Target → List X → ℕ → X → Y

-- as statements over trees
abbrev pub statements : Making Tree → Stating Tree Effect
statements making = record { making = making; block = effects.Block; choice = effects.If; assign = effects.Assign }

abbrev pub target_of : {X : Type 0} → Making X → List Item → Known X → Goal → Inner (Value X) → Target
target_of making all known (goals.Name name) inner = targets.Resource (number_or (number_named all name.text)) name.at
target_of making all known (goals.Indexed name index) inner = targets.Indexed (number_or (number_named all name.text)) name.at (start_of index)
target_of making all known (goals.Access memory at size address) inner = targets.Access memory.at (inlined making all known size inner).worth (start_of address)

-- the index or address of what is written
abbrev pub target_parts : {X : Type 0} → Making X → List Item → Known X → Goal → Inner (Value X) → List X
target_parts making all known (goals.Name name) inner = []
target_parts making all known (goals.Indexed name index) inner = (inlined making all known index inner).tree ∷ []
target_parts making all known (goals.Access memory at size address) inner = (inlined making all known address inner).tree ∷ []

abbrev pub Effects : Type 0 → Type 0 → Type 0
Effects X Y = Inner (Value X) → Y

-- one level of a statement, with its parts
abbrev pub effect_step : {X Y : Type 0} → Stating X Y → List Item → Known X → Statement-F (Effects X Y) → Effects X Y
effect_step stating all known (Statement-F.Block at body) inner = stating.block (map (λ (x : Effects _ _). x inner) body)
effect_step stating all known (Statement-F.Let at name bound body) inner = body ((name.text, inlined stating.making all known bound inner) ∷ inner)
effect_step stating all known (Statement-F.If at condition body other) inner =
    stating.choice (start_of condition) (inlined stating.making all known condition inner).tree (body inner) (option_map (λ (x : Effects _ _). x inner) other)
effect_step stating all known (Statement-F.Assign goal assigned) inner =
    stating.assign (target_of stating.making all known goal inner) (target_parts stating.making all known goal inner) (start_of assigned) (inlined stating.making all known assigned inner).tree

abbrev pub effect_of : {X Y : Type 0} → Stating X Y → List Item → Known X → Statement → Effects X Y
effect_of stating all known s = fold-Statement (Effects _ _) (effect_step stating all known) s

-- what an instruction does, with everything in place of its names
abbrev pub behaviour_by : {X Y : Type 0} → Stating X Y → List Item → Known X → Item → Option Y
behaviour_by stating all known (items.Instruction at name format behaviour) =
    Some (effect_of stating all known behaviour (field_values stating.making 0 (fields_of_format (item_named all format.text))))
behaviour_by stating all known _ = None
