-- What is known of the items of a description, what its instructions do, and which of them have too many nodes.
use Rattle.std.specs.Prelude.{ℕ, nat_le, List, [], ◌∷◌, Option, Some, None, if◌then◌else◌}
use Rattle.vg_ast.specs.declared.name.Name.{Name}
use Rattle.vg_ast.specs.declared.expr.Expr.{Expr}
use Rattle.vg_ast.specs.declared.type_expr.TypeExpr.{TypeExpr}
use Rattle.vg_ast.specs.declared.item.Item.{Item}
use Rattle.vg_ast.specs.declared.item.Item.TheVariants as items
use Rattle.vg_names.specs.Unknown.{in_each}
use Rattle.vg_whole.specs.Worths.{constants_of}
use Rattle.vg_inline.specs.declared.declared.Declared.{Declared}
use Rattle.vg_inline.specs.declared.tree.Tree.{Tree}
use Rattle.vg_inline.specs.declared.effect.Effect.{Effect}
use Rattle.vg_inline.specs.Size.{most_nodes, effect_size}
use Rattle.vg_inline.specs.Types.{aliases_of, declared_type as type_declared}
use Rattle.vg_inline.specs.Inline.{Known as KnownAs, trees, bodies_of}
use Rattle.vg_inline.specs.Behaviour.{statements, behaviour_by}

-- with the bodies of functions as trees
abbrev pub Known : Type 0
Known = KnownAs Tree

abbrev pub known_of : List Item → Known
known_of all =
    record {
      constants = constants_of all;
      aliases = aliases_of all (constants_of all);
      bodies = bodies_of trees all (constants_of all) (aliases_of all (constants_of all));
    }

-- a type outside of expressions
abbrev pub declared_type : Known → TypeExpr Expr → Declared
declared_type known t = type_declared known.constants known.aliases t

-- what an instruction does, with everything in place of its names
abbrev pub behaviour_of : List Item → Known → Item → Option Effect
behaviour_of all known item = behaviour_by (statements trees) all known item

-- the place of a name, where this has too many nodes
abbrev pub excess : Name → Option Effect → List ℕ
excess name None = []
excess name (Some effect) = if nat_le (effect_size effect) most_nodes then [] else name.at ∷ []

abbrev pub item_excess : List Item → Known → Item → List ℕ
item_excess all known (items.Instruction at name format behaviour) = excess name (behaviour_of all known (items.Instruction at name format behaviour))
item_excess all known _ = []

-- the places of the names of instructions that have too many nodes, in the order of the text
abbrev pub excesses : List Item → List ℕ
excesses all = in_each (item_excess all (known_of all)) all
