-- The nodes of trees. A node is an operator with its operands, which are trees.
use Rattle.std.specs.Prelude.{Bool, true, false, List, [], ◌∷◌, ◌++◌, flat_map, ℕ, Option, Some, None}
use Rattle.std.specs.List.{list_all, filter_map}
use Rattle.std.specs.Option.{option_to_list}
use Rattle.vg_isa.specs.declared.expr.Expr.{Expr, fold-Expr, map-Expr, roll-Expr}
use Rattle.vg_isa.specs.declared.expr.Expr.TheOpen.{Expr-F}
use Rattle.vg_isa.specs.declared.ids.FieldId.{FieldId}
use Rattle.vg_isa.specs.declared.ids.ResourceId.{ResourceId}
use Rattle.vg_isa.specs.declared.ids.ResourceId.TheVariants.{Memory, Reg}
use Rattle.vg_isa.specs.declared.instr.Write.{Write}
use Rattle.vg_isa.specs.declared.instr.Instr.{Instr}

abbrev pub Node : Type 0
Node = Expr-F Expr

-- a tree and its nodes
abbrev pub Walked : Type 0
Walked = Expr × List Node

-- the nodes of the operands
abbrev pub nodes_below : Expr-F Walked → List Node
nodes_below (Expr-F.Const b) = []
nodes_below (Expr-F.Field f) = []
nodes_below Expr-F.Pc = []
nodes_below (Expr-F.Reg r None) = []
nodes_below (Expr-F.Reg r (Some i)) = i.1
nodes_below (Expr-F.Mem a bytes) = a.1
nodes_below (Expr-F.Unary op a) = a.1
nodes_below (Expr-F.Binary op a b) = a.1 ++ b.1
nodes_below (Expr-F.Cast op width a) = a.1
nodes_below (Expr-F.Slice a hi lo) = a.1
nodes_below (Expr-F.Join a b) = a.1 ++ b.1
nodes_below (Expr-F.If c a b) = c.1 ++ a.1 ++ b.1

-- the node of operands
abbrev pub node_over : Expr-F Walked → Node
node_over x = map-Expr Walked Expr (λ (w : Walked). w.0) x

-- one level of a tree, with the operands and their nodes
abbrev pub walk_step : Expr-F Walked → Walked
walk_step x = (roll-Expr (node_over x), node_over x ∷ nodes_below x)

-- the nodes of a tree, each in front of those of its operands
abbrev pub nodes_of : Expr → List Node
nodes_of e = (fold-Expr Walked walk_step e).1

-- ---- what a node reads

abbrev pub field_in : Node → Option FieldId
field_in (Expr-F.Field f) = Some f
field_in _ = None

abbrev pub resource_in : Node → Option ResourceId
resource_in (Expr-F.Reg r i) = Some (Reg r)
resource_in (Expr-F.Mem at bytes) = Some Memory
resource_in _ = None

-- the address and the size of a memory read
abbrev pub access_in : Node → Option (Expr × ℕ)
access_in (Expr-F.Mem at bytes) = Some (at, bytes)
access_in _ = None

-- ---- indices

-- a field, a constant or a cast
abbrev pub is_plain_node : Node → Bool
is_plain_node (Expr-F.Const b) = true
is_plain_node (Expr-F.Field f) = true
is_plain_node (Expr-F.Cast op width a) = true
is_plain_node _ = false

-- a tree of fields, constants and casts alone
abbrev pub is_plain : Expr → Bool
is_plain e = list_all is_plain_node (nodes_of e)

-- where the node reads a register of a file, its index is made of fields, constants and casts alone
abbrev pub has_plain_index : Node → Bool
has_plain_index (Expr-F.Reg r (Some i)) = is_plain i
has_plain_index _ = true

-- ---- the trees of an instruction

abbrev pub write_trees : Write → List Expr
write_trees write = write.guard ∷ option_to_list write.at ++ write.value ∷ []

abbrev pub next_trees : Option (Expr × Expr) → List Expr
next_trees None = []
next_trees (Some next) = next.0 ∷ next.1 ∷ []

-- of each write its guard, its index or address and its value, and then the guard and the value of the next
-- program counter
abbrev pub trees_of : Instr → List Expr
trees_of instr = flat_map write_trees instr.writes ++ next_trees instr.next

abbrev pub instr_nodes : Instr → List Node
instr_nodes instr = flat_map nodes_of (trees_of instr)

-- the addresses and sizes of the memory reads of an instruction
abbrev pub accesses_of : Instr → List (Expr × ℕ)
accesses_of instr = filter_map access_in (instr_nodes instr)
