-- A graph in which all users of a node use another one.
use Rattle.std.specs.Prelude.{◌≡◌, ℕ, ◌==◌, if◌then◌else◌, List, [], ◌++◌, map, slice_set}
use Rattle.std.specs.Option.{option_map}
use Rattle.vg_isa.specs.declared.expr.Expr.{Expr}
use Rattle.vg_isa.specs.Typing.{width_of}
use Rattle.vg_isa.specs.Value.{Reads, value_of}
use Rattle.vg_graph.specs.declared.operands.Operands.{Operands}
use Rattle.vg_graph.specs.declared.operands.Operands.TheVariants.{Zero, One, Two, Three}
use Rattle.vg_graph.specs.declared.node.Node.{Node}
use Rattle.vg_graph.specs.declared.roots.Roots.{Roots}
use Rattle.vg_graph.specs.declared.roots.WriteRoots.{WriteRoots}
use Rattle.vg_graph.specs.declared.roots.NextRoots.{NextRoots}
use Rattle.vg_graph.specs.Tree.{IsTree}
use Rattle.vg_graph.specs.Graph.{GraphValue, users_at}

-- the number that stands in place of a number
abbrev pub renamed : ℕ → ℕ → ℕ → ℕ
renamed old new n = if n == old then new else n

abbrev pub renamed_operands : ℕ → ℕ → Operands → Operands
renamed_operands old new Zero = Zero
renamed_operands old new (One a) = One (renamed old new a)
renamed_operands old new (Two a b) = Two (renamed old new a) (renamed old new b)
renamed_operands old new (Three a b c) = Three (renamed old new a) (renamed old new b) (renamed old new c)

-- the node with the new operand in place of the old one
abbrev pub renamed_node : ℕ → ℕ → Node → Node
renamed_node old new node = record node { args = renamed_operands old new node.args }

abbrev pub renamed_write : ℕ → ℕ → WriteRoots → WriteRoots
renamed_write old new w = record { guard = renamed old new w.guard; at = option_map (renamed old new) w.at; value = renamed old new w.value }

abbrev pub renamed_next : ℕ → ℕ → NextRoots → NextRoots
renamed_next old new n = record { guard = renamed old new n.guard; value = renamed old new n.value }

abbrev pub renamed_roots : ℕ → ℕ → Roots → Roots
renamed_roots old new roots = record { writes = map (renamed_write old new) roots.writes; next = option_map (renamed_next old new) roots.next }

-- the edges of one list behind those of another one
abbrev pub moved_lists : ℕ → ℕ → List (List ℕ) → List (List ℕ)
moved_lists old new users = slice_set (slice_set users new (users_at users new ++ users_at users old)) old []

-- the edges that named the old node name the new one
abbrev pub moved_users : ℕ → ℕ → List (List ℕ) → List (List ℕ)
moved_users old new users = if old == new then users else moved_lists old new users

-- every operand and every root that is the old node is the new one
abbrev pub replaced : ℕ → ℕ → GraphValue → GraphValue
replaced old new g = record g {
  nodes = map (renamed_node old new) g.nodes;
  users = moved_users old new g.users;
  roots = renamed_roots old new g.roots;
}

-- the trees at two nodes have one width
abbrev pub HaveOneWidth : GraphValue → ℕ → ℕ → Type 0
HaveOneWidth g m n = (e f : Expr) → IsTree g.nodes m e → IsTree g.nodes n f → width_of g.isa e ≡ width_of g.isa f

-- the tree at a node of a graph and the tree at a node of another one have one value, for a word in a state
abbrev pub HaveOneValue : ℕ → Reads → GraphValue → ℕ → GraphValue → ℕ → Type 0
HaveOneValue word s g m h n = (e f : Expr) → IsTree g.nodes m e → IsTree h.nodes n f → value_of g.isa e word s ≡ value_of h.isa f word s
