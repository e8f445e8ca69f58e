-- The table that finds a node by its operator and operands: each node stands in its bucket.
use Rattle.std.specs.Prelude.{◌≡◌, ℕ, ◌<◌, ◌≤◌, List, [], ◌∷◌, ◌++◌, length, map, Option, Some, None, slice_get, slice_set}
use Rattle.vg_list.specs.NodeLists.{nodes_of, IsLinked, without}
use Rattle.vg_graph.specs.declared.node.Node.{Node}
use Rattle.vg_graph.specs.declared.table.Table.{Table}
use Rattle.vg_graph.specs.Hashing.{bucket_of}
use Rattle.vg_graph.specs.Node.{IsIn}

-- the table has room for so many nodes
pub record HasRoom (table : Table) : Type 0 where
  pub some : 0 < table.room
  pub buckets : length table.buckets.lists ≡ table.room
  pub nodes : table.buckets.nodes ≡ table.room

-- each of these nodes, and no other number, is in the table
pub record IsIndexed (nodes : List Node) (table : Table) : Type 0 where
  pub has_room : HasRoom table
  pub fits : length nodes ≤ table.room
  pub placed : (n : ℕ) (node : Node) → slice_get nodes n ≡ Some node → IsIn (nodes_of table.buckets (bucket_of table.room node)) n
  pub within : (n : ℕ) → IsLinked table.buckets n → n < length nodes

-- the number of a node with this operator and these operands; None where there is none such
abbrev pub IsFound : List Node → Node → Option ℕ → Type 0
IsFound nodes node (Some n) = slice_get nodes n ≡ Some node
IsFound nodes node None = (m : ℕ) → slice_get nodes m ≡ Some node → ⊥

-- the table with a number in the bucket of a node
abbrev pub put_in : Table → ℕ → Node → Table
put_in table n node =
    let bucket = bucket_of table.room node in
    record table { buckets = record table.buckets { lists = slice_set table.buckets.lists bucket (nodes_of table.buckets bucket ++ n ∷ []) } }

-- the table without a number
abbrev pub taken_out : Table → ℕ → Table
taken_out table n = record table { buckets = record table.buckets { lists = map (without n) table.buckets.lists } }
