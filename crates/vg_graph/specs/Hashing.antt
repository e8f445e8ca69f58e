-- The bucket of a node in the table of nodes.
use Rattle.std.specs.Prelude.{ℕ, ◌+◌, ◌*◌, ◌/◌, ◌%◌, ◌^◌, bit_xor}
use Rattle.vg_graph.specs.declared.operands.Operands.{Operands}
use Rattle.vg_graph.specs.declared.operands.Operands.TheVariants.{Zero, One, Two, Three}
use Rattle.vg_graph.specs.declared.operator.Op.{Op}
use Rattle.vg_graph.specs.declared.operator.Op.TheVariants as op
use Rattle.vg_graph.specs.declared.node.Node.{Node}

-- a number for an operator
unfoldable pub operator_number : Op → ℕ
operator_number (op.Const b) = b.number % 0x1000_0000_0000_0000
operator_number (op.Field f) = 0x1000_0000_0000_0000 + f.index
operator_number op.Pc = 0x2000_0000_0000_0000
operator_number (op.Reg r) = 0x3000_0000_0000_0000 + r.0
operator_number (op.Mem bytes) = 0x4000_0000_0000_0000 + bytes
operator_number (op.Unary o) = 0x5000_0000_0000_0000
operator_number (op.Binary o) = 0x6000_0000_0000_0000
operator_number (op.Cast o width) = 0x7000_0000_0000_0000 + width
operator_number (op.Slice high low) = 0x8000_0000_0000_0000 + high * 256 + low
operator_number op.Join = 0x9000_0000_0000_0000
operator_number op.If = 0xa000_0000_0000_0000

-- a number mixed into a hash
unfoldable pub mixed : ℕ → ℕ → ℕ
mixed hash x = bit_xor hash x * 0x9e37_79b9_7f4a_7c15 % 2 ^ 64

-- the operands mixed into a hash
unfoldable pub operands_hash : ℕ → Operands → ℕ
operands_hash hash Zero = hash
operands_hash hash (One a) = mixed hash a
operands_hash hash (Two a b) = mixed (mixed hash a) b
operands_hash hash (Three a b c) = mixed (mixed (mixed hash a) b) c

-- the hash of a node
unfoldable pub node_hash : Node → ℕ
node_hash node = operands_hash (mixed 0 (operator_number node.op)) node.args

-- the bucket of a node, of so many
unfoldable pub bucket_of : ℕ → Node → ℕ
bucket_of count node = node_hash node / 2 ^ 32 % count
