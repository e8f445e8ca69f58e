-- Writes as the code keeps them.
use Rattle.std.specs.Prelude.{List, map, Option, Some, None}
use Rattle.vg_isa.specs.declared.expr.Expr.{Expr}
use Rattle.vg_tree.specs.declared.written.Written.{Written}
use Rattle.vg_tree.specs.Access.{Write}
use Rattle.vg_access.specs.declared.write.Write.{Write as WriteGiven}

-- the write that is kept so
abbrev pub write_in : WriteGiven → Write
write_in w = record { item = w.item; at = w.at; bytes = w.bytes; place = w.place }

abbrev pub writes_in : List WriteGiven → List Write
writes_in writes = map write_in writes

-- the index or address of what is written
abbrev pub part_written : Option Written → Option Expr
part_written None = None
part_written (Some written) = written.at
