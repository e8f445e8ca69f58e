use Rattle.std.proofs.Common.{◌≡◌, drop}
use Rattle.vg_names.specs.First.{first_of}
use Rattle.vg_names.specs.Unknown.{in_each, register_unknowns}
use Rattle.vg_resolve.proofs.unknown_part.registers.Given as goal

abbrev pub invariant-loop-one : goal.invariant-loop-one
invariant-loop-one l = first_of (in_each (register_unknowns l.table.items.now) l.registers) ≡ first_of (in_each (register_unknowns l.table.items.now) (drop l.one-index l.registers))
