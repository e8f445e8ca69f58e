use Rattle.std.proofs.Common.{◌≡◌, drop}
use Rattle.vg_inline.specs.Context.{items_of}
use Rattle.vg_type.specs.Scope.{counter_type}
use Rattle.vg_type.proofs.machine.counter_width.Given as goal

abbrev pub invariant-loop-item : goal.invariant-loop-item
invariant-loop-item l = counter_type (items_of l.context) ≡ counter_type (drop l.item-index (items_of l.context))
