use Rattle.std.proofs.Common.{◌≡◌, ◌≤◌, drop}
use Rattle.vg_inline.specs.Context.{constants_in}
use Rattle.vg_type.specs.Fields.{bits_with}
use Rattle.vg_type.proofs.fields.ranges_type.Given as goal

abbrev pub invariant-loop-range : goal.invariant-loop-range
invariant-loop-range l = record {
  within : l.bits ≤ 128;
  rest : bits_with (constants_in l.context) 0 l.ranges ≡ bits_with (constants_in l.context) l.bits (drop l.range-index l.ranges);
}
