use Rattle.std.proofs.Common.{drop}
use Rattle.vg_format.proofs.Remaining.{Remains}
use Rattle.vg_format.specs.Replaced.{with_ranges}
use Rattle.vg_format.proofs.setting.with_ranges.Given as goal

-- the ranges from here on, with the bits that are left, give the whole
abbrev pub invariant-loop-high : goal.invariant-loop-high
invariant-loop-high l = Remains (drop l.high-index l.ranges) l.changed l.left l.value (with_ranges l.ranges l.word l.value.number)
