use Rattle.std.proofs.Common.{◌≡◌, ◌+◌, ◌≤◌, ◌++◌, length, map, vec_len, vec_capacity}
use Rattle.std.specs.List.{range_with_len}
use Rattle.vg_list.specs.Arena.{empty_ring}
use Rattle.vg_list.proofs.arena.push_empty.Given as goal

abbrev pub invariant-loop-added : goal.invariant-loop-added
invariant-loop-added l = record {
  items : l.sentinels.items ≡ l.initial.sentinels.items ++ map empty_ring (range_with_len (length l.initial.sentinels.items) l._added);
  room : vec_len l.sentinels + l.count ≤ vec_capacity l.sentinels + l._added;
  count : vec_len l.sentinels ≡ length l.initial.sentinels.items + l._added;
}
