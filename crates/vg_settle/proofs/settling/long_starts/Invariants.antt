use Rattle.std.proofs.Common.{◌≡◌, ◌<◌, ℕ, [], slice_index, length}
use Rattle.vg_settle.specs.Layout.{start}
use Rattle.vg_settle.proofs.settling.long_starts.Given as goal

-- the table has the starts of the items so far
abbrev pub invariant-loop-item : goal.invariant-loop-item
invariant-loop-item l = record {
  each : length l.starts.items ≡ l.item-index;
  from : l.from ≡ start l.items [] l.item-index;
  done : (j : ℕ) → j < l.item-index → slice_index l.starts.items j ≡ start l.items [] j;
}
