use Rattle.std.proofs.Common.{◌≡◌, ℕ, ◌<◌, ◌≤◌, slice_index}
use Rattle.vg_mem.proofs.page.Page.next_set.Given as goal

-- the bytes so far are 0
abbrev pub invariant-loop-at : goal.invariant-loop-at
invariant-loop-at l = (k : ℕ) → l.from ≤ k → k < l.at → slice_index l.self.bytes k ≡ 0
