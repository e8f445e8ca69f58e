use Rattle.std.proofs.Common.{◌≡◌, ℕ, ◌*◌, ◌/◌, ◌-◌, ◌^◌, ◌<◌, ◌≤◌}
use Rattle.vg_mem.specs.Bytes.{byte_in}
use Rattle.vg_mem.specs.Pages.{bytes_of}
use Rattle.vg_mem.proofs.pages.Pages.next_set.Given as goal

-- the bytes of the pages so far are 0
abbrev pub invariant-loop-next : goal.invariant-loop-next
invariant-loop-next l = record {
  order : l.from / 256 ≤ l.number;
  bound : l.number ≤ 2 ^ 56;
  zero : (k : ℕ) → l.from ≤ k → k < 256 * l.number → byte_in (bytes_of l.self.pages.items) k ≡ 0;
}

abbrev pub decreases-loop-next : goal.decreases-loop-next
decreases-loop-next l = 2 ^ 56 - l.number
