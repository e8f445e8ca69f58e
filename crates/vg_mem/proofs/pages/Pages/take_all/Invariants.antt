use Rattle.std.proofs.Common.{◌≡◌, ◌-◌}
use Rattle.vg_mem.specs.Memory.{pages_from}
use Rattle.vg_mem.specs.Pages.{bytes_of, pages_of}
use Rattle.vg_mem.proofs.pages.Pages.take_all.Given as goal

-- the pages so far are taken
abbrev pub invariant-loop-number : goal.invariant-loop-number
invariant-loop-number l = record {
  bytes : bytes_of l.self.pages.items ≡ bytes_of l.fn.self.pages.items;
  pages : pages_of l.self.pages.items ≡ pages_from l.first (l.number - l.first) (pages_of l.fn.self.pages.items);
}
