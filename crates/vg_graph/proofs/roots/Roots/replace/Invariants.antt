use Rattle.std.proofs.Common.{◌≡◌, ◌++◌, map, take, drop, length}
use Rattle.vg_graph.specs.Replaced.{renamed_write}
use Rattle.vg_graph.proofs.roots.Roots.replace.Given as goal

abbrev pub invariant-loop-k : goal.invariant-loop-k
invariant-loop-k l = record {
  writes : l.self.writes ≡ map (renamed_write l.old l.new) (take l.k l.initial.self.writes) ++ drop l.k l.initial.self.writes;
  next : l.self.next ≡ l.initial.self.next;
  count : length l.self.writes ≡ length l.initial.self.writes;
}
