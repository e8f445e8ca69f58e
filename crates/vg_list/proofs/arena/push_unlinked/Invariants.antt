use Rattle.std.proofs.Common.{◌≡◌, ◌+◌, ◌≤◌, ◌++◌, replicate, vec_len, vec_capacity}
use Rattle.vg_list.specs.Arena.{no_links}
use Rattle.vg_list.proofs.arena.push_unlinked.Given as goal

abbrev pub invariant-loop-added : goal.invariant-loop-added
invariant-loop-added l = record {
  items : l.nodes.items ≡ l.initial.nodes.items ++ replicate l._added no_links;
  room : vec_len l.nodes + l.count ≤ vec_capacity l.nodes + l._added;
}
