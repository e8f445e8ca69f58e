use Rattle.std.proofs.Common.{drop, []}
use Rattle.vg_names.specs.Met.{keys_met}
use Rattle.vg_names.specs.Table.{inside_from}
use Rattle.vg_names.proofs.TableLemmas.{IsNoted}
use Rattle.vg_names.proofs.table.inner_of.Given as goal

abbrev pub invariant-loop-number : goal.invariant-loop-number
invariant-loop-number l = IsNoted [] (inside_from 0 l.items) (keys_met l.inner) (inside_from l.number (drop l.number l.items))
