use Rattle.std.proofs.Common.{◌<◌, inl, inr, arith}
use Rattle.vg_list.proofs.Linked.{IsLinked-pushed}
use Rattle.vg_graph.proofs.store.link.Goals as goal

pub push_back-requires-clause-free : goal.push_back-requires-clause-free
push_back-requires-clause-free c = λ linked. let below : c.args.edge < c.args.edge = c.requires.below c.args.edge linked in absurd (omega arith)

pub returns-clause-below : goal.returns-clause-below
returns-clause-below c = rw c.push_back.ensures (λ e linked. elim ((IsLinked-pushed c.args.users.now e c.args.target c.args.edge c.requires.target).0 linked) [
  | inl before ↦ let below : e < c.args.edge = c.requires.below e before in omega arith
  | inr is ↦ omega (arith, is)
])
