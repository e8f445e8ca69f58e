use Rattle.std.proofs.Common.{ℕ, subst, arith, rules}
use Rattle.vg_graph.specs.Store.{LinkedBelow}
use Rattle.vg_graph.proofs.StoreLemmas.{store_appended}
use Rattle.vg_graph.proofs.TableLemmas.{not_linked}
use Rattle.vg_graph.proofs.store.Store.append.Goals as goal

pub link_operands-requires-clause-below : goal.link_operands-requires-clause-below
link_operands-requires-clause-below c = subst (λ (n : ℕ). LinkedBelow c.args.self.now.users n) (search rules) c.requires.roomy.below

pub insert-requires-clause-free : goal.insert-requires-clause-free
insert-requires-clause-free c = not_linked c.args.self.now.nodes.items c.args.self.now.table _ c.requires.roomy.indexed (omega arith)

pub returns-clause-store : goal.returns-clause-store
returns-clause-store c = store_appended c.args.self.now _ c.args.node.now c.requires.roomy c.requires.exact c.requires.lists (search rules) (search rules) (search rules) (search rules) (search rules)
