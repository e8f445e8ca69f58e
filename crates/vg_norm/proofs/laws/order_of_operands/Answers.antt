use Rattle.vg_norm.proofs.OrderLemmas.{first_exact, first_total}
use Rattle.vg_norm.proofs.laws.order_of_operands.Goals as goal

pub returns-clause-total : goal.returns-clause-total
returns-clause-total c e f h = first_total e f h

pub returns-clause-exact : goal.returns-clause-exact
returns-clause-exact c e f h k = first_exact e f h k
