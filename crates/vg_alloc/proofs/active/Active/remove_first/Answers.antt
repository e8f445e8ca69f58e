-- A value stands in the list once.
use Rattle.vg_alloc.proofs.Members.{Lacks-unlinked}
use Rattle.vg_alloc.proofs.active.Active.remove_first.Goals as goal

pub returns-else-self-eq0-clause-gone : goal.returns-else-self-eq0-clause-gone
returns-else-self-eq0-clause-gone c = Lacks-unlinked c.args.self.now.lists c.unlink.new.self c.args.first c.unlink.ensures.value
