use Rattle.std.proofs.Common.{arith}
use Rattle.vg_mem.proofs.PageLemmas.{place_of-number}
use Rattle.vg_mem.proofs.pages.Pages.hinted.Goals as goal

pub returns-then-index-number-clause-value : goal.returns-then-index-number-clause-value
returns-then-index-number-clause-value c = place_of-number c.args.self.now.pages.items _ c.args.number c.index.result.now c.args.self.now.distinct (omega arith) c.index.ensures c.if-index-number.true
