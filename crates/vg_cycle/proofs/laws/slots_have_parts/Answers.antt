use Rattle.std.proofs.Common.{suc, arith}
use Rattle.vg_cycle.proofs.Values.{agrees_before}
use Rattle.vg_cycle.proofs.laws.slots_have_parts.Goals as goal

pub returns : goal.returns
returns c d u y s placed holds = record {
  reads = λ r i lt. placed.reads_agree y.fetched u y.view s holds.reads r i lt;
  guard = λ r lt. placed.guard_agrees y.fetched u y.view s holds.reads r lt;
  put = λ r i old lt. placed.put_agrees y.fetched u y.view s holds.reads r i old lt;
  next = λ lt. placed.next_agrees y.fetched u y.view s holds.reads lt;
  asks = λ t lt. placed.asks_agree y.fetched t y.view s (agrees_before d y.fetched (suc t) u y.view s (omega arith) holds.reads);
}
