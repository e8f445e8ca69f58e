use Rattle.std.proofs.Common.{suc, arith}
use Rattle.vg_cycle.specs.Description.{IsPlaced}
use Rattle.vg_cycle.proofs.Values.{agrees_before}
use Rattle.vg_pipe.specs.Seen.{seen}
use Rattle.vg_pipe.proofs.Placed.{is_placed}
use Rattle.vg_pipe.proofs.laws.description_has_parts.Goals as goal

pub returns : goal.returns
returns c d micro i u y s planned holds =
    let placed : IsPlaced (seen d micro i) = is_placed d micro planned i in
    record {
      reads = λ r j lt. placed.reads_agree y.fetched u y.view s holds.reads r j lt;
      guard = λ r lt. placed.guard_agrees y.fetched u y.view s holds.reads r lt;
      put = λ r j old lt. placed.put_agrees y.fetched u y.view s holds.reads r j old lt;
      next = λ lt. placed.next_agrees y.fetched u y.view s holds.reads lt;
      asks = λ t lt. placed.asks_agree y.fetched t y.view s (agrees_before (seen d micro i) y.fetched (suc t) u y.view s (omega arith) holds.reads);
    }
