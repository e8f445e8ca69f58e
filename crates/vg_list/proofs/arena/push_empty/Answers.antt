use Rattle.std.proofs.Common.{arith, length, rules}
use Rattle.std.proofs.lemmas.Grind.{common_steps}
use Rattle.std.proofs.lemmas.List.FromFn.{map-range_with_len_more}
use Rattle.vg_list.specs.Arena.{empty_ring}
use Rattle.vg_list.proofs.arena.push_empty.Goals as goal

pub loop-added-preserved : goal.loop-added-preserved
loop-added-preserved c =
    let first = length c.args.sentinels.now.items in
    let next = map-range_with_len_more empty_ring first c.loop-added._added c.len.result (omega arith) in
    record {
      items = grind (arith, common_steps, next);
      room = search rules;
      count = search rules;
    }
