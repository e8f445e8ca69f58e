use Rattle.std.proofs.Common.{◌≡◌, ◌<◌, length, List, set, Some, sym, ap, ◌∙◌}
use Rattle.std.specs.Prelude.{slice_get}
use Rattle.std.proofs.lemmas.List.{length-set}
use Rattle.std.proofs.lemmas.List.Edits.{map_over_more}
use Rattle.std.proofs.lemmas.Option.{get_or_from_slice_get}
use Rattle.vg_graph.specs.declared.roots.WriteRoots.{WriteRoots}
use Rattle.vg_graph.specs.Replaced.{renamed_write}
use Rattle.vg_graph.proofs.roots.Roots.replace.Goals as goal

pub loop-k-preserved : goal.loop-k-preserved
loop-k-preserved c =
    let inv = c.loop-k.invariant in
    let k = c.loop-k.k in
    let old = c.args.self.now.writes in
    let now = c.loop-k.self.writes in
    let x = c.in-Some.write.now in
    let f : WriteRoots → WriteRoots = renamed_write c.args.old c.args.new in
    let at : Some x ≡ slice_get now k = c.in-Some.ensures.value in
    let below : k < length old = rw (← c.len-k-end.ensures) c.loop-k-test.true in
    record {
      writes = c.set.ensures ∙ ap (λ (y : WriteRoots). set now k y) c.renamed-changed.ensures ∙ map_over_more f old now k x below inv.writes (sym (get_or_from_slice_get now k x x (sym at)));
      next = inv.next;
      count = ap (λ (ws : List WriteRoots). length ws) c.set.ensures ∙ length-set now k c.renamed-changed.result ∙ inv.count;
    }
