-- Each start behind those so far.
use Rattle.std.proofs.Common.{rules, ◌≡◌, ℕ, ◌+◌, ◌<◌, ◌^◌, List, [], length, get_or, None, sym, ap, subst, arith}
use Rattle.std.proofs.lemmas.Grind.{common_steps}
use Rattle.std.specs.Prelude.{slice_index}
use Rattle.vg_settle.specs.declared.item.Item.{Item}
use Rattle.vg_settle.specs.Layout.{start}
use Rattle.vg_settle.proofs.Layouts.{start-zero}
use Rattle.vg_settle.proofs.Starting.{long_next, long_fits, table_pushed}
use Rattle.vg_settle.proofs.settling.long_starts.Goals as goal

pub loop-item-init : goal.loop-item-init
loop-item-init c = record {
  each = ap length c.new-starts.ensures.items;
  from = sym (start-zero c.args.items.now []);
  done = λ j below. absurd (omega arith);
}

pub overflow_add-from : goal.overflow_add-from
overflow_add-from c =
    let none : Item = record { words = 0; short = None } in
    let below : c.loop-item.from + (get_or c.args.items.now c.loop-item.item-index none).words < 2 ^ 32 =
    long_fits c.args.items.now c.loop-item.item-index c.loop-item.from none c.loop-item-test.true c.loop-item.invariant.from c.requires in
    search rules

pub loop-item-preserved : goal.loop-item-preserved
loop-item-preserved c =
    let items = c.in_ok-push.ensures.items in
    let P : List ℕ → Type 0 = λ starts. (j : ℕ) → j < c.loop-item.item-index + 1 → slice_index starts j ≡ start c.args.items.now [] j in
    record {
      each = grind (arith, common_steps);
      from = long_next c.args.items.now c.loop-item.item-index c.loop-item.from _ c.loop-item-test.true c.loop-item.invariant.from;
      done = subst P (sym items) (table_pushed c.args.items.now c.loop-item.starts.items c.loop-item.item-index c.loop-item.from c.loop-item.invariant.each c.loop-item.invariant.from c.loop-item.invariant.done);
    }
