-- Each item as a step of the sweep.
use Rattle.std.proofs.Common.{rules, ◌≡◌, ◌+◌, ◌<◌, ◌^◌, set, sym, ◌∙◌}
use Rattle.vg_settle.specs.Layout.{start}
use Rattle.vg_settle.proofs.Marking.{can_test}
use Rattle.vg_settle.proofs.Sweeping.{swept_first, stands_of, step, none_left, start_kept, next_fits}
use Rattle.vg_settle.proofs.sweep.sweep.Goals as goal

pub loop-k-init : goal.loop-k-init
loop-k-init c = swept_first c.args.items.now c.args.bytes c.args.marks.now c.args.starts.now c.requires.starts c.requires.sound

pub mark_if_fits-marked-requires-clause-table : goal.mark_if_fits-marked-requires-clause-table
mark_if_fits-marked-requires-clause-table c =
    can_test c.args.items.now c.args.bytes c.requires.code c.args.marks.now c.loop-k.marks (set c.loop-k.starts c.loop-k.k c.loop-k.from) c.loop-k.k c.loop-k.from c.item_at-item.result
    (stands_of c.args.items.now c.args.bytes c.args.marks.now c.loop-k.marks c.loop-k.starts c.loop-k.k c.loop-k.from c.loop-k.any c.loop-k.invariant c.loop-k-test.true)
    c.item_at-item.ensures

pub overflow_add-from : goal.overflow_add-from
overflow_add-from c =
    let from_is : c.loop-k.from ≡ start c.args.items.now c.mark_if_fits-marked.new.marks c.loop-k.k =
    c.loop-k.invariant.from_is ∙ sym (start_kept c.args.items.now c.args.bytes c.loop-k.marks c.mark_if_fits-marked.new.marks (set c.loop-k.starts c.loop-k.k c.loop-k.from) c.loop-k.k c.loop-k.from
    c.mark_if_fits-marked.result c.item_at-item.result c.mark_if_fits-marked.ensures.marked c.mark_if_fits-marked.ensures.kept) in
    let fits : c.loop-k.from + c.words_of-from.result < 2 ^ 32 = next_fits c.args.items.now c.args.bytes c.requires.code c.mark_if_fits-marked.new.marks c.loop-k.k c.loop-k.from c.words_of-from.result c.item_at-item.result
    c.item_at-item.ensures from_is c.words_of-from.ensures in
    search rules

pub loop-k-preserved : goal.loop-k-preserved
loop-k-preserved c =
    step c.args.items.now c.args.bytes c.requires.code c.args.marks.now c.loop-k.marks c.mark_if_fits-marked.new.marks c.loop-k.starts c.loop-k.k c.loop-k.from c.words_of-from.result
    c.loop-k.any c.mark_if_fits-marked.result c.item_at-item.result c.loop-k.invariant c.loop-k-test.true c.item_at-item.ensures
    c.mark_if_fits-marked.ensures.marked c.mark_if_fits-marked.ensures.kept c.words_of-from.ensures

pub returns-clause-none : goal.returns-clause-none
returns-clause-none c =
    none_left c.args.items.now c.args.bytes c.args.marks.now c.loop-k.marks c.loop-k.starts c.loop-k.k c.loop-k.from c.loop-k.any c.loop-k.invariant c.loop-k-test.false
