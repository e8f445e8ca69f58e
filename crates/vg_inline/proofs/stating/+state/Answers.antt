use Rattle.std.proofs.Common.{Option, ap, ◌∙◌}
use Rattle.vg_inline.specs.declared.kept.Kept.{Kept}
use Rattle.vg_inline.specs.declared.kept.KeptEffect.{KeptEffect}
use Rattle.vg_inline.specs.Kept.{block_over, stating_as}
use Rattle.vg_inline.specs.Context.{inner_at, items_of, known_in}
use Rattle.vg_inline.proofs.StateLemmas.{block_stated}
use Rattle.vg_inline.proofs.stating.+state.Goals as goal

pub state-returns-in_ok-effects-in-Block : goal.state-returns-in_ok-effects-in-Block
state-returns-in_ok-effects-in-Block t c =
    let x = c.args.context.now in
    c.block.ensures ∙ ap (block_over x.keep) c.in_ok-effects-in-Block.ensures
    ∙ block_stated (Option Kept) (Option KeptEffect) (stating_as x.keep) (items_of x) (known_in x) (inner_at x c.args.names.now) c.args.statement.now c.in-Block.at c.in-Block.statements c.as_slice.result.now c.in-Block.is c.as_slice.ensures
