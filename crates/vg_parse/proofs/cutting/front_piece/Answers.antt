-- The piece goes on as long as no token begins another.
use Rattle.std.proofs.Common.{add-one, arith}
use Rattle.vg_parse.proofs.Front.{cut_begin, cut_next, cut_ends, cut_all, fits_at, fits_all, left_or, right_or, neither_or}
use Rattle.vg_parse.proofs.cutting.front_piece.Goals.{then-fresh-via-then-fresh, then-fresh-via-else-fresh+then-begins_piece}
use Rattle.vg_parse.proofs.cutting.front_piece.Goals as goal

pub loop-len-init : goal.loop-len-init
loop-len-init c = cut_begin _ _ _ _ _ c.requires.some c.depths_behind-depths.ensures c.closes_part-fresh.ensures

pub returns-then-fresh-clause-piece : goal.returns-then-fresh-clause-piece
returns-then-fresh-clause-piece c =
    cut_ends _ _ _ _ _ c.index-tokens-len.result c.loop-len-test.true c.loop-len.invariant
    (elim c.then-fresh.branch [ then-fresh-via-then-fresh w ↦ left_or _ w.if-fresh.true | then-fresh-via-else-fresh+then-begins_piece w ↦ right_or _ w.begins_piece.ensures w.if-begins_piece.true ])

pub depths_behind-depths-requires-in-loop-len-clause-braces :
    goal.depths_behind-depths-requires-in-loop-len-clause-braces
depths_behind-depths-requires-in-loop-len-clause-braces c =
    let f = fits_at _ _ _ _ _ _ c.index-tokens-len.result c.loop-len-test.true c.loop-len.invariant c.requires.fits in omega (arith, f.0)

pub depths_behind-depths-requires-in-loop-len-clause-parentheses :
    goal.depths_behind-depths-requires-in-loop-len-clause-parentheses
depths_behind-depths-requires-in-loop-len-clause-parentheses c =
    let f = fits_at _ _ _ _ _ _ c.index-tokens-len.result c.loop-len-test.true c.loop-len.invariant c.requires.fits in omega (arith, f.1)

pub loop-len-preserved : goal.loop-len-preserved
loop-len-preserved c =
    rw add-one (cut_next _ _ _ _ _ _ _ c.index-tokens-len.result c.loop-len-test.true c.loop-len.invariant
    (neither_or c.if-fresh.false c.begins_piece.ensures c.if-begins_piece.false) c.depths_behind-depths-in-loop-len.ensures c.closes_part-fresh-in-loop-len.ensures)

pub returns-clause-piece : goal.returns-clause-piece
returns-clause-piece c = cut_all _ _ _ _ _ c.loop-len-test.false c.loop-len.invariant

pub returns-clause-fits : goal.returns-clause-fits
returns-clause-fits c = fits_all _ _ _ _ _ c.loop-len-test.false c.loop-len.invariant
