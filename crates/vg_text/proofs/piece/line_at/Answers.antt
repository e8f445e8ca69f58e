use Rattle.std.proofs.Common.{◌+◌, sym}
use Rattle.std.proofs.lemmas.List.{take_rest}
use Rattle.vg_text.proofs.Pieces.{lacks-take_more, line_at_found, line_at_all}
use Rattle.vg_text.proofs.piece.line_at.Goals as goal

pub returns-then-byte-eq10 : goal.returns-then-byte-eq10
returns-then-byte-eq10 c = rw (take_rest c.args.text.now (c.loop-at.at + 1)) (sym (line_at_found c.args.text.now c.loop-at.at c.loop-at-test.true c.if-byte-eq10.true c.loop-at.invariant))

pub loop-at-preserved : goal.loop-at-preserved
loop-at-preserved c = lacks-take_more c.args.text.now c.loop-at.at c.loop-at-test.true c.if-byte-eq10.false c.loop-at.invariant

pub returns : goal.returns
returns c = sym (line_at_all c.args.text.now c.loop-at.at c.loop-at-test.false c.loop-at.invariant)
