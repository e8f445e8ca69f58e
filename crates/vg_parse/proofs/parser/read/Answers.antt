-- Each piece that is read leads on to the pieces behind it.
use Rattle.std.proofs.Common.{inr, refl, arith}
use Rattle.vg_parse.proofs.Reading.{read_begin, read_next, read_stops, empty, read_all, read_open}
use Rattle.vg_parse.proofs.parser.read.Goals as goal

pub loop-rest-init : goal.loop-rest-init
loop-rest-init c = read_begin c.args.t.now

pub returns-in-None-clause-fault : goal.returns-in-None-clause-fault
returns-in-None-clause-fault c =
    inr (
      _,
      refl,
      read_stops _ _ _ _ _ _ _ _ c.loop-rest.invariant c.front_piece-len.ensures.piece c.split_at.ensures.front
          (omega (arith, c.front_piece-len.ensures.piece.some, c.split_at.ensures.front_len)) (rw c.in-None.is at c.in_ok-next.ensures) c.place_of.ensures,
    )

pub loop-rest-preserved : goal.loop-rest-preserved
loop-rest-preserved c =
    read_next _ _ _ _ _ _ _ _ _ c.loop-rest.invariant c.front_piece-len.ensures.piece c.front_piece-len.ensures.fits c.split_at.ensures.front c.split_at.ensures.back
    (rw c.in-Some.is at c.in_ok-next.ensures)

pub returns-in-Some-finished-clause-tree : goal.returns-in-Some-finished-clause-tree
returns-in-Some-finished-clause-tree c =
    read_all _ _ _ _ c.loop-rest.invariant (empty _ c.loop-rest-test.ensures) c.in-Some-finished.desc c.in-Some-finished.ensures

pub returns-in-None-finished-clause-fault : goal.returns-in-None-finished-clause-fault
returns-in-None-finished-clause-fault c =
    inr (_, refl, read_open _ _ _ _ _ c.loop-rest.invariant (empty _ c.loop-rest-test.ensures) c.in-None-finished.ensures c.end_of.ensures)
