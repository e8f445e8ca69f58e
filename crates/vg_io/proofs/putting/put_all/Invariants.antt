use Rattle.std.proofs.Common.{length}
use Rattle.vg_io.specs.Putting.{NoneCounted}
use Rattle.vg_io.proofs.Told.{IsPut}
use Rattle.vg_io.proofs.putting.put_all.Given as goal

-- the text but for the rest is written, and no put failed or took nothing
abbrev pub invariant-loop-rest : goal.invariant-loop-rest
invariant-loop-rest g l =
    IsPut (g.K.Sink.written l.fn.out) (g.K.Sink.written l.out) l.text l.rest
    × NoneCounted (g.K.Sink.faults l.fn.out) (g.K.Sink.nones l.fn.out) (g.K.Sink.faults l.out) (g.K.Sink.nones l.out)

abbrev pub decreases-loop-rest : goal.decreases-loop-rest
decreases-loop-rest g l = length l.rest
