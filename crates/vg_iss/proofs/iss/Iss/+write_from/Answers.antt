use Rattle.std.proofs.Common.{length, refl}
use Rattle.std.proofs.lemmas.Option.{slice_get_read}
use Rattle.vg_isa.specs.Typing.{is_write}
use Rattle.vg_isa.proofs.Tests.{list_all-slice_get}
use Rattle.vg_iss.proofs.iss.Iss.+write_from.Goals as goal

pub make-made-requires-clause-write : goal.make-made-requires-clause-write
make-made-requires-clause-write t c =
    list_all-slice_get (is_write c.args.self.now.isa.now) c.args.writes.now c.args.k c.index-writes-k.result c.requires.writes
    (slice_get_read c.args.writes.now (length c.args.writes.now) c.args.k c.index-writes-k.result refl c.if-k-writes.false c.index-writes-k.is)
