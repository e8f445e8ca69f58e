use Rattle.std.proofs.Common.{ap, sym, ◌∙◌}
use Rattle.std.specs.Option.{option_copied}
use Rattle.vg_isa.proofs.Kept.{write_typed}
use Rattle.vg_isa.proofs.effect.made.Goals as goal

pub make-requires-clause-write : goal.make-requires-clause-write
make-requires-clause-write g c =
    write_typed c.args.isa.now c.instr.result.now c.args.k c.in_ok-write.write.now c.instr.ensures.typed (sym c.get.ensures.value ∙ ap option_copied c.in_ok-write.was)
