use Rattle.std.proofs.Common.{ap, sym, ◌∙◌}
use Rattle.std.specs.Option.{option_copied}
use Rattle.vg_isa.proofs.Kept.{instr_typed}
use Rattle.vg_isa.proofs.isa.Isa.instr.Goals as goal

pub returns-clause-typed : goal.returns-clause-typed
returns-clause-typed c =
    rw (← c.self.view_is)
    (instr_typed c.self.inside.parts c.args.i.0 c.in-Some.instr.now c.self.invariant (sym c.get.ensures.value ∙ ap option_copied c.in-Some.is))
