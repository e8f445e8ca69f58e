use Rattle.std.proofs.Common.{◌∙◌}
use Rattle.vg_isa.proofs.Kept.{next_width}
use Rattle.vg_isa.proofs.effect.next_of.Goals as goal

pub returns-then-value-eq1-clause-width : goal.returns-then-value-eq1-clause-width
returns-then-value-eq1-clause-width g c =
    c.eval-then-value-eq1.ensures.width
    ∙ next_width c.args.isa.now c.args.instr.now (c.in-Some.guard, c.in-Some.target) c.requires.instr c.in-Some.is
