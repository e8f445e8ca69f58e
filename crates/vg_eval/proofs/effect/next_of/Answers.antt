use Rattle.std.proofs.Common.{IsTrue, Option, Some, subst}
use Rattle.vg_isa.specs.declared.expr.Expr.{Expr}
use Rattle.vg_isa.specs.Accepted.{is_next}
use Rattle.vg_isa.specs.Typing.{has_width}
use Rattle.vg_isa.proofs.Kept.{kept_instr}
use Rattle.vg_isa.proofs.Tests.{both}
use Rattle.vg_eval.proofs.effect.next_of.Goals as goal

pub target_of-requires-clause-target : goal.target_of-requires-clause-target
target_of-requires-clause-target g c =
    let next : IsTrue (is_next c.args.isa.now (Some (c.in-Some.guard, c.in-Some.target))) = subst (λ (o : Option (Expr × Expr)). IsTrue (is_next c.args.isa.now o)) c.in-Some.is (kept_instr c.args.isa.now c.args.instr.now c.requires.instr).next in
    (both (has_width c.args.isa.now 1 c.in-Some.guard) (has_width c.args.isa.now c.args.isa.now.pc.width c.in-Some.target) next).1
