-- By the frames, from the innermost out.
use Rattle.vg_ir.proofs.Apart.{apart, in_stack}
use Rattle.vg_ir.proofs.laws.objects_apart.Goals as goal

pub returns : goal.returns
returns c = record { apart = apart; in_stack = in_stack }
