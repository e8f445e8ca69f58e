use Rattle.std.proofs.Common.{Some, ap, sym, ◌∙◌}
use Rattle.vg_isa.specs.Accepted.{is_part}
use Rattle.vg_isa.proofs.Kept.{kept_instr}
use Rattle.vg_asm.proofs.Joining.{parts_kept}
use Rattle.vg_asm.proofs.line.push_shown.Goals as goal

pub push_parts-requires-clause-parts : goal.push_parts-requires-clause-parts
push_parts-requires-clause-parts c =
    parts_kept (is_part c.args.isa.now c.args.instr.now.format) c.args.instr.now.template c.as_slice.result.now (kept_instr c.args.isa.now c.args.instr.now c.requires.instr).template (c.in-Some.is ∙ ap Some (sym c.as_slice.ensures))
