use Rattle.std.proofs.Common.{ℕ, List, flat_map, None, ap, sym, ◌∙◌, unwrap_or}
use Rattle.vg_isa.specs.declared.instr.Write.{Write}
use Rattle.vg_place.specs.Unplaced.{earliest, write_parts, next_parts}
use Rattle.vg_place.proofs.Lateness.{earliest-append}
use Rattle.vg_place.proofs.late.late_in.Goals as goal

pub returns : goal.returns
returns c =
    c.next.ensures
    ∙ ap (earliest (next_parts c.args.stages.now c.args.instr.now)) c.writes-best.ensures
    ∙ ap (λ (n : ℕ). earliest (next_parts c.args.stages.now c.args.instr.now) (earliest (flat_map (write_parts c.args.stages.now n) c.as_slice.result.now) None)) c.unwrap_or.ensures
    ∙ ap (λ (ws : List Write). earliest (next_parts c.args.stages.now c.args.instr.now) (earliest (flat_map (write_parts c.args.stages.now (unwrap_or c.args.instr.now.read_spot 0)) ws) None)) c.as_slice.ensures
    ∙ sym (earliest-append (flat_map (write_parts c.args.stages.now (unwrap_or c.args.instr.now.read_spot 0)) c.args.instr.now.writes) (next_parts c.args.stages.now c.args.instr.now) None)
