use Rattle.std.proofs.Common.{◌≡◌, ℕ, ◌+◌, ◌++◌, List, ◌∷◌, [], ap, sym, ◌∙◌, append_assoc, arith, drop, length, map, take}
use Rattle.std.proofs.Math.Seq.{drop-append_seam}
use Rattle.vg_isa.specs.declared.instr.Part.{Part}
use Rattle.vg_grammar.specs.Line.{gap, joined, part_text}
use Rattle.vg_asm.specs.Shown.{values_in}
use Rattle.vg_asm.proofs.Joining.{one_part_more}
use Rattle.vg_asm.proofs.line.push_parts.Goals as goal

pub loop-part-preserved : goal.loop-part-preserved
loop-part-preserved c =
    one_part_more (part_text c.args.isa.now c.args.instr.now (values_in c.args.isa.now c.args.instr.now c.args.word.number))
    c.args.parts.now c.loop-part.part-index c.part-item.result c.args.out.now.items c.loop-part.out.items c.push_behind.new.out.items c.len-start.result
    c.loop-part-test.true c.part-item.is (omega (arith, c.len-start.ensures, c.args.out.now.ok.0)) c.loop-part.invariant c.in_ok-push_behind.ensures
