use Rattle.std.proofs.Common.{◌≡◌, ◌≤◌, ℕ, IsTrue, ap, sym, subst, ◌∙◌, arith}
use Rattle.vg_bits.specs.BitValue.{BitValue}
use Rattle.vg_isa.specs.Declaration.{bits_in, bits_of, ranges_of}
use Rattle.vg_asm.proofs.Fields.{value_is, width_most}
use Rattle.vg_asm.proofs.part.value_in.Goals as goal

pub returns-clause-few : goal.returns-clause-few
returns-clause-few c =
    let width : c.field.result.width ≡ bits_of (ranges_of c.args.isa.now c.args.f) = ap (λ (v : BitValue). v.width) c.field.ensures in
    subst (λ (n : ℕ). n ≤ 64) (sym width) (width_most c.args.isa.now c.args.f c.parts.ensures.typed)

pub returns-clause-value : goal.returns-clause-value
returns-clause-value c =
    let number : c.field.result.number ≡ bits_in (ranges_of c.args.isa.now c.args.f) c.args.word.number = ap (λ (v : BitValue). v.number) c.field.ensures in
    number ∙ value_is c.args.isa.now c.args.instr.now c.args.f c.args.word.number c.requires.field
