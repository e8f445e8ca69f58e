use Rattle.std.proofs.Common.{◌∙◌, ap, sym}
use Rattle.vg_isa.specs.declared.instr.Instr.{Instr}
use Rattle.vg_format.specs.Matching.{matches}
use Rattle.vg_image.specs.Step.{executed}
use Rattle.vg_iss.specs.Kept.{write_registers}
use Rattle.vg_iss.specs.Simulator.{state_of}
use Rattle.vg_iss.proofs.Decoded.{find-all, nat_eq-false, step_of-word}
use Rattle.vg_iss.proofs.iss.Iss.fetch.Goals as goal

pub returns-in-None-decode-clause-step : goal.returns-in-None-decode-clause-step
returns-in-None-decode-clause-step c =
    step_of-word c.args.self.now.isa.now c.args.self.now.image.now (state_of c.args.self.now) c.in-Some.word.number
    (nat_eq-false c.args.self.now.pc c.args.self.now.image.now.stop c.if-self.false)
    (nat_eq-false c.args.self.now.pc c.args.self.now.image.now.full c.if-self-2.false)
    c.in-Some.ensures.number
    ∙ ap (executed c.args.self.now.isa.now c.in-Some.word.number (state_of c.args.self.now)) (sym c.in-None-decode.ensures.first)

pub returns-in-Some-decode-clause-step : goal.returns-in-Some-decode-clause-step
returns-in-Some-decode-clause-step c =
    step_of-word c.args.self.now.isa.now c.args.self.now.image.now (state_of c.args.self.now) c.in-Some.word.number
    (nat_eq-false c.args.self.now.pc c.args.self.now.image.now.stop c.if-self.false)
    (nat_eq-false c.args.self.now.pc c.args.self.now.image.now.full c.if-self-2.false)
    c.in-Some.ensures.number
    ∙ ap (executed c.args.self.now.isa.now c.in-Some.word.number (state_of c.args.self.now)) (sym c.in-Some-decode.ensures.first)

pub returns-in-Some-decode-clause-registers : goal.returns-in-Some-decode-clause-registers
returns-in-Some-decode-clause-registers c =
    find-all (matches c.args.self.now.isa.now c.in-Some.word.number) (λ (instr : Instr). write_registers instr.writes) c.args.self.now.isa.now.instrs c.in-Some-decode.instr.now
    c.args.self.now.memory_free (sym c.in-Some-decode.ensures.first)
