use Rattle.std.proofs.Common.{sym, ◌∙◌, arith, Some}
use Rattle.vg_iss.specs.Simulator.{state_of}
use Rattle.vg_iss.proofs.Runs.{Ends, behind_more, ran_over}
use Rattle.vg_iss.proofs.iss.Iss.run.Goals as goal

pub loop-done-preserved : goal.loop-done-preserved
loop-done-preserved c = (
  behind_more c.args.self.now.isa.now c.loop-done.self.isa.now c.args.self.now.image.now c.loop-done.self.image.now c.loop-done.done
      (state_of c.args.self.now) (state_of c.loop-done.self) (state_of c.step.new.self)
      c.loop-done.invariant.1.description c.loop-done.invariant.1.image c.loop-done.invariant.0
      (sym c.in-Moved.is ∙ c.step.ensures.answer) c.step.ensures.state,
  record {
    description = c.step.ensures.same.description ∙ c.loop-done.invariant.1.description;
    image = c.step.ensures.same.image ∙ c.loop-done.invariant.1.image;
  },
  omega arith,
)

pub returns-in_default : goal.returns-in_default
returns-in_default c =
    let ends : Ends c.args.self.now.isa.now c.args.self.now.image.now c.args.n (state_of c.args.self.now) (state_of c.step.new.self) (record { end = Some c.step.result; done = c.loop-done.done }) =
    ran_over c.args.self.now.isa.now c.loop-done.self.isa.now c.args.self.now.image.now c.loop-done.self.image.now c.args.n c.loop-done.done
    (state_of c.args.self.now) (state_of c.loop-done.self) (state_of c.step.new.self) c.step.result
    c.loop-done.invariant.1.description c.loop-done.invariant.1.image c.loop-done.invariant.0
    c.loop-done-test.true c.step.ensures.answer c.in_default.not-Moved c.step.ensures.state in
    record {
      run = ends.run;
      memory = ends.memory;
      same = record {
        description = c.step.ensures.same.description ∙ c.loop-done.invariant.1.description;
        image = c.step.ensures.same.image ∙ c.loop-done.invariant.1.image;
      };
    }
