-- Each function stands behind those before it, and the draws go on from theirs.
use Rattle.std.proofs.Common.{◌++◌, ℕ, ◌*◌, List, [], sym, ◌∙◌, ap, arith}
use Rattle.vg_gen.specs.Drawing.{number_after}
use Rattle.vg_gen.specs.ModuleText.{function}
use Rattle.vg_gen.proofs.Sequence.{number_after-add, number_after-zero}
use Rattle.vg_gen.proofs.Texts.{texts-zero, grown}
use Rattle.vg_gen.proofs.text.module.Goals as goal

-- the function with this number, from 0
abbrev nth : ℕ → ℕ → List ℕ
nth number k = function (number_after number (120 * k)) k

pub loop-function-init : goal.loop-function-init
loop-function-init c = record {
  text = c.new-out.ensures.items ∙ sym (texts-zero (nth c.args.number));
  draws = sym (number_after-zero c.args.number);
}

pub loop-function-preserved : goal.loop-function-preserved
loop-function-preserved c =
    let number = c.args.number in
    let k = c.loop-function.function in
    let written = c.in_ok-push_function.ensures.text in
    record {
      text = grown (nth number) k [] _ _ c.loop-function.invariant.text (written ∙ ap (λ x. c.loop-function.out.items ++ function x k) c.loop-function.invariant.draws);
      draws = c.in_ok-push_function.ensures.draws ∙ ap (λ x. number_after x 120) c.loop-function.invariant.draws ∙ number_after-add number (120 * k) 120
          ∙ ap (number_after number) (omega arith);
    }
