-- Each instruction stands behind those before it, and the draws go on from theirs.
use Rattle.std.proofs.Common.{rules, codes, decimal, ◌≡◌, ◌++◌, ℕ, ◌+◌, ◌*◌, List, sym, ◌∙◌, ap, arith}
use Rattle.vg_gen.specs.Drawing.{number_after}
use Rattle.vg_gen.specs.ModuleText.{texts, instruction}
use Rattle.vg_gen.proofs.Sequence.{number_after-add, number_after-zero}
use Rattle.vg_gen.proofs.Texts.{begun, grown, headed}
use Rattle.vg_gen.proofs.text.push_function.Goals as goal

-- the instruction with this number, from 0
abbrev nth : ℕ → ℕ → List ℕ
nth x i = instruction (number_after x (3 * i)) (i + 2)

pub loop-i-init : goal.loop-i-init
loop-i-init c = record {
  text = begun (nth c.args.draws.now.x) _;
  draws = sym (number_after-zero c.args.draws.now.x);
}

pub loop-i-preserved : goal.loop-i-preserved
loop-i-preserved c =
    let x = c.args.draws.now.x in
    let i = c.loop-i.i in
    let written = c.in_ok-push_instruction.ensures.text in
    record {
      text = grown (nth x) i _ _ _ c.loop-i.invariant.text (written ∙ ap (λ y. c.loop-i.out.items ++ instruction y (i + 2)) c.loop-i.invariant.draws);
      draws = c.in_ok-push_instruction.ensures.draws ∙ ap (λ y. number_after y 3) c.loop-i.invariant.draws ∙ number_after-add x (3 * i) 3
          ∙ ap (number_after x) (omega arith);
    }

pub returns-clause-text : goal.returns-clause-text
returns-clause-text c =
    let done : c.loop-i.i ≡ 40 = omega arith in
    let written : c.loop-i.out.items ≡ c.push_bytes.new.out.items ++ texts (nth c.args.draws.now.x) 40 =
    c.loop-i.invariant.text ∙ ap (λ i. c.push_bytes.new.out.items ++ texts (nth c.args.draws.now.x) i) done in
    let whole = headed c.args.out.now.items c.push_numbered.new.out.items c.push_bytes.new.out.items c.loop-i.out.items c.push_bytes-2.new.out.items
    (codes "define i16 @f") (decimal c.args.k) (codes "(i16 %v0, i16 %v1) {\n") (texts (nth c.args.draws.now.x) 40) (codes "  ret i16 %v41\n}\n\n")
    c.in_ok-push_numbered.ensures c.in_ok-push_bytes.ensures.ok written in
    search (rules, whole)
