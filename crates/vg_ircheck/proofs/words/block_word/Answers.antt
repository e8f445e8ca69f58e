-- Among the phis, among the instructions, at the end, or behind it.
use Rattle.std.proofs.Common.{◌≡◌, ℕ, List, sym, ap, ◌∙◌}
use Rattle.vg_ir.specs.declared.block.Phi.{Phi}
use Rattle.vg_ir.specs.declared.instruction.Instruction.{Instruction}
use Rattle.vg_ir.specs.declared.spot.Spot.{Spot}
use Rattle.vg_ircheck.specs.declared.sought.Sought.{Sought}
use Rattle.vg_ircheck.specs.declared.sought.Sought.TheVariants.{Found}
use Rattle.vg_ircheck.specs.Seeking.{sought}
use Rattle.vg_ircheck.specs.Counts.{instruction_word, terminator_word}
use Rattle.vg_ircheck.proofs.SeekingLemmas.{words, found_first, found_second, found_third, left_third}
use Rattle.vg_ircheck.proofs.words.block_word.Goals as goal

-- the word of a phi
abbrev phi_at : Phi → Spot
phi_at p = p.at

-- the words of a block are those of its parts
abbrev in_words : (n : ℕ) (s : Spot) (o : Sought) (xs ps : List Phi) (ys is : List Instruction) → xs ≡ ps → ys ≡ is
    → o ≡ sought n (words phi_at instruction_word n xs ys s) → o ≡ sought n (words phi_at instruction_word n ps is s)
in_words n s o xs ps ys is e d h =
    h ∙ ap (λ z. sought n (words phi_at instruction_word n z ys s)) e ∙ ap (λ z. sought n (words phi_at instruction_word n ps z s)) d

pub returns-then-number-phis : goal.returns-then-number-phis
returns-then-number-phis c =
    let s : Spot = terminator_word c.args.block.now.terminator in
    ap (λ (z : Phi). Found z.at) (sym c.index-phis-number.is)
    ∙ found_first phi_at instruction_word c.args.number c.as_slice-phis.result.now c.args.block.now.instructions s
    c.index-phis-number.result c.if-number-phis.true c.index-phis-number.is
    ∙ ap (λ z. sought c.args.number (words phi_at instruction_word c.args.number z c.args.block.now.instructions s)) c.as_slice-phis.ensures

pub returns-then-behind_phis-instructions : goal.returns-then-behind_phis-instructions
returns-then-behind_phis-instructions c =
    in_words c.args.number (terminator_word c.args.block.now.terminator) _ c.as_slice-phis.result.now c.args.block.now.phis c.as_slice-instructions.result.now c.args.block.now.instructions c.as_slice-phis.ensures c.as_slice-instructions.ensures
    (found_second phi_at instruction_word c.args.number c.as_slice-phis.result.now c.as_slice-instructions.result.now (terminator_word c.args.block.now.terminator)
    c.index-instructions-behind_phis.result c.instruction_at.result c.if-number-phis.false c.if-behind_phis-instructions.true c.index-instructions-behind_phis.is c.instruction_at.ensures)

pub returns-then-behind-eq0 : goal.returns-then-behind-eq0
returns-then-behind-eq0 c =
    in_words c.args.number (terminator_word c.args.block.now.terminator) _ c.as_slice-phis.result.now c.args.block.now.phis c.as_slice-instructions.result.now c.args.block.now.instructions c.as_slice-phis.ensures c.as_slice-instructions.ensures
    (found_third phi_at instruction_word c.args.number c.as_slice-phis.result.now c.as_slice-instructions.result.now (terminator_word c.args.block.now.terminator)
    c.terminator_at.result c.if-number-phis.false c.if-behind_phis-instructions.false c.if-behind-eq0.true c.terminator_at.ensures)

pub returns-else-behind-eq0 : goal.returns-else-behind-eq0
returns-else-behind-eq0 c =
    in_words c.args.number (terminator_word c.args.block.now.terminator) _ c.as_slice-phis.result.now c.args.block.now.phis c.as_slice-instructions.result.now c.args.block.now.instructions c.as_slice-phis.ensures c.as_slice-instructions.ensures
    (left_third phi_at instruction_word c.args.number c.as_slice-phis.result.now c.as_slice-instructions.result.now (terminator_word c.args.block.now.terminator)
    c.if-number-phis.false c.if-behind_phis-instructions.false c.if-behind-eq0.false)
