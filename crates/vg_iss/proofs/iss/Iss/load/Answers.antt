use Rattle.std.proofs.Common.{sym, subst, List, ℕ, IsTrue}
use Rattle.vg_image.specs.State.{are_files}
use Rattle.vg_image.proofs.Files.{zeros_fit}
use Rattle.vg_iss.proofs.Words.{words_below}
use Rattle.vg_iss.proofs.iss.Iss.load.Goals as goal

pub invariant_of-result : goal.invariant_of-result
invariant_of-result c = record {
  memory_free = c.requires.registers_only;
  words = words_below c.args.isa.now.word c.args.image.now.code c.requires.image.words;
  address = c.requires.image.entry;
  files = subst (λ (files : List (List ℕ)). IsTrue (are_files c.args.isa.now.regs files)) (sym c.in_ok-registers.ensures) (zeros_fit c.args.isa.now.regs);
}
