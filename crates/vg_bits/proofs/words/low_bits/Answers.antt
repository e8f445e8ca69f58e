use Rattle.std.proofs.Common.{◌∙◌, ap, ◌%◌, ◌^◌, ℕ}
use Rattle.vg_bits.proofs.Masks.{masked_64, masked_128}
use Rattle.vg_bits.proofs.Modular.{mod-mod_wide}
use Rattle.vg_bits.proofs.words.low_bits.Goals as goal

pub returns-then-n-le64 : goal.returns-then-n-le64
returns-then-n-le64 c =
    masked_64 c.low_word.result c.args.n c.if-n-le64.true
    ∙ ap (λ (k : ℕ). k % 2 ^ c.args.n) c.low_word.ensures
    ∙ mod-mod_wide 64 c.args.n c.args.v c.if-n-le64.true

pub returns-else-n-le64 : goal.returns-else-n-le64
returns-else-n-le64 c = masked_128 c.args.v c.args.n c.requires.most
