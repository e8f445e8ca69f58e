use Rattle.std.proofs.Common.{◌^◌, ap, ◌∙◌}
use Rattle.vg_text.specs.Number.{decimal_of, option_below}
use Rattle.vg_text.proofs.Decimal.{decimal_of-decimal, decimal-decimal_of, decimal-option_below, option_below-decimal}
use Rattle.vg_text.proofs.number.decimal_reads_back.Goals as goal

pub returns-clause-digits : goal.returns-clause-digits
returns-clause-digits c = λ n text small. (λ found. decimal-decimal_of text n found small, λ is. ap decimal_of is ∙ decimal_of-decimal n small)

pub returns-clause-bits : goal.returns-clause-bits
returns-clause-bits c = λ n text. (decimal-option_below text n, λ is. ap (λ t. option_below (2 ^ 64) (decimal_of t)) is.1 ∙ option_below-decimal n is.0)
