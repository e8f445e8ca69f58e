use Rattle.std.proofs.Common.{ap, ◌∙◌}
use Rattle.vg_text.specs.Number.{hexadecimal_at}
use Rattle.vg_text.proofs.Hexadecimal.{hexadecimal_at-hexadecimal, hexadecimal-hexadecimal_at}
use Rattle.vg_text.proofs.number.hexadecimal_reads_back.Goals as goal

pub returns : goal.returns
returns c = λ digits n text rest. (λ found. let parts = hexadecimal-hexadecimal_at digits text (n, rest) found in (parts.1, parts.0), λ is. ap (hexadecimal_at digits) is.1 ∙ hexadecimal_at-hexadecimal digits n rest is.0)
