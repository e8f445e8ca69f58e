use Rattle.std.proofs.Common.{ap, ◌∙◌}
use Rattle.vg_text.specs.Piece.{rest_after}
use Rattle.vg_text.proofs.Pieces.{rest_after-append, append-rest_after}
use Rattle.vg_text.proofs.piece.prefix_reads_back.Goals as goal

pub returns : goal.returns
returns c = λ prefix text rest. (append-rest_after prefix text rest, λ is. ap (rest_after prefix) is ∙ rest_after-append prefix rest)
