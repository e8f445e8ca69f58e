use Rattle.std.proofs.Common.{ap, ◌∙◌}
use Rattle.vg_text.specs.Piece.{line_at}
use Rattle.vg_text.proofs.Pieces.{line_at-append, append-line_at, line_at-none, lacks-line_at_none}
use Rattle.vg_text.proofs.piece.line_reads_back.Goals as goal

pub returns-clause-found : goal.returns-clause-found
returns-clause-found c = λ text line rest. (λ found. let parts = append-line_at text (line, rest) found in (parts.1, parts.0), λ is. ap line_at is.1 ∙ line_at-append line rest is.0)

pub returns-clause-none : goal.returns-clause-none
returns-clause-none c = λ text. (lacks-line_at_none text, line_at-none text)
