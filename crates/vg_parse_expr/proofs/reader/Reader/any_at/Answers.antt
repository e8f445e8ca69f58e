use Rattle.std.proofs.Common.{rules}
use Rattle.vg_ast.specs.Placed.{placed}
use Rattle.vg_parse_expr.specs.Reading.{expression_within}
use Rattle.vg_parse_expr.proofs.Steps.{reads_if, reads_let}
use Rattle.vg_parse_expr.proofs.reader.Reader.any_at.Goals as goal

pub returns-in-Some : goal.returns-in-Some
returns-in-Some g c =
    rw (reads_if (expression_within c.args.self.now.fuel) (placed c.args.tokens.now) (c.in-Some.at, placed c.in-Some.rest.now) (search rules)) c.conditional_at.ensures

pub returns-in-Some-word_at : goal.returns-in-Some-word_at
returns-in-Some-word_at g c =
    rw (reads_let (expression_within c.args.self.now.fuel) (placed c.args.tokens.now) (c.in-Some-word_at.at, placed c.in-Some-word_at.rest.now) (search rules) (search rules)) c.binding_at.ensures
