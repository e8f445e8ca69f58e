-- By the reader of types on lists.
use Rattle.std.proofs.Common.{subst}
use Rattle.vg_irparse.specs.Placed.{placed}
use Rattle.vg_irparse.specs.Answer.{Gives}
use Rattle.vg_irparse.specs.ReadingType.{most_brackets}
use Rattle.vg_irread.proofs.Known.{whole_same, given_width}
use Rattle.vg_irread.proofs.types.any_type_at.Goals as goal

pub returns-clause-value : goal.returns-clause-value
returns-clause-value c =
    subst (λ z. Gives (λ x. (x.0, placed c.args.text.now x.1.now)) c.type_at.result z) (whole_same c.args.wanted (placed c.args.text.now c.args.tokens.now)) c.type_at.ensures

pub returns-clause-width : goal.returns-clause-width
returns-clause-width c =
    given_width (λ r. placed c.args.text.now r.now) c.type_at.result c.args.wanted most_brackets (placed c.args.text.now c.args.tokens.now)
    (subst (λ z. Gives (λ x. (x.0, placed c.args.text.now x.1.now)) c.type_at.result z) (whole_same c.args.wanted (placed c.args.text.now c.args.tokens.now)) c.type_at.ensures)
