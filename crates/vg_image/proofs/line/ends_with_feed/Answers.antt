use Rattle.std.proofs.Common.{ap, sym, ◌∙◌}
use Rattle.vg_image.specs.Lines.{ends_with_feed}
use Rattle.vg_image.proofs.Images.{ends-none, ends-snoc}
use Rattle.vg_image.proofs.line.ends_with_feed.Goals as goal

pub returns-in-Some : goal.returns-in-Some
returns-in-Some c = sym (ap ends_with_feed c.in-Some.ensures.cases.0 ∙ ends-snoc c.in-Some.field-0-1.now c.in-Some.last.now)

pub returns-in-None : goal.returns-in-None
returns-in-None c = sym (ends-none c.args.text.now c.in-None.ensures.cases)
