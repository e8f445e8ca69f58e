-- The word says the width.
use Rattle.std.proofs.Common.{ℕ, sym, subst}
use Rattle.std.specs.Prelude.{IfSome, Option}
use Rattle.vg_irread.specs.ReadingOperand.{IsWidth}
use Rattle.vg_irread.proofs.Widths.{widths}
use Rattle.vg_irread.proofs.types.width_of.Goals as goal

pub returns-clause-width : goal.returns-clause-width
returns-clause-width c = subst (λ (z : Option ℕ). IfSome z (λ w. IsWidth w)) (sym c.integer_width.ensures) (widths c.args.text.now)
