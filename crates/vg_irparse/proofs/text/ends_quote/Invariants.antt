use Rattle.std.proofs.Common.{◌≡◌, drop}
use Rattle.vg_irlex.specs.Lexing.{ends_quote}
use Rattle.vg_irparse.proofs.text.ends_quote.Given as goal

abbrev pub invariant-loop-i : goal.invariant-loop-i
invariant-loop-i l = ends_quote (drop l.i l.text) ≡ ends_quote l.text
