-- By induction on the readings that stand in one another, a lemma for each rule of the grammar.
use Rattle.vg_parse_expr.proofs.Sound.{expression_sound, type_sound}
use Rattle.vg_parse_expr.proofs.Complete.{expression_complete, type_complete}
use Rattle.vg_parse_expr.proofs.laws.exact.Goals as goal

pub returns : goal.returns
returns c = record { expression_sound = expression_sound; expression_complete = expression_complete; type_sound = type_sound; type_complete = type_complete }
