use Rattle.vg_parse_expr.proofs.expressions.+expression_within.Given as goal

abbrev pub decreases-expression_within : goal.decreases-expression_within
decreases-expression_within l = l.fuel
