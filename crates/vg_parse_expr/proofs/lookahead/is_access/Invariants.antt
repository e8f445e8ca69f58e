use Rattle.std.proofs.Common.{◌≡◌, ◌+◌, ◌≤◌, length}
use Rattle.vg_ast.specs.Placed.{placed}
use Rattle.vg_parse_expr.specs.Lookahead.{searches}
use Rattle.vg_parse_expr.proofs.lookahead.is_access.Given as goal

-- the search through what is left decides, and no more is open than tokens were passed
abbrev pub invariant-loop-first : goal.invariant-loop-first
invariant-loop-first l = record {
  same : searches (placed l.rest) l.nested l.angles ≡ searches (placed l.tokens) 0 0;
  within : l.nested + l.angles + length l.rest ≤ length l.tokens;
}

abbrev pub decreases-loop-first : goal.decreases-loop-first
decreases-loop-first l = length l.rest
