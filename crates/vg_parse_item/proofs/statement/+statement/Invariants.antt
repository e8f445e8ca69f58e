use Rattle.std.proofs.Common.{◌≡◌, ◌+◌, ◌*◌, length, []}
use Rattle.vg_ast.specs.Placed.{placed}
use Rattle.vg_parse_item.specs.ReadingStatement.{statements_at, statement_within}
use Rattle.vg_parse_item.proofs.statement.+statement.Given as goal

abbrev pub decreases-statement_within : goal.decreases-statement_within
decreases-statement_within l = 4 * l.fuel

abbrev pub decreases-statements_at : goal.decreases-statements_at
decreases-statements_at l = 4 * l.fuel + 1

abbrev pub decreases-local_at : goal.decreases-local_at
decreases-local_at l = 4 * l.fuel + 1

abbrev pub decreases-otherwise_at : goal.decreases-otherwise_at
decreases-otherwise_at l = 4 * l.fuel + 1

abbrev pub decreases-block_at : goal.decreases-block_at
decreases-block_at l = 4 * l.fuel + 2

abbrev pub decreases-conditional_at : goal.decreases-conditional_at
decreases-conditional_at l = 4 * l.fuel + 2

abbrev pub decreases-statement_by : goal.decreases-statement_by
decreases-statement_by l = 4 * l.fuel + 3

-- the statements from here on, with those so far, are all of the block
abbrev pub invariant-statements_at-loop-left : goal.invariant-statements_at-loop-left
invariant-statements_at-loop-left l =
    statements_at l.left (statement_within l.fuel) l.front l.deepest (placed l.rest) ≡ statements_at (length (placed l.fn.tokens)) (statement_within l.fuel) [] 0 (placed l.fn.tokens)

abbrev pub decreases-statements_at-loop-left : goal.decreases-statements_at-loop-left
decreases-statements_at-loop-left l = l.left
