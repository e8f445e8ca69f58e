use Rattle.std.proofs.Common.{◌≡◌}
use Rattle.vg_ast.specs.Placed.{placed}
use Rattle.vg_parse_item.specs.ReadingRow.{row_from, row_at}
use Rattle.vg_parse_item.proofs.row.row_at.Given as goal

-- the row from here on, with the elements so far, is the whole
abbrev pub invariant-loop-fuel : goal.invariant-loop-fuel
invariant-loop-fuel g l = row_from g.T.Element.reader l.fuel l.front (placed l.rest) ≡ row_at g.T.Element.reader (placed l.fn.tokens)

abbrev pub decreases-loop-fuel : goal.decreases-loop-fuel
decreases-loop-fuel g l = l.fuel
