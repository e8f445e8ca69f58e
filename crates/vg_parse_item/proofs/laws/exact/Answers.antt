-- By a lemma a rule of the grammar, in each direction.
use Rattle.vg_parse_item.proofs.PieceExact.{item_exact, role_exact, micro_item_exact, isa_heading_exact, abi_heading_exact, micro_heading_exact, closing_exact}
use Rattle.vg_parse_item.proofs.laws.exact.Goals as goal

pub returns : goal.returns
returns c = record {
  item = item_exact;
  role = role_exact;
  micro_item = micro_item_exact;
  isa_heading = isa_heading_exact;
  abi_heading = abi_heading_exact;
  micro_heading = micro_heading_exact;
  closing = closing_exact;
}
