-- Nothing is defined twice in an accepted description, and no behaviour has too many nodes.
use Rattle.std.proofs.Common.{◌≡◌, []}
use Rattle.vg_rule.specs.Order.{fold_order}
use Rattle.vg_rule.proofs.First.{are_first}
use Rattle.vg_ast.specs.declared.desc.Desc.{Desc}
use Rattle.vg_names.specs.Duplicate.{duplicates}
use Rattle.vg_inline.specs.InPlace.{excesses}
use Rattle.vg_inline.specs.Rules.{places_of, breach_of, IsAccepted}

pub few_nodes : (d : Desc) → IsAccepted d → excesses d.items ≡ []
unfolding breach_of
few_nodes d accepted = ((are_first (places_of d) fold_order).kept accepted).1.1.1.1.0

pub none_twice : (d : Desc) → IsAccepted d → duplicates d ≡ []
unfolding breach_of
none_twice d accepted = ((are_first (places_of d) fold_order).kept accepted).0
