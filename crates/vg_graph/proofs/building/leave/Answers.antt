use Rattle.std.proofs.Common.{◌≡◌, ℕ, ◌≤◌, List, [], ◌∷◌, ◌++◌, length, sym, ap, ◌∙◌, subst, arith}
use Rattle.vg_isa.specs.declared.expr.Expr.{Expr}
use Rattle.vg_graph.specs.declared.node.Node.{Node}
use Rattle.vg_graph.specs.Node.{numbers_of}
use Rattle.vg_graph.specs.Building.{StandAll, operands_of}
use Rattle.vg_graph.proofs.BuildLemmas.{StandAll-pushed, StandAll-stays, added_at, added_extends, built_fits, built_stands, enough, popped}
use Rattle.vg_graph.proofs.building.leave.Goals as goal

pub pop_operands-args-requires-clause-there : goal.pop_operands-args-requires-clause-there
pop_operands-args-requires-clause-there c =
    let least : length (operands_of c.args.e.now) ≤ length c.args.values.now.items = enough c.args.graph.now.nodes c.args.values.now.items c.requires.operands.0 (operands_of c.args.e.now) c.requires.operands.1 in
    let count : c.operator-op.result.1 ≡ length (operands_of c.args.e.now) = c.operator-op.ensures.count in
    omega arith

pub add_or_refuse-requires : goal.add_or_refuse-requires
add_or_refuse-requires c =
    let e = c.args.e.now in
    let g = c.args.graph.now in
    let same : length (numbers_of c.pop_operands-args.result) ≡ length (operands_of e) = c.pop_operands-args.ensures.count ∙ c.operator-op.ensures.count in
    let parts = popped g.nodes c.args.values.now.items c.pop_operands-args.new.values.items (numbers_of c.pop_operands-args.result) c.requires.operands.0 (operands_of e) c.pop_operands-args.ensures.values same c.requires.operands.1 in
    built_fits g e (record { op = c.operator-op.result.0; args = c.pop_operands-args.result }) c.operator-op.ensures.op parts.1 c.requires.typed

pub returns-clause-extends : goal.returns-clause-extends
returns-clause-extends c = added_extends c.args.graph.now c.add_or_refuse.new.self (record { op = c.operator-op.result.0; args = c.pop_operands-args.result }) c.in_ok-n.n c.in_ok-n.ensures.ok

pub returns-clause-stand : goal.returns-clause-stand
returns-clause-stand c = λ rest all.
    let e = c.args.e.now in
    let g = c.args.graph.now in
    let new = c.add_or_refuse.new.self in
    let node : Node = record { op = c.operator-op.result.0; args = c.pop_operands-args.result } in
    let before = c.pop_operands-args.new.values.items in
    let same : length (numbers_of c.pop_operands-args.result) ≡ length (operands_of e) = c.pop_operands-args.ensures.count ∙ c.operator-op.ensures.count in
    let parts = popped g.nodes c.args.values.now.items before (numbers_of c.pop_operands-args.result) rest (operands_of e) c.pop_operands-args.ensures.values same all in
    let more = added_extends g new node c.in_ok-n.n c.in_ok-n.ensures.ok in
    let stands = built_stands new.nodes e node c.in_ok-n.n c.operator-op.ensures.op g.nodes more.more more.nodes parts.1 (added_at g new node c.in_ok-n.n c.in_ok-n.ensures.ok) in
    let stays : StandAll new.nodes before rest = subst (λ (ns : List Node). StandAll ns before rest) (sym more.nodes) (StandAll-stays g.nodes more.more before rest parts.0) in
    subst (λ (vs : List ℕ). StandAll new.nodes vs (rest ++ e ∷ [])) (sym c.in_ok-push.ensures.items) (StandAll-pushed new.nodes before rest c.in_ok-n.n e stays stands)
