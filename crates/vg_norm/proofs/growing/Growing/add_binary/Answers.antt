use Rattle.std.proofs.Common.{IsTrue, sym, ◌∙◌}
use Rattle.vg_isa.proofs.Tests.{both}
use Rattle.vg_graph.specs.Alike.{commutes}
use Rattle.vg_norm.proofs.GrowingLemmas.{turned_fits, turned_stands}
use Rattle.vg_norm.proofs.growing.Growing.add_binary.Goals as goal

pub put-requires-clause-fit : goal.put-requires-clause-fit
put-requires-clause-fit c =
    let commuting : IsTrue (commutes c.args.op) = (both _ _ (sym c.must_turn.ensures ∙ c.if-must_turn.true)).0 in
    turned_fits c.args.self.now.graph c.args.op c.args.a c.args.b commuting c.requires.fit

pub returns-then-must_turn-clause-stands : goal.returns-then-must_turn-clause-stands
returns-then-must_turn-clause-stands c =
    let commuting : IsTrue (commutes c.args.op) = (both _ _ (sym c.must_turn.ensures ∙ c.if-must_turn.true)).0 in
    turned_stands c.args.self.now.graph c.put.new.self.graph c.args.op c.args.a c.args.b c.in_ok-n.n commuting c.requires.fit c.in_ok-n.ensures.stands
