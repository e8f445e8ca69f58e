use Rattle.std.proofs.Common.{ℕ, ◌+◌, ◌<◌, ◌^◌, length, sym, subst}
use Rattle.vg_graph.specs.Graph.{GraphValue, IsFit}
use Rattle.vg_graph.proofs.WholeLemmas.{whole_added, whole_graph}
use Rattle.vg_graph.proofs.graph.Graph.add.Goals as goal

pub invariant_of-self : goal.invariant_of-self
invariant_of-self c =
    whole_added c.self.inside.isa.now c.self.inside.store c.add.new.self c.self.inside.roots c.args.node _ c.add.result c.self.invariant c.add.ensures.store
    (subst (λ (g : GraphValue). IsFit g c.args.node) (sym c.self.view_is) c.requires.fit)
    (subst (λ (g : GraphValue). length g.nodes + 1 < 2 ^ 32) (sym c.self.view_is) c.requires.nodes) c.add.ensures.ok c.add.ensures.err

pub returns-clause-graph : goal.returns-clause-graph
returns-clause-graph c =
    whole_graph c.self.inside.isa.now c.add.new.self c.self.inside.roots
    (whole_added c.self.inside.isa.now c.self.inside.store c.add.new.self c.self.inside.roots c.args.node _ c.add.result c.self.invariant c.add.ensures.store
    (subst (λ (g : GraphValue). IsFit g c.args.node) (sym c.self.view_is) c.requires.fit)
    (subst (λ (g : GraphValue). length g.nodes + 1 < 2 ^ 32) (sym c.self.view_is) c.requires.nodes) c.add.ensures.ok c.add.ensures.err)
