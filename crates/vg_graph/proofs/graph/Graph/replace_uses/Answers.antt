use Rattle.std.proofs.Common.{ℕ, ◌<◌, length, sym, ap, ◌∙◌, subst}
use Rattle.vg_isa.specs.declared.expr.Expr.{Expr}
use Rattle.vg_isa.specs.Value.{Reads, value_of}
use Rattle.vg_graph.specs.declared.roots.Roots.{Roots}
use Rattle.vg_graph.specs.Graph.{GraphValue}
use Rattle.vg_graph.specs.Replaced.{HaveOneValue, HaveOneWidth, renamed_roots, replaced}
use Rattle.vg_graph.specs.Tree.{Uses}
use Rattle.vg_graph.specs.Whole.{IsWhole}
use Rattle.vg_graph.proofs.TreeLemmas.{tree_unique}
use Rattle.vg_graph.proofs.WholeLemmas.{graph_of, replaced_itself, values_replaced, whole_replaced}
use Rattle.vg_graph.proofs.graph.Graph.replace_uses.Goals as goal

pub invariant_of-self : goal.invariant_of-self
invariant_of-self c =
    let d = c.self.inside.isa.now in
    let s = c.self.inside.store in
    let old = c.args.old in
    let new = c.args.new in
    subst (λ (all : Roots). IsWhole d c.replace.new.self all) (sym c.replace-then-old-new.ensures)
    (whole_replaced d s c.replace.new.self c.self.inside.roots old new c.self.invariant
    (subst (λ (g : GraphValue). old < length g.nodes) (sym c.self.view_is) c.requires.source)
    (subst (λ (g : GraphValue). new < length g.nodes) (sym c.self.view_is) c.requires.target)
    (subst (λ (g : GraphValue). HaveOneWidth g old new) (sym c.self.view_is) c.requires.widths)
    (subst (λ (g : GraphValue). ¬ Uses g.nodes old new) (sym c.self.view_is) c.requires.apart)
    c.replace.ensures.nodes c.replace.ensures.store)

pub returns-then-old-new-clause-values : goal.returns-then-old-new-clause-values
returns-then-old-new-clause-values c =
    let d = c.self.inside.isa.now in
    let s = c.self.inside.store in
    let all = c.self.inside.roots in
    let old = c.args.old in
    let new = c.args.new in
    let after : GraphValue = graph_of d c.replace.new.self (renamed_roots old new all) in
    subst (λ (g : GraphValue). (word : ℕ) (reads : Reads) → HaveOneValue word reads g old g new → (n : ℕ) → HaveOneValue word reads g n after n) c.self.view_is
    (values_replaced d s c.replace.new.self all old new c.self.invariant
    (subst (λ (g : GraphValue). old < length g.nodes) (sym c.self.view_is) c.requires.source)
    (subst (λ (g : GraphValue). new < length g.nodes) (sym c.self.view_is) c.requires.target)
    (subst (λ (g : GraphValue). HaveOneWidth g old new) (sym c.self.view_is) c.requires.widths)
    (subst (λ (g : GraphValue). ¬ Uses g.nodes old new) (sym c.self.view_is) c.requires.apart)
    c.replace.ensures.nodes)

pub returns-else-old-new-clause-graph : goal.returns-else-old-new-clause-graph
returns-else-old-new-clause-graph c =
    sym (replaced_itself c.args.old c.args.self.now) ∙ ap (λ (n : ℕ). replaced c.args.old n c.args.self.now) c.if-old-new.false

pub returns-else-old-new-clause-values : goal.returns-else-old-new-clause-values
returns-else-old-new-clause-values c = λ word s same n e f e_stands f_stands. ap (λ (x : Expr). value_of c.args.self.now.isa x word s) (tree_unique c.args.self.now.nodes n e f e_stands f_stands)
