use Rattle.std.proofs.Common.{ℕ, List, IsTrue, sym, ◌∙◌, subst}
use Rattle.vg_isa.specs.declared.isa.Parts.{Parts}
use Rattle.vg_norm.specs.Width.{node_typing}
use Rattle.vg_norm.proofs.GrowingLemmas.{node_typed, node_width_is}
use Rattle.vg_norm.proofs.growing.Growing.width.Goals as goal

pub node_width-requires-clause-typed : goal.node_width-requires-clause-typed
node_width-requires-clause-typed c =
    let g = c.args.self.now.graph in
    let node = c.args.node.now in
    subst (λ (d : Parts). IsTrue (node_typing d c.as_slice.result.now node.op node.args).is_typed) (sym c.isa.ensures.isa)
    (subst (λ (ws : List ℕ). IsTrue (node_typing g.isa ws node.op node.args).is_typed) (sym c.as_slice.ensures.value)
    (node_typed g c.args.self.now.widths.items node c.requires.growing.graph c.requires.growing.widths c.requires.fit))

pub returns : goal.returns
returns c =
    let node = c.args.node.now in
    node_width_is c.args.self.now.graph c.args.self.now.widths.items node c.node_width.result c.requires.growing.graph c.requires.growing.widths
    (c.node_width.ensures ∙ (λ i. (node_typing (c.isa.ensures.isa i) (c.as_slice.ensures.value i) node.op node.args).width))
