use Rattle.std.proofs.Common.{◌≡◌, ℕ, List, length, sym, ap, ◌∙◌, subst}
use Rattle.vg_graph.proofs.BuildLemmas.{added_extends}
use Rattle.vg_norm.specs.Growing.{AreWidths}
use Rattle.vg_norm.proofs.GrowingLemmas.{normal_added, put_stands, widths_added, widths_same}
use Rattle.vg_norm.proofs.growing.Growing.put.Goals as goal

pub returns-then-n-as_slice-clause-growing : goal.returns-then-n-as_slice-clause-growing
returns-then-n-as_slice-clause-growing c =
    let g = c.args.self.now.graph in
    let h = c.add_or_refuse.new.self in
    let widths = c.args.self.now.widths.items in
    let node = c.args.node.now in
    let n = c.in_ok-n.n in
    let is = c.in_ok-n.ensures.ok in
    let last : n ≡ length widths = c.if-n-as_slice.true ∙ ap length c.as_slice.ensures.value in
    record {
      graph = c.in_ok-n.ensures.graph;
      normal = normal_added g h node n c.requires.growing.normal is c.requires.bare c.requires.ordered;
      widths =
          subst (λ (ws : List ℕ). AreWidths h ws) (sym c.in_ok-push.ensures.items)
          (widths_added g h node widths c.width-width.result n c.requires.growing.graph c.requires.fit c.requires.growing.widths c.width-width.ensures is last);
    }

pub returns-then-n-as_slice-clause-extends : goal.returns-then-n-as_slice-clause-extends
returns-then-n-as_slice-clause-extends c = added_extends c.args.self.now.graph c.add_or_refuse.new.self c.args.node.now c.in_ok-n.n c.in_ok-n.ensures.ok

pub returns-then-n-as_slice-clause-stands : goal.returns-then-n-as_slice-clause-stands
returns-then-n-as_slice-clause-stands c = put_stands c.args.self.now.graph c.add_or_refuse.new.self c.args.node.now c.in_ok-n.n c.requires.growing.graph c.requires.fit c.in_ok-n.ensures.ok

pub returns-clause-growing : goal.returns-clause-growing
returns-clause-growing c =
    let g = c.args.self.now.graph in
    let h = c.add_or_refuse.new.self in
    let node = c.args.node.now in
    let n = c.in_ok-n.n in
    let is = c.in_ok-n.ensures.ok in
    record {
      graph = c.in_ok-n.ensures.graph;
      normal = normal_added g h node n c.requires.growing.normal is c.requires.bare c.requires.ordered;
      widths = widths_same g h node c.args.self.now.widths.items n c.requires.growing.widths is (λ last. c.if-n-as_slice.false (last ∙ sym (ap length c.as_slice.ensures.value)));
    }

pub returns-clause-extends : goal.returns-clause-extends
returns-clause-extends c = added_extends c.args.self.now.graph c.add_or_refuse.new.self c.args.node.now c.in_ok-n.n c.in_ok-n.ensures.ok

pub returns-clause-stands : goal.returns-clause-stands
returns-clause-stands c = put_stands c.args.self.now.graph c.add_or_refuse.new.self c.args.node.now c.in_ok-n.n c.requires.growing.graph c.requires.fit c.in_ok-n.ensures.ok
