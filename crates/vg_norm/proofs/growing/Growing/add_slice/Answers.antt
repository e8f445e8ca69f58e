use Rattle.std.proofs.Common.{◌≡◌, ◌≤◌, ◌<◌, ℕ, ◌+◌, ◌-◌, sym, ◌∙◌, subst, arith}
use Rattle.std.specs.Prelude.{slice_index_or}
use Rattle.vg_isa.specs.declared.expr.Expr.TheOpen.{Expr-F}
use Rattle.vg_isa.specs.declared.operator.CastOp.TheVariants.{Cut}
use Rattle.vg_graph.specs.Graph.{IsFit}
use Rattle.vg_graph.specs.Node.{node_of}
use Rattle.vg_norm.specs.Growing.{StandsFor}
use Rattle.vg_norm.proofs.GrowingLemmas.{slice_fits, slice_stands, slice_within}
use Rattle.vg_norm.proofs.growing.Growing.add_slice.Goals as goal

pub sliced-width-requires-clause-within : goal.sliced-width-requires-clause-within
sliced-width-requires-clause-within c =
    subst (λ (w : ℕ). c.args.high < w) (sym c.width_of.ensures.width)
    (slice_within c.args.self.now.graph c.args.self.now.widths.items c.args.high c.args.low c.args.a c.requires.growing.graph c.requires.growing.widths c.requires.fit)

pub add_cast-requires-clause-fit : goal.add_cast-requires-clause-fit
add_cast-requires-clause-fit c =
    let g = c.args.self.now.graph in
    let widths = c.args.self.now.widths.items in
    let fit : IsFit g (node_of (Expr-F.Slice c.args.a c.args.high 0)) = subst (λ (low : ℕ). IsFit g (node_of (Expr-F.Slice c.args.a c.args.high low))) c.if-low-eq0.true c.requires.fit in
    let most : slice_index_or widths c.args.a 0 ≤ 128 = subst (λ (w : ℕ). w ≤ 128) c.width_of.ensures.width c.width_of.ensures.most in
    let width : c.args.high + 1 - 0 ≡ c.args.high + 1 = omega arith in
    subst (λ (w : ℕ). IsFit g (node_of (Expr-F.Cast Cut w c.args.a))) (sym (c.sliced-width.ensures ∙ width))
    (slice_fits g widths c.args.high c.args.a c.requires.growing.graph c.requires.growing.widths fit most)

pub returns-then-low-eq0-clause-stands : goal.returns-then-low-eq0-clause-stands
returns-then-low-eq0-clause-stands c =
    let g = c.args.self.now.graph in
    let h = c.add_cast.new.self.graph in
    let widths = c.args.self.now.widths.items in
    let fit : IsFit g (node_of (Expr-F.Slice c.args.a c.args.high 0)) = subst (λ (low : ℕ). IsFit g (node_of (Expr-F.Slice c.args.a c.args.high low))) c.if-low-eq0.true c.requires.fit in
    let most : slice_index_or widths c.args.a 0 ≤ 128 = subst (λ (w : ℕ). w ≤ 128) c.width_of.ensures.width c.width_of.ensures.most in
    let width : c.args.high + 1 - 0 ≡ c.args.high + 1 = omega arith in
    let casts : StandsFor g (node_of (Expr-F.Cast Cut (c.args.high + 1) c.args.a)) h c.in_ok-n.n = subst (λ (w : ℕ). StandsFor g (node_of (Expr-F.Cast Cut w c.args.a)) h c.in_ok-n.n) (c.sliced-width.ensures ∙ width) c.in_ok-n.ensures.stands in
    subst (λ (low : ℕ). StandsFor g (node_of (Expr-F.Slice c.args.a c.args.high low)) h c.in_ok-n.n) (sym c.if-low-eq0.true)
    (slice_stands g h c.args.high c.args.a c.in_ok-n.n fit (slice_fits g widths c.args.high c.args.a c.requires.growing.graph c.requires.growing.widths fit most) casts)
