use Rattle.std.proofs.Common.{◌≡◌, ℕ, Option, length, ap, sym, subst, ◌∙◌, rules, arith}
use Rattle.std.specs.Prelude.{IfNone}
use Rattle.std.specs.List.{Contains}
use Rattle.vg_names.specs.Graph.{IsSorting}
use Rattle.vg_names.specs.Search.{IsSearched, Keeps}
use Rattle.vg_names.proofs.Counts.{written_back}
use Rattle.vg_names.proofs.SearchLemmas.{roots_more, searched_all}
use Rattle.vg_names.proofs.graph.sorted.Goals as goal

pub loop-root-preserved : goal.loop-root-preserved
loop-root-preserved c =
    let same : length c.search.new.marks ≡ length c.deref_mut.result.now = search rules in
    let room : c.loop-root.marks.len ≡ length c.loop-root.marks.items = omega (arith, c.loop-root.marks.ok.0) in
    let e = c.in_ok-search.ensures in
    let searched : IsSearched c.args.graph.now c.search.new.marks c.search.new.order.items = subst (λ (o : Option ℕ). IfNone o (IsSearched c.args.graph.now c.search.new.marks c.search.new.order.items)) c.in-None.is e.searched in
    let found : Contains c.search.new.order.items c.loop-root.root = subst (λ (o : Option ℕ). IfNone o (Contains c.search.new.order.items c.loop-root.root)) c.in-None.is e.found in
    let kept : Keeps c.loop-root.order.items c.search.new.order.items = subst (λ (o : Option ℕ). IfNone o (Keeps c.loop-root.order.items c.search.new.order.items)) c.in-None.is e.kept in (
      subst (λ marks. IsSearched c.args.graph.now marks c.search.new.order.items)
          (sym (written_back c.search.new.marks c.loop-root.marks.items c.loop-root.marks.len (same ∙ ap length c.deref_mut.ensures.value) room)) searched,
      roots_more c.loop-root.order.items c.search.new.order.items c.loop-root.root kept found c.loop-root.invariant.1,
    )

pub returns : goal.returns
returns c =
    subst (IsSorting c.args.graph.now) (sym c.from_vec.ensures)
    (searched_all c.args.graph.now c.loop-root.marks.items c.loop-root.order.items c.loop-root.root c.loop-root.invariant.0 c.loop-root.invariant.1 c.loop-root-test.false)
