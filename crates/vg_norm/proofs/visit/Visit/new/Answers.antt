use Rattle.std.proofs.Common.{◌≡◌, ℕ, List, Option, Some, None, Bool, true, false, length, ap, ◌∙◌, subst}
use Rattle.std.specs.Prelude.{slice_get}
use Rattle.std.proofs.lemmas.List.{length-replicate}
use Rattle.vg_graph.proofs.OrderLemmas.{none_marked}
use Rattle.vg_norm.proofs.VisitLemmas.{none_found}
use Rattle.vg_norm.proofs.visit.Visit.new.Goals as goal

pub returns-clause-visit : goal.returns-clause-visit
returns-clause-visit c =
    let count = c.count-count.result in
    record {
      growing = c.in_ok-fresh.ensures.growing;
      isa = c.in_ok-fresh.ensures.isa ∙ c.isa.ensures.isa;
      images = ap length c.in_ok-images.ensures ∙ length-replicate count None ∙ c.count-count.ensures;
      open_nodes = ap length c.in_ok-opened.ensures ∙ length-replicate count false ∙ c.count-count.ensures;
      each = λ k j at. absurd (none_found count k j (subst (λ (images : List (Option ℕ)). slice_get images k ≡ Some (Some j)) c.in_ok-images.ensures at));
      settled = λ k at. absurd (none_marked count k (subst (λ (opened : List Bool). slice_get opened k ≡ Some true) c.in_ok-opened.ensures at));
    }
