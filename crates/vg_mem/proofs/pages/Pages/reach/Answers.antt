use Rattle.std.proofs.Common.{ap, sym, ◌∙◌, ℕ, Option}
use Rattle.std.specs.Prelude.{is_some}
use Rattle.vg_mem.specs.Pages.{numbers_of, pages_of}
use Rattle.vg_mem.proofs.Growth.{contains-place_of, insert-there}
use Rattle.vg_mem.proofs.pages.Pages.reach.Goals as goal

pub returns-in-Some-clause-pages : goal.returns-in-Some-clause-pages
returns-in-Some-clause-pages c =
    sym (insert-there (pages_of c.args.self.now.pages.items) c.args.number
    (contains-place_of (numbers_of c.args.self.now.pages.items) c.args.number ∙ ap (λ (o : Option ℕ). is_some o) c.in-Some.ensures.value))
