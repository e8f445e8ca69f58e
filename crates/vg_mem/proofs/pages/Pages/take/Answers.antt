use Rattle.std.proofs.Common.{◌≡◌, ap, sym, ◌∙◌, ℕ, true, false, Option}
use Rattle.std.specs.Prelude.{is_some}
use Rattle.vg_mem.specs.Pages.{numbers_of, pages_of}
use Rattle.vg_mem.proofs.Growth.{contains-place_of, insert-there}
use Rattle.vg_mem.proofs.pages.Pages.take.Goals as goal

pub returns-in-Some-clause-pages : goal.returns-in-Some-clause-pages
returns-in-Some-clause-pages c =
    sym (insert-there (pages_of c.args.self.now.pages.items) c.args.number
    (contains-place_of (numbers_of c.args.self.now.pages.items) c.args.number ∙ ap (λ (o : Option ℕ). is_some o) (sym c.place.ensures.value ∙ c.in-Some.is)))

neither : false ≡ true → ⊥
neither e = cc

pub returns-in-None-clause-there : goal.returns-in-None-clause-there
returns-in-None-clause-there c = λ there. absurd (neither (sym (contains-place_of (numbers_of c.args.self.now.pages.items) c.args.number ∙ ap (λ (o : Option ℕ). is_some o) (sym c.place.ensures.value ∙ c.in-None.is)) ∙ there))
