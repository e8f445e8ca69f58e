use Rattle.std.proofs.Common.{◌≡◌, Some, arith, rules}
use Rattle.std.proofs.lemmas.Grind.{common_steps}
use Rattle.vg_mem.specs.Pages.{numbers_of, place_of}
use Rattle.vg_mem.proofs.PageLemmas.{number_fits, place_of-within}
use Rattle.vg_mem.proofs.pages.Pages.next_page.Goals as goal

pub returns-in-Some-clause-within : goal.returns-in-Some-clause-within
returns-in-Some-clause-within c =
    let there : place_of (numbers_of c.args.self.now.pages.items) c.in-Some.field-0-0.now ≡ Some c.in-Some.field-0-1.now = grind (arith, common_steps) in
    place_of-within c.args.self.now.pages.items c.in-Some.field-0-0.now c.in-Some.field-0-1.now there

pub returns-in-Some-clause-number : goal.returns-in-Some-clause-number
returns-in-Some-clause-number c =
    let there : place_of (numbers_of c.args.self.now.pages.items) c.in-Some.field-0-0.now ≡ Some c.in-Some.field-0-1.now = search rules in
    number_fits c.args.self.now.pages.items c.in-Some.field-0-0.now c.in-Some.field-0-1.now there
