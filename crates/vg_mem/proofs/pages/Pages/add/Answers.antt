use Rattle.std.proofs.Common.{ap, sym, ◌∙◌, arith, length, subst, ℕ, List, [], ◌∷◌, ◌++◌, ◌≡◌}
use Rattle.std.proofs.lemmas.Grind.{common_steps}
use Rattle.std.proofs.lemmas.List.{length-map}
use Rattle.std.specs.FinSet.{insert}
use Rattle.vg_mem.specs.declared.page.Page.{Page}
use Rattle.vg_mem.specs.Pages.{AreDistinct, IsIndexed, bytes_of, numbers_of, pages_of}
use Rattle.vg_mem.proofs.Growth.{numbers_of-push, pages_of-push, bytes_of-push, indexed_push, distinct_push, same_entries}
use Rattle.vg_mem.proofs.pages.Pages.add.Goals as goal

pub invariant_of-self-in-Ok : goal.invariant_of-self-in-Ok
invariant_of-self-in-Ok c =
    let pages : List Page = c.args.self.now.pages.items in
    let numbers : numbers_of c.push.new.self.items ≡ numbers_of pages ++ c.args.number ∷ [] =
    ap numbers_of c.in_ok-push.ensures.items ∙ numbers_of-push pages c.blank.result ∙ ap (λ (n : ℕ). numbers_of pages ++ n ∷ []) c.blank.ensures.number in
    let place : c.len-place.result ≡ length (numbers_of pages) = omega (arith, length-map pages (λ (p : Page). p.number)) in
    record {
      indexed = subst (λ (ns : List ℕ). IsIndexed ns c.insert.new.self) (sym numbers)
          (indexed_push (numbers_of pages) c.args.number c.len-place.result c.args.self.now.places c.insert.new.self c.args.self.now.indexed c.requires.absent place c.in-Ok.ensures.updates);
      distinct = subst AreDistinct (sym numbers) (distinct_push (numbers_of pages) c.args.number c.args.self.now.distinct c.requires.absent);
    }

pub invariant_of-self-in-Err : goal.invariant_of-self-in-Err
invariant_of-self-in-Err c =
    let back : c.pop.new.self.items ≡ c.args.self.now.pages.items = grind (arith, common_steps) in
    record {
      indexed = subst (λ (ps : List Page). IsIndexed (numbers_of ps) c.insert.new.self) (sym back)
          (same_entries (numbers_of c.args.self.now.pages.items) c.args.self.now.places c.insert.new.self c.in-Err.ensures.err c.args.self.now.indexed);
      distinct = subst (λ (ps : List Page). AreDistinct (numbers_of ps)) (sym back) c.args.self.now.distinct;
    }

pub returns-in-Ok-clause-bytes : goal.returns-in-Ok-clause-bytes
returns-in-Ok-clause-bytes c = ap bytes_of c.in_ok-push.ensures.items ∙ bytes_of-push c.args.self.now.pages.items c.blank.result c.blank.ensures.bytes

pub returns-in-Ok-clause-pages : goal.returns-in-Ok-clause-pages
returns-in-Ok-clause-pages c =
    ap pages_of c.in_ok-push.ensures.items ∙ pages_of-push c.args.self.now.pages.items c.blank.result
    ∙ ap (insert (pages_of c.args.self.now.pages.items)) c.blank.ensures.number
