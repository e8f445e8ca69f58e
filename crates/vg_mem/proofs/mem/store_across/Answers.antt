use Rattle.std.proofs.Common.{◌≡◌, ap, sym, subst, ◌∙◌, ◌+◌, ◌-◌, ◌/◌, ◌%◌, ◌^◌, ℕ, IsTrue}
use Rattle.std.specs.Ordering.{nat_cmp}
use Rattle.std.specs.FinSet.{FinSet, contains, from_list, insert}
use Rattle.vg_mem.specs.Memory.{AreKept, HasPagesOf, pages_after}
use Rattle.vg_mem.specs.Pages.{pages_of}
use Rattle.vg_mem.proofs.Wraps.{after_has, has_first, has_last, taken_after}
use Rattle.vg_mem.proofs.Rooms.{insert_keeps, neither, on_err}
use Rattle.vg_mem.proofs.mem.store_across.Goals as goal

pub returns-in_err-take-clause-within : goal.returns-in_err-take-clause-within
returns-in_err-take-clause-within c = λ has. absurd (neither (c.in_err-take.ensures.there (has_first (pages_of c.args.pages.now.pages.items) (2 ^ c.args.width) c.args.first c.args.bytes c.requires.first c.requires.some has)))

pub returns-in_err-take-2-clause-kept : goal.returns-in_err-take-2-clause-kept
returns-in_err-take-2-clause-kept c =
    on_err c.from_residual-in_err-take-2.result (AreKept (pages_of c.args.pages.now.pages.items) (pages_of c.take-2.new.self.pages.items))
    (λ page there. subst (λ (s : FinSet nat_cmp). IsTrue (contains s page)) (sym (ap pages_of c.in_err-take-2.ensures.err ∙ c.in_ok-take.ensures.pages))
    (insert_keeps (pages_of c.args.pages.now.pages.items) (c.args.first / 256) page there))

pub returns-in_err-take-2-clause-within : goal.returns-in_err-take-2-clause-within
returns-in_err-take-2-clause-within c = λ has.
    let last : c.wide_wrapped-last.result ≡ (c.args.first + (c.args.bytes - 1)) % 2 ^ c.args.width = c.wide_wrapped-last.ensures ∙ (λ i. (c.from.ensures i + c.from-2.ensures i) % 2 ^ c.args.width) in
    absurd (neither (c.in_err-take-2.ensures.there
    (subst (λ (s : FinSet nat_cmp). IsTrue (contains s (c.wide_wrapped-last.result / 256))) (sym c.in_ok-take.ensures.pages)
    (insert_keeps (pages_of c.args.pages.now.pages.items) (c.args.first / 256) (c.wide_wrapped-last.result / 256)
    (has_last (pages_of c.args.pages.now.pages.items) (2 ^ c.args.width) c.args.first c.args.bytes c.wide_wrapped-last.result last c.requires.some has)))))

pub store_each-requires-clause-taken : goal.store_each-requires-clause-taken
store_each-requires-clause-taken c =
    let last : c.wide_wrapped-last.result ≡ (c.args.first + (c.args.bytes - 1)) % 2 ^ c.args.width = c.wide_wrapped-last.ensures ∙ (λ i. (c.from.ensures i + c.from-2.ensures i) % 2 ^ c.args.width) in
    let pages : pages_of c.take-2.new.self.pages.items ≡ pages_after (2 ^ c.args.width) c.args.first c.args.bytes (pages_of c.args.pages.now.pages.items) =
    c.in_ok-take-2.ensures.pages ∙ ap (λ (s : FinSet nat_cmp). insert s (c.wide_wrapped-last.result / 256)) c.in_ok-take.ensures.pages
    ∙ taken_after (pages_of c.args.pages.now.pages.items) (2 ^ c.args.width) c.args.first c.args.bytes c.wide_wrapped-last.result c.requires.first last in
    subst (λ (n : ℕ). HasPagesOf (pages_of c.take-2.new.self.pages.items) (2 ^ c.args.width) n c.args.bytes) (sym c.from-3.ensures)
    (subst (λ (s : FinSet nat_cmp). HasPagesOf s (2 ^ c.args.width) c.args.first c.args.bytes) (sym pages)
    (after_has (pages_of c.args.pages.now.pages.items) c.args.width c.args.first c.args.bytes c.requires.least c.requires.first c.requires.few))

pub returns-clause-pages : goal.returns-clause-pages
returns-clause-pages c =
    let last : c.wide_wrapped-last.result ≡ (c.args.first + (c.args.bytes - 1)) % 2 ^ c.args.width = c.wide_wrapped-last.ensures ∙ (λ i. (c.from.ensures i + c.from-2.ensures i) % 2 ^ c.args.width) in
    ap (from_list {R = nat_cmp}) c.store_each.ensures.numbers
    ∙ c.in_ok-take-2.ensures.pages ∙ ap (λ (s : FinSet nat_cmp). insert s (c.wide_wrapped-last.result / 256)) c.in_ok-take.ensures.pages
    ∙ taken_after (pages_of c.args.pages.now.pages.items) (2 ^ c.args.width) c.args.first c.args.bytes c.wide_wrapped-last.result c.requires.first last
