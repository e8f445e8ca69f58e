use Rattle.std.proofs.Common.{ap, sym, subst, ◌∙◌, ◌/◌, ◌^◌, ℕ, arith}
use Rattle.std.proofs.lemmas.Nat.{pow_pos}
use Rattle.std.specs.Ordering.{nat_cmp}
use Rattle.std.specs.FinMap.{FinMap}
use Rattle.std.specs.FinSet.{from_list}
use Rattle.vg_mem.specs.Bytes.{stored}
use Rattle.vg_mem.specs.Memory.{HasRoom, Memory, after_store}
use Rattle.vg_mem.specs.Pages.{bytes_of, pages_of}
use Rattle.vg_mem.proofs.Rooms.{neither}
use Rattle.vg_mem.proofs.Wraps.{after_wrapped, ends_within, has_wrapped, one_page, parts_of, stored_memory, stored_wrapped, wrapped_below}
use Rattle.vg_mem.proofs.mem.Mem.store.Goals as goal

pub returns-in_err-store_across-clause-within : goal.returns-in_err-store_across-clause-within
returns-in_err-store_across-clause-within c = λ has.
    absurd (neither (c.in_err-store_across.ensures.within
    (has_wrapped (pages_of c.self.inside.pages.pages.items) (2 ^ c.self.inside.width) c.args.at c.wrapped-first.result c.args.bytes c.wrapped-first.ensures
    (subst (λ (m : Memory). HasRoom m c.args.at c.args.bytes) (sym c.self.view_is) has))))

pub returns-then-offset-bytes-gt256-clause-ok : goal.returns-then-offset-bytes-gt256-clause-ok
returns-then-offset-bytes-gt256-clause-ok c =
    stored_memory c.self.inside.width c.args.at c.args.bytes c.args.value (bytes_of c.self.inside.pages.pages.items) (bytes_of c.store_across.new.pages.pages.items)
    (pages_of c.self.inside.pages.pages.items) (pages_of c.store_across.new.pages.pages.items)
    (c.in_ok-store_across.ensures.bytes ∙ stored_wrapped (2 ^ c.self.inside.width) c.args.at c.wrapped-first.result c.args.bytes c.args.value (bytes_of c.self.inside.pages.pages.items) (pow_pos c.self.inside.width) c.wrapped-first.ensures)
    (c.in_ok-store_across.ensures.pages ∙ after_wrapped (pages_of c.self.inside.pages.pages.items) (2 ^ c.self.inside.width) c.args.at c.wrapped-first.result c.args.bytes (pow_pos c.self.inside.width) c.wrapped-first.ensures)
    ∙ ap (λ (m : Memory). after_store m c.args.at c.args.bytes c.args.value) c.self.view_is

pub returns-clause-ok : goal.returns-clause-ok
returns-clause-ok c =
    let space : ℕ = 2 ^ c.self.inside.width in
    let first : ℕ = c.wrapped-first.result in
    stored_memory c.self.inside.width c.args.at c.args.bytes c.args.value (bytes_of c.self.inside.pages.pages.items) (bytes_of c.write.new.self.pages.items)
    (pages_of c.self.inside.pages.pages.items) (pages_of c.write.new.self.pages.items)
    (c.write.ensures.bytes (first / 256) space c.in_ok-place.ensures.place
    (ends_within c.self.inside.width first c.args.bytes c.self.invariant.0 (wrapped_below c.self.inside.width c.args.at first c.wrapped-first.ensures) (omega arith))
    ∙ ap (λ (n : ℕ). stored space n c.args.bytes c.args.value (bytes_of c.reach.new.self.pages.items)) (parts_of first)
    ∙ ap (λ (m : FinMap nat_cmp ℕ). stored space first c.args.bytes c.args.value m) c.in_ok-place.ensures.bytes
    ∙ stored_wrapped space c.args.at first c.args.bytes c.args.value (bytes_of c.self.inside.pages.pages.items) (pow_pos c.self.inside.width) c.wrapped-first.ensures)
    (ap (from_list {R = nat_cmp}) c.write.ensures.numbers ∙ c.in_ok-place.ensures.pages
    ∙ one_page (pages_of c.self.inside.pages.pages.items) c.self.inside.width c.args.at first c.args.bytes c.self.invariant.0 c.wrapped-first.ensures c.requires.some (omega arith))
    ∙ ap (λ (m : Memory). after_store m c.args.at c.args.bytes c.args.value) c.self.view_is
