use Rattle.std.proofs.Common.{◌≡◌, ap, sym, subst, ◌∙◌, ◌+◌, ◌/◌, ◌%◌, ◌^◌, ◌<◌, ◌≤◌, ℕ, List, IsTrue, arith}
use Rattle.std.proofs.lemmas.Nat.{mod_below}
use Rattle.std.proofs.Math.Nat.{mod-eq_of_lt}
use Rattle.std.specs.Ordering.{nat_cmp}
use Rattle.std.specs.FinMap.{FinMap}
use Rattle.std.specs.FinSet.{contains, from_list}
use Rattle.vg_mem.specs.Bytes.{put}
use Rattle.vg_mem.specs.Memory.{page_of}
use Rattle.vg_mem.specs.Pages.{bytes_of, numbers_of, pages_of}
use Rattle.vg_mem.proofs.Growth.{not_missing}
use Rattle.vg_mem.proofs.Wraps.{ends_within, parts_of, stored_step, wrapped_below}
use Rattle.vg_mem.proofs.mem.+store_each.Goals as goal

shifted : (at k : ℕ) → at + (k + 1) ≡ at + 1 + k
shifted at k = omega arith

plain : (at : ℕ) → at + 0 ≡ at
plain at = omega arith

alone : (n : ℕ) → n % 256 + 1 ≤ 256
alone n = let below : n % 256 < 256 = mod_below n 256 (omega arith) in omega arith

pub store_each-requires : goal.store_each-requires
store_each-requires t c = (
  omega arith,
  (
    c.requires.least,
    (
      c.requires.most,
      (
        omega arith,
        (
          omega arith,
          (λ k below. subst (λ (n : ℕ). IsTrue (contains (pages_of c.args.pages.now.pages.items) (page_of (n % 2 ^ c.args.width)))) (shifted c.args.at k) (c.requires.taken (k + 1) (omega arith))),
        ),
      ),
    ),
  ),
)

pub unreachable-requires : goal.unreachable-requires
unreachable-requires t c =
    let first : (c.args.at + 0) % 2 ^ c.args.width ≡ c.wide_wrapped-first.result = ap (λ (n : ℕ). n % 2 ^ c.args.width) (plain c.args.at) ∙ sym c.wide_wrapped-first.ensures in
    not_missing (numbers_of c.store_each.new.pages.pages.items) (c.wide_wrapped-first.result / 256) (sym c.in-None.ensures.value)
    (subst (λ (ns : List ℕ). IsTrue (contains (from_list {R = nat_cmp} ns) (c.wide_wrapped-first.result / 256))) (sym c.store_each.ensures.numbers)
    (subst (λ (n : ℕ). IsTrue (contains (pages_of c.args.pages.now.pages.items) (page_of n))) first (c.requires.taken 0 (omega arith))))

pub returns-clause-bytes : goal.returns-clause-bytes
returns-clause-bytes t c =
    let space : ℕ = 2 ^ c.args.width in
    let first : ℕ = c.wide_wrapped-first.result in
    let below : first < space = wrapped_below c.args.width c.args.at first c.wide_wrapped-first.ensures in
    c.write.ensures.bytes (first / 256) space (sym c.in-Some.ensures.value) (ends_within c.args.width first 1 c.requires.least below (alone first))
    ∙ ap (λ (n : ℕ). put (bytes_of c.store_each.new.pages.pages.items) (n % space) (c.args.value % 256)) (parts_of first)
    ∙ ap (λ (n : ℕ). put (bytes_of c.store_each.new.pages.pages.items) n (c.args.value % 256)) (mod-eq_of_lt {n = first} {m = space} below ∙ c.wide_wrapped-first.ensures)
    ∙ ap (λ (m : FinMap nat_cmp ℕ). put m (c.args.at % space) (c.args.value % 256)) c.store_each.ensures.bytes
    ∙ stored_step space c.args.at c.args.bytes c.args.value (bytes_of c.args.pages.now.pages.items) (omega arith)
