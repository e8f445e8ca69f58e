-- Which pages are taken after pages were taken, and that those taken before stay.
use Rattle.std.proofs.Common.{◌≡◌, ℕ, zero, suc, ◌+◌, ◌-◌, ◌/◌, ◌%◌, ◌<◌, ◌≤◌, Bool, true, false, IsTrue, nat_eq, ◌||◌, arith, refl, sym, ap, ◌∙◌, subst}
use Rattle.std.specs.Prelude.{Result, Ok, Err, OnErr}
use Rattle.std.specs.Ordering.{nat_cmp, eq_by_cmp}
use Rattle.std.specs.Cmp.{nat_cmp_total}
use Rattle.std.specs.FinSet.{FinSet, contains, insert, contains-insert}
use Rattle.std.proofs.lemmas.Bool.Decides.{nat_tests}
use Rattle.std.proofs.Math.Nat.{mod-eq_of_lt}
use Rattle.vg_mem.specs.Memory.{HasPages, HasRoom, KeepsPages, Memory, after_store, is_taken, page_of, pages_from, space_of, with_room}

-- a page that is put into a set is in it
pub inserted : (pages : FinSet nat_cmp) (page : ℕ) → IsTrue (contains (insert pages page) page)
inserted pages page = contains-insert nat_cmp_total pages page page ∙ ap (λ b. b || contains pages page) (itself page)
  where
    itself : (n : ℕ) → eq_by_cmp nat_cmp n n ≡ true
    itself n = grind (arith, nat_tests)

-- a page that is in a set stays in it
pub insert_keeps : (pages : FinSet nat_cmp) (new page : ℕ) → IsTrue (contains pages page) → IsTrue (contains (insert pages new) page)
insert_keeps pages new page there = contains-insert nat_cmp_total pages new page ∙ ap (λ b. eq_by_cmp nat_cmp page new || b) there ∙ either (eq_by_cmp nat_cmp page new)
  where
    either : (b : Bool) → (b || true) ≡ true
    either true = refl
    either false = refl

pub pages_from_keeps : (first count : ℕ) (pages : FinSet nat_cmp) (page : ℕ) → IsTrue (contains pages page) → IsTrue (contains (pages_from first count pages) page)
pages_from_keeps first zero pages page there = there
pages_from_keeps first (suc count) pages page there = insert_keeps (pages_from first count pages) (first + count) page (pages_from_keeps first count pages page there)

-- so many pages from one on are taken
pub pages_from_has : (first count : ℕ) (pages : FinSet nat_cmp) (k : ℕ) → k < count → IsTrue (contains (pages_from first count pages) (first + k))
pages_from_has first zero pages k below = absurd (omega arith)
pages_from_has first (suc count) pages k below = of (nat_eq k count) refl (pages_from_has first count pages k)
  where
    same : (x y : ℕ) → nat_eq x y ≡ true → x ≡ y
    same x y h = grind (arith, nat_tests)

    less : (x y : ℕ) → x < suc y → nat_eq x y ≡ false → x < y
    less x y h e = grind (arith, nat_tests)

    of : (b : Bool) → nat_eq k count ≡ b → (k < count → IsTrue (contains (pages_from first count pages) (first + k))) → IsTrue (contains (insert (pages_from first count pages) (first + count)) (first + k))
    of true e rest = subst (λ (n : ℕ). IsTrue (contains (insert (pages_from first count pages) (first + count)) (first + n))) (sym (same k count e)) (inserted (pages_from first count pages) (first + count))
    of false e rest = insert_keeps (pages_from first count pages) (first + count) (first + k) (rest (less k count below e))

-- with room for a range of addresses, their pages are taken
pub with_room_has : (m : Memory) (from to : ℕ) → HasPages (with_room m from to) from to
with_room_has m from to at low high =
    subst (λ (n : ℕ). IsTrue (contains (pages_from (from / 256) (to / 256 + 1 - from / 256) m.pages) n)) (omega arith)
    (pages_from_has (from / 256) (to / 256 + 1 - from / 256) m.pages (at / 256 - from / 256) (omega arith))

-- room stays
pub with_room_keeps : (m : Memory) (from to : ℕ) → KeepsPages m (with_room m from to)
with_room_keeps m from to page there = pages_from_keeps (page_of from) (page_of to + 1 - page_of from) m.pages page there

pub after_store_keeps : (m : Memory) (at bytes value : ℕ) → KeepsPages m (after_store m at bytes value)
after_store_keeps m at bytes value page there = insert_keeps (insert m.pages (page_of (at % space_of m))) (page_of ((at + (bytes - 1)) % space_of m)) page (insert_keeps m.pages (page_of (at % space_of m)) page there)

-- the pages of a range of addresses that were taken still are
pub has_pages_kept : (old new : Memory) (from to : ℕ) → KeepsPages old new → HasPages old from to → HasPages new from to
has_pages_kept old new from to kept has at low high = kept (page_of at) (has at low high)

-- where the pages of a range are taken there is room for an access in it
pub room_within : (m : Memory) (from to at bytes : ℕ) → HasPages m from to → from ≤ at → at + bytes ≤ to + 1 → to < space_of m → HasRoom m at bytes
room_within m from to at bytes has low high below k within =
    subst (λ (n : ℕ). IsTrue (is_taken m n)) (sym (mod-eq_of_lt {n = at + k} {m = space_of m} (omega arith))) (has (at + k) (omega arith) (omega arith))

pub neither : false ≡ true → ⊥
neither e = cc

-- a fact that holds in any case holds on an error
pub on_err : {T E : Type 0} (r : Result T E) (P : Type 0) → P → OnErr r P
on_err (Ok x) P h = tt
on_err (Err e) P h = h
