-- What contracts see of a memory, and what its calls make of it.
use Rattle.std.specs.Prelude.{◌≡◌, ℕ, zero, suc, ◌+◌, ◌-◌, ◌/◌, ◌%◌, ◌^◌, ◌<◌, ◌≤◌, Bool, IsTrue, refl}
use Rattle.std.specs.Ordering.{nat_cmp}
use Rattle.std.specs.FinMap as map
use Rattle.std.specs.FinMap.{FinMap}
use Rattle.std.specs.FinSet as set
use Rattle.std.specs.FinSet.{FinSet}
use Rattle.std.specs.Coded.{Coded, code_by, coded×, coded_ℕ}
use Rattle.vg_mem.specs.Bytes.{stored}

-- A memory has addresses of so many bits, the bytes that aren't 0 by their addresses, and the pages that are taken. A
-- page is 256 bytes, and its number is the address of its first byte over 256.
pub record Memory : Type 0 where
  pub width : ℕ
  pub bytes : FinMap nat_cmp ℕ
  pub pages : FinSet nat_cmp

-- a memory is stored as the tuple of its fields
abbrev pub memory_code : Coded Memory
memory_code =
    code_by (ℕ × (FinMap nat_cmp ℕ × FinSet nat_cmp)) (coded× coded_ℕ (coded× (map.code coded_ℕ coded_ℕ) (set.code coded_ℕ))) (λ m. (m.width, (m.bytes, m.pages))) (λ t. record { width = t.0; bytes = t.1.0; pages = t.1.1 }) (λ _. refl)

-- the number of addresses
abbrev pub space_of : Memory → ℕ
space_of m = 2 ^ m.width

-- every byte is 0, and no page is taken
abbrev pub blank : ℕ → Memory
blank width = record { width = width; bytes = map.empty; pages = set.empty }

-- ---- pages

-- the number of the page of an address
abbrev pub page_of : ℕ → ℕ
page_of at = at / 256

-- the page of an address is taken
abbrev pub is_taken : Memory → ℕ → Bool
is_taken m at = set.contains m.pages (page_of at)

-- the pages of so many bytes from an address on are among these, the addresses modulo space
abbrev pub HasPagesOf : FinSet nat_cmp → ℕ → ℕ → ℕ → Type 0
HasPagesOf pages space at bytes = (k : ℕ) → k < bytes → IsTrue (set.contains pages (page_of ((at + k) % space)))

-- the pages of so many bytes from an address on are taken
abbrev pub HasRoom : Memory → ℕ → ℕ → Type 0
HasRoom m at bytes = HasPagesOf m.pages (space_of m) at bytes

-- the pages of the addresses from one to another, both included, are taken
abbrev pub HasPages : Memory → ℕ → ℕ → Type 0
HasPages m from to = (at : ℕ) → from ≤ at → at ≤ to → IsTrue (is_taken m at)

-- so many pages from one on, and others
abbrev pub pages_from : ℕ → ℕ → FinSet nat_cmp → FinSet nat_cmp
pages_from first zero pages = pages
pages_from first (suc count) pages = set.insert (pages_from first count pages) (first + count)

-- the pages of the addresses from one to another, both included, are taken, and the bytes stay
abbrev pub with_room : Memory → ℕ → ℕ → Memory
with_room m from to =
    record { width = m.width; bytes = m.bytes; pages = pages_from (page_of from) (page_of to + 1 - page_of from) m.pages }

-- each of these pages is one of those
abbrev pub AreKept : FinSet nat_cmp → FinSet nat_cmp → Type 0
AreKept old new = (page : ℕ) → IsTrue (set.contains old page) → IsTrue (set.contains new page)

-- each page that was taken still is
abbrev pub KeepsPages : Memory → Memory → Type 0
KeepsPages old new = AreKept old.pages new.pages

-- the bytes stay, and pages may have been taken
pub record KeepsBytes (old new : Memory) : Type 0 where
  pub width : new.width ≡ old.width
  pub bytes : new.bytes ≡ old.bytes
  pub pages : KeepsPages old new

-- ---- stores

-- The pages after so many bytes, 1 to 16, are stored from an address on: those of the first and of the last address are
-- taken, and there is no other.
abbrev pub pages_after : ℕ → ℕ → ℕ → FinSet nat_cmp → FinSet nat_cmp
pages_after space at bytes pages =
    set.insert (set.insert pages (page_of (at % space))) (page_of ((at + (bytes - 1)) % space))

-- the memory after so many bytes of a number are stored from an address on
abbrev pub after_store : Memory → ℕ → ℕ → ℕ → Memory
after_store m at bytes value = record {
  width = m.width;
  bytes = stored (space_of m) at bytes value m.bytes;
  pages = pages_after (space_of m) at bytes m.pages;
}
