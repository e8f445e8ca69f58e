-- The pages of a memory, in the order in which they were taken.
use Rattle.std.specs.Prelude.{◌≡◌, ℕ, zero, suc, ◌+◌, ◌*◌, ◌/◌, ◌%◌, ◌<◌, ◌≤◌, nat_eq, List, [], ◌∷◌, length, map, Option, Some, None, slice_set, slice_index, if◌then◌else◌}
use Rattle.std.specs.Option.{option_map}
use Rattle.std.specs.Ordering.{nat_cmp}
use Rattle.std.specs.BTreeMap.{BTreeMap, get}
use Rattle.std.specs.FinMap.{FinMap, empty}
use Rattle.std.specs.FinSet.{FinSet, from_list}
use Rattle.vg_mem.specs.declared.page.Page.{Page}
use Rattle.vg_mem.specs.Bytes.{laid}

-- the numbers of the pages
abbrev pub numbers_of : List Page → List ℕ
numbers_of pages = map (λ (page : Page). page.number) pages

-- the set of the numbers of the pages
abbrev pub pages_of : List Page → FinSet nat_cmp
pages_of pages = from_list (numbers_of pages)

-- where a number stands among numbers, if it does
abbrev pub place_of : List ℕ → ℕ → Option ℕ
place_of [] number = None
place_of (n ∷ numbers) number =
    if nat_eq n number then Some 0 else option_map (λ place. place + 1) (place_of numbers number)

-- the bytes of the pages that aren't 0
abbrev pub bytes_of : List Page → FinMap nat_cmp ℕ
bytes_of [] = empty
bytes_of (page ∷ pages) = laid (256 * page.number) page.bytes (bytes_of pages)

-- the map tells where each number stands
abbrev pub IsIndexed : List ℕ → BTreeMap ℕ ℕ → Type 0
IsIndexed numbers places = (number : ℕ) → get nat_cmp places number ≡ place_of numbers number

-- no number stands twice
abbrev pub AreDistinct : List ℕ → Type 0
AreDistinct numbers = (place : ℕ) → place < length numbers → place_of numbers (slice_index numbers place) ≡ Some place

-- so many bytes of a page from an offset on, the least significant first
abbrev pub gathered : List ℕ → ℕ → ℕ → ℕ
gathered xs offset zero = 0
gathered xs offset (suc bytes) = slice_index xs offset + 256 * gathered xs (offset + 1) bytes

-- a page's bytes with so many bytes of a number written from an offset on
abbrev pub written : List ℕ → ℕ → ℕ → ℕ → List ℕ
written xs offset zero value = xs
written xs offset (suc bytes) value = slice_set (written xs (offset + 1) bytes (value / 256)) offset (value % 256)

-- the least of the numbers from one on, and where it stands; None where there is none
abbrev pub IsNextPage : List ℕ → ℕ → Option (ℕ × ℕ) → Type 0
IsNextPage numbers from None = (n : ℕ) → from ≤ n → place_of numbers n ≡ None
IsNextPage numbers from (Some next) =
    (from ≤ next.0) × (place_of numbers next.0 ≡ Some next.1) × ((n : ℕ) → from ≤ n → n < next.0 → place_of numbers n ≡ None)
