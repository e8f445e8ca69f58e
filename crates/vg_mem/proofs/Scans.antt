-- Looking for the next byte that isn't 0, page by page.
use Rattle.std.proofs.Common.{◌≡◌, ℕ, ◌+◌, ◌-◌, ◌*◌, ◌/◌, ◌%◌, ◌<◌, ◌≤◌, Bool, true, false, nat_lt, List, Some, None, arith, refl, sym, ap, ◌∙◌}
use Rattle.std.specs.Prelude.{slice_index}
use Rattle.std.specs.Ordering.{nat_cmp}
use Rattle.std.specs.FinMap.{FinMap}
use Rattle.std.proofs.lemmas.Bool.Decides.{nat_tests}
use Rattle.vg_mem.specs.declared.page.Page.{Page}
use Rattle.vg_mem.specs.Bytes.{IsNextSet, byte_in}
use Rattle.vg_mem.specs.Pages.{bytes_of, numbers_of, place_of}
use Rattle.vg_mem.proofs.Writes.{HasPage, page_missing}

-- an address by its page
parted : (m : FinMap nat_cmp ℕ) (k : ℕ) → byte_in m (256 * (k / 256) + k % 256) ≡ byte_in m k
parted m k = ap (byte_in m) (whole k)
  where
    whole : (n : ℕ) → 256 * (n / 256) + n % 256 ≡ n
    whole n = omega arith

missing_zero : (pages : List Page) (k : ℕ) → place_of (numbers_of pages) (k / 256) ≡ None → byte_in (bytes_of pages) k ≡ 0
missing_zero pages k none = sym (parted (bytes_of pages) k) ∙ page_missing pages (k / 256) none (k % 256) (omega arith)

-- the bytes are 0 up to the next page
pub zero_before : (pages : List Page) (from number next : ℕ) → ((k : ℕ) → from ≤ k → k < 256 * number → byte_in (bytes_of pages) k ≡ 0) → ((n : ℕ) → number ≤ n → n < next → place_of (numbers_of pages) n ≡ None) → (k : ℕ) → from ≤ k → k < 256 * next → byte_in (bytes_of pages) k ≡ 0
zero_before pages from number next before none k low high = of (nat_lt k (256 * number)) refl
  where
    of : (b : Bool) → nat_lt k (256 * number) ≡ b → byte_in (bytes_of pages) k ≡ 0
    of true e = before k low (grind (arith, nat_tests))
    of false e = let above : 256 * number ≤ k = grind (arith, nat_tests) in missing_zero pages k (none (k / 256) (omega arith) (omega arith))

-- what is found in the next page is the next byte that isn't 0
pub found : (m : FinMap nat_cmp ℕ) (from next at : ℕ) (xs : List ℕ) → ((k : ℕ) → from ≤ k → k < 256 * next → byte_in m k ≡ 0) → HasPage m next xs → from / 256 ≤ next → at < 256 → IsNextSet (slice_index xs) (from - 256 * next) (Some at) → IsNextSet (byte_in m) from (Some (256 * next + at))
found m from next at xs before page order within is = (omega (arith, is.0), (λ e. is.1 (sym (page at within) ∙ e)), least)
  where
    least : (k : ℕ) → from ≤ k → k < 256 * next + at → byte_in m k ≡ 0
    least k low high = of (nat_lt k (256 * next)) refl
      where
        of : (b : Bool) → nat_lt k (256 * next) ≡ b → byte_in m k ≡ 0
        of true e = before k low (grind (arith, nat_tests))
        of false e =
            let above : 256 * next ≤ k = grind (arith, nat_tests) in
            ap (byte_in m) (whole k above) ∙ page (k - 256 * next) (omega arith) ∙ is.2 (k - 256 * next) (omega arith) (omega arith)
          where
            whole : (n : ℕ) → 256 * next ≤ n → n ≡ 256 * next + (n - 256 * next)
            whole n h = omega arith

-- where nothing is found in the next page, the bytes are 0 up to its end
pub passed : (m : FinMap nat_cmp ℕ) (from next : ℕ) (xs : List ℕ) → ((k : ℕ) → from ≤ k → k < 256 * next → byte_in m k ≡ 0) → HasPage m next xs → IsNextSet (slice_index xs) (from - 256 * next) None → (k : ℕ) → from ≤ k → k < 256 * (next + 1) → byte_in m k ≡ 0
passed m from next xs before page none k low high = of (nat_lt k (256 * next)) refl
  where
    of : (b : Bool) → nat_lt k (256 * next) ≡ b → byte_in m k ≡ 0
    of true e = before k low (grind (arith, nat_tests))
    of false e =
        let above : 256 * next ≤ k = grind (arith, nat_tests) in
        ap (byte_in m) (whole k above) ∙ page (k - 256 * next) (omega arith) ∙ none (k - 256 * next) (omega arith)
      where
        whole : (n : ℕ) → 256 * next ≤ n → n ≡ 256 * next + (n - 256 * next)
        whole n h = omega arith

-- where no page is left, the bytes are 0
pub ended : (pages : List Page) (from number : ℕ) → ((k : ℕ) → from ≤ k → k < 256 * number → byte_in (bytes_of pages) k ≡ 0) → ((n : ℕ) → number ≤ n → place_of (numbers_of pages) n ≡ None) → IsNextSet (byte_in (bytes_of pages)) from None
ended pages from number before none k low = of (nat_lt k (256 * number)) refl
  where
    of : (b : Bool) → nat_lt k (256 * number) ≡ b → byte_in (bytes_of pages) k ≡ 0
    of true e = before k low (grind (arith, nat_tests))
    of false e = let above : 256 * number ≤ k = grind (arith, nat_tests) in missing_zero pages k (none (k / 256) (omega arith))

-- a byte at an address, by its page
pub byte_there : (m : FinMap nat_cmp ℕ) (at : ℕ) (xs : List ℕ) → HasPage m (at / 256) xs → slice_index xs (at % 256) ≡ byte_in m at
byte_there m at xs page = sym (page (at % 256) (omega arith)) ∙ parted m at
