-- The bytes of pages, read page by page.
use Rattle.std.proofs.Common.{◌≡◌, ◌≢◌, ℕ, zero, suc, ◌+◌, ◌*◌, ◌/◌, ◌%◌, ◌<◌, Bool, true, false, nat_eq, List, [], ◌∷◌, length, get_or, Some, None, Option, unwrap_or, arith, refl, sym, ap, ◌∙◌, subst, if◌then◌else◌}
use Rattle.std.specs.Option.{option_map}
use Rattle.std.specs.Prelude.{◌^◌, IfSome, slice_get, slice_index}
use Rattle.std.specs.Ordering.{nat_cmp}
use Rattle.std.specs.FinMap.{FinMap, get-empty}
use Rattle.std.proofs.lemmas.Bool.Decides.{nat_tests}
use Rattle.std.proofs.lemmas.List.{length-map}
use Rattle.vg_mem.specs.declared.page.Page.{Page}
use Rattle.vg_mem.specs.Bytes.{byte_in, laid}
use Rattle.vg_mem.specs.Pages.{AreDistinct, bytes_of, numbers_of, place_of}
use Rattle.vg_mem.proofs.Zeros.{KeepsNoZero, empty_keeps_no_zero, laid_keeps_no_zero, byte_in-laid_inside, byte_in-laid_outside}

pub bytes_of_keeps_no_zero : (pages : List Page) → KeepsNoZero (bytes_of pages)
bytes_of_keeps_no_zero [] = empty_keeps_no_zero
bytes_of_keeps_no_zero (page ∷ pages) = laid_keeps_no_zero (256 * page.number) page.bytes (bytes_of pages) (bytes_of_keeps_no_zero pages)

-- an address is its page's first address and an offset
parted : (q : ℕ) → q ≡ 256 * (q / 256) + q % 256
parted q = omega arith

-- what is read in a page that stands in front
front_inside : (page : Page) (m : FinMap nat_cmp ℕ) (q : ℕ) → page.number ≡ q / 256 → byte_in (laid (256 * page.number) page.bytes m) q ≡ slice_index page.bytes (q % 256)
front_inside page m q here =
    ap (byte_in (laid (256 * page.number) page.bytes m)) at
    ∙ byte_in-laid_inside (256 * page.number) page.bytes m (q % 256) (omega (arith, page.whole))
  where
    at : q ≡ 256 * page.number + q % 256
    at = omega (arith, parted q, here)

front_outside : (page : Page) (m : FinMap nat_cmp ℕ) (q : ℕ) → page.number ≢ q / 256 → byte_in (laid (256 * page.number) page.bytes m) q ≡ byte_in m q
front_outside page m q apart = byte_in-laid_outside (256 * page.number) page.bytes m q (λ k within e. apart (omega (arith, page.whole)))

-- what is read in pages, by where the address's page stands
abbrev pub read_in : List Page → Option ℕ → ℕ → ℕ
read_in pages None offset = 0
read_in pages (Some place) offset = unwrap_or (option_map (λ (page : Page). slice_index page.bytes offset) (slice_get pages place)) 0

one_more : (page : Page) (pages : List Page) (o : Option ℕ) (offset : ℕ) → read_in (page ∷ pages) (option_map (λ place. place + 1) o) offset ≡ read_in pages o offset
one_more page pages None offset = refl
one_more page pages (Some place) offset = ap (λ k. unwrap_or (option_map (λ (page : Page). slice_index page.bytes offset) (slice_get (page ∷ pages) k)) 0) (next place)
  where
    next : (k : ℕ) → k + 1 ≡ suc k
    next k = omega arith

pub byte_in-bytes_of : (pages : List Page) (q : ℕ) → byte_in (bytes_of pages) q ≡ read_in pages (place_of (numbers_of pages) (q / 256)) (q % 256)
byte_in-bytes_of [] q = ap (λ o. unwrap_or o 0) (get-empty nat_cmp q)
byte_in-bytes_of (page ∷ pages) q = of (nat_eq page.number (q / 256)) refl (byte_in-bytes_of pages q)
  where
    of : (b : Bool) → nat_eq page.number (q / 256) ≡ b → byte_in (bytes_of pages) q ≡ read_in pages (place_of (numbers_of pages) (q / 256)) (q % 256) → byte_in (laid (256 * page.number) page.bytes (bytes_of pages)) q ≡ read_in (page ∷ pages) (if b then Some 0 else option_map (λ place. place + 1) (place_of (numbers_of pages) (q / 256))) (q % 256)
    of true e rest = front_inside page (bytes_of pages) q (grind (arith, nat_tests))
    of false e rest = front_outside page (bytes_of pages) q (grind (arith, nat_tests)) ∙ rest ∙ sym (one_more page pages (place_of (numbers_of pages) (q / 256)) (q % 256))

-- ---- places

slice_index-numbers_of : (pages : List Page) (k : ℕ) (page : Page) → k < length pages → page ≡ get_or pages k page → slice_index (numbers_of pages) k ≡ page.number
slice_index-numbers_of [] k page within at = absurd (omega arith)
slice_index-numbers_of (p ∷ pages) zero page within at = ap (λ (x : Page). x.number) (sym at)
slice_index-numbers_of (p ∷ pages) (suc k) page within at = slice_index-numbers_of pages k page (omega arith) at

-- a page stands where its number does
pub place_of-number : (pages : List Page) (place number : ℕ) (page : Page) → AreDistinct (numbers_of pages) → place < length pages → page ≡ get_or pages place page → page.number ≡ number → place_of (numbers_of pages) number ≡ Some place
place_of-number pages place number page distinct within at is =
    subst (λ (n : ℕ). place_of (numbers_of pages) n ≡ Some place) (slice_index-numbers_of pages place page within at ∙ is)
    (distinct place (omega (arith, length-map pages (λ (p : Page). p.number))))

-- a number stands within the numbers
pub place_of-within : (pages : List Page) (number place : ℕ) → place_of (numbers_of pages) number ≡ Some place → place < length pages
place_of-within pages number place at = subst (λ (n : ℕ). place < n) (length-map pages (λ (p : Page). p.number)) (of (numbers_of pages) place at)
  where
    some_same : (x y : ℕ) → Some x ≡ Some y → x ≡ y
    some_same x y e = cc

    mapped : (o : Option ℕ) (k count : ℕ) → ((j : ℕ) → o ≡ Some j → j < count) → option_map (λ (p : ℕ). p + 1) o ≡ Some k → k < suc count
    mapped None k count rest h = cc
    mapped (Some j) k count rest h = let e : j + 1 ≡ k = some_same (j + 1) k h in let b : j < count = rest j refl in omega arith

    chosen : (b : Bool) (o : Option ℕ) (k count : ℕ) → ((j : ℕ) → o ≡ Some j → j < count) → (if b then Some 0 else option_map (λ (p : ℕ). p + 1) o) ≡ Some k → k < suc count
    chosen true o k count rest h = let e : 0 ≡ k = some_same 0 k h in omega arith
    chosen false o k count rest h = mapped o k count rest h

    of : (ns : List ℕ) (k : ℕ) → place_of ns number ≡ Some k → k < length ns
    of [] k h = cc
    of (n ∷ ns) k h = chosen (nat_eq n number) (place_of ns number) k (length ns) (of ns) h

pub some_within : (pages : List Page) (number : ℕ) (o : Option ℕ) → o ≡ place_of (numbers_of pages) number → IfSome o (λ place. place < length pages)
some_within pages number None is = tt
some_within pages number (Some place) is = place_of-within pages number place (sym is)

-- a number that stands there is one of a page
pub number_fits : (pages : List Page) (number place : ℕ) → place_of (numbers_of pages) number ≡ Some place → number < 2 ^ 56
number_fits [] number place at = cc
number_fits (page ∷ pages) number place at = of (nat_eq page.number number) refl at (number_fits pages number)
  where
    mapped : (o : Option ℕ) → option_map (λ (p : ℕ). p + 1) o ≡ Some place → ((j : ℕ) → o ≡ Some j → number < 2 ^ 56) → number < 2 ^ 56
    mapped None h rest = cc
    mapped (Some j) h rest = rest j refl

    of : (b : Bool) → nat_eq page.number number ≡ b → (if b then Some 0 else option_map (λ (p : ℕ). p + 1) (place_of (numbers_of pages) number)) ≡ Some place → ((j : ℕ) → place_of (numbers_of pages) number ≡ Some j → number < 2 ^ 56) → number < 2 ^ 56
    of true e h rest = let is : page.number ≡ number = same page.number number e in let fits : page.number < 2 ^ 56 = page.number_fits in omega arith
      where
        same : (x y : ℕ) → nat_eq x y ≡ true → x ≡ y
        same x y q = grind (arith, nat_tests)
    of false e h rest = mapped (place_of (numbers_of pages) number) h rest
