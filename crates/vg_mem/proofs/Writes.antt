-- Bytes that lie in one page are read and written there.
use Rattle.std.proofs.Common.{◌≡◌, ◌≢◌, ℕ, zero, suc, ◌+◌, ◌*◌, ◌/◌, ◌%◌, ◌<◌, ◌≤◌, Bool, true, false, nat_eq, List, [], ◌∷◌, length, get_or, Some, None, Option, unwrap_or, arith, refl, sym, ap, ◌∙◌, if◌then◌else◌}
use Rattle.std.specs.Option.{option_map}
use Rattle.std.specs.Prelude.{slice_get, slice_set, slice_index}
use Rattle.std.specs.FinMap.{FinMap}
use Rattle.std.specs.Ordering.{nat_cmp}
use Rattle.std.proofs.lemmas.Bool.Decides.{nat_tests}
use Rattle.std.proofs.lemmas.List.{get_or-set_same, get_or-set_other, length-set}
use Rattle.std.proofs.lemmas.Option.{slice_get-get_or}
use Rattle.std.proofs.Math.Seq.{map-set_same}
use Rattle.std.proofs.Math.Nat.{mod-eq_of_lt}
use Rattle.vg_mem.specs.declared.page.Page.{Page}
use Rattle.vg_mem.specs.Bytes.{byte_in, loaded, stored}
use Rattle.vg_mem.specs.Pages.{bytes_of, gathered, numbers_of, place_of, written}
use Rattle.vg_mem.proofs.Zeros.{KeepsNoZero, byte_in-put, put_keeps_no_zero, same_bytes}
use Rattle.vg_mem.proofs.PageLemmas.{byte_in-bytes_of, bytes_of_keeps_no_zero, read_in}

-- the bytes of the page with a number are these
abbrev pub HasPage : FinMap nat_cmp ℕ → ℕ → List ℕ → Type 0
HasPage m number xs = (offset : ℕ) → offset < 256 → byte_in m (256 * number + offset) ≡ slice_index xs offset

-- ---- reading

pub loaded_in_page : (m : FinMap nat_cmp ℕ) (number : ℕ) (xs : List ℕ) (space offset bytes : ℕ) → HasPage m number xs → offset + bytes ≤ 256 → 256 * number + offset + bytes ≤ space → loaded (byte_in m) space (256 * number + offset) bytes ≡ gathered xs offset bytes
loaded_in_page m number xs space offset zero page inside within = refl
loaded_in_page m number xs space offset (suc bytes) page inside within = both (first (omega arith) ∙ page offset (omega arith)) (ap (λ at. loaded (byte_in m) space at bytes) (next number offset) ∙ loaded_in_page m number xs space (offset + 1) bytes page (omega arith) (omega arith))
  where
    next : (n k : ℕ) → 256 * n + k + 1 ≡ 256 * n + (k + 1)
    next n k = omega arith

    first : 256 * number + offset < space → byte_in m ((256 * number + offset) % space) ≡ byte_in m (256 * number + offset)
    first below = ap (byte_in m) (mod-eq_of_lt {n = 256 * number + offset} {m = space} below)

    both : {a b x y : ℕ} → a ≡ b → x ≡ y → a + 256 * x ≡ b + 256 * y
    both p q = λ i. p i + 256 * q i

-- where a page isn't there, its bytes are 0
pub gathered_none : (offset bytes : ℕ) → gathered [] offset bytes ≡ 0
gathered_none offset zero = refl
gathered_none offset (suc bytes) = ap (λ n. 0 + 256 * n) (gathered_none (offset + 1) bytes)

-- ---- writing

pub stored_keeps_no_zero : (space at bytes value : ℕ) (m : FinMap nat_cmp ℕ) → KeepsNoZero m → KeepsNoZero (stored space at bytes value m)
stored_keeps_no_zero space at zero value m kept = kept
stored_keeps_no_zero space at (suc bytes) value m kept =
    put_keeps_no_zero (stored space (at + 1) bytes (value / 256) m) (at % space) (value % 256) (stored_keeps_no_zero space (at + 1) bytes (value / 256) m kept)

pub length-written : (xs : List ℕ) (offset bytes value : ℕ) → length (written xs offset bytes value) ≡ length xs
length-written xs offset zero value = refl
length-written xs offset (suc bytes) value = length-set (written xs (offset + 1) bytes (value / 256)) offset (value % 256) ∙ length-written xs (offset + 1) bytes (value / 256)

slice_index-slice_set : (xs : List ℕ) (k j byte : ℕ) → k < length xs → slice_index (slice_set xs k byte) j ≡ (if nat_eq j k then byte else slice_index xs j)
slice_index-slice_set xs k j byte within = of (nat_eq j k) refl
  where
    of : (b : Bool) → nat_eq j k ≡ b → slice_index (slice_set xs k byte) j ≡ (if b then byte else slice_index xs j)
    of true e = ap (slice_index (slice_set xs k byte)) (same j k e) ∙ get_or-set_same xs k byte 0 within
      where
        same : (x y : ℕ) → nat_eq x y ≡ true → x ≡ y
        same x y h = grind (arith, nat_tests)
    of false e = get_or-set_other xs k j byte 0 (apart j k e)
      where
        apart : (x y : ℕ) → nat_eq x y ≡ false → x ≢ y
        apart x y h = grind (arith, nat_tests)

-- what is read after a store that lies in a page
pub stored_in_page : (m : FinMap nat_cmp ℕ) (number : ℕ) (xs : List ℕ) (space offset bytes value : ℕ) → length xs ≡ 256 → HasPage m number xs → offset + bytes ≤ 256 → 256 * number + offset + bytes ≤ space
    → (q : ℕ) → byte_in (stored space (256 * number + offset) bytes value m) q ≡ (if nat_eq (q / 256) number then slice_index (written xs offset bytes value) (q % 256) else byte_in m q)
stored_in_page m number xs space offset zero value whole page inside within q = of (nat_eq (q / 256) number) refl
  where
    of : (b : Bool) → nat_eq (q / 256) number ≡ b → byte_in m q ≡ (if b then slice_index xs (q % 256) else byte_in m q)
    of true e = ap (byte_in m) (at q number e) ∙ page (q % 256) (omega arith)
      where
        at : (x n : ℕ) → nat_eq (x / 256) n ≡ true → x ≡ 256 * n + x % 256
        at x n h = let same : x / 256 ≡ n = grind (arith, nat_tests) in omega arith
    of false e = refl
stored_in_page m number xs space offset (suc bytes) value whole page inside within q =
    let rest : byte_in (stored space (256 * number + offset + 1) bytes (value / 256) m) q ≡ (if nat_eq (q / 256) number then slice_index (written xs (offset + 1) bytes (value / 256)) (q % 256) else byte_in m q) =
    ap (λ at. byte_in (stored space at bytes (value / 256) m) q) (next number offset) ∙ stored_in_page m number xs space (offset + 1) bytes (value / 256) whole page (omega arith) (omega arith) q in
    byte_in-put (stored space (256 * number + offset + 1) bytes (value / 256) m) ((256 * number + offset) % space) (value % 256) q
    ∙ ap (λ k. if nat_eq q k then value % 256 else byte_in (stored space (256 * number + offset + 1) bytes (value / 256) m) q) (mod-eq_of_lt {n = 256 * number + offset} {m = space} (omega arith))
    ∙ ap (λ n. if nat_eq q (256 * number + offset) then value % 256 else n) rest
    ∙ chosen (written xs (offset + 1) bytes (value / 256)) (omega (arith, length-written xs (offset + 1) bytes (value / 256)))
  where
    next : (n k : ℕ) → 256 * n + k + 1 ≡ 256 * n + (k + 1)
    next n k = omega arith

    chosen : (ys : List ℕ) → offset < length ys → (if nat_eq q (256 * number + offset) then value % 256 else (if nat_eq (q / 256) number then slice_index ys (q % 256) else byte_in m q))
        ≡ (if nat_eq (q / 256) number then slice_index (slice_set ys offset (value % 256)) (q % 256) else byte_in m q)
    chosen ys long = of (nat_eq (q / 256) number) (nat_eq q (256 * number + offset)) (nat_eq (q % 256) offset) refl refl refl
      where
        at : slice_index (slice_set ys offset (value % 256)) (q % 256) ≡ (if nat_eq (q % 256) offset then value % 256 else slice_index ys (q % 256))
        at = slice_index-slice_set ys offset (q % 256) (value % 256) long

        of : (a b c : Bool) → nat_eq (q / 256) number ≡ a → nat_eq q (256 * number + offset) ≡ b → nat_eq (q % 256) offset ≡ c
            → (if b then value % 256 else (if a then slice_index ys (q % 256) else byte_in m q)) ≡ (if a then slice_index (slice_set ys offset (value % 256)) (q % 256) else byte_in m q)
        of true true true d e f = sym (at ∙ ap (λ x. if x then value % 256 else slice_index ys (q % 256)) f)
        of true false false d e f = sym (at ∙ ap (λ x. if x then value % 256 else slice_index ys (q % 256)) f)
        of true true false d e f = absurd (grind (arith, nat_tests))
        of true false true d e f = absurd (grind (arith, nat_tests))
        of false true c d e f = absurd (grind (arith, nat_tests))
        of false false c d e f = refl

-- ---- pages

-- the page at a place has these bytes
pub page_there : (pages : List Page) (place number : ℕ) (page : Page) → place_of (numbers_of pages) number ≡ Some place → place < length pages → page ≡ get_or pages place page → HasPage (bytes_of pages) number page.bytes
page_there pages place number page there within at offset inside =
    byte_in-bytes_of pages (256 * number + offset)
    ∙ ap (λ n. read_in pages (place_of (numbers_of pages) n) ((256 * number + offset) % 256)) (over number offset inside)
    ∙ ap (λ o. read_in pages o ((256 * number + offset) % 256)) there
    ∙ ap (λ k. read_in pages (Some place) k) (under number offset inside)
    ∙ ap (λ (o : Option Page). unwrap_or (option_map (λ (p : Page). slice_index p.bytes offset) o) 0) (slice_get-get_or pages place page within)
    ∙ ap (λ (p : Page). slice_index p.bytes offset) (sym at)
  where
    over : (n k : ℕ) → k < 256 → (256 * n + k) / 256 ≡ n
    over n k h = omega arith

    under : (n k : ℕ) → k < 256 → (256 * n + k) % 256 ≡ k
    under n k h = omega arith

-- no page with a number: its bytes are 0
pub page_missing : (pages : List Page) (number : ℕ) → place_of (numbers_of pages) number ≡ None → HasPage (bytes_of pages) number []
page_missing pages number none offset inside =
    byte_in-bytes_of pages (256 * number + offset)
    ∙ ap (λ n. read_in pages (place_of (numbers_of pages) n) ((256 * number + offset) % 256)) (over number offset inside)
    ∙ ap (λ o. read_in pages o ((256 * number + offset) % 256)) none
  where
    over : (n k : ℕ) → k < 256 → (256 * n + k) / 256 ≡ n
    over n k h = omega arith

-- the numbers stay where a page with the same number takes a place
pub numbers_of-slice_set : (pages : List Page) (place : ℕ) (page after : Page) → page ≡ get_or pages place page → after.number ≡ page.number → numbers_of (slice_set pages place after) ≡ numbers_of pages
numbers_of-slice_set pages place page after at same = map-set_same (λ (p : Page). p.number) pages place after page (same ∙ ap (λ (p : Page). p.number) at)

some_same : (x y : ℕ) → Some x ≡ Some y → x ≡ y
some_same x y e = cc

slice_get-slice_set_same : (ps : List Page) (k : ℕ) (p : Page) → k < length ps → slice_get (slice_set ps k p) k ≡ Some p
slice_get-slice_set_same [] k p h = absurd (omega arith)
slice_get-slice_set_same (x ∷ ps) zero p h = refl
slice_get-slice_set_same (x ∷ ps) (suc k) p h = slice_get-slice_set_same ps k p (omega arith)

slice_get-slice_set_other : (ps : List Page) (k j : ℕ) (p : Page) → j ≢ k → slice_get (slice_set ps k p) j ≡ slice_get ps j
slice_get-slice_set_other [] k j p h = refl
slice_get-slice_set_other (x ∷ ps) zero zero p h = absurd (h refl)
slice_get-slice_set_other (x ∷ ps) zero (suc j) p h = refl
slice_get-slice_set_other (x ∷ ps) (suc k) zero p h = refl
slice_get-slice_set_other (x ∷ ps) (suc k) (suc j) p h = slice_get-slice_set_other ps k j p (λ e. h (ap suc e))

-- what is read after a page took a place
read_after : (pages : List Page) (place number : ℕ) (page after : Page) → place_of (numbers_of pages) number ≡ Some place → place < length pages → numbers_of (slice_set pages place after) ≡ numbers_of pages → ((n : ℕ) → place_of (numbers_of pages) n ≡ Some place → n ≡ number)
    → (q : ℕ) → byte_in (bytes_of (slice_set pages place after)) q ≡ (if nat_eq (q / 256) number then slice_index after.bytes (q % 256) else byte_in (bytes_of pages) q)
read_after pages place number page after there within numbers one q =
    byte_in-bytes_of (slice_set pages place after) q
    ∙ ap (λ ns. read_in (slice_set pages place after) (place_of ns (q / 256)) (q % 256)) numbers
    ∙ of (nat_eq (q / 256) number) refl
  where
    other : (o : Option ℕ) → o ≢ Some place → read_in (slice_set pages place after) o (q % 256) ≡ read_in pages o (q % 256)
    other None apart = refl
    other (Some k) apart = ap (λ (o : Option Page). unwrap_or (option_map (λ (p : Page). slice_index p.bytes (q % 256)) o) 0) (slice_get-slice_set_other pages place k after (λ e. apart (ap (λ (x : ℕ). Some x) e)))

    of : (b : Bool) → nat_eq (q / 256) number ≡ b → read_in (slice_set pages place after) (place_of (numbers_of pages) (q / 256)) (q % 256) ≡ (if b then slice_index after.bytes (q % 256) else byte_in (bytes_of pages) q)
    of true e =
        ap (λ n. read_in (slice_set pages place after) (place_of (numbers_of pages) n) (q % 256)) (same (q / 256) number e)
        ∙ ap (λ o. read_in (slice_set pages place after) o (q % 256)) there
        ∙ ap (λ (o : Option Page). unwrap_or (option_map (λ (p : Page). slice_index p.bytes (q % 256)) o) 0) (slice_get-slice_set_same pages place after within)
      where
        same : (x y : ℕ) → nat_eq x y ≡ true → x ≡ y
        same x y h = grind (arith, nat_tests)
    of false e = other (place_of (numbers_of pages) (q / 256)) (λ h. apart (q / 256) number e (one (q / 256) h)) ∙ sym (byte_in-bytes_of pages q)
      where
        apart : (x y : ℕ) → nat_eq x y ≡ false → x ≢ y
        apart x y h = grind (arith, nat_tests)

-- two numbers that stand at one place are one
pub one_number : (numbers : List ℕ) (m n place : ℕ) → place_of numbers m ≡ Some place → place_of numbers n ≡ Some place → m ≡ n
one_number numbers m n place a b = sym (number_at numbers m place a) ∙ number_at numbers n place b
  where
    next : (x : ℕ) (ns : List ℕ) (p : ℕ) → slice_index (x ∷ ns) (p + 1) ≡ slice_index ns p
    next x ns p = ap (slice_index (x ∷ ns)) (more p)
      where
        more : (k : ℕ) → k + 1 ≡ suc k
        more k = omega arith

    number_at : (ns : List ℕ) (k place : ℕ) → place_of ns k ≡ Some place → slice_index ns place ≡ k
    number_at [] k place e = cc
    number_at (x ∷ ns) k place e = of (nat_eq x k) refl e (number_at ns k)
      where
        mapped : (o : Option ℕ) → place_of ns k ≡ o → option_map (λ (p : ℕ). p + 1) o ≡ Some place → ((p : ℕ) → place_of ns k ≡ Some p → slice_index ns p ≡ k) → slice_index (x ∷ ns) place ≡ k
        mapped None is h rest = cc
        mapped (Some p) is h rest = ap (slice_index (x ∷ ns)) (sym (some_same (p + 1) place h)) ∙ next x ns p ∙ rest p is

        of : (b : Bool) → nat_eq x k ≡ b → (if b then Some 0 else option_map (λ (p : ℕ). p + 1) (place_of ns k)) ≡ Some place → ((p : ℕ) → place_of ns k ≡ Some p → slice_index ns p ≡ k) → slice_index (x ∷ ns) place ≡ k
        of true t h rest = ap (slice_index (x ∷ ns)) (sym (some_same 0 place h)) ∙ same x k t
          where
            same : (a b : ℕ) → nat_eq a b ≡ true → a ≡ b
            same a b q = grind (arith, nat_tests)
        of false t h rest = mapped (place_of ns k) refl h rest

-- a write to the page at a place is a store
pub bytes_of-written : (pages : List Page) (place number space offset bytes value : ℕ) (page after : Page) → place_of (numbers_of pages) number ≡ Some place → place < length pages → page ≡ get_or pages place page → after.number ≡ page.number → after.bytes ≡ written page.bytes offset bytes value
    → offset + bytes ≤ 256 → 256 * number + offset + bytes ≤ space → bytes_of (slice_set pages place after) ≡ stored space (256 * number + offset) bytes value (bytes_of pages)
bytes_of-written pages place number space offset bytes value page after there within at same changed inside room =
    same_bytes (bytes_of (slice_set pages place after)) (stored space (256 * number + offset) bytes value (bytes_of pages)) (bytes_of_keeps_no_zero (slice_set pages place after)) (stored_keeps_no_zero space (256 * number + offset) bytes value (bytes_of pages) (bytes_of_keeps_no_zero pages))
    (λ q. read_after pages place number page after there within (numbers_of-slice_set pages place page after at same) (λ n h. one_number (numbers_of pages) n number place h there) q
    ∙ ap (λ xs. if nat_eq (q / 256) number then slice_index xs (q % 256) else byte_in (bytes_of pages) q) changed
    ∙ sym (stored_in_page (bytes_of pages) number page.bytes space offset bytes value page.whole (page_there pages place number page there within at) inside room q))
