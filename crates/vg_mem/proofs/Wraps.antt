-- Addresses that wrap, and accesses that lie in one page.
use Rattle.std.proofs.Common.{◌≡◌, ℕ, zero, suc, ◌+◌, ◌-◌, ◌*◌, ◌/◌, ◌%◌, ◌^◌, ◌<◌, ◌≤◌, Bool, true, false, IsTrue, nat_eq, nat_lt, arith, refl, sym, ap, ◌∙◌, subst}
use Rattle.std.specs.Ordering.{nat_cmp}
use Rattle.std.specs.FinMap.{FinMap}
use Rattle.std.specs.FinSet.{FinSet, contains, insert}
use Rattle.std.proofs.lemmas.Bool.Decides.{nat_tests}
use Rattle.std.proofs.lemmas.Nat.{pow-add, pow_pos, mod_below}
use Rattle.std.proofs.Math.Nat.{add-mod_right, mod-add-mod, mod-eq_of_lt}
use Rattle.vg_mem.specs.Bytes.{loaded, put, stored}
use Rattle.vg_mem.specs.Memory.{HasPagesOf, Memory, after_store, page_of, pages_after}
use Rattle.vg_mem.proofs.Growth.{insert-there}
use Rattle.vg_mem.proofs.Rooms.{inserted, insert_keeps}

-- ---- addresses that wrap

next_mod : (space a b : ℕ) → a % space ≡ b % space → (a + 1) % space ≡ (b + 1) % space
next_mod space a b same = sym (mod-add-mod a space 1) ∙ ap (λ n. (n + 1) % space) same ∙ mod-add-mod b space 1

stored_mod : (space a b bytes value : ℕ) (m : FinMap nat_cmp ℕ) → a % space ≡ b % space → stored space a bytes value m ≡ stored space b bytes value m
stored_mod space a b zero value m same = refl
stored_mod space a b (suc bytes) value m same =
    ap (λ at. put (stored space (a + 1) bytes (value / 256) m) at (value % 256)) same
    ∙ ap (λ rest. put rest (b % space) (value % 256)) (stored_mod space (a + 1) (b + 1) bytes (value / 256) m (next_mod space a b same))

loaded_mod : (byte : ℕ → ℕ) (space a b bytes : ℕ) → a % space ≡ b % space → loaded byte space a bytes ≡ loaded byte space b bytes
loaded_mod byte space a b zero same = refl
loaded_mod byte space a b (suc bytes) same = λ i. byte (same i) + 256 * loaded_mod byte space (a + 1) (b + 1) bytes (next_mod space a b same) i

twice_mod : (space at : ℕ) → 0 < space → (at % space) % space ≡ at % space
twice_mod space at some = mod-eq_of_lt {n = at % space} {m = space} (mod_below at space some)

-- a store at a wrapped address is one at the address
pub stored_wrapped : (space at first bytes value : ℕ) (m : FinMap nat_cmp ℕ) → 0 < space → first ≡ at % space → stored space first bytes value m ≡ stored space at bytes value m
stored_wrapped space at first bytes value m some is = stored_mod space first at bytes value m (ap (λ n. n % space) is ∙ twice_mod space at some)

-- a load from a wrapped address is one from the address
pub loaded_wrapped : (byte : ℕ → ℕ) (space at first bytes : ℕ) → 0 < space → first ≡ at % space → loaded byte space first bytes ≡ loaded byte space at bytes
loaded_wrapped byte space at first bytes some is = loaded_mod byte space first at bytes (ap (λ n. n % space) is ∙ twice_mod space at some)

-- an address that lies so far behind a wrapped one
further : (space at first k : ℕ) → first ≡ at % space → (at + k) % space ≡ (first + k) % space
further space at first k is = sym (mod-add-mod at space k) ∙ ap (λ n. (n + k) % space) (sym is)

-- pages from an address on are those from the wrapped one
pub has_wrapped : (pages : FinSet nat_cmp) (space at first bytes : ℕ) → first ≡ at % space → HasPagesOf pages space at bytes → HasPagesOf pages space first bytes
has_wrapped pages space at first bytes is has k below = subst (λ (n : ℕ). IsTrue (contains pages (page_of n))) (further space at first k is) (has k below)

pub after_wrapped : (pages : FinSet nat_cmp) (space at first bytes : ℕ) → 0 < space → first ≡ at % space → pages_after space first bytes pages ≡ pages_after space at bytes pages
after_wrapped pages space at first bytes some is =
    ap (λ n. insert (insert pages (page_of n)) (page_of ((first + (bytes - 1)) % space))) (ap (λ n. n % space) is ∙ twice_mod space at some)
    ∙ ap (λ n. insert (insert pages (page_of (at % space))) (page_of n)) (sym (further space at first (bytes - 1) is))

-- ---- spaces

-- the number of addresses is one of whole pages
pub whole_pages : (width : ℕ) → 8 ≤ width → 2 ^ width ≡ 256 * 2 ^ (width - 8)
whole_pages width least = of (width - 8) width (omega arith)
  where
    of : (k n : ℕ) → n ≡ 8 + k → 2 ^ n ≡ 256 * 2 ^ k
    of k n e = let P : ℕ → Type 0 = λ j. 2 ^ j ≡ 256 * 2 ^ k in subst P (sym e) (pow-add 2 8 k)

-- bytes that lie in one page end in the space
pub ends_within : (width first bytes : ℕ) → 8 ≤ width → first < 2 ^ width → first % 256 + bytes ≤ 256 → 256 * (first / 256) + first % 256 + bytes ≤ 2 ^ width
ends_within width first bytes least below inside = let whole = whole_pages width least in of (2 ^ width) (2 ^ (width - 8)) whole below
  where
    of : (space pages : ℕ) → space ≡ 256 * pages → first < space → 256 * (first / 256) + first % 256 + bytes ≤ space
    of space pages e low = omega arith

pub parts_of : (first : ℕ) → 256 * (first / 256) + first % 256 ≡ first
parts_of first = omega arith

pub wrapped_below : (width at first : ℕ) → first ≡ at % 2 ^ width → first < 2 ^ width
wrapped_below width at first is = subst (λ (n : ℕ). n < 2 ^ width) (sym is) (mod_below at (2 ^ width) (pow_pos width))

-- ---- the pages of an access

-- an access that lies in one page takes that page alone
pub one_page : (pages : FinSet nat_cmp) (width at first bytes : ℕ) → 8 ≤ width → first ≡ at % 2 ^ width → 0 < bytes → first % 256 + bytes ≤ 256 → insert pages (first / 256) ≡ pages_after (2 ^ width) at bytes pages
one_page pages width at first bytes least is some inside =
    let below : first < 2 ^ width = wrapped_below width at first is in
    let ends : 256 * (first / 256) + first % 256 + bytes ≤ 2 ^ width = ends_within width first bytes least below inside in
    let within : first + (bytes - 1) < 2 ^ width = omega arith in
    let last : page_of ((first + (bytes - 1)) % 2 ^ width) ≡ first / 256 = ap page_of (mod-eq_of_lt {n = first + (bytes - 1)} {m = 2 ^ width} within) ∙ near first bytes some inside in
    let here : page_of (first % 2 ^ width) ≡ first / 256 = ap page_of (mod-eq_of_lt {n = first} {m = 2 ^ width} below) in
    sym (insert-there (insert pages (first / 256)) (first / 256) (inserted pages (first / 256)))
    ∙ ap (λ n. insert (insert pages (first / 256)) n) (sym last)
    ∙ ap (λ n. insert (insert pages n) (page_of ((first + (bytes - 1)) % 2 ^ width))) (sym here)
    ∙ after_wrapped pages (2 ^ width) at first bytes (pow_pos width) is
  where
    near : (f n : ℕ) → 0 < n → f % 256 + n ≤ 256 → (f + (n - 1)) / 256 ≡ f / 256
    near f n h k = omega arith

-- the first page of an access
pub has_first : (pages : FinSet nat_cmp) (space first bytes : ℕ) → first < space → 0 < bytes → HasPagesOf pages space first bytes → IsTrue (contains pages (first / 256))
has_first pages space first bytes below some has =
    subst (λ (n : ℕ). IsTrue (contains pages (page_of n))) (ap (λ n. n % space) (plain first) ∙ mod-eq_of_lt {n = first} {m = space} below) (has 0 some)
  where
    plain : (n : ℕ) → n + 0 ≡ n
    plain n = omega arith

-- the last page of an access
pub has_last : (pages : FinSet nat_cmp) (space first bytes last : ℕ) → last ≡ (first + (bytes - 1)) % space → 0 < bytes → HasPagesOf pages space first bytes → IsTrue (contains pages (last / 256))
has_last pages space first bytes last is some has = subst (λ (n : ℕ). IsTrue (contains pages (page_of n))) (sym is) (has (bytes - 1) (omega arith))

-- a number below twice another
pub past : (space n : ℕ) → space ≤ n → n < 2 * space → n % space ≡ n - space
past space n low high =
    ap (λ k. k % space) (split n space low) ∙ add-mod_right (n - space) space ∙ mod-eq_of_lt {n = n - space} {m = space} (omega arith)
  where
    split : (a b : ℕ) → b ≤ a → a ≡ a - b + b
    split a b h = omega arith

-- the pages of an access are those of its first and its last byte
pub after_has : (pages : FinSet nat_cmp) (width first bytes : ℕ) → 8 ≤ width → first < 2 ^ width → bytes ≤ 16 → HasPagesOf (pages_after (2 ^ width) first bytes pages) (2 ^ width) first bytes
after_has pages width first bytes least below few k within =
    of (2 ^ width) (2 ^ (width - 8)) (whole_pages width least) below
  where
    first_page : (space n : ℕ) → page_of n ≡ page_of (first % space) → IsTrue (contains (pages_after space first bytes pages) (page_of n))
    first_page space n e = subst (λ (p : ℕ). IsTrue (contains (pages_after space first bytes pages) p)) (sym e)
        (insert_keeps (insert pages (page_of (first % space))) (page_of ((first + (bytes - 1)) % space)) (page_of (first % space)) (inserted pages (page_of (first % space))))

    last_page : (space n : ℕ) → page_of n ≡ page_of ((first + (bytes - 1)) % space) → IsTrue (contains (pages_after space first bytes pages) (page_of n))
    last_page space n e = subst (λ (p : ℕ). IsTrue (contains (pages_after space first bytes pages) p)) (sym e)
        (inserted (insert pages (page_of (first % space))) (page_of ((first + (bytes - 1)) % space)))

    small : (space : ℕ) → first < space → first % space ≡ first
    small space low = mod-eq_of_lt {n = first} {m = space} low

    of : (space count : ℕ) → space ≡ 256 * count → first < space → IsTrue (contains (pages_after space first bytes pages) (page_of ((first + k) % space)))
    of space count whole low = cases (nat_lt (first + k) space) (nat_lt (first + (bytes - 1)) space) (nat_eq ((first + k) / 256) (first / 256)) refl refl refl
      where
        cases : (a b c : Bool) → nat_lt (first + k) space ≡ a → nat_lt (first + (bytes - 1)) space ≡ b → nat_eq ((first + k) / 256) (first / 256) ≡ c → IsTrue (contains (pages_after space first bytes pages) (page_of ((first + k) % space)))
        cases true b true d e f =
            let in_space : first + k < space = grind (arith, nat_tests) in
            let same : (first + k) / 256 ≡ first / 256 = grind (arith, nat_tests) in
            first_page space ((first + k) % space) (ap page_of (mod-eq_of_lt {n = first + k} {m = space} in_space) ∙ same ∙ ap page_of (sym (small space low)))
        cases true true false d e f =
            let in_space : first + k < space = grind (arith, nat_tests) in
            let end_in_space : first + (bytes - 1) < space = grind (arith, nat_tests) in
            let same : (first + k) / 256 ≡ (first + (bytes - 1)) / 256 = grind (arith, nat_tests) in
            last_page space ((first + k) % space) (ap page_of (mod-eq_of_lt {n = first + k} {m = space} in_space) ∙ same ∙ ap page_of (sym (mod-eq_of_lt {n = first + (bytes - 1)} {m = space} end_in_space)))
        cases true false false d e f = absurd (grind (arith, nat_tests))
        cases false b c d e f =
            let beyond : space ≤ first + k = grind (arith, nat_tests) in
            let same : (first + k - space) / 256 ≡ (first + (bytes - 1) - space) / 256 = omega arith in
            last_page space ((first + k) % space) (ap page_of (past space (first + k) beyond (omega arith)) ∙ same ∙ ap page_of (sym (past space (first + (bytes - 1)) (omega arith) (omega arith))))

-- ---- memories

-- a memory with the bytes and the pages that a store makes is the one after it
pub stored_memory : (width at bytes value : ℕ) (old new : FinMap nat_cmp ℕ) (before after : FinSet nat_cmp) → new ≡ stored (2 ^ width) at bytes value old → after ≡ pages_after (2 ^ width) at bytes before → ◌≡◌ {A = Memory} (record { width = width; bytes = new; pages = after }) (after_store (record { width = width; bytes = old; pages = before }) at bytes value)
stored_memory width at bytes value old new before after stores takes = λ i. record { width = width; bytes = stores i; pages = takes i }

-- the pages of the first and of the last byte
pub taken_after : (pages : FinSet nat_cmp) (space first bytes last : ℕ) → first < space → last ≡ (first + (bytes - 1)) % space → insert (insert pages (first / 256)) (last / 256) ≡ pages_after space first bytes pages
taken_after pages space first bytes last below is =
    ap (λ n. insert (insert pages (page_of n)) (page_of last)) (sym (mod-eq_of_lt {n = first} {m = space} below))
    ∙ ap (λ n. insert (insert pages (page_of (first % space))) (page_of n)) is

-- the last byte that is stored, and before it the others
pub stored_step : (space at bytes value : ℕ) (m : FinMap nat_cmp ℕ) → 0 < bytes → put (stored space (at + 1) (bytes - 1) (value / 256) m) (at % space) (value % 256) ≡ stored space at bytes value m
stored_step space at zero value m some = absurd (omega arith)
stored_step space at (suc bytes) value m some = ap (λ n. put (stored space (at + 1) n (value / 256) m) (at % space) (value % 256)) (less bytes)
  where
    less : (n : ℕ) → suc n - 1 ≡ n
    less n = omega arith
