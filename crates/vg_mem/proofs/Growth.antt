-- What a page of zeros behind the others changes: it stands at its place, and all else stays.
use Rattle.std.proofs.Common.{◌≡◌, ◌≢◌, ℕ, zero, suc, ◌+◌, ◌*◌, ◌<◌, Bool, true, false, cond, IsTrue, nat_eq, nat_lt, List, [], ◌∷◌, ◌++◌, ◌||◌, length, replicate, Some, None, Option, unwrap_or, arith, refl, sym, ap, ◌∙◌, if◌then◌else◌}
use Rattle.std.specs.Option.{option_map}
use Rattle.std.specs.Prelude.{slice_index, is_some}
use Rattle.std.specs.List.{list_any}
use Rattle.std.specs.Ordering.{nat_cmp, eq_by_cmp}
use Rattle.std.specs.Map.{lookup}
use Rattle.std.specs.BTreeMap.{BTreeMap, Updates, is_at}
use Rattle.std.specs.Cmp.{nat_cmp_total}
use Rattle.std.specs.FinMap.{FinMap, empty, get-empty, nat_cmp-IsAntisymmetric}
use Rattle.std.specs.FinSet.{FinSet, from_list, contains, insert, contains-from_list_nat, contains-insert, from_list_push, same_set}
use Rattle.std.proofs.lemmas.Bool.Decides.{nat_tests}
use Rattle.vg_mem.specs.declared.page.Page.{Page}
use Rattle.vg_mem.specs.Bytes.{byte_in, laid}
use Rattle.vg_mem.specs.Pages.{AreDistinct, IsIndexed, bytes_of, numbers_of, pages_of, place_of}
use Rattle.vg_mem.proofs.Zeros.{byte_in-put, empty_keeps_no_zero, laid_keeps_no_zero, same_bytes}

-- ---- numbers

some_none : {A : Type 0} (x : A) → Some x ≡ None → ⊥
some_none x e = cc

mapped_none : (o : Option ℕ) → option_map (λ (place : ℕ). place + 1) o ≡ None → o ≡ None
mapped_none None e = refl
mapped_none (Some x) e = absurd (some_none (x + 1) e)

-- a number that isn't among others is none of them
record IsAbsent (m n : ℕ) (numbers : List ℕ) : Type 0 where
  head : m ≢ n
  rest : place_of numbers n ≡ None

absent : (m n : ℕ) (numbers : List ℕ) → place_of (m ∷ numbers) n ≡ None → IsAbsent m n numbers
absent m n numbers none = of (nat_eq m n) refl none
  where
    of : (b : Bool) → nat_eq m n ≡ b → (if b then Some 0 else option_map (λ (place : ℕ). place + 1) (place_of numbers n)) ≡ None → IsAbsent m n numbers
    of true e h = absurd (some_none 0 h)
    of false e h = record { head = grind (arith, nat_tests); rest = mapped_none (place_of numbers n) h }

-- where numbers stand after one more
pub place_of-push : (numbers : List ℕ) (n q : ℕ) → place_of numbers n ≡ None → place_of (numbers ++ n ∷ []) q ≡ (if nat_eq q n then Some (length numbers) else place_of numbers q)
place_of-push [] n q none = of (nat_eq n q) (nat_eq q n) refl refl
  where
    first : Bool → Option ℕ
    first b = if b then Some 0 else None

    of : (a b : Bool) → nat_eq n q ≡ a → nat_eq q n ≡ b → first a ≡ first b
    of true true e f = refl
    of false false e f = refl
    of true false e f = absurd (grind (arith, nat_tests))
    of false true e f = absurd (grind (arith, nat_tests))
place_of-push (m ∷ numbers) n q none =
    let parts = absent m n numbers none in
    of (nat_eq m q) (nat_eq q n) refl refl parts.head (place_of-push numbers n q parts.rest)
  where
    next : (k : ℕ) → Some (k + 1) ≡ Some (suc k)
    next k = ap (λ (x : ℕ). Some x) (omega arith)

    of : (a b : Bool) → nat_eq m q ≡ a → nat_eq q n ≡ b → m ≢ n → place_of (numbers ++ n ∷ []) q ≡ (if nat_eq q n then Some (length numbers) else place_of numbers q)
        → (if a then Some 0 else option_map (λ place. place + 1) (place_of (numbers ++ n ∷ []) q)) ≡ (if b then Some (suc (length numbers)) else (if a then Some 0 else option_map (λ place. place + 1) (place_of numbers q)))
    of true true e f apart rest = absurd (grind (arith, nat_tests))
    of true false e f apart rest = refl
    of false true e f apart rest = ap (option_map (λ place. place + 1)) (rest ∙ ap (λ b. if b then Some (length numbers) else place_of numbers q) f) ∙ next (length numbers)
    of false false e f apart rest = ap (option_map (λ place. place + 1)) (rest ∙ ap (λ b. if b then Some (length numbers) else place_of numbers q) f)

-- the map tells where numbers stand after one more
pub indexed_push : (numbers : List ℕ) (n place : ℕ) (old new : BTreeMap ℕ ℕ) → IsIndexed numbers old → place_of numbers n ≡ None → place ≡ length numbers → Updates nat_cmp old new n (Some place) → IsIndexed (numbers ++ n ∷ []) new
indexed_push numbers n place old new indexed none here updates q =
    updates.0 q
    ∙ ap (λ o. cond (is_at (nat_cmp n) q) (Some place) o) (indexed q)
    ∙ ap (λ b. cond b (Some place) (place_of numbers q)) (tested n q)
    ∙ ap (λ k. if nat_eq q n then Some k else place_of numbers q) here
    ∙ sym (place_of-push numbers n q none)
  where
    tested : (n q : ℕ) → is_at (nat_cmp n) q ≡ nat_eq q n
    tested n q = grind (arith, nat_tests)

slice_index-push : (numbers : List ℕ) (n k : ℕ) → k < length numbers → slice_index (numbers ++ n ∷ []) k ≡ slice_index numbers k
slice_index-push [] n k within = absurd (omega arith)
slice_index-push (m ∷ numbers) n zero within = refl
slice_index-push (m ∷ numbers) n (suc k) within = slice_index-push numbers n k (omega arith)

slice_index-pushed : (numbers : List ℕ) (n : ℕ) → slice_index (numbers ++ n ∷ []) (length numbers) ≡ n
slice_index-pushed [] n = refl
slice_index-pushed (m ∷ numbers) n = slice_index-pushed numbers n

length-pushed : (numbers : List ℕ) (n : ℕ) → length (numbers ++ n ∷ []) ≡ length numbers + 1
length-pushed [] n = refl
length-pushed (m ∷ numbers) n = omega (arith, length-pushed numbers n)

-- no number stands twice after one more
pub distinct_push : (numbers : List ℕ) (n : ℕ) → AreDistinct numbers → place_of numbers n ≡ None → AreDistinct (numbers ++ n ∷ [])
distinct_push numbers n distinct none place within = of (nat_lt place (length numbers)) refl
  where
    apart : (q k : ℕ) → place_of numbers q ≡ Some k → nat_eq q n ≡ false
    apart q k is = of (nat_eq q n) refl
      where
        of : (b : Bool) → nat_eq q n ≡ b → nat_eq q n ≡ false
        of false e = e
        of true e = absurd (some_none k (sym is ∙ ap (place_of numbers) (same q n e) ∙ none))
          where
            same : (x y : ℕ) → nat_eq x y ≡ true → x ≡ y
            same x y h = grind (arith, nat_tests)

    of : (b : Bool) → nat_lt place (length numbers) ≡ b → place_of (numbers ++ n ∷ []) (slice_index (numbers ++ n ∷ []) place) ≡ Some place
    of true e =
        let below : place < length numbers = grind (arith, nat_tests) in
        let here : place_of numbers (slice_index numbers place) ≡ Some place = distinct place below in
        ap (place_of (numbers ++ n ∷ [])) (slice_index-push numbers n place below)
        ∙ place_of-push numbers n (slice_index numbers place) none
        ∙ ap (λ b. if b then Some (length numbers) else place_of numbers (slice_index numbers place)) (apart (slice_index numbers place) place here)
        ∙ here
    of false e =
        let last : place ≡ length numbers = grind (arith, nat_tests, length-pushed numbers n) in
        ap (λ k. place_of (numbers ++ n ∷ []) (slice_index (numbers ++ n ∷ []) k)) last
        ∙ ap (place_of (numbers ++ n ∷ [])) (slice_index-pushed numbers n)
        ∙ place_of-push numbers n n none
        ∙ ap (λ b. if b then Some (length numbers) else place_of numbers n) (itself n)
        ∙ ap (λ (x : ℕ). Some x) (sym last)
      where
        itself : (x : ℕ) → nat_eq x x ≡ true
        itself x = grind (arith, nat_tests)

-- ---- pages

pub numbers_of-push : (pages : List Page) (page : Page) → numbers_of (pages ++ page ∷ []) ≡ numbers_of pages ++ page.number ∷ []
numbers_of-push [] page = refl
numbers_of-push (p ∷ pages) page = ap (λ ns. p.number ∷ ns) (numbers_of-push pages page)

laid_zeros : (at count : ℕ) (m : FinMap nat_cmp ℕ) (q : ℕ) → byte_in m q ≡ 0 → byte_in (laid at (replicate count 0) m) q ≡ 0
laid_zeros at zero m q none = none
laid_zeros at (suc count) m q none = byte_in-put (laid (at + 1) (replicate count 0) m) at 0 q ∙ of (nat_eq q at) (laid_zeros (at + 1) count m q none)
  where
    of : (b : Bool) → byte_in (laid (at + 1) (replicate count 0) m) q ≡ 0 → (if b then 0 else byte_in (laid (at + 1) (replicate count 0) m) q) ≡ 0
    of true h = refl
    of false h = h

empty_read : (q : ℕ) → byte_in empty q ≡ 0
empty_read q = ap (λ o. unwrap_or o 0) (get-empty nat_cmp q)

-- a page of zeros has no bytes that aren't 0
pub bytes_of-push : (pages : List Page) (page : Page) → page.bytes ≡ replicate 256 0 → bytes_of (pages ++ page ∷ []) ≡ bytes_of pages
bytes_of-push [] page zeros =
    same_bytes (laid (256 * page.number) page.bytes empty) empty (laid_keeps_no_zero (256 * page.number) page.bytes empty empty_keeps_no_zero) empty_keeps_no_zero
    (λ q. ap (λ xs. byte_in (laid (256 * page.number) xs empty) q) zeros ∙ laid_zeros (256 * page.number) 256 empty q (empty_read q) ∙ sym (empty_read q))
bytes_of-push (p ∷ pages) page zeros = ap (laid (256 * p.number) p.bytes) (bytes_of-push pages page zeros)

-- ---- the set of the numbers

-- a number is in the set exactly where it stands
pub contains-place_of : (numbers : List ℕ) (n : ℕ) → contains (from_list {R = nat_cmp} numbers) n ≡ is_some (place_of numbers n)
contains-place_of numbers n = contains-from_list_nat numbers n ∙ of numbers
  where
    mapped : (o : Option ℕ) → is_some (option_map (λ (place : ℕ). place + 1) o) ≡ is_some o
    mapped None = refl
    mapped (Some k) = refl

    one : (b : Bool) (o : Option ℕ) (c : Bool) → c ≡ is_some o → (b || c) ≡ is_some (if b then Some 0 else option_map (λ (place : ℕ). place + 1) o)
    one true o c e = refl
    one false o c e = e ∙ sym (mapped o)

    of : (ns : List ℕ) → list_any (λ y. nat_eq y n) ns ≡ is_some (place_of ns n)
    of [] = refl
    of (m ∷ ns) = one (nat_eq m n) (place_of ns n) (list_any (λ y. nat_eq y n) ns) (of ns)

-- a number that is there already
pub insert-there : (pages : FinSet nat_cmp) (n : ℕ) → contains pages n ≡ true → insert pages n ≡ pages
insert-there pages n there = same_set nat_cmp_total nat_cmp-IsAntisymmetric (insert pages n) pages (λ q. contains-insert nat_cmp_total pages n q ∙ of q (nat_eq q n) refl)
  where
    test : (q : ℕ) → eq_by_cmp nat_cmp q n ≡ nat_eq q n
    test q = grind (arith, nat_tests)

    same : (x y : ℕ) → nat_eq x y ≡ true → x ≡ y
    same x y h = grind (arith, nat_tests)

    of : (q : ℕ) (b : Bool) → nat_eq q n ≡ b → (eq_by_cmp nat_cmp q n || contains pages q) ≡ contains pages q
    of q true e = ap (λ x. eq_by_cmp nat_cmp x n || contains pages x) (same q n e) ∙ ap (λ b. eq_by_cmp nat_cmp n n || b) there ∙ orred (eq_by_cmp nat_cmp n n) ∙ sym there ∙ ap (contains pages) (sym (same q n e))
      where
        orred : (b : Bool) → (b || true) ≡ true
        orred true = refl
        orred false = refl
    of q false e = ap (λ b. b || contains pages q) (test q ∙ e)

-- the set after one more page
pub pages_of-push : (pages : List Page) (page : Page) → pages_of (pages ++ page ∷ []) ≡ insert (pages_of pages) page.number
pages_of-push pages page = ap (from_list {R = nat_cmp}) (numbers_of-push pages page) ∙ from_list_push nat_cmp_total nat_cmp-IsAntisymmetric (numbers_of pages) page.number

-- a map with the same entries tells the same
pub same_entries : (numbers : List ℕ) (old new : BTreeMap ℕ ℕ) → new.entries ≡ old.entries → IsIndexed numbers old → IsIndexed numbers new
same_entries numbers old new same indexed q = ap (lookup (is_at (nat_cmp q))) same ∙ indexed q

-- a number that is in the set stands somewhere
pub not_missing : (numbers : List ℕ) (n : ℕ) → place_of numbers n ≡ None → IsTrue (contains (from_list {R = nat_cmp} numbers) n) → ⊥
not_missing numbers n none there = neither (sym (contains-place_of numbers n ∙ ap (λ (o : Option ℕ). is_some o) none) ∙ there)
  where
    neither : false ≡ true → ⊥
    neither e = cc
