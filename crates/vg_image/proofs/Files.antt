-- The numbers of registers, as declared.
use Rattle.std.proofs.Common.{◌≡◌, ℕ, zero, suc, ◌<◌, ◌^◌, Bool, true, false, List, [], ◌∷◌, length, map, replicate, IsTrue, nat_eq, slice_get, slice_index, slice_set, Some, None, Option, arith, refl, sym, subst, ap, ◌∙◌, get_or}
use Rattle.std.specs.Option.{option_map_or}
use Rattle.std.specs.List.{list_all}
use Rattle.std.proofs.lemmas.Bool.Decides.{nat_tests}
use Rattle.std.proofs.lemmas.Option.{slice_get_read, slice_get-get_or}
use Rattle.vg_isa.specs.declared.declaration.RegDecl.{RegDecl}
use Rattle.vg_isa.specs.Declaration.{register_count, has_register}
use Rattle.vg_isa.proofs.Tests.{both, list_all-slice_get, nat_eq-true, nat_lt-true, true-nat_eq, true-nat_lt}
use Rattle.vg_isa.proofs.Registers.{declared_at, register_below, register_within}
use Rattle.vg_isa.specs.Typing.{fits}
use Rattle.vg_image.specs.State.{is_file_of, are_files}
pub use Rattle.std.proofs.lemmas.Bool.{and_from as conjunction}

-- each declaration has its numbers
pub length-files : (regs : List RegDecl) (files : List (List ℕ)) → IsTrue (are_files regs files) → length files ≡ length regs
length-files [] [] h = refl
length-files [] (ns ∷ files) h = cc
length-files (decl ∷ regs) [] h = cc
length-files (decl ∷ regs) (ns ∷ files) h = omega (arith, length-files regs files (both _ _ h).1)

-- the numbers of a declaration fit it
pub file_fits : (regs : List RegDecl) (files : List (List ℕ)) (r : ℕ) (decl : RegDecl) (numbers : List ℕ) → IsTrue (are_files regs files) → slice_get regs r ≡ Some decl → slice_get files r ≡ Some numbers → IsTrue (is_file_of decl numbers)
file_fits [] files r decl numbers h at here = cc
file_fits (d ∷ regs) [] r decl numbers h at here = cc
file_fits (d ∷ regs) (ns ∷ files) zero decl numbers h at here =
    let same_decl : d ≡ decl = cc in
    let same : ns ≡ numbers = cc in
    subst (λ x. IsTrue (is_file_of x numbers)) same_decl (subst (λ x. IsTrue (is_file_of d x)) same (both _ _ h).0)
file_fits (d ∷ regs) (ns ∷ files) (suc r) decl numbers h at here = file_fits regs files r decl numbers (both _ _ h).1 at here

-- as many numbers as registers
pub length-file : (decl : RegDecl) (numbers : List ℕ) → IsTrue (is_file_of decl numbers) → length numbers ≡ register_count decl
length-file decl numbers h = true-nat_eq _ _ (both _ _ (both _ _ h).0).0

-- each number is below 2 to the width of its register
pub number_below : (decl : RegDecl) (numbers : List ℕ) (i n : ℕ) → IsTrue (is_file_of decl numbers) → slice_get numbers i ≡ Some n → n < 2 ^ decl.width
number_below decl numbers i n h at = true-nat_lt _ _ (list_all-slice_get (fits decl.width) numbers i n (both _ _ (both _ _ h).0).1 at)

length-set : (numbers : List ℕ) (i n : ℕ) → length (slice_set numbers i n) ≡ length numbers
length-set [] i n = refl
length-set (m ∷ numbers) zero n = omega arith
length-set (m ∷ numbers) (suc i) n = omega (arith, length-set numbers i n)

list_all-set : (p : ℕ → Bool) (numbers : List ℕ) (i n : ℕ) → list_all p numbers ≡ true → p n ≡ true → list_all p (slice_set numbers i n) ≡ true
list_all-set p [] i n h k = h
list_all-set p (m ∷ numbers) zero n h k = conjunction _ _ k (both _ _ h).1
list_all-set p (m ∷ numbers) (suc i) n h k = conjunction _ _ (both _ _ h).0 (list_all-set p numbers i n (both _ _ h).1 k)

-- a number of another index
pub set-other : (numbers : List ℕ) (i z n : ℕ) → nat_eq z i ≡ false → slice_index (slice_set numbers i n) z ≡ slice_index numbers z
set-other [] i z n apart = refl
set-other (m ∷ numbers) zero zero n apart = cc
set-other (m ∷ numbers) zero (suc z) n apart = refl
set-other (m ∷ numbers) (suc i) zero n apart = refl
set-other (m ∷ numbers) (suc i) (suc z) n apart = set-other numbers i z n (fewer z i apart)
  where
    fewer : (a b : ℕ) → nat_eq (suc a) (suc b) ≡ false → nat_eq a b ≡ false
    fewer a b h = grind (arith, nat_tests)

zero_kept : (o : Option ℕ) (numbers : List ℕ) (i n : ℕ) → option_map_or (λ (z : ℕ). nat_eq z i) o false ≡ false → option_map_or (λ (z : ℕ). nat_eq (slice_index numbers z) 0) o true ≡ true → option_map_or (λ (z : ℕ). nat_eq (slice_index (slice_set numbers i n) z) 0) o true ≡ true
zero_kept None numbers i n apart h = refl
zero_kept (Some z) numbers i n apart h = ap (λ (m : ℕ). nat_eq m 0) (set-other numbers i z n apart) ∙ h

-- numbers of a declaration, one of them changed that isn't the zero register's, fit it
pub set_fits : (decl : RegDecl) (numbers : List ℕ) (i n : ℕ) → IsTrue (is_file_of decl numbers) → option_map_or (λ (z : ℕ). nat_eq z i) decl.zero false ≡ false → n < 2 ^ decl.width → IsTrue (is_file_of decl (slice_set numbers i n))
set_fits decl numbers i n h apart below =
    conjunction _ _
    (conjunction _ _
    (nat_eq-true _ _ (length-set numbers i n ∙ length-file decl numbers h))
    (list_all-set (fits decl.width) numbers i n (both _ _ (both _ _ h).0).1 (nat_lt-true _ _ below)))
    (zero_kept decl.zero numbers i n apart (both _ _ h).1)

-- the numbers of one declaration may be replaced by ones that fit it
pub set_files : (regs : List RegDecl) (files : List (List ℕ)) (r : ℕ) (decl : RegDecl) (numbers : List ℕ) → IsTrue (are_files regs files) → slice_get regs r ≡ Some decl → IsTrue (is_file_of decl numbers) → IsTrue (are_files regs (slice_set files r numbers))
set_files [] files r decl numbers h at fits = cc
set_files (d ∷ regs) [] r decl numbers h at fits = h
set_files (d ∷ regs) (ns ∷ files) zero decl numbers h at fits =
    let same : decl ≡ d = cc in
    conjunction _ _ (subst (λ x. IsTrue (is_file_of x numbers)) same fits) (both _ _ h).1
set_files (d ∷ regs) (ns ∷ files) (suc r) decl numbers h at fits = conjunction _ _ (both _ _ h).0 (set_files regs files r decl numbers (both _ _ h).1 at fits)

two_positive : (w : ℕ) → 0 < 2 ^ w
two_positive zero = omega arith
two_positive (suc w) = omega (arith, two_positive w)

all_zero : (w n : ℕ) → list_all (fits w) (replicate n 0) ≡ true
all_zero w zero = refl
all_zero w (suc n) = conjunction _ _ (nat_lt-true _ _ (two_positive w)) (all_zero w n)

length-zeros : (n : ℕ) → length {A = ℕ} (replicate n 0) ≡ n
length-zeros zero = refl
length-zeros (suc n) = omega (arith, length-zeros n)

zeros-index : (n z : ℕ) → slice_index (replicate n 0) z ≡ 0
zeros-index zero z = refl
zeros-index (suc n) zero = refl
zeros-index (suc n) (suc z) = zeros-index n z

zero_among : (o : Option ℕ) (n : ℕ) → option_map_or (λ (z : ℕ). nat_eq (slice_index (replicate n 0) z) 0) o true ≡ true
zero_among None n = refl
zero_among (Some z) n = ap (λ (m : ℕ). nat_eq m 0) (zeros-index n z)

-- zeros fit each declaration
pub zeros_fit : (regs : List RegDecl) → IsTrue (are_files regs (map (λ (decl : RegDecl). replicate (register_count decl) 0) regs))
zeros_fit [] = refl
zeros_fit (decl ∷ regs) =
    let count : ℕ = register_count decl in
    conjunction _ _
    (conjunction _ _ (conjunction _ _ (nat_eq-true (length {A = ℕ} (replicate count 0)) count (length-zeros count)) (all_zero decl.width count)) (zero_among decl.zero count))
    (zeros_fit regs)

-- a declared register has numbers
pub files_within : (regs : List RegDecl) (files : List (List ℕ)) (r i : ℕ) → IsTrue (are_files regs files) → IsTrue (has_register regs r i) → r < length files
files_within regs files r i h has = subst (λ (n : ℕ). r < n) (sym (length-files regs files h)) (register_within regs r i has)

-- the numbers of a register's declaration
pub numbers_at : (regs : List RegDecl) (files : List (List ℕ)) (r i : ℕ) (numbers : List ℕ) → IsTrue (are_files regs files) → IsTrue (has_register regs r i) → numbers ≡ get_or files r numbers → slice_get files r ≡ Some numbers
numbers_at regs files r i numbers h has is = slice_get_read files (length files) r numbers refl (files_within regs files r i h has) is

-- what the numbers of a declaration keep
pub record KeepsFile (regs : List RegDecl) (files : List (List ℕ)) (r i : ℕ) (decl : RegDecl) (numbers : List ℕ) : Type 0 where
  pub declared : slice_get regs r ≡ Some decl
  pub here : slice_get files r ≡ Some numbers
  pub fits : IsTrue (is_file_of decl numbers)
  pub within : i < length numbers

pub kept_file : (regs : List RegDecl) (files : List (List ℕ)) (r i : ℕ) (decl : RegDecl) (numbers : List ℕ) → IsTrue (are_files regs files) → IsTrue (has_register regs r i) → decl ≡ get_or regs r decl → numbers ≡ get_or files r numbers → KeepsFile regs files r i decl numbers
kept_file regs files r i decl numbers h has is_decl is_numbers =
    let declared : slice_get regs r ≡ Some decl = declared_at regs r i decl has is_decl in
    let here : slice_get files r ≡ Some numbers = numbers_at regs files r i numbers h has is_numbers in
    let fits : IsTrue (is_file_of decl numbers) = file_fits regs files r decl numbers h declared here in
    record {
      declared = declared;
      here = here;
      fits = fits;
      within = subst (λ (n : ℕ). i < n) (sym (length-file decl numbers fits)) (register_below regs r i decl has declared);
    }

-- the number at an index
pub number_fits : (decl : RegDecl) (numbers : List ℕ) (i : ℕ) → IsTrue (is_file_of decl numbers) → i < length numbers → get_or numbers i 0 < 2 ^ decl.width
number_fits decl numbers i fits within = number_below decl numbers i (get_or numbers i 0) fits (slice_get-get_or numbers i 0 within)
