-- The table of the resources of a setting.
use Rattle.std.proofs.Common.{◌≡◌, ℕ, suc, zero, ◌+◌, ◌<◌, ◌≤◌, Bool, true, false, List, [], ◌∷◌, ◌++◌, length, map, Some, refl, sym, ap, ◌∙◌, arith, if◌then◌else◌}
use Rattle.std.specs.Prelude.{get_or, slice_get}
use Rattle.std.specs.Option.{option_map}
use Rattle.std.specs.List.{range_with_len}
use Rattle.std.proofs.lemmas.Option.{slice_get-map, slice_get_past}
use Rattle.std.proofs.lemmas.List.FromFn.{length-map-range_with_len, map-range_with_len_more}
use Rattle.vg_ast.specs.declared.item.Item.{Item}
use Rattle.vg_names.specs.Definition.{Text}
use Rattle.vg_type.specs.declared.sort.Sort.{Sort}
use Rattle.vg_type.specs.Item.{Setting}
use Rattle.vg_tree.specs.declared.resource.Resource.{Resource}
use Rattle.vg_tree.specs.Resource.{is_register, count_before, no_resource, resource_or, resource_of, resource_at, resources_of, with_register}

-- the k-th of n numbers from a on
pub number_at : (a n k : ℕ) → k < n → slice_get (range_with_len a n) k ≡ Some (a + k)
number_at a zero k h = absurd (omega (arith, h))
number_at a (suc n) zero h = ap Some (omega arith)
number_at a (suc n) (suc k) h = number_at (a + 1) n k (omega (arith, h)) ∙ ap Some (omega arith)

some_injective : {A : Type 0} (a b : A) → Some a ≡ Some b → a ≡ b
some_injective a b h = cc

from_none : (k : ℕ) → 0 + k ≡ k
from_none k = omega arith

one_on : (k : ℕ) → k + 1 ≡ suc k
one_on k = omega arith

-- an item within the table
pub resource_within : (setting : Setting) (k : ℕ) → k < length setting.all → slice_get (resources_of setting) k ≡ Some (resource_at setting k)
resource_within setting k h =
    slice_get-map (resource_at setting) (range_with_len 0 (length setting.all)) k ∙ ap (option_map (resource_at setting)) (number_at 0 (length setting.all) k h)
    ∙ ap (λ n. Some (resource_at setting n)) (from_none k)

length_of : (setting : Setting) → length (resources_of setting) ≡ length setting.all
length_of setting = length-map-range_with_len (resource_at setting) 0 (length setting.all)

-- an item beyond it
pub resource_beyond : (setting : Setting) (k : ℕ) → length setting.all ≤ k → no_resource ≡ resource_at setting k
resource_beyond setting k h = ap (resource_or setting (count_before is_register k setting.all)) (sym (slice_get_past setting.all k h))

within_list : {A : Type 0} (xs : List A) (k : ℕ) (x : A) → k < length xs → x ≡ get_or xs k x → slice_get xs k ≡ Some x
within_list [] k x h e = absurd (omega (arith, h))
within_list (y ∷ xs) zero x h e = ap Some (sym e)
within_list (y ∷ xs) (suc k) x h e = within_list xs k x (omega (arith, h)) e

-- the registers in front of the next item
pub count_more : (k : ℕ) (all : List Item) (item : Item) → slice_get all k ≡ Some item → count_before is_register (suc k) all ≡ with_register (count_before is_register k all) item
count_more k [] item h = absurd (cc)
count_more zero (first ∷ more) item h =
    let e : first ≡ item = some_injective first item h in
    rw (sym e) (by (is_register first))
  where
    by : (b : Bool) → (if b then 1 + 0 else 0) ≡ (if b then 0 + 1 else 0)
    by true = refl
    by false = refl
count_more (suc k) (first ∷ more) item h = by (is_register first) (is_register item) (count_more k more item h)
  where
    by : (b d : Bool) → count_before is_register (suc k) more ≡ (if d then count_before is_register k more + 1 else count_before is_register k more)
        → (if b then 1 + count_before is_register (suc k) more else count_before is_register (suc k) more)
        ≡ (if d then (if b then 1 + count_before is_register k more else count_before is_register k more) + 1 else (if b then 1 + count_before is_register k more else count_before is_register k more))
    by true true e = omega (arith, e)
    by true false e = omega (arith, e)
    by false true e = e
    by false false e = e

-- the first items have been entered
pub record Entered (setting : Setting) (k registers : ℕ) (table : List Resource) : Type 0 where
  pub counted : registers ≡ count_before is_register k setting.all
  pub entered : table ≡ map (resource_at setting) (range_with_len 0 k)

pub entered_none : (setting : Setting) → Entered setting 0 0 []
entered_none setting = record { counted = refl; entered = refl }

-- an item at its place
resource_there : (setting : Setting) (k registers : ℕ) (item : Item) → registers ≡ count_before is_register k setting.all → slice_get setting.all k ≡ Some item
    → resource_of setting registers item ≡ resource_at setting k
resource_there setting k registers item c h = ap (λ n. resource_of setting n item) c ∙ ap (resource_or setting (count_before is_register k setting.all)) (sym h)

pub one_more : (setting : Setting) (k registers next : ℕ) (table longer : List Resource) (item : Item) (r : Resource) → Entered setting k registers table → k < length setting.all → item ≡ get_or setting.all k item
    → r ≡ resource_of setting registers item → longer ≡ table ++ r ∷ [] → next ≡ with_register registers item → Entered setting (k + 1) next longer
one_more setting k registers next table longer item r e less at is l n = let h = within_list setting.all k item less at in record {
  counted = n ∙ ap (λ m. with_register m item) e.counted ∙ sym (count_more k setting.all item h) ∙ ap (λ m. count_before is_register m setting.all) (sym (one_on k));
  entered = l ∙ ap (λ t. t ++ r ∷ []) e.entered
      ∙ ap (λ x. map (resource_at setting) (range_with_len 0 k) ++ x ∷ []) (is ∙ resource_there setting k registers item e.counted h)
      ∙ sym (map-range_with_len_more (resource_at setting) 0 k k (from_none k));
}

pub entered_all : (setting : Setting) (k registers : ℕ) (table : List Resource) → Entered setting k registers table → k ≡ length setting.all → table ≡ resources_of setting
entered_all setting k registers table e h = e.entered ∙ ap (λ n. map (resource_at setting) (range_with_len 0 n)) h

-- what stands at a place of the table
pub found_resource : (setting : Setting) (k : ℕ) (table : List Resource) (r : Resource) → table ≡ resources_of setting → k < length table → r ≡ get_or table k r → r ≡ resource_at setting k
found_resource setting k table r t less e =
    some_injective r (resource_at setting k) (sym (ap (λ (xs : List Resource). slice_get xs k) (sym t) ∙ within_list table k r less e) ∙ resource_within setting k (rw (sym (length_of setting) ∙ sym (ap length t)) less))

pub missed_resource : (setting : Setting) (k : ℕ) (table : List Resource) → table ≡ resources_of setting → length table ≤ k → no_resource ≡ resource_at setting k
missed_resource setting k table t more = resource_beyond setting k (rw (sym (length_of setting) ∙ sym (ap length t)) more)

-- what a field is, by the list of what all are
pub found_sort : (fields : List (Text × Sort)) (k : ℕ) → slice_get (map (λ (field : Text × Sort). field.1) fields) k ≡ option_map (λ (field : Text × Sort). field.1) (slice_get fields k)
found_sort fields k = slice_get-map (λ (field : Text × Sort). field.1) fields k
